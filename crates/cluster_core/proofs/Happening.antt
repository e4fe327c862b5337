-- Acts: which attempt is done or fails, and what that makes of the machine.
use Rattle.std.proofs.Common.{◌≡◌, ◌<◌, ◌≤◌, ℕ, zero, suc, add-one, ◌+◌, ◌==◌, ◌||◌, ◌⊎◌, inl, inr, min, Bool, true, false, not, nat_lt, List, [], ◌∷◌, ◌++◌, Option, None, Some, MatchOption, Result, IfErr, OnOk, length, get_or, slice_get, drop, take, refl, sym, ap, ◌∙◌, subst, arith}
use Rattle.std.specs.List.{filter, list_any}
use Rattle.hal_outside.specs.DiskTold.{DiskTold}
use Rattle.schedule_text.specs.declared.schedule.Event.{Event}
use Rattle.schedule_text.specs.declared.schedule.Event.TheVariants as event
use Rattle.counter_report.specs.declared.journal.EventWord.TheVariants as word
use Rattle.counter_report.specs.declared.journal.Entry.TheVariants as line
use Rattle.run_laws.specs.States.{Once}
use Rattle.run_model.specs.Acts.{act, fail, finish, lowest_node, oldest, oldest_of, oldest_on, same_attempt}
use Rattle.run_model.specs.Plans.{gives}
use Rattle.run_model.specs.State.{PlainCluster, Setup, noted}
use Rattle.run_model.specs.declared.attempt.Attempt.{Attempt}
use Rattle.std.proofs.lemmas.Bool.Decides.{nat_tests}
use Rattle.std.proofs.lemmas.Result.{IfErr-weaker, on_ok_weaker}
use Rattle.std.proofs.lemmas.Bool.{le-ltb, lt-ltb, eq-eqb, false≢true}
use Rattle.run_laws.proofs.Members.{or_right}
use Rattle.run_laws.proofs.Reaching.{ended_is}
use Rattle.valid_copies.specs.Calls.{Follows}
use Rattle.valid_copies.specs.declared.fault.WorkFault.{WorkFault}
use Rattle.valid_copies.proofs.Following.{follows_none}
use Rattle.cluster_core.specs.Faults.{IsRefused, StoppedIn}
use Rattle.cluster_core.specs.Running.{IsFirst, IsOldest, lowest_of}
use Rattle.cluster_core.specs.Works.{CanWork}
use Rattle.cluster_core.specs.declared.fault.CoreFault.{CoreFault}
use Rattle.cluster_core.proofs.Places.{first_found, none_found}

-- ---- places

got_there : {A : Type 0} (before behind : List A) (x : A) → slice_get (before ++ x ∷ behind) (length before) ≡ Some x
got_there [] behind x = refl
got_there (y ∷ before) behind x = got_there before behind x

pub got_first : {A : Type 0} (test : A → Bool) (xs : List A) (at : ℕ) (it : IsFirst test xs at) → slice_get xs at ≡ Some it.item
got_first test xs at it = rw (it.split, it.place) (got_there it.before it.behind it.item)

long : {A : Type 0} (before behind : List A) (x : A) → length before < length (before ++ x ∷ behind)
long [] behind x = omega arith
long (y ∷ before) behind x = let l = long before behind x in omega (arith, l)

pub first_within : {A : Type 0} (test : A → Bool) (xs : List A) (at : ℕ) (it : IsFirst test xs at) → at < length xs
first_within test xs at it = rw (it.split, it.place) (long it.before it.behind it.item)

-- the lowest node runs an attempt
lowest_runs : (a : Attempt) (running : List Attempt) → list_any (λ (b : Attempt). lowest_node a running == b.node) (a ∷ running) ≡ true
lowest_runs a [] = ap (λ b. b || false) (eq-eqb a.node a.node refl)
lowest_runs a (b ∷ running) = elim (least a.node (lowest_node b running)) [
  | inl e ↦ ap (λ t. t || list_any (λ (x : Attempt). min a.node (lowest_node b running) == x.node) (b ∷ running)) (eq-eqb (min a.node (lowest_node b running)) a.node e)
  | inr e ↦ or_right (min a.node (lowest_node b running) == a.node) _ (ap (λ m. list_any (λ (x : Attempt). m == x.node) (b ∷ running)) e ∙ lowest_runs b running)
]
  where
    least : (x y : ℕ) → (min x y ≡ x) ⊎ (min x y ≡ y)
    least x y = elim (nat_lt x y) as (λ t. nat_lt x y ≡ t → (min x y ≡ x) ⊎ (min x y ≡ y)) [
      | true ↦ λ e. inl (grind (arith, nat_tests))
      | false ↦ λ e. inr (grind (arith, nat_tests))
    ] refl

pub oldest_is : (running : List Attempt) (n : ℕ) (o : Option ℕ) → lowest_of running ≡ Some n → MatchOption o (list_any (λ (a : Attempt). n == a.node) running ≡ false) (λ at. IsFirst (λ (a : Attempt). n == a.node) running at) → MatchOption o (running ≡ []) (λ at. IsOldest running at)
oldest_is [] n None l m = refl
oldest_is (a ∷ running) n None l m = absurd (false≢true (sym m ∙ ap (λ k. list_any (λ (b : Attempt). k == b.node) (a ∷ running)) (same n (lowest_node a running) l) ∙ lowest_runs a running))
  where
    same : (n k : ℕ) → Some k ≡ Some n → n ≡ k
    same n k e = cc
oldest_is running n (Some at) l m = record { node = n; lowest = l; first = m }

pub oldest_there : (c : PlainCluster) (at : ℕ) (it : IsOldest c.running at) → oldest c ≡ Some it.first.item
oldest_there c at it = of_lowest c.running it.node it.lowest ∙ first_found (λ (a : Attempt). it.node == a.node) c.running at it.first
  where
    of_lowest : (running : List Attempt) (n : ℕ) → lowest_of running ≡ Some n → oldest_of c running ≡ oldest_on c n
    of_lowest [] n e = cc
    of_lowest (a ∷ running) n e = ap (oldest_on c) (same n (lowest_node a running) e)
      where
        same : (n k : ℕ) → Some k ≡ Some n → k ≡ n
        same n k e = cc

-- ---- an attempt is taken out

split_at : (xs : List Attempt) (at : ℕ) (x : Attempt) → slice_get xs at ≡ Some x → xs ≡ take at xs ++ x ∷ drop (suc at) xs
split_at [] at x e = cc
split_at (y ∷ ys) zero x e = ap (λ z. z ∷ ys) (same y x e)
  where
    same : (y x : Attempt) → Some y ≡ Some x → y ≡ x
    same y x e = cc
split_at (y ∷ ys) (suc at) x e = ap (λ zs. y ∷ zs) (split_at ys at x e)

pub taken_out : (running : List Attempt) (at : ℕ) (a : Attempt) → slice_get running at ≡ Some a → Once running → take at running ++ drop (at + 1) running ≡ filter (λ b. not (same_attempt a b)) running
taken_out running at a e once =
    let split = split_at running at a e in
    ap (λ i. take at running ++ drop i running) (add-one at) ∙ sym (ended_is a (take at running) (drop (suc at) running) (subst Once split once)) ∙ ap (filter (λ b. not (same_attempt a b))) (sym split)

-- ---- what works on

-- the events do not matter
pub can_later : (setup : Setup) (c : PlainCluster) (rest : List Event) → CanWork setup c → CanWork setup (record c { events = rest })
can_later setup c rest w = record { caches = w.caches; once = w.once; tasks = w.tasks; nodes = w.nodes; rounds = w.rounds; now = w.now; failures = w.failures }

pub got_at : (xs : List Attempt) (at : ℕ) (x : Attempt) → at < length xs → x ≡ get_or xs at x → slice_get xs at ≡ Some x
got_at [] at x l e = absurd (omega arith)
got_at (y ∷ ys) zero x l e = ap (λ z. Some z) (sym e)
got_at (y ∷ ys) (suc at) x l e = got_at ys at x (omega arith) e

-- ---- events

next_at : (events : List Event) (n : ℕ) → MatchOption (slice_get events n) (drop n events ≡ []) (λ e. drop n events ≡ e ∷ drop (suc n) events)
next_at [] zero = refl
next_at [] (suc n) = refl
next_at (e ∷ events) zero = refl
next_at (e ∷ events) (suc n) = next_at events n

pub next_is : (events : List Event) (n : ℕ) (o : Option Event) → o ≡ slice_get events n → MatchOption o (drop n events ≡ []) (λ e. drop n events ≡ e ∷ drop (n + 1) events)
next_is events n o e = rw (e, add-one) (next_at events n)

module _ (setup : Setup) (c : PlainCluster) (n : ℕ) (rest : List Event) where
  done_acts : (a : Attempt) → c.events ≡ event.Done n ∷ rest → oldest_on c n ≡ Some a → act setup c ≡ finish setup a (record c { events = rest })
  done_acts a e o = rw (e, o) refl

  done_skips : c.events ≡ event.Done n ∷ rest → oldest_on c n ≡ None → act setup c ≡ gives (noted (line.Skip word.Done n ∷ []) (record c { events = rest }))
  done_skips e o = rw (e, o) refl

  fail_acts : (a : Attempt) → c.events ≡ event.Fail n ∷ rest → oldest_on c n ≡ Some a → act setup c ≡ fail setup a (record c { events = rest })
  fail_acts a e o = rw (e, o) refl

  fail_skips : c.events ≡ event.Fail n ∷ rest → oldest_on c n ≡ None → act setup c ≡ gives (noted (line.Skip word.Fail n ∷ []) (record c { events = rest }))
  fail_skips e o = rw (e, o) refl

  round_acts : (a : Attempt) → c.events ≡ event.Round n ∷ rest → oldest c ≡ Some a → c.round < n → act setup c ≡ finish setup a c
  round_acts a e o l = rw (e, o, lt-ltb c.round n l) refl

  round_late : (a : Attempt) → c.events ≡ event.Round n ∷ rest → oldest c ≡ Some a → n ≤ c.round → act setup c ≡ gives (noted (line.Skip word.Round n ∷ []) (record c { events = rest }))
  round_late a e o l = rw (e, o, le-ltb c.round n l) refl

  round_skips : c.events ≡ event.Round n ∷ rest → c.running ≡ [] → act setup c ≡ gives (noted (line.Skip word.Round n ∷ []) (record c { events = rest }))
  round_skips e o = rw (e, o) refl

pub last_acts : (setup : Setup) (c : PlainCluster) (a : Attempt) → c.events ≡ [] → oldest c ≡ Some a → act setup c ≡ finish setup a c
last_acts setup c a e o = rw (e, o) refl

-- ---- by what is found

-- an attempt on the node was done
pub done_first : (setup : Setup) (c new : PlainCluster) (n : ℕ) (rest : List Event) (at : ℕ) (result : Result (Unit {0}) WorkFault) (before after : Option DiskTold)
    → c.events ≡ event.Done n ∷ rest → IsFirst (λ (a : Attempt). n == a.node) c.running at
    → OnOk result ((a : Attempt) → slice_get c.running at ≡ Some a → Follows (finish setup a (record c { events = rest })) before after (gives new))
    → OnOk result (Follows (act setup c) before after (gives new))
done_first setup c new n rest at result before after e it o = on_ok_weaker result (λ f. subst (λ p. Follows p before after (gives new)) (sym (done_acts setup c n rest it.item e (first_found (λ (a : Attempt). n == a.node) c.running at it))) (f it.item (got_first (λ (a : Attempt). n == a.node) c.running at it))) o

pub done_stopped : (setup : Setup) (c : PlainCluster) (n : ℕ) (rest : List Event) (at : ℕ) (result : Result (Unit {0}) WorkFault) (before after : Option DiskTold)
    → c.events ≡ event.Done n ∷ rest → IsFirst (λ (a : Attempt). n == a.node) c.running at
    → IfErr result (λ fault. (a : Attempt) → slice_get c.running at ≡ Some a → StoppedIn (finish setup a (record c { events = rest })) before after fault)
    → IfErr result (StoppedIn (act setup c) before after)
done_stopped setup c n rest at result before after e it o = IfErr-weaker result _ (StoppedIn (act setup c) before after) (λ fault f. subst (λ p. StoppedIn p before after fault) (sym (done_acts setup c n rest it.item e (first_found (λ (a : Attempt). n == a.node) c.running at it))) (f it.item (got_first (λ (a : Attempt). n == a.node) c.running at it))) o

pub done_none : (setup : Setup) (c new : PlainCluster) (n : ℕ) (rest : List Event) (told : Option DiskTold)
    → c.events ≡ event.Done n ∷ rest → list_any (λ (a : Attempt). n == a.node) c.running ≡ false → new ≡ noted (line.Skip word.Done n ∷ []) (record c { events = rest })
    → Follows (act setup c) told told (gives new)
done_none setup c new n rest told e none is = subst (λ p. Follows p told told (gives new)) (ap gives is ∙ sym (done_skips setup c n rest e (none_found (λ (a : Attempt). n == a.node) c.running none))) (follows_none (gives new) told)

-- an attempt on the node failed
pub fail_first : (setup : Setup) (c new : PlainCluster) (n : ℕ) (rest : List Event) (at : ℕ) (result : Result (Unit {0}) CoreFault)
    → c.events ≡ event.Fail n ∷ rest → IsFirst (λ (a : Attempt). n == a.node) c.running at
    → OnOk result ((a : Attempt) → slice_get c.running at ≡ Some a → fail setup a (record c { events = rest }) ≡ gives new)
    → OnOk result (act setup c ≡ gives new)
fail_first setup c new n rest at result e it o = on_ok_weaker result (λ f. fail_acts setup c n rest it.item e (first_found (λ (a : Attempt). n == a.node) c.running at it) ∙ f it.item (got_first (λ (a : Attempt). n == a.node) c.running at it)) o

pub fail_refused : (setup : Setup) (c new : PlainCluster) (n : ℕ) (rest : List Event) (at : ℕ) (result : Result (Unit {0}) CoreFault)
    → c.events ≡ event.Fail n ∷ rest → IsFirst (λ (a : Attempt). n == a.node) c.running at
    → IfErr result (λ fault. (a : Attempt) → slice_get c.running at ≡ Some a → IsRefused (fail setup a (record c { events = rest })) new fault)
    → IfErr result (IsRefused (act setup c) new)
fail_refused setup c new n rest at result e it o = IfErr-weaker result _ (IsRefused (act setup c) new) (λ fault f. subst (λ p. IsRefused p new fault) (sym (fail_acts setup c n rest it.item e (first_found (λ (a : Attempt). n == a.node) c.running at it))) (f it.item (got_first (λ (a : Attempt). n == a.node) c.running at it))) o

pub fail_none : (setup : Setup) (c new : PlainCluster) (n : ℕ) (rest : List Event)
    → c.events ≡ event.Fail n ∷ rest → list_any (λ (a : Attempt). n == a.node) c.running ≡ false → new ≡ noted (line.Skip word.Fail n ∷ []) (record c { events = rest })
    → act setup c ≡ gives new
fail_none setup c new n rest e none is = fail_skips setup c n rest e (none_found (λ (a : Attempt). n == a.node) c.running none) ∙ ap gives (sym is)

-- the oldest attempt was done
module _ (setup : Setup) (c new : PlainCluster) (at : ℕ) (result : Result (Unit {0}) WorkFault) (before after : Option DiskTold) (it : IsOldest c.running at) where
  pub oldest_done : act setup c ≡ finish setup it.first.item c
      → OnOk result ((a : Attempt) → slice_get c.running at ≡ Some a → Follows (finish setup a c) before after (gives new))
      → OnOk result (Follows (act setup c) before after (gives new))
  oldest_done e o = on_ok_weaker result (λ f. subst (λ p. Follows p before after (gives new)) (sym e) (f it.first.item (got_first (λ (a : Attempt). it.node == a.node) c.running at it.first))) o

  pub oldest_stopped : act setup c ≡ finish setup it.first.item c
      → IfErr result (λ fault. (a : Attempt) → slice_get c.running at ≡ Some a → StoppedIn (finish setup a c) before after fault)
      → IfErr result (StoppedIn (act setup c) before after)
  oldest_stopped e o = IfErr-weaker result _ (StoppedIn (act setup c) before after) (λ fault f. subst (λ p. StoppedIn p before after fault) (sym e) (f it.first.item (got_first (λ (a : Attempt). it.node == a.node) c.running at it.first))) o

pub oldest_waits : (setup : Setup) (c : PlainCluster) (n : ℕ) (rest : List Event) (at : ℕ) (it : IsOldest c.running at) → c.events ≡ event.Round n ∷ rest → c.round < n → act setup c ≡ finish setup it.first.item c
oldest_waits setup c n rest at it e l = round_acts setup c n rest it.first.item e (oldest_there c at it) l

pub oldest_last : (setup : Setup) (c : PlainCluster) (at : ℕ) (it : IsOldest c.running at) → c.events ≡ [] → act setup c ≡ finish setup it.first.item c
oldest_last setup c at it e = last_acts setup c it.first.item e (oldest_there c at it)

pub late_skips : (setup : Setup) (c new : PlainCluster) (n : ℕ) (rest : List Event) (at : ℕ) (told : Option DiskTold) (it : IsOldest c.running at) → c.events ≡ event.Round n ∷ rest → n ≤ c.round
    → new ≡ noted (line.Skip word.Round n ∷ []) (record c { events = rest }) → Follows (act setup c) told told (gives new)
late_skips setup c new n rest at told it e l is = subst (λ p. Follows p told told (gives new)) (ap gives is ∙ sym (round_late setup c n rest it.first.item e (oldest_there c at it) l)) (follows_none (gives new) told)

pub none_skips : (setup : Setup) (c new : PlainCluster) (n : ℕ) (rest : List Event) (told : Option DiskTold) → c.events ≡ event.Round n ∷ rest → c.running ≡ []
    → new ≡ noted (line.Skip word.Round n ∷ []) (record c { events = rest }) → Follows (act setup c) told told (gives new)
none_skips setup c new n rest told e none is = subst (λ p. Follows p told told (gives new)) (ap gives is ∙ sym (round_skips setup c n rest e none)) (follows_none (gives new) told)

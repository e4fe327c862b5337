-- What each step of a turn keeps, a turn keeps, however it goes.
use Rattle.std.proofs.Common.{◌≡◌, inl, inr, ℕ, zero, suc, ◌*◌, Bool, true, false, List, [], ◌∷◌, Option, None, Some, refl, sym, subst, ◌==◌, nat_lt, nat_le}
use Rattle.std.specs.Prelude.{if◌then◌else◌}
use Rattle.std.specs.Ordering.{nat_cmp}
use Rattle.hal_base.specs.Sorted.{joined}
use Rattle.node_names.specs.declared.name.Name.{Name}
use Rattle.replica_table.specs.Copies.{but_node}
use Rattle.replica_table.specs.Sets.{among, but_one}
use Rattle.schedule_text.specs.declared.schedule.Event.{Event}
use Rattle.schedule_text.specs.declared.schedule.Event.TheVariants as event
use Rattle.schedule_text.specs.declared.schedule.Event.TheVariants.{Back, Busy, Done, Fail, Idle, Lose, Round}
use Rattle.counter_report.specs.declared.journal.EndWord.{EndWord}
use Rattle.counter_report.specs.declared.journal.Entry.{Entry}
use Rattle.counter_report.specs.declared.journal.Entry.TheVariants as line
use Rattle.counter_report.specs.declared.journal.EventWord.{EventWord}
use Rattle.counter_report.specs.declared.journal.EventWord.TheVariants as word
use Rattle.run_model.specs.Acts.{act, act_on, done_by, fail, failed, failed_by, failures_of, finish, happens, last_act, lost, lowest_node, oldest, oldest_of, oldest_on, returned, round_act, skipped, spend, stuck, wiped}
use Rattle.run_model.specs.Advance.{Advanced, advance, advance_if, after_part, decide, finished, goes_on, is_decided, next_round, part_tries, pass, passed, read_parts}
use Rattle.run_model.specs.Lists.{IsIn}
use Rattle.run_model.specs.Needs.{Input, view_of}
use Rattle.run_model.specs.PlanLaws.{Always}
use Rattle.run_model.specs.Plans.{Plan, TaskFailed, gives, refuses}
use Rattle.run_model.specs.Reading.{ReadSoFar, Reading, Tried, Try, after_cache, after_read, after_tries, misses, own_try, read_files, read_first, read_input, read_inputs, read_need, reading, starved, strike, tries_for, unless_last, with_unread}
use Rattle.run_model.specs.Runs.{state_of}
use Rattle.run_model.specs.Start.{goal_of, start, start_one, start_some}
use Rattle.run_model.specs.declared.attempt.Attempt.{Attempt}
use Rattle.run_model.specs.State.{PlainCluster, Setup, noted, with_copies}
use Rattle.run_model.specs.Tasks.{last_outs}
use Rattle.run_model.specs.Turns.{acted, go_on, turn}
use Rattle.run_model.specs.Wanted.{first_missing_block}
use Rattle.run_laws.proofs.Members.{find_is, in_either}
use Rattle.run_laws.proofs.Plans.{always_then}

-- ---- reads

-- the cache of an input is one of these
abbrev pub CacheFits : (Name → Type 0) → Option Name → Type 0
CacheFits C None = Unit {0}
CacheFits C (Some cache) = C cache

abbrev pub CachesFit : (Name → Type 0) → List Input → Type 0
CachesFit C [] = Unit {0}
CachesFit C (it ∷ its) = CacheFits C it.cache × CachesFit C its

-- any name
abbrev pub AnyName : Name → Type 0
AnyName name = Unit {0}

pub any_caches : (its : List Input) → CachesFit AnyName its
any_caches [] = tt
any_caches (it ∷ its) = (any_cache it.cache, any_caches its)
  where
    any_cache : (cache : Option Name) → CacheFits AnyName cache
    any_cache None = tt
    any_cache (Some name) = tt

-- K holds of what goes on, and Q of what is refused
module _ (K Q : PlainCluster → Type 0) (C : Name → Type 0) (missed_last : (it : Try) (c : PlainCluster) → K c → Q (strike it c)) (strikes : (it : Try) (c : PlainCluster) → K c → nat_le 1000 (misses (strike it c)) ≡ false → K (strike it c)) where
  abbrev pub KTried : Tried → Type 0
  KTried tried = K tried.cluster

  last_walks : (more : PlainCluster → Plan Tried) (it : Try) (c : PlainCluster) → K c → ((d : PlainCluster) → K d → Always KTried Q (more d)) → (v : Bool) → nat_le 1000 (misses (strike it c)) ≡ v → Always KTried Q (unless_last more (strike it c) v)
  last_walks more it c k m true e = missed_last it c k
  last_walks more it c k m false e = m (strike it c) (strikes it c k e)

  after_walks : (more : PlainCluster → Plan Tried) (it : Try) (c : PlainCluster) → K c → ((d : PlainCluster) → K d → Always KTried Q (more d)) → (missed : Bool) → Always KTried Q (after_read more it c missed)
  after_walks more it c k m true = last_walks more it c k m (nat_le 1000 (misses (strike it c))) refl
  after_walks more it c k m false = k

  pub read_walks : (tries : List Try) (c : PlainCluster) → K c → Always KTried Q (read_first tries c)
  read_walks [] c k = k
  read_walks (it ∷ tries) c k = after_walks (read_first tries) it c k (read_walks tries)

  -- a reading that holds it, with unread caches that fit
  pub record KReading (r : Reading) : Type 0 where
    pub cluster : K r.cluster
    pub unread : (name : Name) → IsIn name r.unread → C name

  abbrev pub KRead : ReadSoFar → Type 0
  KRead (reading r) = KReading r
  KRead (starved c) = K c

  pub tried_walks : (own : ℕ) (r : Reading) (c : PlainCluster) (answered : Option Try) → KReading r → K c → KRead (after_tries own r c answered)
  tried_walks own r c None h k = k
  tried_walks own r c (Some it) h k = record { cluster = k; unread = h.unread }

  need_walks : (own : ℕ) (name : Name) (r : Reading) → KReading r → Always KRead Q (read_need own name r)
  need_walks own name r h = always_then Q KTried KRead (read_first (tries_for r.cluster own name) r.cluster) (λ tried. gives (after_tries own r tried.cluster tried.answered)) (read_walks (tries_for r.cluster own name) r.cluster h.cluster) (λ tried. tried_walks own r tried.cluster tried.answered h)

  pub files_walk : (own : ℕ) (names : List Name) (so_far : ReadSoFar) → KRead so_far → Always KRead Q (read_files own names so_far)
  files_walk own [] so_far k = k
  files_walk own (name ∷ names) (starved c) k = k
  files_walk own (name ∷ names) (reading r) k = always_then Q KRead KRead (read_need own name r) (read_files own names) (need_walks own name r k) (files_walk own names)

  pub with_unread_fits : (cache : Name) (c : PlainCluster) (r : Reading) → C cache → KReading r → K c → KReading (with_unread cache c r)
  with_unread_fits cache c r f h k = record {
    cluster = k;
    unread = λ name i. elim (in_either name r.unread (cache ∷ []) i) [ inl a ↦ h.unread name a | inr b ↦ alone name b ];
  }
    where
      alone : (name : Name) → IsIn name (cache ∷ []) → C name
      alone name (inl e) = subst C (sym e) f
      alone name (inr x) = elim x [ ]

  cache_walks : (own : ℕ) (cache : Name) (files : List Name) (r : Reading) (c : PlainCluster) (answered : Option Try) → C cache → KReading r → K c → Always KRead Q (after_cache own cache files r c answered)
  cache_walks own cache files r c None f h k = files_walk own files (reading (with_unread cache c r)) (with_unread_fits cache c r f h k)
  cache_walks own cache files r c (Some it) f h k = record { cluster = k; unread = h.unread }

  pub input_walks : (own : ℕ) (cache : Option Name) (files : List Name) (r : Reading) → CacheFits C cache → KReading r → Always KRead Q (read_input own cache files r)
  input_walks own None files r f h = files_walk own files (reading r) h
  input_walks own (Some cache) files r f h = always_then Q KTried KRead (read_first (own_try r.cluster.copies own cache) r.cluster) (λ tried. after_cache own cache files r tried.cluster tried.answered) (read_walks (own_try r.cluster.copies own cache) r.cluster h.cluster) (λ tried. cache_walks own cache files r tried.cluster tried.answered f h)

  pub inputs_walk : (own : ℕ) (its : List Input) (so_far : ReadSoFar) → CachesFit C its → KRead so_far → Always KRead Q (read_inputs own its so_far)
  inputs_walk own [] so_far f k = k
  inputs_walk own (it ∷ its) (starved c) f k = k
  inputs_walk own (it ∷ its) (reading r) f k = always_then Q KRead KRead (read_input own it.cache it.files r) (read_inputs own its) (input_walks own it.cache it.files r f.0 k) (λ s. inputs_walk own its s f.1)

-- ---- the attempt that is chosen runs

pub oldest_runs : (c : PlainCluster) (a : Attempt) → oldest c ≡ Some a → IsIn a c.running
oldest_runs c a e = go c.running e
  where
    go : (running : List Attempt) → oldest_of c running ≡ Some a → IsIn a c.running
    go [] e = absurd (unlike e)
      where
        unlike : None ≡ Some a → ⊥
        unlike h = cc
    go (b ∷ running) e = (find_is (λ (x : Attempt). lowest_node b running == x.node) c.running a e).0

-- ---- turns

-- a line that tells what was done, and nothing else
abbrev pub is_remark : Entry → Bool
is_remark (line.End end round) = true
is_remark (line.Skip word number) = true
is_remark (line.Busy node) = true
is_remark (line.Idle node) = true
is_remark _ = false

-- what each step keeps in which no event happens
pub record QuietSteps (setup : Setup) (InTime K Q : PlainCluster → Type 0) : Type 0 where
  pub refused : (c : PlainCluster) → K c → Q c
  pub missed_last : (it : Try) (c : PlainCluster) → K c → Q (strike it c)
  pub strikes : (it : Try) (c : PlainCluster) → K c → nat_le 1000 (misses (strike it c)) ≡ false → K (strike it c)
  pub remarks : (it : Entry) (c : PlainCluster) → is_remark it ≡ true → K c → K (noted (it ∷ []) c)
  pub passes : (c : PlainCluster) → K c → K (record c { events = passed c.round c.events })
  pub begins : (c : PlainCluster) → InTime c → K c → Always K Q (next_round setup c)
  pub starts : (c : PlainCluster) → K c → K (start_one setup c)
  pub finishes : (a : Attempt) (c : PlainCluster) → IsIn a c.running → K c → Always K Q (finish setup a c)

-- what each step keeps
pub record Steps (setup : Setup) (Fit : ℕ → Type 0) (InTime K Q : PlainCluster → Type 0) : Type 0 where
  pub quiet : QuietSteps setup InTime K Q
  pub spends : (e : Event) (events : List Event) (c : PlainCluster) → c.events ≡ e ∷ events → K c → K (record c { events = events })
  pub fails : (a : Attempt) (c : PlainCluster) → IsIn a c.running → K c → Always K Q (fail setup a c)
  pub loses : (n : ℕ) (c : PlainCluster) → K c → K (lost n c)
  pub returns : (n : ℕ) (c : PlainCluster) → Fit n → K c → Always K Q (returned setup n c)
  pub wipes : (n : ℕ) (c : PlainCluster) → K c → K (noted (line.Wipe n ∷ []) (with_copies (but_node n c.copies) c))
  pub marks : (n : ℕ) (c : PlainCluster) → Fit n → K c → K (record c { marked = joined nat_cmp n c.marked })
  pub unmarks : (n : ℕ) (c : PlainCluster) → K c → K (record c { marked = but_one n c.marked })

-- a failure, where the same is kept of what is refused
pub fails_always : (setup : Setup) (K : PlainCluster → Type 0) (a : Attempt) (c : PlainCluster) → K (failed a c) → Always K K (fail setup a c)
fails_always setup K a c h = elim (failures_of a.task (failed a c).failures == setup.schedule.attempts) as (λ v. Always K K (if v then refuses (failed a c) (TaskFailed a.task) else gives (failed a c))) [ true ↦ h | false ↦ h ]

-- the node of the next event is there
abbrev pub NextFits : (ℕ → Type 0) → List Event → Type 0
NextFits Fit [] = Unit {0}
NextFits Fit (Done n ∷ events) = Unit {0}
NextFits Fit (Fail n ∷ events) = Unit {0}
NextFits Fit (Lose n ∷ events) = Unit {0}
NextFits Fit (Back n ∷ events) = Fit n
NextFits Fit (event.Wipe n ∷ events) = Unit {0}
NextFits Fit (Busy n ∷ events) = Fit n
NextFits Fit (Idle n ∷ events) = Unit {0}
NextFits Fit (Round n ∷ events) = Unit {0}

pub any_next : (events : List Event) → NextFits (λ n. Unit {0}) events
any_next [] = tt
any_next (Done n ∷ events) = tt
any_next (Fail n ∷ events) = tt
any_next (Lose n ∷ events) = tt
any_next (Back n ∷ events) = tt
any_next (event.Wipe n ∷ events) = tt
any_next (Busy n ∷ events) = tt
any_next (Idle n ∷ events) = tt
any_next (Round n ∷ events) = tt

module _ (setup : Setup) (InTime K Q : PlainCluster → Type 0) (s : QuietSteps setup InTime K Q) where
  -- ---- advance

  abbrev pub KAdvanced : Advanced → Type 0
  KAdvanced (goes_on c) = K c
  KAdvanced (finished c end) = K c

  part_walks : (more : PlainCluster → Plan Advanced) (c : PlainCluster) (answered : Option Try) → K c → ((d : PlainCluster) → K d → Always KAdvanced Q (more d)) → Always KAdvanced Q (after_part more c answered)
  part_walks more c None k m = k
  part_walks more c (Some it) k m = m c k

  pub parts_walk : (end : EndWord) (names : List Name) (c : PlainCluster) → K c → Always KAdvanced Q (read_parts end names c)
  parts_walk end [] c k = s.remarks (line.End end c.round) c refl k
  parts_walk end (name ∷ names) c k = always_then Q (λ (t : Tried). K t.cluster) KAdvanced (read_first (part_tries c name) c) (λ tried. after_part (read_parts end names) tried.cluster tried.answered) (read_walks K Q (λ name. Unit {0}) s.missed_last s.strikes (part_tries c name) c k) (λ tried h. part_walks (read_parts end names) tried.cluster tried.answered h (parts_walk end names))

  decide_walks : (decision : Option EndWord) (c : PlainCluster) → (decision ≡ None → InTime c) → K c → Always KAdvanced Q (decide setup decision c)
  decide_walks None c t k = always_then Q K KAdvanced (next_round setup c) (λ next. gives (goes_on next)) (s.begins c (t refl) k) (λ next h. h)
  decide_walks (Some end) c t k = parts_walk end (last_outs setup.shape c.round) c k

  if_walks : (decision : Option EndWord) (c : PlainCluster) (v : Bool) → (decision ≡ None → InTime c) → K c → Always KAdvanced Q (advance_if setup decision c v)
  if_walks decision c true t k = decide_walks decision c t k
  if_walks decision c false t k = k

  pass_walks : (advanced : Advanced) → KAdvanced advanced → KAdvanced (pass advanced)
  pass_walks (goes_on c) k = s.passes c k
  pass_walks (finished c end) k = k

  pub advance_walks : (decision : Option EndWord) (c : PlainCluster) → (decision ≡ None → InTime c) → K c → Always KAdvanced Q (advance setup decision c)
  advance_walks decision c t k = always_then Q KAdvanced KAdvanced (advance_if setup decision c (is_decided setup c)) (λ advanced. gives (pass advanced)) (if_walks decision c (is_decided setup c) t k) pass_walks

  -- ---- start

  pub start_walks : (m : ℕ) (c : PlainCluster) → K c → K (start_some setup m c)
  start_walks zero c k = k
  start_walks (suc m) c k = start_walks m (start_one setup c) (s.starts c k)

module _ (setup : Setup) (Fit : ℕ → Type 0) (InTime K Q : PlainCluster → Type 0) (s : Steps setup Fit InTime K Q) (next_fits : (c : PlainCluster) → K c → NextFits Fit c.events) where
  -- ---- act

  fails_walk : (a : Attempt) (c : PlainCluster) → IsIn a c.running → K c → Always K Q (fail setup a c)
  fails_walk a c i k = s.fails a c i k

  skips : (word : EventWord) (m : ℕ) (c : PlainCluster) → K c → Always K Q (skipped word m c)
  skips word m c k = s.quiet.remarks (line.Skip word m) c refl k

  done_by_walks : (m : ℕ) (c : PlainCluster) (a : Option Attempt) → oldest_on c m ≡ a → K c → Always K Q (done_by setup m c a)
  done_by_walks m c None e k = skips word.Done m c k
  done_by_walks m c (Some a) e k = s.quiet.finishes a c (find_is (λ (x : Attempt). m == x.node) c.running a e).0 k

  failed_by_walks : (m : ℕ) (c : PlainCluster) (a : Option Attempt) → oldest_on c m ≡ a → K c → Always K Q (failed_by setup m c a)
  failed_by_walks m c None e k = skips word.Fail m c k
  failed_by_walks m c (Some a) e k = fails_walk a c (find_is (λ (x : Attempt). m == x.node) c.running a e).0 k

  choose : (v : Bool) (x y : Plan PlainCluster) → Always K Q x → Always K Q y → Always K Q (if v then x else y)
  choose true x y h k = h
  choose false x y h k = k

  pub happens_walks : (e : Event) (events : List Event) (c : PlainCluster) → NextFits Fit (e ∷ events) → K c → Always K Q (happens setup e c)
  happens_walks (Done m) events c f k = done_by_walks m c (oldest_on c m) refl k
  happens_walks (Fail m) events c f k = failed_by_walks m c (oldest_on c m) refl k
  happens_walks (Lose m) events c f k = choose (among m c.up) (gives (lost m c)) (skipped word.Lose m c) (s.loses m c k) (skips word.Lose m c k)
  happens_walks (Back m) events c f k = choose (among m c.up) (skipped word.Back m c) (returned setup m c) (skips word.Back m c k) (s.returns m c f k)
  happens_walks (event.Wipe m) events c f k = choose (among m c.up) (skipped word.Wipe m c) (wiped m c) (skips word.Wipe m c k) (s.wipes m c k)
  happens_walks (Busy m) events c f k = choose (among m c.marked) (skipped word.Busy m c) (gives (noted (line.Busy m ∷ []) (record c { marked = joined nat_cmp m c.marked }))) (skips word.Busy m c k) (s.quiet.remarks (line.Busy m) (record c { marked = joined nat_cmp m c.marked }) refl (s.marks m c f k))
  happens_walks (Idle m) events c f k = choose (among m c.marked) (gives (noted (line.Idle m ∷ []) (record c { marked = but_one m c.marked }))) (skipped word.Idle m c) (s.quiet.remarks (line.Idle m) (record c { marked = but_one m c.marked }) refl (s.unmarks m c k)) (skips word.Idle m c k)
  happens_walks (Round m) events c f k = skips word.Round m c k

  stuck_walks : (c : PlainCluster) (up : List ℕ) (block : Option Name) → K c → Always K Q (stuck c up block)
  stuck_walks c [] block k = s.quiet.refused c k
  stuck_walks c (m ∷ up) None k = k
  stuck_walks c (m ∷ up) (Some block) k = s.quiet.refused c k

  last_act_walks : (c : PlainCluster) (a : Option Attempt) → oldest c ≡ a → K c → Always K Q (last_act setup c a)
  last_act_walks c None e k = stuck_walks c c.up (first_missing_block (view_of setup c) (goal_of c)) k
  last_act_walks c (Some a) e k = s.quiet.finishes a c (oldest_runs c a e) k

  spend_walks : (e : Event) (events : List Event) (c : PlainCluster) → c.events ≡ e ∷ events → K c → Always K Q (spend setup e events c)
  spend_walks e events c h k = happens_walks e events (record c { events = events }) (subst (NextFits Fit) h (next_fits c k)) (s.spends e events c h k)

  round_act_walks : (m : ℕ) (events : List Event) (c : PlainCluster) (a : Option Attempt) → c.events ≡ Round m ∷ events → oldest c ≡ a → K c → Always K Q (round_act setup m events c a)
  round_act_walks m events c None h e k = spend_walks (Round m) events c h k
  round_act_walks m events c (Some a) h e k = choose (nat_lt c.round m) (finish setup a c) (spend setup (Round m) events c) (s.quiet.finishes a c (oldest_runs c a e) k) (spend_walks (Round m) events c h k)

  pub act_walks : (events : List Event) (c : PlainCluster) → c.events ≡ events → K c → Always K Q (act_on setup events c)
  act_walks [] c h k = last_act_walks c (oldest c) refl k
  act_walks (Round m ∷ events) c h k = round_act_walks m events c (oldest c) h refl k
  act_walks (Done m ∷ events) c h k = spend_walks (Done m) events c h k
  act_walks (Fail m ∷ events) c h k = spend_walks (Fail m) events c h k
  act_walks (Lose m ∷ events) c h k = spend_walks (Lose m) events c h k
  act_walks (Back m ∷ events) c h k = spend_walks (Back m) events c h k
  act_walks (event.Wipe m ∷ events) c h k = spend_walks (event.Wipe m) events c h k
  act_walks (Busy m ∷ events) c h k = spend_walks (Busy m) events c h k
  act_walks (Idle m ∷ events) c h k = spend_walks (Idle m) events c h k

  -- ---- turns

  pub go_on_walks : (advanced : Advanced) → (KAdvanced setup InTime K Q s.quiet) advanced → Always (λ turned. K (state_of turned)) Q (go_on setup advanced)
  go_on_walks (finished c end) k = k
  go_on_walks (goes_on c) k = always_then Q K (λ turned. K (state_of turned)) (act setup (start setup c)) (λ next. gives (acted next)) (act_walks (start setup c).events (start setup c) refl (start_walks setup InTime K Q s.quiet (setup.schedule.nodes * setup.schedule.slots) c k)) (λ next h. h)

  pub turn_walks : (decision : Option EndWord) (c : PlainCluster) → (decision ≡ None → InTime c) → K c → Always (λ turned. K (state_of turned)) Q (turn setup decision c)
  turn_walks decision c t k = always_then Q (KAdvanced setup InTime K Q s.quiet) (λ turned. K (state_of turned)) (advance setup decision c) (go_on setup) (advance_walks setup InTime K Q s.quiet decision c t k) go_on_walks

-- Each turn of a reached state that acts lets the measure fall.
use Rattle.std.proofs.Common.{◌≡◌, ◌⊎◌, inl, inr, ℕ, suc, ◌+◌, ◌*◌, ◌≤◌, ◌<◌, Bool, true, false, List, [], ◌∷◌, Option, None, Some, refl, sym, ap, subst, ◌∙◌, arith, length, ◌==◌, nat_lt, nat_le}
use Rattle.std.specs.Prelude.{min, if◌then◌else◌}
use Rattle.std.specs.List.{list_all}
use Rattle.std.proofs.Math.Nat.{min-eq_left, min-eq_right, mul-le-mul_right}
use Rattle.std.proofs.lemmas.Bool.{eq-eqb, false≢true, leb-false, leb-true}
use Rattle.node_names.specs.declared.name.Name.{Name}
use Rattle.schedule_text.specs.declared.schedule.Event.{Event}
use Rattle.schedule_text.specs.declared.schedule.Event.TheVariants as event
use Rattle.schedule_text.specs.declared.schedule.Event.TheVariants.{Back, Busy, Done, Fail, Idle, Lose, Round}
use Rattle.counter_report.specs.declared.journal.EndWord.{EndWord}
use Rattle.run_model.specs.Acts.{act, act_on, finish, happens, last_act, lowest_node, oldest, oldest_of, round_act, spend}
use Rattle.run_model.specs.Advance.{Advanced, advance, advance_if, decide, finished, goes_on, is_decided, next_round, pass, passed}
use Rattle.run_model.specs.Lists.{IsIn}
use Rattle.run_model.specs.Needs.{is_up}
use Rattle.run_model.specs.PlanLaws.{Always}
use Rattle.run_model.specs.Plans.{BlockLost, NoNode, gives, refuses, ◌>>=◌}
use Rattle.run_model.specs.Runs.{state_of}
use Rattle.run_model.specs.Start.{start}
use Rattle.run_model.specs.declared.attempt.Attempt.{Attempt}
use Rattle.run_model.specs.State.{PlainCluster, Setup}
use Rattle.run_model.specs.Tasks.{last_outs}
use Rattle.run_model.specs.Turns.{Turned, acted, ends, go_on, turn}
use Rattle.run_laws.specs.Ending.{Any, MeasureFalls, OnActed}
use Rattle.run_laws.specs.Measures.{all_tasks, is_blocked, left, measure, most_work, places, work}
use Rattle.run_laws.specs.States.{EndsInTime, Fits, Reached, is_open}
use Rattle.run_laws.proofs.Counting.{number_bound}
use Rattle.run_laws.proofs.Finishing.{Falls, finish_falls}
use Rattle.run_laws.proofs.Leaving.{Within, left_of, passed_shorter, round_within, within_steps}
use Rattle.run_laws.proofs.Members.{and_true, find_none}
use Rattle.run_laws.proofs.Plans.{always_map, always_then}
use Rattle.run_laws.proofs.Quiet.{QAdvanced, parts_quiet}
use Rattle.run_laws.proofs.Reaching.{passed_reached, reached_steps}
use Rattle.run_laws.proofs.Standstill.{act_refuses}
use Rattle.run_laws.proofs.Starting.{NoMore, start_less}
use Rattle.run_laws.proofs.Turning.{any_next, go_on_walks, happens_walks, oldest_runs, start_walks}

-- ---- act

lowest_is : (a : Attempt) (running : List Attempt) → (b : Attempt) × IsIn b (a ∷ running) × (b.node ≡ lowest_node a running)
lowest_is a [] = (a, inl refl, refl)
lowest_is a (b ∷ running) =
    let m = lowest_is b running in
    elim (nat_le a.node (lowest_node b running)) as (λ v. nat_le a.node (lowest_node b running) ≡ v → (d : Attempt) × IsIn d (a ∷ b ∷ running) × (d.node ≡ min a.node (lowest_node b running))) [
      | true ↦ λ e. (a, inl refl, sym (min-eq_left (leb-true a.node (lowest_node b running) e)))
      | false ↦ λ e. let l = leb-false a.node (lowest_node b running) e in let k : lowest_node b running ≤ a.node = omega arith in (m.0, inr m.1, m.2 ∙ sym (min-eq_right k))
    ] refl

pub none_run : (c : PlainCluster) → oldest c ≡ None → c.running ≡ []
none_run c e = go c.running refl e
  where
    go : (running : List Attempt) → c.running ≡ running → oldest_of c running ≡ None → c.running ≡ []
    go [] s e = s
    go (a ∷ running) s e = let m = lowest_is a running in absurd (false≢true (sym (find_none (λ (b : Attempt). lowest_node a running == b.node) c.running e m.0 (subst (IsIn m.0) (sym s) m.1)) ∙ eq-eqb (lowest_node a running) m.0.node (sym m.2)))

module _ (setup : Setup) (c : PlainCluster) (h : Reached setup c) (stands : c.events ≡ [] → c.running ≡ [] → Always (Falls setup c) Any (act setup c)) where
  last_falls : (o : Option Attempt) → oldest c ≡ o → c.events ≡ [] → Always (Falls setup c) Any (last_act setup c o)
  last_falls None x e = subst (λ o. Always (Falls setup c) Any (last_act setup c o)) x (subst (λ es. Always (Falls setup c) Any (act_on setup es c)) e (stands e (none_run c x)))
  last_falls (Some a) x e = finish_falls setup c h a (oldest_runs c a x)

  spend_falls : (e : Event) (events : List Event) → c.events ≡ e ∷ events → Always (Falls setup c) Any (spend setup e events c)
  spend_falls e events x =
      let d : PlainCluster = record c { events = events } in
      let k = left setup d in
      let l : length c.events ≡ suc (length events) = ap length x in
      always_map (Within setup k) (Falls setup c) (Within setup k) Any (happens setup e d) (λ y w. inl (below y w l)) (λ y w. tt)
      (happens_walks setup (λ n. Unit {0}) (λ c. c.round < setup.shape.rounds) (Within setup k) (Within setup k) (within_steps setup k) (λ y w. any_next y.events) e events d (any_next (e ∷ events)) (omega arith))
    where
      below : (y : PlainCluster) → left setup y ≤ left setup (record c { events = events }) → length c.events ≡ suc (length events) → left setup y < left setup c
      below y w l = omega arith

  round_falls : (m : ℕ) (events : List Event) (o : Option Attempt) → c.events ≡ Round m ∷ events → oldest c ≡ o → Always (Falls setup c) Any (round_act setup m events c o)
  round_falls m events None e x = spend_falls (Round m) events e
  round_falls m events (Some a) e x = elim (nat_lt c.round m) as (λ v. Always (Falls setup c) Any (if v then finish setup a c else spend setup (Round m) events c)) [
    | true ↦ finish_falls setup c h a (oldest_runs c a x)
    | false ↦ spend_falls (Round m) events e
  ]

  act_on_falls : (events : List Event) → c.events ≡ events → Always (Falls setup c) Any (act_on setup events c)
  act_on_falls [] e = last_falls (oldest c) refl e
  act_on_falls (Round m ∷ events) e = round_falls m events (oldest c) e refl
  act_on_falls (Done m ∷ events) e = spend_falls (Done m) events e
  act_on_falls (Fail m ∷ events) e = spend_falls (Fail m) events e
  act_on_falls (Lose m ∷ events) e = spend_falls (Lose m) events e
  act_on_falls (Back m ∷ events) e = spend_falls (Back m) events e
  act_on_falls (event.Wipe m ∷ events) e = spend_falls (event.Wipe m) events e
  act_on_falls (Busy m ∷ events) e = spend_falls (Busy m) events e
  act_on_falls (Idle m ∷ events) e = spend_falls (Idle m) events e

  pub act_falls : Always (Falls setup c) Any (act setup c)
  act_falls = act_on_falls c.events refl

-- ---- a turn

module _ (setup : Setup) (fits : Fits setup) (c : PlainCluster) (h : Reached setup c) where
  -- the cluster as it was, but for the events that are passed
  abbrev passing : PlainCluster
  passing = record c { events = passed c.round c.events }

  abbrev QTurn : Advanced → Type 0
  QTurn (goes_on d) = (left setup d < left setup c) ⊎ ((d ≡ passing) × (is_decided setup c ≡ false))
  QTurn (finished d end) = Unit {0}

  pass_fell : (advanced : Advanced) → QAdvanced setup c advanced → QTurn (pass advanced)
  pass_fell (finished d end) q = tt
  pass_fell (goes_on d) q = inl (let m = passed_shorter d.round d.events in omega arith)

  decide_fell : (decision : Option EndWord) → EndsInTime setup c decision → is_decided setup c ≡ true → Always (QAdvanced setup c) Any (decide setup decision c)
  decide_fell None t u =
      let l = t refl in
      let k = left_of setup (c.round + 1) c.events c.journal in
      always_then Any (λ d. left setup d < left setup c) (QAdvanced setup c) (next_round setup c) (λ next. gives (goes_on next))
      (always_map (Within setup k) (λ d. left setup d < left setup c) (Within setup k) Any (next_round setup c) (λ y w. below y w l) (λ y w. tt) (round_within setup k c (omega arith)))
      (λ d f. f)
    where
      below : (y : PlainCluster) → left setup y ≤ left_of setup (c.round + 1) c.events c.journal → c.round < setup.shape.rounds → left setup y < left setup c
      below y w l = omega arith
  decide_fell (Some end) t u = parts_quiet setup c end (last_outs setup.shape c.round) (and_true (list_all (is_up c.copies c.up) (last_outs setup.shape c.round)) _ u).0

  if_fell : (decision : Option EndWord) (v : Bool) → is_decided setup c ≡ v → EndsInTime setup c decision → Always QTurn Any (advance_if setup decision c v >>= (λ advanced. gives (pass advanced)))
  if_fell decision true u t = always_then Any (QAdvanced setup c) QTurn (decide setup decision c) (λ advanced. gives (pass advanced)) (decide_fell decision t u) pass_fell
  if_fell decision false u t = inr (refl, u)

  -- nothing is decided: start, and act
  quiet_turn : is_decided setup c ≡ false → Always (OnActed (Falls setup c)) Any (go_on setup (goes_on passing))
  quiet_turn u =
      let d = passing in
      let m = setup.schedule.nodes * setup.schedule.slots in
      let l = start_less setup m d in
      let p = passed_shorter c.round c.events in
      let r = start_walks setup (λ c. c.round < setup.shape.rounds) (Reached setup) (Reached setup) (reached_steps setup fits).quiet m d (passed_reached setup fits c h) in
      always_then Any (Falls setup (start setup d)) (OnActed (Falls setup c)) (act setup (start setup d)) (λ next. gives (acted next))
      (act_falls setup (start setup d) r (λ e n. refused (act_refuses setup d fits.shape fits.slots fits.nodes h.time.begun (sym l.events ∙ e) u n)))
      (λ next f. after next f l p)
    where
      refused : (act setup (start setup passing) ≡ refuses (start setup passing) NoNode) ⊎ ((block : Name) × (act setup (start setup passing) ≡ refuses (start setup passing) (BlockLost block))) → Always (Falls setup (start setup passing)) Any (act setup (start setup passing))
      refused (inl e) = subst (λ p. Always (Falls setup (start setup passing)) Any p) (sym e) tt
      refused (inr e) = subst (λ p. Always (Falls setup (start setup passing)) Any p) (sym e.1) tt

      sums : (a b r e e' m w w' w'' : ℕ) → (a < b) ⊎ ((a ≤ b) × (w < w')) → b ≤ r + e' + m → e' ≤ e → w' ≤ w'' → (a < r + e + m) ⊎ ((a ≤ r + e + m) × (w < w''))
      sums a b r e e' m w w' w'' (inl x) l p k = inl (omega arith)
      sums a b r e e' m w w' w'' (inr x) l p k = let y = x.0 in let z = x.1 in inr (omega arith, omega arith)

      after : (next : PlainCluster) → Falls setup (start setup passing) next → NoMore setup (start setup passing) passing → length (passed c.round c.events) ≤ length c.events → Falls setup c next
      after next f l p = sums (left setup next) (left setup (start setup passing)) _ _ _ _ (work setup next) (work setup (start setup passing)) (work setup c) f l.no_more_left p l.no_more_work

  go_on_fell : (advanced : Advanced) → QTurn advanced → Always (OnActed (Falls setup c)) Any (go_on setup advanced)
  go_on_fell (finished d end) q = tt
  go_on_fell (goes_on d) (inl f) =
      always_map (λ turned. Within setup (left setup d) (state_of turned)) (OnActed (Falls setup c)) (Within setup (left setup d)) Any (go_on setup (goes_on d)) on (λ y w. tt)
      (go_on_walks setup (λ n. Unit {0}) (λ c. c.round < setup.shape.rounds) (Within setup (left setup d)) (Within setup (left setup d)) (within_steps setup (left setup d)) (λ y w. any_next y.events) (goes_on d) (omega arith))
    where
      on : (turned : Turned) → left setup (state_of turned) ≤ left setup d → OnActed (Falls setup c) turned
      on (acted x) w = inl (omega arith)
      on (ends x end) w = tt
  go_on_fell (goes_on d) (inr q) = subst (λ x. Always (OnActed (Falls setup c)) Any (go_on setup (goes_on x))) (sym q.0) (quiet_turn q.1)

  pub turn_falls : (decision : Option EndWord) → EndsInTime setup c decision → Always (OnActed (Falls setup c)) Any (turn setup decision c)
  turn_falls decision t = always_then Any QTurn (OnActed (Falls setup c)) (advance setup decision c) (go_on setup) (if_fell decision (is_decided setup c) refl t) go_on_fell

-- ---- one number

work_bound : (setup : Setup) (c : PlainCluster) → work setup c < most_work setup
work_bound setup c =
    let a = number_bound (λ (a : Attempt). is_open c.copies c.known a.task a.node) (places setup) in
    let b = number_bound (is_blocked setup.shape c.copies c.up c.running) (all_tasks setup) in
    sums _ _ _ _ a b
  where
    sums : (x y p q : ℕ) → x ≤ p → y ≤ q → x + y < suc (p + q)
    sums x y p q l m = omega arith

number_falls_by : (l l' w w' b : ℕ) → w < b → (l < l') ⊎ ((l ≤ l') × (w < w')) → l * b + w < l' * b + w'
number_falls_by l l' w w' b u (inl f) = let m : (l + 1) * b ≤ l' * b = mul-le-mul_right b (omega arith) in more (l * b) (l' * b) (arith_step l b m)
  where
    arith_step : (l b : ℕ) → (l + 1) * b ≤ l' * b → l * b + b ≤ l' * b
    arith_step l b m = grind (arith)

    more : (x y : ℕ) → x + b ≤ y → x + w < y + w'
    more x y m = omega arith
number_falls_by l l' w w' b u (inr q) = let m : l * b ≤ l' * b = mul-le-mul_right b q.0 in more (l * b) (l' * b) m q.1
  where
    more : (x y : ℕ) → x ≤ y → w < w' → x + w < y + w'
    more x y m k = omega arith

pub falls_measure : (setup : Setup) (c d : PlainCluster) → Falls setup c d → measure setup d < measure setup c
falls_measure setup c d f = number_falls_by (left setup d) (left setup c) (work setup d) (work setup c) (most_work setup) (work_bound setup d) f

pub measure_falls : MeasureFalls
measure_falls setup decision c fits t h = always_map (OnActed (Falls setup c)) (OnActed (λ d. measure setup d < measure setup c)) Any Any (turn setup decision c) on (λ d x. tt) (turn_falls setup fits c h decision t)
  where
    on : (turned : Turned) → OnActed (Falls setup c) turned → OnActed (λ d. measure setup d < measure setup c) turned
    on (acted d) f = falls_measure setup c d f
    on (ends d end) f = tt

-- The next task to start is the first ready one.
use Rattle.std.proofs.Common.{◌≡◌, ◌<◌, ◌≤◌, ℕ, ◌==◌, ◌&&◌, ◌⊎◌, inl, inr, Bool, true, false, not, cond, nat_lt, List, [], ◌∷◌, None, Some, refl, sym, ap, ◌∙◌, subst, arith}
use Rattle.std.specs.List.{AllByRecursion, filter, find, flat_map, list_all, range_with_len}
use Rattle.node_names.specs.declared.task.Task.{Task}
use Rattle.node_names.specs.declared.task.Task.TheVariants.{Map, Reduce, Test}
use Rattle.hal_base.specs.declared.shape.Shape.{Shape}
use Rattle.schedule_text.specs.declared.schedule.Event.{Event}
use Rattle.schedule_text.specs.declared.schedule.Event.TheVariants as event
use Rattle.schedule_text.specs.Schedules.{IsWithin, KeepsLimits}
use Rattle.schedule_text.specs.declared.schedule.Schedule.{Schedule}
use Rattle.replica_table.specs.Sets.{among, members}
use Rattle.loop_scheduler.specs.Reads.{can_read}
use Rattle.loop_scheduler.specs.Views.{IsCounted, view_over}
use Rattle.loop_scheduler.proofs.OfClusters.{clusters_view}
use Rattle.run_laws.specs.States.{Fits, node_in}
use Rattle.run_laws.specs.WithoutLoss.{CanRead, Orderly, is_made}
use Rattle.run_laws.proofs.Listing.{tasks_are}
use Rattle.run_laws.proofs.LosslessReady.{ready_without_loss}
use Rattle.run_laws.proofs.Members.{find_is, from_flat, in_flat, in_range}
use Rattle.run_laws.proofs.RoundWanted.{wanted_without_loss}
use Rattle.run_laws.proofs.Standstill.{none_ready_idle, site_is_there}
use Rattle.run_model.specs.Lists.{IsIn, number_of}
use Rattle.run_model.specs.Needs.{Input, View, busy_nodes, idle_nodes, inputs, is_up, view_of}
use Rattle.run_model.specs.Sites.{site}
use Rattle.run_model.specs.Start.{first_ready, is_running, start_first, start_one, started}
use Rattle.run_model.specs.State.{Setup}
use Rattle.run_model.specs.Tasks.{IsTask, tasks_of_round}
use Rattle.run_model.specs.Wanted.{ready}
use Rattle.run_model.specs.declared.attempt.Attempt.{Attempt}
use Rattle.cluster_core.specs.Starting.{can_start, made_at}
use Rattle.cluster_core.specs.States.{Kept, plain_of}
use Rattle.cluster_core.proofs.Known.{known_is}

-- ---- lists

find_filter : {A : Type 0} (p q : A → Bool) (xs : List A) → find p (filter q xs) ≡ find (λ x. q x && p x) xs
find_filter p q [] = refl
find_filter p q (x ∷ xs) = elim (q x) as (λ b. find p (cond b (x ∷ filter q xs) (filter q xs)) ≡ cond (b && p x) (Some x) (find (λ y. q y && p y) xs)) [
  | true ↦ ap (λ o. cond (p x) (Some x) o) (find_filter p q xs)
  | false ↦ find_filter p q xs
]

find_same : {A : Type 0} (f g : A → Bool) (xs : List A) → ((x : A) → IsIn x xs → f x ≡ g x) → find f xs ≡ find g xs
find_same f g [] e = refl
find_same f g (x ∷ xs) e = ap (λ b. cond b (Some x) (find f xs)) (e x (inl refl)) ∙ ap (λ o. cond (g x) (Some x) o) (find_same f g xs (λ y i. e y (inr i)))

both_ways : (a b : Bool) → (a ≡ true → b ≡ true) → (b ≡ true → a ≡ true) → a ≡ b
both_ways true b f g = sym (f refl)
both_ways false true f g = g refl
both_ways false false f g = refl

each_of : {A : Type 0} (test : A → Bool) (x : A) (xs : List A) → list_all test xs ≡ true → IsIn x xs → test x ≡ true
each_of test x [] all i = absurd i
each_of test x (y ∷ ys) all i = elim (test y) as (λ b. test y ≡ b → (b && list_all test ys) ≡ true → test x ≡ true) [
  | true ↦ λ e all. elim i [ inl same ↦ ap test same ∙ e | inr later ↦ each_of test x ys all later ]
  | false ↦ λ e all. cc
] refl all

all_of : {A : Type 0} (test : A → Bool) (xs : List A) → ((x : A) → IsIn x xs → test x ≡ true) → list_all test xs ≡ true
all_of test [] each = refl
all_of test (y ∷ ys) each = ap (λ b. b && list_all test ys) (each y (inl refl)) ∙ all_of test ys (λ x i. each x (inr i))

-- ---- what a run is given

each_within : (nodes : ℕ) (events : List Event) (e : Event) → 1 ≤ nodes → AllByRecursion (IsWithin nodes) events → IsIn e events → node_in e < nodes
each_within nodes [] e some all i = absurd i
each_within nodes (f ∷ events) e some all i = elim i [ inl same ↦ ap_lt same (within f all.0) | inr later ↦ each_within nodes events e some all.1 later ]
  where
    within : (f : Event) → IsWithin nodes f → node_in f < nodes
    within (event.Done n) w = w
    within (event.Fail n) w = w
    within (event.Lose n) w = w
    within (event.Back n) w = w
    within (event.Wipe n) w = w
    within (event.Busy n) w = w
    within (event.Idle n) w = w
    within (event.Round n) w = omega (arith, some)

    ap_lt : e ≡ f → node_in f < nodes → node_in e < nodes
    ap_lt same l = subst (λ g. node_in g < nodes) (sym same) l

pub fits_of : (shape : Shape) (schedule : Schedule) → IsCounted shape → KeepsLimits schedule → Fits (record { shape = shape; schedule = schedule })
fits_of shape schedule counted limits = record {
  shape = counted.well_formed;
  events = λ e i. each_within schedule.nodes schedule.events e limits.nodes.0 limits.events i;
  slots = limits.slots.0;
  nodes = limits.nodes.0;
}

-- ---- the first ready task

module _ (setup : Setup) (kept : Kept) where
  unmarked : (events : List Event) → busy_nodes events [] ≡ []
  unmarked [] = refl
  unmarked (e ∷ events) = refl

  pub idle_is : filter (λ n. nat_lt (number_of (λ (a : Attempt). n == a.node) kept.running) setup.schedule.slots) kept.table.up ≡ idle_nodes setup (plain_of setup.schedule kept)
  idle_is = ap (λ busy. filter (λ n. not (among n busy) && nat_lt (number_of (λ (a : Attempt). n == a.node) kept.running) setup.schedule.slots) kept.table.up) (sym (unmarked (plain_of setup.schedule kept).events))

  made_is : (task : Task) → made_at kept.table kept.values task ≡ is_made (plain_of setup.schedule kept) task
  made_is (Map i j s q) = refl
  made_is (Reduce i j p) = refl
  made_is (Test i p) = sym (known_is kept.values p)

  can_is : (view : View) (task : Task) → view ≡ view_of setup (plain_of setup.schedule kept) → can_read view task ≡ true → CanRead setup (plain_of setup.schedule kept) task
  can_is view task e t it name i j =
      let all : can_read (view_of setup (plain_of setup.schedule kept)) task ≡ true = subst (λ v. can_read v task ≡ true) e t in
      each_of (is_up (plain_of setup.schedule kept).copies kept.table.up) name (flat_map (λ (x : Input). x.files) (inputs setup.shape task)) all (in_flat (λ (x : Input). x.files) it name (inputs setup.shape task) i j)

  is_can : (view : View) (task : Task) → view ≡ view_of setup (plain_of setup.schedule kept) → CanRead setup (plain_of setup.schedule kept) task → can_read view task ≡ true
  is_can view task e can =
      subst (λ v. can_read v task ≡ true) (sym e)
      (all_of (is_up (plain_of setup.schedule kept).copies kept.table.up) (flat_map (λ (x : Input). x.files) (inputs setup.shape task))
      (λ name i. let from = from_flat (λ (x : Input). x.files) name (inputs setup.shape task) i in can from.0 name from.1 from.2))

  in_round : (task : Task) → IsIn task (tasks_of_round setup.shape kept.round) → 1 ≤ kept.round → IsTask setup.shape task
  in_round task i some = ((tasks_are setup.shape kept.round task).0 (in_flat (tasks_of_round setup.shape) kept.round task (range_with_len 1 kept.round) (in_range 1 kept.round kept.round some (omega arith)) i)).0

  -- what the code looks for is what the machine looks for
  same_test : (view : View) → Fits setup → Orderly setup (plain_of setup.schedule kept) → view ≡ view_of setup (plain_of setup.schedule kept) → (idle_nodes setup (plain_of setup.schedule kept) ≡ [] → ⊥)
      → (task : Task) → IsIn task (tasks_of_round setup.shape kept.round)
      → (not (is_made (plain_of setup.schedule kept) task) && (not (is_running (plain_of setup.schedule kept) task) && ready (view_of setup (plain_of setup.schedule kept)) task)) ≡ can_start view kept.table kept.values kept.running task
  same_test view fits orderly e some task i =
      let law = ready_without_loss setup (plain_of setup.schedule kept) task fits orderly some (in_round task i orderly.reached.time.begun) in
      let same : ready (view_of setup (plain_of setup.schedule kept)) task ≡ can_read view task = both_ways (ready (view_of setup (plain_of setup.schedule kept)) task) (can_read view task) (λ r. is_can view task e (law.0 r)) (λ r. law.1 (can_is view task e r)) in
      ap (λ m. not m && (not (is_running (plain_of setup.schedule kept) task) && ready (view_of setup (plain_of setup.schedule kept)) task)) (sym (made_is task))
      ∙ ap (λ r. not (made_at kept.table kept.values task) && (not (is_running (plain_of setup.schedule kept) task) && r)) same

  first_is : (view : View) → Fits setup → Orderly setup (plain_of setup.schedule kept) → view ≡ view_of setup (plain_of setup.schedule kept) → (idle_nodes setup (plain_of setup.schedule kept) ≡ [] → ⊥)
      → first_ready setup (plain_of setup.schedule kept) ≡ find (can_start view kept.table kept.values kept.running) (tasks_of_round setup.shape kept.round)
  first_is view fits orderly e some =
      ap (find (λ task. not (is_running (plain_of setup.schedule kept) task) && ready (view_of setup (plain_of setup.schedule kept)) task)) (wanted_without_loss setup (plain_of setup.schedule kept) fits orderly some)
      ∙ find_filter (λ task. not (is_running (plain_of setup.schedule kept) task) && ready (view_of setup (plain_of setup.schedule kept)) task) (λ task. not (is_made (plain_of setup.schedule kept) task)) (tasks_of_round setup.shape kept.round)
      ∙ find_same (λ task. not (is_made (plain_of setup.schedule kept) task) && (not (is_running (plain_of setup.schedule kept) task) && ready (view_of setup (plain_of setup.schedule kept)) task)) (can_start view kept.table kept.values kept.running) (tasks_of_round setup.shape kept.round) (same_test view fits orderly e some)

  none_idle : idle_nodes setup (plain_of setup.schedule kept) ≡ [] → start_one setup (plain_of setup.schedule kept) ≡ plain_of setup.schedule kept
  none_idle e = ap (start_first setup (plain_of setup.schedule kept)) (none_ready_idle setup (plain_of setup.schedule kept) e)

  some_or_none : (ns : List ℕ) → (ns ≡ []) ⊎ (ns ≡ [] → ⊥)
  some_or_none [] = inl refl
  some_or_none (n ∷ ns) = inr (λ e. unlike e)
    where
      unlike : n ∷ ns ≡ [] → ⊥
      unlike e = cc

  -- none is found, and none starts
  pub none_starts : (view : View) → Fits setup → Orderly setup (plain_of setup.schedule kept) → view ≡ view_of setup (plain_of setup.schedule kept)
      → find (can_start view kept.table kept.values kept.running) (tasks_of_round setup.shape kept.round) ≡ None → start_one setup (plain_of setup.schedule kept) ≡ plain_of setup.schedule kept
  none_starts view fits orderly e none = elim (some_or_none (idle_nodes setup (plain_of setup.schedule kept))) [
    | inl empty ↦ none_idle empty
    | inr some ↦ ap (start_first setup (plain_of setup.schedule kept)) (first_is view fits orderly e some ∙ none)
  ]

  -- the one that is found starts at its site
  pub one_starts : (view : View) (task : Task) (node : ℕ) → Fits setup → Orderly setup (plain_of setup.schedule kept) → view ≡ view_of setup (plain_of setup.schedule kept)
      → find (can_start view kept.table kept.values kept.running) (tasks_of_round setup.shape kept.round) ≡ Some task → site view task ≡ Some node
      → start_one setup (plain_of setup.schedule kept) ≡ started task (Some node) (plain_of setup.schedule kept)
  one_starts view task node fits orderly e found there =
      let at : site (view_of setup (plain_of setup.schedule kept)) task ≡ Some node = subst (λ v. site v task ≡ Some node) e there in
      let some : idle_nodes setup (plain_of setup.schedule kept) ≡ [] → ⊥ = λ empty. unlike (sym ((site_is_there (view_of setup (plain_of setup.schedule kept)) task).1 empty) ∙ at) in
      ap (start_first setup (plain_of setup.schedule kept)) (first_is view fits orderly e some ∙ found) ∙ ap (λ o. started task o (plain_of setup.schedule kept)) at
    where
      unlike : None ≡ Some node → ⊥
      unlike e = cc

  -- without a site none starts
  pub nowhere_starts : (view : View) → view ≡ view_of setup (plain_of setup.schedule kept) → view.idle ≡ [] → start_one setup (plain_of setup.schedule kept) ≡ plain_of setup.schedule kept
  nowhere_starts view e empty = none_idle (subst (λ (v : View). v.idle ≡ []) e empty)

  -- the view over the table is that of the machine
  pub view_is : (idle : ℕ) → members idle ≡ filter (λ n. nat_lt (number_of (λ (a : Attempt). n == a.node) kept.running) setup.schedule.slots) kept.table.up
      → view_over setup.shape kept.table (members idle) ≡ view_of setup (plain_of setup.schedule kept)
  view_is idle m = ap (view_over setup.shape kept.table) (m ∙ idle_is) ∙ clusters_view setup (plain_of setup.schedule kept) kept.table refl refl

  pub task_found : (view : View) (task : Task) → 1 ≤ kept.round → find (can_start view kept.table kept.values kept.running) (tasks_of_round setup.shape kept.round) ≡ Some task → IsTask setup.shape task
  task_found view task some found = in_round task (find_is (can_start view kept.table kept.values kept.running) (tasks_of_round setup.shape kept.round) task found).0 some

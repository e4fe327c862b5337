-- An attempt that is done lets less be left, or closes some work.
use Rattle.std.proofs.Common.{◌≡◌, ◌⊎◌, inl, inr, ℕ, ◌+◌, ◌≤◌, ◌<◌, true, false, ◌&&◌, not, List, [], ◌∷◌, ◌++◌, refl, sym, ap, subst, map, arith}
use Rattle.std.proofs.lemmas.Bool.{false_from_ne_true}
use Rattle.node_names.specs.declared.name.Name.TheVariants.{Out, Spill}
use Rattle.node_names.specs.declared.task.Task.{Task}
use Rattle.node_names.specs.declared.task.Task.TheVariants.{Map, Reduce, Test}
use Rattle.replica_table.specs.Copies.{with_copy}
use Rattle.counter_report.specs.declared.journal.Entry.{Entry}
use Rattle.counter_report.specs.declared.journal.Entry.TheVariants as line
use Rattle.run_model.specs.Acts.{ended, finish, same_attempt}
use Rattle.run_model.specs.Attempts.{block_kept, commit, commit_line, committed, further_calls, output_kept, own_writes, rebuilt, with_known, writes, written}
use Rattle.run_model.specs.Lists.{IsIn, below}
use Rattle.run_model.specs.Needs.{inputs, is_there, needs}
use Rattle.run_model.specs.PlanLaws.{Always}
use Rattle.run_model.specs.Plans.{Call, Write, gives}
use Rattle.run_model.specs.Reading.{ReadSoFar, Reading, nothing_read, read_inputs, reading, starved}
use Rattle.run_model.specs.declared.attempt.Attempt.{Attempt}
use Rattle.run_model.specs.State.{Copy, PlainCluster, Setup, copy}
use Rattle.run_model.specs.Tasks.{is_task}
use Rattle.run_laws.specs.Ending.{Any}
use Rattle.run_laws.specs.Measures.{all_tasks, blocked_tasks, is_blocked, left, open_copies, places, readable, work}
use Rattle.run_laws.specs.States.{Reached, Runs, is_open}
use Rattle.run_laws.proofs.Copies.{holds_new}
use Rattle.run_laws.proofs.Counting.{number_falls, number_mono}
use Rattle.run_laws.proofs.Growing.{Grow, none_fails, open_grows, readable_grows}
use Rattle.run_laws.proofs.Leaving.{fewer_left, left_of}
use Rattle.run_laws.proofs.Listing.{tasks_more}
use Rattle.run_laws.proofs.Members.{and_mono, and_true, any_is, from_filter, in_flat, in_map, in_range, is_any, not_mono, same_task, task_itself}
use Rattle.run_laws.proofs.Numbers.{ascend_under, in_among, with_there}
use Rattle.run_laws.proofs.Plans.{always_do, always_then}
use Rattle.run_laws.proofs.Quiet.{QRead, inputs_quiet}
use Rattle.run_laws.proofs.Reaching.{ended_alone}
use Rattle.run_laws.proofs.Writes.{written_holds}

-- less is left; or no more is left, and less work is open
abbrev pub Falls : Setup → PlainCluster → PlainCluster → Type 0
Falls setup c d = (left setup d < left setup c) ⊎ ((left setup d ≤ left setup c) × (work setup d < work setup c))

-- ---- an attempt that commits makes what was open

closes : (setup : Setup) (r : Reading) (t : Task) (node : ℕ) (more : List Call) (copies : List Copy) (known : List ℕ) → is_open (written (map (Write node) (own_writes setup t r) ++ more) copies) (with_known t known) t node ≡ false
closes setup r (Map i j s q) node more copies known = ap not (written_holds (map (Write node) (rebuilt (Map i j s q) r.unread ++ block_kept setup.shape (Map i j s q) r.remote ++ output_kept setup.shape r.cluster.round (Map i j s q)) ++ more) (with_copy (copy (Spill i j s q) node) copies) node (Spill i j s q) (holds_new (copy (Spill i j s q) node) copies))
closes setup r (Reduce i j p) node more copies known = ap not (written_holds (map (Write node) (rebuilt (Reduce i j p) r.unread ++ block_kept setup.shape (Reduce i j p) r.remote ++ output_kept setup.shape r.cluster.round (Reduce i j p)) ++ more) (with_copy (copy (Out i j p) node) copies) node (Out i j p) (holds_new (copy (Out i j p) node) copies))
closes setup r (Test i p) node more copies known = ap not (with_there p known)

module _ (setup : Setup) (c : PlainCluster) (h : Reached setup c) (a : Attempt) (i : IsIn a c.running) where
  a_runs : Runs setup c.round c.up c.copies c.known a
  a_runs = h.running.each a i

  a_listed : IsIn a.task (all_tasks setup)
  a_listed = tasks_more setup.shape c.round setup.shape.rounds a.task h.time.in_time a_runs.listed

  a_placed : IsIn a (places setup)
  a_placed = in_flat (λ task. map (λ node. record { task = task; node = node }) (below setup.schedule.nodes)) a.task a (all_tasks setup) a_listed (in_map (λ node. record { task = a.task; node = node }) a.node (below setup.schedule.nodes) (in_range 0 setup.schedule.nodes a.node (omega arith) (let l = ascend_under 0 setup.schedule.nodes a.node c.up h.up (in_among a.node c.up a_runs.on_up) in omega arith)))

  -- fewer run, with more copies: no more are blocked
  blocked_less : (copies : List Copy) (t : Task) → Grow c.copies copies → is_blocked setup.shape copies c.up (ended a c).running t ≡ true → is_blocked setup.shape c.copies c.up c.running t ≡ true
  blocked_less copies t g e =
      let s = any_is (λ (b : Attempt). is_task t b.task && not (readable setup.shape copies c.up b)) (ended a c).running e in
      let m = from_filter (λ b. not (same_attempt a b)) s.0 c.running s.1 in
      is_any (λ (b : Attempt). is_task t b.task && not (readable setup.shape c.copies c.up b)) s.0 c.running m.0 (and_mono (is_task t s.0.task) (not (readable setup.shape copies c.up s.0)) (not (readable setup.shape c.copies c.up s.0)) (λ k. not_mono (readable setup.shape c.copies c.up s.0) (readable setup.shape copies c.up s.0) (readable_grows setup.shape c.copies copies c.up s.0 g) k) s.2)

  commit_work : (calls : List Call) → is_open (written calls c.copies) (with_known a.task c.known) a.task a.node ≡ false → open_copies setup (written calls c.copies) (with_known a.task c.known) + blocked_tasks setup (written calls c.copies) c.up (ended a c).running < work setup c
  commit_work calls e =
      let g : Grow c.copies (written calls c.copies) = λ n name. written_holds calls c.copies n name in
      let x = number_falls (λ (b : Attempt). is_open (written calls c.copies) (with_known a.task c.known) b.task b.node) (λ (b : Attempt). is_open c.copies c.known b.task b.node) a (places setup) (λ b k. open_grows c.copies (written calls c.copies) c.known a.task b.task b.node g k) a_placed e a_runs.opens in
      let y = number_mono (is_blocked setup.shape (written calls c.copies) c.up (ended a c).running) (is_blocked setup.shape c.copies c.up c.running) (all_tasks setup) (λ t k. blocked_less (written calls c.copies) t g k) in
      sums _ _ _ _ x y
    where
      sums : (x y z w : ℕ) → x < z → y ≤ w → x + y < z + w
      sums x y z w l m = omega arith

  starve_work : (readable setup.shape c.copies c.up a ≡ true → ⊥) → open_copies setup c.copies c.known + blocked_tasks setup c.copies c.up (ended a c).running < work setup c
  starve_work n =
      let x = number_falls (is_blocked setup.shape c.copies c.up (ended a c).running) (is_blocked setup.shape c.copies c.up c.running) a.task (all_tasks setup) (λ t k. blocked_less c.copies t (λ m name u. u) k) a_listed
      (false_from_ne_true (is_blocked setup.shape c.copies c.up (ended a c).running a.task) (λ k. let s = any_is (λ (b : Attempt). is_task a.task b.task && not (readable setup.shape c.copies c.up b)) (ended a c).running k in ended_alone a s.0 c h.running.once i s.1 (same_task a.task s.0.task (and_true (is_task a.task s.0.task) _ s.2).0)))
      (is_any (λ (b : Attempt). is_task a.task b.task && not (readable setup.shape c.copies c.up b)) a c.running i (rw (task_itself a.task, false_from_ne_true (readable setup.shape c.copies c.up a) n) refl)) in
      sums _ _ _ x
    where
      sums : (x y z : ℕ) → y < z → x + y < x + z
      sums x y z l = omega arith

  abbrev Same : PlainCluster → Type 0
  Same x = x ≡ ended a c

  left_same : (x : PlainCluster) → Same x → left setup x ≡ left setup c
  left_same x e = ap (left setup) e

  lined_left : (x : PlainCluster) (lines : List Entry) → Same x → left_of setup x.round x.events (x.journal ++ lines) ≤ left setup c
  lined_left x lines e = let m = fewer_left setup x.round x.events x.journal lines in let s = left_same x e in omega arith

  lined_fell : (x : PlainCluster) (lines : List Entry) → left setup x < left setup c → left_of setup x.round x.events (x.journal ++ lines) < left setup c
  lined_fell x lines f = let m = fewer_left setup x.round x.events x.journal lines in omega arith

  commit_falls : (s : ReadSoFar) → QRead setup (ended a c) (readable setup.shape c.copies c.up a ≡ true) a.node s → Always (Falls setup c) Any (commit setup a s)
  commit_falls (starved x) (inl f) = inl (lined_fell x (line.Starve a.task a.node ∷ []) f)
  commit_falls (starved x) (inr q) = inr (lined_left x (line.Starve a.task a.node ∷ []) q.0, subst (λ (y : PlainCluster). open_copies setup y.copies y.known + blocked_tasks setup y.copies y.up y.running < work setup c) (sym q.0) (starve_work q.1))
  commit_falls (reading r) (inl f) = always_do (Falls setup c) Any (writes setup a r) _ (inl (lined_fell r.cluster (commit_line a r ∷ []) f))
  commit_falls (reading r) (inr q) =
      let calls = writes setup a r in
      always_do (Falls setup c) Any calls (gives (committed a r (written calls r.cluster.copies))) (inr (
        lined_left r.cluster (commit_line a r ∷ []) q.0,
        subst (λ (y : PlainCluster). open_copies setup (written calls y.copies) (with_known a.task y.known) + blocked_tasks setup (written calls y.copies) y.up y.running < work setup c) (sym q.0) (commit_work calls (closes setup r a.task a.node (further_calls setup a r) c.copies c.known)),
      ))

  pub finish_falls : Always (Falls setup c) Any (finish setup a c)
  finish_falls =
      always_then Any (QRead setup (ended a c) (readable setup.shape c.copies c.up a ≡ true) a.node) (Falls setup c) (read_inputs a.node (inputs setup.shape a.task) (reading (nothing_read (ended a c)))) (commit setup a)
      (inputs_quiet setup (ended a c) (readable setup.shape c.copies c.up a ≡ true) a.node (inputs setup.shape a.task) (reading (nothing_read (ended a c))) (inr (refl, λ t. tt)) (λ t name j. none_fails (is_there c.copies c.up a.node) (needs setup.shape c.copies a.node a.task) t name j))
      commit_falls

-- What is started leaves no more, and no more work.
use Rattle.std.proofs.Common.{◌≡◌, ◌⊎◌, inl, inr, ℕ, zero, suc, ◌+◌, ◌≤◌, true, ◌&&◌, not, [], ◌∷◌, ◌++◌, Option, None, Some, refl, sym, ap, ◌∙◌, arith}
use Rattle.std.proofs.lemmas.Bool.{false≢true}
use Rattle.node_names.specs.declared.task.Task.{Task}
use Rattle.counter_report.specs.declared.journal.Entry.TheVariants as line
use Rattle.run_model.specs.Lists.{IsIn}
use Rattle.run_model.specs.Needs.{view_of}
use Rattle.run_model.specs.Sites.{site}
use Rattle.run_model.specs.Start.{first_ready, goal_of, is_running, start_first, start_one, start_some, started}
use Rattle.run_model.specs.declared.attempt.Attempt.{Attempt}
use Rattle.run_model.specs.State.{PlainCluster, Setup}
use Rattle.run_model.specs.Tasks.{is_task}
use Rattle.run_model.specs.Wanted.{ready, ready_at, wanted}
use Rattle.run_laws.specs.Measures.{all_tasks, is_blocked, left, readable, work}
use Rattle.run_laws.proofs.Counting.{number_mono}
use Rattle.run_laws.proofs.Leaving.{fewer_left}
use Rattle.run_laws.proofs.Members.{and_true, any_is, find_is, in_either, is_any}

-- a task that is started has all its needs there
start_blocks : (setup : Setup) (c : PlainCluster) (t : Task) (n : ℕ) (u : Task) → readable setup.shape c.copies c.up (record { task = t; node = n }) ≡ true → is_blocked setup.shape c.copies c.up (c.running ++ record { task = t; node = n } ∷ []) u ≡ true → is_blocked setup.shape c.copies c.up c.running u ≡ true
start_blocks setup c t n u r e =
    let new : Attempt = record { task = t; node = n } in
    let s = any_is (λ (b : Attempt). is_task u b.task && not (readable setup.shape c.copies c.up b)) (c.running ++ new ∷ []) e in
    go s.0 (in_either s.0 c.running (new ∷ []) s.1) s.2
  where
    go : (b : Attempt) → IsIn b c.running ⊎ IsIn b (record { task = t; node = n } ∷ []) → (is_task u b.task && not (readable setup.shape c.copies c.up b)) ≡ true → is_blocked setup.shape c.copies c.up c.running u ≡ true
    go b (inl i) x = is_any (λ (b : Attempt). is_task u b.task && not (readable setup.shape c.copies c.up b)) b c.running i x
    go b (inr (inl y)) x = absurd (false≢true (ap not (sym r) ∙ ap (λ b. not (readable setup.shape c.copies c.up b)) (sym y) ∙ (and_true (is_task u b.task) (not (readable setup.shape c.copies c.up b)) x).1))
    go b (inr (inr z)) x = elim z [ ]

pub record NoMore (setup : Setup) (d c : PlainCluster) : Type 0 where
  pub no_more_left : left setup d ≤ left setup c
  pub no_more_work : work setup d ≤ work setup c
  pub events : d.events ≡ c.events

started_less : (setup : Setup) (c : PlainCluster) (t : Task) (o : Option ℕ) → ready_at (view_of setup c) t o ≡ true → NoMore setup (started t o c) c
started_less setup c t None r = absurd (false≢true r)
started_less setup c t (Some n) r =
    let y = number_mono (is_blocked setup.shape c.copies c.up (c.running ++ record { task = t; node = n } ∷ [])) (is_blocked setup.shape c.copies c.up c.running) (all_tasks setup) (λ u k. start_blocks setup c t n u r k) in
    record { no_more_left = fewer_left setup c.round c.events c.journal (line.Start t n ∷ []); no_more_work = sums _ _ _ y; events = refl }
  where
    sums : (x y z : ℕ) → y ≤ z → x + y ≤ x + z
    sums x y z l = omega arith

less_itself : (setup : Setup) (c : PlainCluster) → NoMore setup c c
less_itself setup c = record { no_more_left = omega arith; no_more_work = same (work setup c); events = refl }
  where
    same : (n : ℕ) → n ≤ n
    same n = omega arith

one_less : (setup : Setup) (c : PlainCluster) (o : Option Task) → first_ready setup c ≡ o → NoMore setup (start_first setup c o) c
one_less setup c None e = less_itself setup c
one_less setup c (Some t) e =
    let m = find_is (λ t. not (is_running c t) && ready (view_of setup c) t) (wanted (view_of setup c) (goal_of c)) t e in
    started_less setup c t (site (view_of setup c) t) (and_true (not (is_running c t)) (ready (view_of setup c) t) m.1).1

less_then : (setup : Setup) (e d c : PlainCluster) → NoMore setup e d → NoMore setup d c → NoMore setup e c
less_then setup e d c a b = record { no_more_left = le (left setup e) (left setup d) (left setup c) a.no_more_left b.no_more_left; no_more_work = le (work setup e) (work setup d) (work setup c) a.no_more_work b.no_more_work; events = a.events ∙ b.events }
  where
    le : (x y z : ℕ) → x ≤ y → y ≤ z → x ≤ z
    le x y z l m = omega arith

pub start_less : (setup : Setup) (m : ℕ) (c : PlainCluster) → NoMore setup (start_some setup m c) c
start_less setup zero c = less_itself setup c
start_less setup (suc m) c = less_then setup (start_some setup m (start_one setup c)) (start_one setup c) c (start_less setup m (start_one setup c)) (one_less setup c (first_ready setup c) refl)

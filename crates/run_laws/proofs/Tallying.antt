-- While a run goes on, misses and failures stay below their limits.
use Rattle.std.proofs.Common.{◌≡◌, ◌⊎◌, inl, inr, ℕ, suc, ◌+◌, ◌≤◌, ◌<◌, true, false, not, cond, List, [], ◌∷◌, ◌++◌, Option, None, Some, refl, sym, ap, subst, ◌∙◌, map, arith, ◌==◌, nat_le}
use Rattle.std.specs.Prelude.{if◌then◌else◌}
use Rattle.std.specs.List.{filter}
use Rattle.std.specs.Ordering.{nat_cmp}
use Rattle.std.proofs.lemmas.Bool.{eqb-false, false≢true, leb-false}
use Rattle.hal_base.specs.Sorted.{joined}
use Rattle.node_names.specs.declared.task.Task.{Task}
use Rattle.replica_table.specs.Copies.{but_those}
use Rattle.counter_report.specs.declared.journal.Entry.{Entry}
use Rattle.counter_report.specs.declared.journal.Entry.TheVariants as line
use Rattle.run_model.specs.Acts.{ended, fail, failed, failures_of, finish, with_failure}
use Rattle.run_model.specs.Advance.{next_round}
use Rattle.run_model.specs.Attempts.{commit, commit_line, committed, writes, written}
use Rattle.run_model.specs.Lists.{IsIn, number_of}
use Rattle.run_model.specs.Needs.{inputs, view_of}
use Rattle.run_model.specs.PlanLaws.{Always}
use Rattle.run_model.specs.Plans.{TaskFailed, gives, refuses}
use Rattle.run_model.specs.Reading.{ReadSoFar, Try, is_struck, misses, nothing_read, read_inputs, reading, starved, strike}
use Rattle.run_model.specs.Removals.{clear, removals}
use Rattle.run_model.specs.Sites.{site}
use Rattle.run_model.specs.Start.{first_ready, start_first, started}
use Rattle.run_model.specs.declared.attempt.Attempt.{Attempt}
use Rattle.run_model.specs.declared.attempt.Failed.{Failed}
use Rattle.run_model.specs.State.{PlainCluster, Setup, noted, with_copies}
use Rattle.run_model.specs.Stays.{stays}
use Rattle.run_model.specs.Tasks.{is_task}
use Rattle.run_laws.specs.Refusals.{FailuresFit, Tallied, TalliedAtMost, TurnTallies}
use Rattle.run_laws.proofs.Counting.{number_append}
use Rattle.run_laws.proofs.Members.{same_task, task_itself}
use Rattle.run_laws.proofs.Plans.{always_do, always_then}
use Rattle.run_laws.proofs.Turning.{AnyName, KRead, Steps, any_caches, any_next, inputs_walk, is_remark, turn_walks}

-- ---- failures

from_failure : (task : Task) (fs : List Failed) (g : Failed) → IsIn g (with_failure task fs) → (g.task ≡ task) ⊎ IsIn g fs
from_failure task [] g i = elim i [ inl e ↦ inl (ap (λ (x : Failed). x.task) e) | inr x ↦ elim x [ ] ]
from_failure task (f ∷ fs) g i = elim (is_task task f.task) as (λ v. is_task task f.task ≡ v → IsIn g (cond v (record { task = f.task; count = f.count + 1 } ∷ fs) (f ∷ with_failure task fs)) → (g.task ≡ task) ⊎ IsIn g (f ∷ fs)) [
  | true ↦ λ e j. elim j [ inl x ↦ inl (ap (λ (x : Failed). x.task) x ∙ sym (same_task task f.task e)) | inr y ↦ inr (inr y) ]
  | false ↦ λ e j. elim j [ inl x ↦ inr (inl x) | inr y ↦ elim (from_failure task fs g y) [ inl a ↦ inl a | inr b ↦ inr (inr b) ] ]
] refl i

-- fewer of each is fewer than more
wider : (b m : ℕ) (fs : List Failed) → b ≤ m → FailuresFit b fs → FailuresFit m fs
wider b m [] l h = tt
wider b m (f ∷ fs) l h = (le f.count h.0, h.1, wider b m fs l h.2)
  where
    le : (n : ℕ) → n < b → n < m
    le n x = omega arith

-- fewer of each, also of this task with one more
one_more : (b m : ℕ) (task : Task) (fs : List Failed) → b ≤ m → FailuresFit b fs → failures_of task (with_failure task fs) < m → FailuresFit m (with_failure task fs)
one_more b m task [] l f c = (subst (λ v. cond v 1 0 < m) (task_itself task) c, λ g i. elim i [ ], tt)
one_more b m task (f ∷ fs) l h c = elim (is_task task f.task) as (λ v. is_task task f.task ≡ v → failures_of task (cond v (record { task = f.task; count = f.count + 1 } ∷ fs) (f ∷ with_failure task fs)) < m → FailuresFit m (cond v (record { task = f.task; count = f.count + 1 } ∷ fs) (f ∷ with_failure task fs))) [
  | true ↦ λ e k. (subst (λ v. cond v (f.count + 1) (failures_of task fs) < m) e k, h.1, wider b m fs l h.2)
  | false ↦ λ e k. (within (f.count) h.0, λ g i s. apart e g (from_failure task fs g i) s, one_more b m task fs l h.2 (subst (λ v. cond v f.count (failures_of task (with_failure task fs)) < m) e k))
] refl c
  where
    within : (n : ℕ) → n < b → n < m
    within n x = omega arith

    apart : is_task task f.task ≡ false → (g : Failed) → (g.task ≡ task) ⊎ IsIn g fs → f.task ≡ g.task → ⊥
    apart e g (inl x) s = false≢true (sym e ∙ subst (λ t. is_task t f.task ≡ true) (s ∙ x) (task_itself f.task))
    apart e g (inr i) s = h.1 g i s

count_most : (b : ℕ) (task : Task) (fs : List Failed) → 1 ≤ b → FailuresFit b fs → failures_of task (with_failure task fs) ≤ b
count_most b task [] l h = rw (task_itself task) l
count_most b task (f ∷ fs) l h = elim (is_task task f.task) as (λ v. is_task task f.task ≡ v → failures_of task (cond v (record { task = f.task; count = f.count + 1 } ∷ fs) (f ∷ with_failure task fs)) ≤ b) [
  | true ↦ λ e. rw e (let k = h.0 in omega arith)
  | false ↦ λ e. rw e (count_most b task fs l h.2)
] refl

-- ---- lines

none_struck : (f : Attempt → Entry) (xs : List Attempt) → ((x : Attempt) → is_struck (f x) ≡ false) → number_of is_struck (map f xs) ≡ 0
none_struck f [] h = refl
none_struck f (x ∷ xs) h = rw (h x) (none_struck f xs h)

no_miss : (it : Entry) → is_remark it ≡ true → number_of is_struck (it ∷ []) ≡ 0
no_miss (line.Struck name node) e = absurd (false≢true e)
no_miss (line.End end round) e = refl
no_miss (line.Skip word number) e = refl
no_miss (line.Busy node) e = refl
no_miss (line.Idle node) e = refl
no_miss (line.Round round) e = refl
no_miss (line.Start task node) e = refl
no_miss (line.Commit task node local remote caches) e = refl
no_miss (line.Starve task node) e = refl
no_miss (line.Fail task node count) e = refl
no_miss (line.Kill task node) e = refl
no_miss (line.Dropped task node) e = refl
no_miss (line.Lose node) e = refl
no_miss (line.Back node) e = refl
no_miss (line.Wipe node) e = refl

module _ (setup : Setup) (one : 1 ≤ setup.schedule.attempts) where
  abbrev T : PlainCluster → Type 0
  T c = Tallied setup c

  abbrev Q : PlainCluster → Type 0
  Q c = TalliedAtMost setup c

  lined : (journal lines : List Entry) → number_of is_struck lines ≡ 0 → number_of is_struck journal < 1000 → number_of is_struck (journal ++ lines) < 1000
  lined journal lines e h = let a = number_append is_struck journal lines in omega arith

  refused : (c : PlainCluster) → T c → Q c
  refused c h = (let m = h.0 in omega arith, wider setup.schedule.attempts (suc setup.schedule.attempts) c.failures (omega arith) h.1)

  missed_last : (it : Try) (c : PlainCluster) → T c → Q (strike it c)
  missed_last it c h = (miss (number_append is_struck c.journal (line.Struck it.name it.node ∷ [])) h.0, (refused c h).1)
    where
      miss : number_of is_struck (c.journal ++ line.Struck it.name it.node ∷ []) ≡ number_of is_struck c.journal + 1 → number_of is_struck c.journal < 1000 → number_of is_struck (c.journal ++ line.Struck it.name it.node ∷ []) ≤ 1000
      miss a l = omega arith

  strikes : (it : Try) (c : PlainCluster) → T c → nat_le 1000 (misses (strike it c)) ≡ false → T (strike it c)
  strikes it c h e = (leb-false 1000 (misses (strike it c)) e, h.1)

  cleared : (nodes : List ℕ) (c : PlainCluster) → T c → Always T Q (clear setup nodes c)
  cleared nodes c h = always_do T Q (removals setup nodes c) (gives (with_copies (but_those (λ name. not (stays setup.shape setup.schedule.keep c.round name)) nodes c.copies) c)) h

  begins : (c : PlainCluster) → T c → Always T Q (next_round setup c)
  begins c h =
      let lines = map (λ (a : Attempt). line.Dropped a.task a.node) c.running in
      let d : PlainCluster = record c { round = c.round + 1; running = []; known = []; journal = c.journal ++ lines } in
      always_then Q T T (clear setup c.up d) (λ next. gives (noted (line.Round next.round ∷ []) next)) (cleared c.up d (lined c.journal lines (none_struck (λ (a : Attempt). line.Dropped a.task a.node) c.running (λ a. refl)) h.0, h.1)) (λ next g. (lined next.journal (line.Round next.round ∷ []) refl g.0, g.1))

  starts : (c : PlainCluster) (o : Option Task) → T c → T (start_first setup c o)
  starts c None h = h
  starts c (Some t) h = go (site (view_of setup c) t)
    where
      go : (o : Option ℕ) → T (started t o c)
      go None = h
      go (Some n) = (lined c.journal (line.Start t n ∷ []) refl h.0, h.1)

  commits : (a : Attempt) (s : ReadSoFar) → KRead T Q AnyName missed_last strikes s → Always T Q (commit setup a s)
  commits a (starved c) h = (lined c.journal (line.Starve a.task a.node ∷ []) refl h.0, h.1)
  commits a (reading r) h = always_do T Q (writes setup a r) (gives (committed a r (written (writes setup a r) r.cluster.copies))) (lined r.cluster.journal (commit_line a r ∷ []) refl h.cluster.0, h.cluster.1)

  finishes : (a : Attempt) (c : PlainCluster) → T c → Always T Q (finish setup a c)
  finishes a c h = always_then Q (KRead T Q AnyName missed_last strikes) T (read_inputs a.node (inputs setup.shape a.task) (reading (nothing_read (ended a c)))) (commit setup a) (inputs_walk T Q AnyName missed_last strikes a.node (inputs setup.shape a.task) (reading (nothing_read (ended a c))) (any_caches (inputs setup.shape a.task)) (record { cluster = h; unread = λ name i. tt })) (commits a)

  fails : (a : Attempt) (c : PlainCluster) → T c → Always T Q (fail setup a c)
  fails a c h =
      let n = failures_of a.task (with_failure a.task c.failures) in
      let lines = line.Fail a.task a.node n ∷ [] in
      let journal = lined c.journal lines refl h.0 in
      let most = count_most setup.schedule.attempts a.task c.failures one h.1 in
      elim (n == setup.schedule.attempts) as (λ v. (n == setup.schedule.attempts) ≡ v → Always T Q (if v then refuses (failed a c) (TaskFailed a.task) else gives (failed a c))) [
        | true ↦ λ e. (omega arith, one_more setup.schedule.attempts (suc setup.schedule.attempts) a.task c.failures (omega arith) h.1 (omega arith))
        | false ↦ λ e. let d = eqb-false n setup.schedule.attempts e in (journal, one_more setup.schedule.attempts setup.schedule.attempts a.task c.failures (omega arith) h.1 (omega arith))
      ] refl

  tally_steps : Steps setup (λ n. Unit {0}) (λ c. Unit {0}) T Q
  tally_steps = record {
    quiet = record {
      refused = refused;
      missed_last = missed_last;
      strikes = strikes;
      remarks = λ it c e h. (lined c.journal (it ∷ []) (no_miss it e) h.0, h.1);
      passes = λ c h. h;
      begins = λ c l h. begins c h;
      starts = λ c h. starts c (first_ready setup c) h;
      finishes = λ a c i h. finishes a c h;
    };
    spends = λ e events c x h. h;
    fails = λ a c i h. fails a c h;
    loses = λ n c h. (lined c.journal (line.Lose n ∷ map (λ (a : Attempt). line.Kill a.task n) (filter (λ (a : Attempt). n == a.node) c.running)) (none_struck (λ (a : Attempt). line.Kill a.task n) (filter (λ (a : Attempt). n == a.node) c.running) (λ a. refl)) h.0, h.1);
    returns = λ n c l h. cleared (n ∷ []) (record c { up = joined nat_cmp n c.up; journal = c.journal ++ line.Back n ∷ [] }) (lined c.journal (line.Back n ∷ []) refl h.0, h.1);
    wipes = λ n c h. (lined c.journal (line.Wipe n ∷ []) refl h.0, h.1);
    marks = λ n c l h. h;
    unmarks = λ n c h. h;
  }

pub turn_tallies : TurnTallies
turn_tallies setup decision c one h = turn_walks setup (λ n. Unit {0}) (λ c. Unit {0}) (Tallied setup) (TalliedAtMost setup) (tally_steps setup one) (λ d x. any_next d.events) decision c (λ e. tt) h

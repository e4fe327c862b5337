-- What a journal tells of the end of a run and of failures.
use Rattle.std.proofs.Common.{◌≡◌, ℕ, ◌+◌, Bool, true, false, not, cond, nat_le, List, [], ◌∷◌, ◌++◌, Option, None, Some, refl, sym, ap, subst, ◌∙◌, map, arith, length, ◌==◌}
use Rattle.std.specs.List.{filter}
use Rattle.std.specs.Ordering.{nat_cmp}
use Rattle.std.proofs.lemmas.Bool.{false_from_ne_true, false≢true}
use Rattle.hal_base.specs.Sorted.{joined}
use Rattle.node_names.specs.declared.name.Name.{Name}
use Rattle.node_names.specs.declared.task.Task.{Task}
use Rattle.replica_table.specs.Copies.{but_those}
use Rattle.counter_report.specs.declared.journal.EndWord.{EndWord}
use Rattle.counter_report.specs.declared.journal.Entry.{Entry}
use Rattle.counter_report.specs.declared.journal.Entry.TheVariants as line
use Rattle.run_model.specs.Acts.{act, ended, failed, failures_of, finish, with_failure}
use Rattle.run_model.specs.Advance.{Advanced, advance, advance_if, after_part, decide, finished, goes_on, is_decided, next_round, part_tries, pass, read_parts}
use Rattle.run_model.specs.Attempts.{commit, commit_line, committed, writes, written}
use Rattle.run_model.specs.Lists.{number_of}
use Rattle.run_model.specs.Needs.{inputs, view_of}
use Rattle.run_model.specs.PlanLaws.{Always}
use Rattle.run_model.specs.Plans.{Plan, asks, does, gives, refuses}
use Rattle.run_model.specs.Reading.{ReadSoFar, Tried, Try, misses, nothing_read, read_first, read_inputs, reading, starved, strike}
use Rattle.run_model.specs.Removals.{clear, removals}
use Rattle.run_model.specs.Sites.{site}
use Rattle.run_model.specs.Start.{first_ready, start, start_first, started}
use Rattle.run_model.specs.declared.attempt.Attempt.{Attempt}
use Rattle.run_model.specs.declared.attempt.Failed.{Failed}
use Rattle.run_model.specs.State.{PlainCluster, Setup, noted, with_copies}
use Rattle.run_model.specs.Stays.{stays}
use Rattle.run_model.specs.Tasks.{is_task, last_outs}
use Rattle.run_model.specs.Turns.{acted, ends, go_on, turn}
use Rattle.run_laws.specs.Ending.{Any}
use Rattle.run_laws.specs.Telling.{EndsAreTold, Failures, FailuresAreTold, TellsEnd, fails_at}
use Rattle.run_laws.proofs.Counting.{number_append}
use Rattle.run_laws.proofs.Members.{same_task}
use Rattle.run_laws.proofs.Plans.{always_do, always_leaves, always_then}
use Rattle.run_laws.proofs.Turning.{AnyName, KRead, Steps, any_caches, any_next, fails_always, inputs_walk, is_remark, turn_walks}

-- ---- ends

-- nothing is said of any plan
always_nothing : {A : Type 0} (plan : Plan A) → Always (λ a. Unit {0}) Any plan
always_nothing (gives a) = tt
always_nothing (refuses c why) = tt
always_nothing (does call plan) = always_nothing plan
always_nothing (asks node name next) = λ missed. always_nothing (next missed)

abbrev AdvanceTells : Advanced → Type 0
AdvanceTells (goes_on c) = Unit {0}
AdvanceTells (finished c end) = TellsEnd (ends c end)

parts_tell : (end : EndWord) (names : List Name) (c : PlainCluster) → Always AdvanceTells Any (read_parts end names c)
parts_tell end [] c = (c.journal, refl)
parts_tell end (name ∷ names) c = always_then Any (λ (tried : Tried). Unit {0}) AdvanceTells (read_first (part_tries c name) c) (λ tried. after_part (read_parts end names) tried.cluster tried.answered) (always_nothing (read_first (part_tries c name) c)) (λ tried h. go (λ d. parts_tell end names d) tried.cluster tried.answered)
  where
    go : ((d : PlainCluster) → Always AdvanceTells Any (read_parts end names d)) → (d : PlainCluster) (answered : Option Try) → Always AdvanceTells Any (after_part (read_parts end names) d answered)
    go more d None = tt
    go more d (Some it) = more d

decided_tell : (setup : Setup) (decision : Option EndWord) (c : PlainCluster) → Always AdvanceTells Any (decide setup decision c)
decided_tell setup None c = always_then Any (λ (next : PlainCluster). Unit {0}) AdvanceTells (next_round setup c) (λ next. gives (goes_on next)) (always_nothing (next_round setup c)) (λ next h. tt)
decided_tell setup (Some end) c = parts_tell end (last_outs setup.shape c.round) c

advance_tells : (setup : Setup) (decision : Option EndWord) (c : PlainCluster) → Always AdvanceTells Any (advance setup decision c)
advance_tells setup decision c = always_then Any AdvanceTells AdvanceTells (advance_if setup decision c (is_decided setup c)) (λ advanced. gives (pass advanced)) (go (is_decided setup c)) passed
  where
    go : (v : Bool) → Always AdvanceTells Any (advance_if setup decision c v)
    go true = decided_tell setup decision c
    go false = tt

    passed : (advanced : Advanced) → AdvanceTells advanced → AdvanceTells (pass advanced)
    passed (goes_on d) h = tt
    passed (finished d end) h = h

turn_tells : (setup : Setup) (decision : Option EndWord) (c : PlainCluster) → Always TellsEnd Any (turn setup decision c)
turn_tells setup decision c = always_then Any AdvanceTells TellsEnd (advance setup decision c) (go_on setup) (advance_tells setup decision c) go
  where
    go : (advanced : Advanced) → AdvanceTells advanced → Always TellsEnd Any (go_on setup advanced)
    go (finished d end) h = h
    go (goes_on d) h = always_then Any (λ (next : PlainCluster). Unit {0}) TellsEnd (act setup (start setup d)) (λ next. gives (acted next)) (always_nothing (act setup (start setup d))) (λ next h. tt)

pub ends_are_told : EndsAreTold
ends_are_told setup decision c made turned l = always_leaves TellsEnd Any (turn setup decision c) (gives turned) made (turn_tells setup decision c) l

-- ---- failures

counted : (t u : Task) (fs : List Failed) → failures_of t (with_failure u fs) ≡ failures_of t fs + cond (is_task t u) 1 0
counted t u [] = elim (is_task t u) as (λ v. cond v 1 0 ≡ 0 + cond v 1 0) [ true ↦ refl | false ↦ refl ]
counted t u (f ∷ fs) = elim (is_task u f.task) as (λ v. is_task u f.task ≡ v → failures_of t (cond v (record { task = f.task; count = f.count + 1 } ∷ fs) (f ∷ with_failure u fs)) ≡ failures_of t (f ∷ fs) + cond (is_task t u) 1 0) [
  | true ↦ λ e. same (same_task u f.task e)
  | false ↦ λ e. other (counted t u fs) e
] refl
  where
    same : u ≡ f.task → failures_of t (record { task = f.task; count = f.count + 1 } ∷ fs) ≡ failures_of t (f ∷ fs) + cond (is_task t u) 1 0
    same s = subst (λ (x : Task). failures_of t (record { task = f.task; count = f.count + 1 } ∷ fs) ≡ failures_of t (f ∷ fs) + cond (is_task t x) 1 0) (sym s)
        (elim (is_task t f.task) as (λ v. cond v (f.count + 1) (failures_of t fs) ≡ cond v f.count (failures_of t fs) + cond v 1 0) [ true ↦ refl | false ↦ omega arith ])

    apart : is_task u f.task ≡ false → is_task t f.task ≡ true → is_task t u ≡ false
    apart e g = false_from_ne_true (is_task t u) (λ h. false≢true (sym e ∙ subst (λ (x : Task). is_task x f.task ≡ true) (same_task t u h) g))

    other : failures_of t (with_failure u fs) ≡ failures_of t fs + cond (is_task t u) 1 0 → is_task u f.task ≡ false → failures_of t (f ∷ with_failure u fs) ≡ failures_of t (f ∷ fs) + cond (is_task t u) 1 0
    other rest e = elim (is_task t f.task) as (λ v. is_task t f.task ≡ v → cond v f.count (failures_of t (with_failure u fs)) ≡ cond v f.count (failures_of t fs) + cond (is_task t u) 1 0) [
      | true ↦ λ g. rw (apart e g) (omega arith)
      | false ↦ λ g. rest
    ] refl

told_once : (t u : Task) (node count : ℕ) → number_of (fails_at t) (line.Fail u node count ∷ []) ≡ cond (is_task t u) 1 0
told_once t u node count = elim (is_task t u) as (λ v. length (cond v (line.Fail u node count ∷ []) []) ≡ cond v 1 0) [ true ↦ refl | false ↦ refl ]

none_told : (t : Task) (f : Attempt → Entry) (xs : List Attempt) → ((x : Attempt) → fails_at t (f x) ≡ false) → number_of (fails_at t) (map f xs) ≡ 0
none_told t f [] h = refl
none_told t f (x ∷ xs) h = rw (h x) (none_told t f xs h)

remark_told : (t : Task) (it : Entry) → is_remark it ≡ true → number_of (fails_at t) (it ∷ []) ≡ 0
remark_told t (line.Fail task node count) e = absurd (false≢true e)
remark_told t (line.Struck name node) e = refl
remark_told t (line.End end round) e = refl
remark_told t (line.Skip word number) e = refl
remark_told t (line.Busy node) e = refl
remark_told t (line.Idle node) e = refl
remark_told t (line.Round round) e = refl
remark_told t (line.Start task node) e = refl
remark_told t (line.Commit task node local remote caches) e = refl
remark_told t (line.Starve task node) e = refl
remark_told t (line.Kill task node) e = refl
remark_told t (line.Dropped task node) e = refl
remark_told t (line.Lose node) e = refl
remark_told t (line.Back node) e = refl
remark_told t (line.Wipe node) e = refl

-- lines of which none tells a failure
abbrev TellNone : List Entry → Type 0
TellNone lines = (task : Task) → number_of (fails_at task) lines ≡ 0

lined : (fs : List Failed) (journal lines : List Entry) → TellNone lines → ((task : Task) → failures_of task fs ≡ number_of (fails_at task) journal) → (task : Task) → failures_of task fs ≡ number_of (fails_at task) (journal ++ lines)
lined fs journal lines none h task = let a = number_append (fails_at task) journal lines in let n = none task in let f = h task in omega arith

one_told : (a : Attempt) (c : PlainCluster) → Failures c → Failures (failed a c)
one_told a c h task =
    let k = failures_of a.task (with_failure a.task c.failures) in
    counted task a.task c.failures
    ∙ ap (λ n. n + cond (is_task task a.task) 1 0) (h task)
    ∙ ap (λ n. number_of (fails_at task) c.journal + n) (sym (told_once task a.task a.node k))
    ∙ sym (number_append (fails_at task) c.journal (line.Fail a.task a.node k ∷ []))

module _ (setup : Setup) where
  abbrev T : PlainCluster → Type 0
  T c = Failures c

  strikes : (it : Try) (c : PlainCluster) → T c → T (strike it c)
  strikes it c h = lined c.failures c.journal (line.Struck it.name it.node ∷ []) (λ task. refl) h

  strikes_on : (it : Try) (c : PlainCluster) → T c → nat_le 1000 (misses (strike it c)) ≡ false → T (strike it c)
  strikes_on it c h e = strikes it c h

  cleared : (nodes : List ℕ) (c : PlainCluster) → T c → Always T T (clear setup nodes c)
  cleared nodes c h = always_do T T (removals setup nodes c) (gives (with_copies (but_those (λ name. not (stays setup.shape setup.schedule.keep c.round name)) nodes c.copies) c)) h

  begins : (c : PlainCluster) → T c → Always T T (next_round setup c)
  begins c h =
      let lines = map (λ (a : Attempt). line.Dropped a.task a.node) c.running in
      let d : PlainCluster = record c { round = c.round + 1; running = []; known = []; journal = c.journal ++ lines } in
      always_then T T T (clear setup c.up d) (λ next. gives (noted (line.Round next.round ∷ []) next))
      (cleared c.up d (lined c.failures c.journal lines (λ task. none_told task (λ (a : Attempt). line.Dropped a.task a.node) c.running (λ a. refl)) h))
      (λ next g. lined next.failures next.journal (line.Round next.round ∷ []) (λ task. refl) g)

  starts : (c : PlainCluster) (o : Option Task) → T c → T (start_first setup c o)
  starts c None h = h
  starts c (Some t) h = go (site (view_of setup c) t)
    where
      go : (o : Option ℕ) → T (started t o c)
      go None = h
      go (Some n) = lined c.failures c.journal (line.Start t n ∷ []) (λ task. refl) h

  commits : (a : Attempt) (s : ReadSoFar) → KRead T T AnyName strikes strikes_on s → Always T T (commit setup a s)
  commits a (starved c) h = lined c.failures c.journal (line.Starve a.task a.node ∷ []) (λ task. refl) h
  commits a (reading r) h = always_do T T (writes setup a r) (gives (committed a r (written (writes setup a r) r.cluster.copies))) (lined r.cluster.failures r.cluster.journal (commit_line a r ∷ []) (λ task. refl) h.cluster)

  finishes : (a : Attempt) (c : PlainCluster) → T c → Always T T (finish setup a c)
  finishes a c h = always_then T (KRead T T AnyName strikes strikes_on) T (read_inputs a.node (inputs setup.shape a.task) (reading (nothing_read (ended a c)))) (commit setup a) (inputs_walk T T AnyName strikes strikes_on a.node (inputs setup.shape a.task) (reading (nothing_read (ended a c))) (any_caches (inputs setup.shape a.task)) (record { cluster = h; unread = λ name i. tt })) (commits a)

  told_steps : Steps setup (λ n. Unit {0}) (λ c. Unit {0}) T T
  told_steps = record {
    quiet = record {
      refused = λ c h. h;
      missed_last = strikes;
      strikes = strikes_on;
      remarks = λ it c e h. lined c.failures c.journal (it ∷ []) (λ task. remark_told task it e) h;
      passes = λ c h. h;
      begins = λ c l h. begins c h;
      starts = λ c h. starts c (first_ready setup c) h;
      finishes = λ a c i h. finishes a c h;
    };
    spends = λ e events c x h. h;
    fails = λ a c i h. fails_always setup T a c (one_told a c h);
    loses = λ n c h. lined c.failures c.journal (line.Lose n ∷ map (λ (a : Attempt). line.Kill a.task n) (filter (λ (a : Attempt). n == a.node) c.running)) (λ task. none_told task (λ (a : Attempt). line.Kill a.task n) (filter (λ (a : Attempt). n == a.node) c.running) (λ a. refl)) h;
    returns = λ n c l h. cleared (n ∷ []) (record c { up = joined nat_cmp n c.up; journal = c.journal ++ line.Back n ∷ [] }) (lined c.failures c.journal (line.Back n ∷ []) (λ task. refl) h);
    wipes = λ n c h. lined c.failures c.journal (line.Wipe n ∷ []) (λ task. refl) h;
    marks = λ n c l h. h;
    unmarks = λ n c h. h;
  }

pub failures_are_told : FailuresAreTold
failures_are_told setup decision c h = turn_walks setup (λ n. Unit {0}) (λ c. Unit {0}) Failures Failures (told_steps setup) (λ d x. any_next d.events) decision c (λ e. tt) h

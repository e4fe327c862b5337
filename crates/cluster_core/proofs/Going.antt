-- A turn from its parts: advance, start, act.
use Rattle.std.proofs.Common.{◌≡◌, ◌<◌, ◌≤◌, ℕ, suc, ◌+◌, ◌-◌, ◌*◌, ◌==◌, ◌||◌, true, false, cond, List, [], ◌∷◌, Option, None, Some, map, refl, sym, ap, ◌∙◌, subst, arith}
use Rattle.std.specs.List.{range_with_len}
use Rattle.node_names.specs.declared.task.Task.{Task}
use Rattle.hal_outside.specs.DiskCalls as disk
use Rattle.hal_outside.specs.DiskTold.{DiskTold}
use Rattle.counter_report.specs.declared.journal.EndWord.{EndWord}
use Rattle.std.proofs.lemmas.Bool.{eqb-true}
use Rattle.std.proofs.lemmas.Bool.Decides.{nat_tests}
use Rattle.replica_table.specs.Sets.{Ascend, among}
use Rattle.run_laws.specs.Ending.{Any, AtAct, OnGoesOn}
use Rattle.run_laws.specs.Refusals.{FailuresFit, Tallied, TalliedAtMost}
use Rattle.run_laws.specs.Measures.{measure}
use Rattle.run_laws.proofs.Ends.{turns_by_calls}
use Rattle.run_laws.proofs.Tallying.{turn_tallies}
use Rattle.run_laws.specs.States.{EndsInTime, Fits}
use Rattle.run_laws.specs.WithoutLoss.{NoneMissed, OnAdvanced, Orderly, StaysOrderly}
use Rattle.run_laws.proofs.Listing.{tasks_are}
use Rattle.run_laws.proofs.Plans.{always_leaves, unmissed_leaves}
use Rattle.run_laws.proofs.Undecided.{act_answers}
use Rattle.run_laws.proofs.UnmissedTurns.{quiet_advances, quiet_turns_by_calls, starts_stay_orderly}
use Rattle.run_model.proofs.PlanSteps.{leaves_then}
use Rattle.run_model.specs.Acts.{act, failures_of}
use Rattle.run_model.specs.Advance.{advance, finished, goes_on}
use Rattle.run_model.specs.Lists.{below}
use Rattle.run_model.specs.Plans as why
use Rattle.run_model.specs.Plans.{Leaves, Made, Plan, gives, refuses, ◌>>=◌}
use Rattle.run_model.specs.Start.{start}
use Rattle.run_model.specs.State.{PlainCluster, Setup}
use Rattle.run_model.specs.Tasks.{is_task}
use Rattle.run_model.specs.Turns.{Turned, acted, ends, go_on, turn}
use Rattle.run_model.specs.Runs.{state_of}
use Rattle.run_model.specs.declared.attempt.Failed.{Failed}
use Rattle.valid_copies.specs.Calls.{AreAnswered, Follows, made_of}
use Rattle.valid_copies.specs.declared.fault.WorkFault.{WorkFault}
use Rattle.valid_copies.specs.declared.fault.WorkFault.TheVariants as work
use Rattle.valid_copies.proofs.Following.{begun_first, begun_then, follows_bind, follows_then, missed_first, missed_then}
use Rattle.counter_report.specs.declared.journal.EndWord.TheVariants.{Limit}
use Rattle.cluster_core.specs.Deciding.{decision_of, is_near, near_word}
use Rattle.cluster_core.specs.Faults.{RefusedIn, StoppedIn, core_fault_of}
use Rattle.cluster_core.specs.Turns.{IsRunning}
use Rattle.cluster_core.specs.Works.{CanWork}
use Rattle.cluster_core.specs.declared.fault.CoreFault.{CoreFault}
use Rattle.cluster_core.specs.declared.fault.CoreFault.TheVariants as core

-- ---- plans

pub none_missed : (calls : List disk.Call) → AreAnswered calls → NoneMissed (map made_of calls)
none_missed [] a = tt
none_missed (call ∷ calls) a = (a.0, none_missed calls a.1)

module _ (setup : Setup) (d : Option EndWord) (c : PlainCluster) where
  pub turned : (e f : PlainCluster) (before between after : Option DiskTold) → Follows (advance setup d c) before between (gives (goes_on e)) → Follows (act setup (start setup e)) between after (gives f) → Follows (turn setup d c) before after (gives (acted f))
  turned e f before between after a b = follows_then (advance setup d c) (goes_on e) (go_on setup) (gives (acted f)) before between after a (follows_bind (act setup (start setup e)) (gives f) (λ next. gives (acted next)) between after b)

  pub turned_end : (e : PlainCluster) (end : EndWord) (before after : Option DiskTold) → Follows (advance setup d c) before after (gives (finished e end)) → Follows (turn setup d c) before after (gives (ends e end))
  turned_end e end before after a = follows_bind (advance setup d c) (gives (finished e end)) (go_on setup) before after a

  pub refused_first : (new : PlainCluster) (before after : Option DiskTold) (fault : WorkFault) → StoppedIn (advance setup d c) before after fault → RefusedIn (turn setup d c) before after new (core_fault_of fault)
  refused_first new before after (work.Device device) s = begun_first (advance setup d c) (go_on setup) before after s
  refused_first new before after work.Missed s = missed_first (advance setup d c) (go_on setup) before after s
  refused_first new before after work.Memory s = begun_first (advance setup d c) (go_on setup) before after s

  pub refused_then : (e new : PlainCluster) (before between after : Option DiskTold) (fault : CoreFault) → Follows (advance setup d c) before between (gives (goes_on e)) → RefusedIn (act setup (start setup e)) between after new fault → RefusedIn (turn setup d c) before after new fault
  refused_then e new before between after (core.TaskFailed task) a r = follows_then (advance setup d c) (goes_on e) (go_on setup) (refuses new (why.TaskFailed task)) before between after a (follows_bind (act setup (start setup e)) (refuses new (why.TaskFailed task)) (λ next. gives (acted next)) between after r)
  refused_then e new before between after core.NotBuilt a r = missed_then (advance setup d c) (goes_on e) (go_on setup) before between after a (missed_first (act setup (start setup e)) (λ next. gives (acted next)) between after r)
  refused_then e new before between after (core.Device device) a r = begun_then (advance setup d c) (goes_on e) (go_on setup) before between after a (begun_first (act setup (start setup e)) (λ next. gives (acted next)) between after r)
  refused_then e new before between after core.Memory a r = begun_then (advance setup d c) (goes_on e) (go_on setup) before between after a (begun_first (act setup (start setup e)) (λ next. gives (acted next)) between after r)

-- ---- what holds in between

module _ (setup : Setup) (d : Option EndWord) (c : PlainCluster) (fits : Fits setup) (time : EndsInTime setup c d) (stays : StaysOrderly setup c) (e : PlainCluster) (before after : Option DiskTold) (a : Follows (advance setup d c) before after (gives (goes_on e))) where
  pub advanced_orderly : StaysOrderly setup e
  advanced_orderly = unmissed_leaves (OnAdvanced (StaysOrderly setup)) (λ x y. ⊥) (advance setup d c) (gives (goes_on e)) (map made_of a.calls) (quiet_advances setup d c fits time stays) (none_missed a.calls a.answered) a.leads

  at_act : AtAct setup e
  at_act = always_leaves (OnGoesOn (AtAct setup)) Any (advance setup d c) (gives (goes_on e)) (map made_of a.calls) (act_answers setup d c fits time stays.0.reached) a.leads

  started_orderly : StaysOrderly setup (start setup e)
  started_orderly = starts_stay_orderly setup (setup.schedule.nodes * setup.schedule.slots) e fits advanced_orderly

  -- an act with nothing left to do would be refused, which no turn is in which nothing is lost
  pub advanced_open : (start setup e).events ≡ [] → (start setup e).running ≡ [] → ⊥
  advanced_open events running =
      let answers = at_act.answers events running in
      let lost = answers.lost 0 (range_with_len 1 (setup.schedule.nodes - 1)) (started_orderly.0.all_up ∙ some_nodes setup.schedule.nodes fits.nodes) in
      let left = leaves_then (advance setup d c) (gives (goes_on e)) (go_on setup) (map made_of a.calls) a.leads in
      let refused = subst (λ (p : Plan PlainCluster). Leaves (turn setup d c) (map made_of a.calls) (p >>= (λ next. gives (acted next)))) lost.2 left in
      (quiet_turns_by_calls setup d c (map made_of a.calls) fits time stays (none_missed a.calls a.answered)).refused (start setup e) (why.BlockLost lost.0) refused
    where
      some_nodes : (n : ℕ) → 1 ≤ n → below n ≡ 0 ∷ range_with_len 1 (n - 1)
      some_nodes n l = ap (range_with_len 0) (less n l)
        where
          less : (n : ℕ) → 1 ≤ n → n ≡ suc (n - 1)
          less n l = omega (arith, l)

-- ---- what works

pub few_failures : (attempts : ℕ) (failures : List Failed) → 1 ≤ attempts → FailuresFit attempts failures → (task : Task) → failures_of task failures < attempts
few_failures attempts [] some fit task = omega (arith, some)
few_failures attempts (f ∷ failures) some fit task = elim (is_task task f.task) as (λ b. cond b f.count (failures_of task failures) < attempts) [
  | true ↦ fit.0
  | false ↦ few_failures attempts failures some fit.2 task
]

-- a node among ascending ones is below their end
under : (first end : ℕ) (ns : List ℕ) (q : ℕ) → Ascend first end ns → among q ns ≡ true → q < end
under first end [] q a e = cc
under first end (n ∷ ns) q a e = elim (q == n) as (λ b. q == n ≡ b → (b || among q ns) ≡ true → q < end) [
  | true ↦ λ t h. subst (λ m. m < end) (sym (eqb-true q n t)) a.1
  | false ↦ λ t h. under (n + 1) end ns q a.2 h
] refl e

pub can_work : (setup : Setup) (e : PlainCluster) → Orderly setup e → ((task : Task) → failures_of task e.failures < setup.schedule.attempts) → CanWork setup e
can_work setup e o few = record {
  caches = o.caches;
  once = o.reached.running.once;
  tasks = λ a i. ((tasks_are setup.shape e.round a.task).0 (o.reached.running.each a i).listed).0;
  nodes = λ a i. under 0 setup.schedule.nodes e.up a.node o.reached.up (o.reached.running.each a i).on_up;
  rounds = λ a i. let listed = (tasks_are setup.shape e.round a.task).0 (o.reached.running.each a i).listed in omega (arith, listed.1, o.reached.time.in_time);
  failures = few;
  now = λ a i. (o.reached.running.each a i).now;
}

-- ---- decisions

eq_or_less : (i n : ℕ) → i ≤ n → (i == n) ≡ false → i < n
eq_or_less i n l e = grind (arith, nat_tests)

-- where the loop goes on there is a further round
pub in_time : (setup : Setup) (c : PlainCluster) (values : List (Option ℕ)) → c.round ≤ setup.shape.rounds → EndsInTime setup c (decision_of setup.shape c.round values)
in_time setup c values l none = elim (is_near setup.shape c.round values) as (λ b. cond b (Some (near_word setup.shape.exact)) (cond (c.round == setup.shape.rounds) (Some Limit) None) ≡ None → c.round < setup.shape.rounds) [
  | true ↦ λ e. absurd (unlike (near_word setup.shape.exact) e)
  | false ↦ λ e. elim (c.round == setup.shape.rounds) as (λ b. c.round == setup.shape.rounds ≡ b → cond b (Some Limit) None ≡ None → c.round < setup.shape.rounds) [
    | true ↦ λ t h. absurd (unlike Limit h)
    | false ↦ λ t h. eq_or_less c.round setup.shape.rounds l t
  ] refl e
] none
  where
    unlike : (word : EndWord) → Some word ≡ None → ⊥
    unlike word e = cc

-- ---- after a turn

module _ (setup : Setup) (d : Option EndWord) (c : PlainCluster) (running : IsRunning setup c) (time : EndsInTime setup c d) where
  -- the state is one of such a run again
  pub runs_on : (it : Turned) (before after : Option DiskTold) → Follows (turn setup d c) before after (gives it) → IsRunning setup (state_of it)
  runs_on it before after f = record {
    fits = running.fits;
    attempts = running.attempts;
    orderly = (quiet_turns_by_calls setup d c (map made_of f.calls) running.fits time running.orderly (none_missed f.calls f.answered)).gave it f.leads;
    tallied = always_leaves (λ turned. Tallied setup (state_of turned)) (TalliedAtMost setup) (turn setup d c) (gives it) (map made_of f.calls) (turn_tallies setup d c running.attempts running.tallied) f.leads;
  }

  -- and a turn that acted lets the measure fall
  pub falls : (e : PlainCluster) (before after : Option DiskTold) → Follows (turn setup d c) before after (gives (acted e)) → measure setup e < measure setup c
  falls e before after f = ((turns_by_calls setup d c (map made_of f.calls) running.fits time running.orderly.0.reached).went_on e f.leads).1

-- Why a run is refused, and what its counts show.
use Rattle.std.specs.Prelude.{◌≡◌, ℕ, suc, ◌≤◌, ◌<◌, Bool, List, [], ◌∷◌, Option, Some}
use Rattle.counter_report.specs.declared.journal.EndWord.{EndWord}
use Rattle.run_model.specs.Acts.{failures_of}
use Rattle.run_model.specs.Lists.{IsIn}
use Rattle.run_model.specs.Needs.{view_of}
use Rattle.run_model.specs.PlanLaws.{Always}
use Rattle.run_model.specs.Plans.{BlockLost, Misses, NoNode, Plan, Refusal, TaskFailed, asks, does, gives, refuses}
use Rattle.run_model.specs.Reading.{misses}
use Rattle.run_model.specs.Runs.{state_of}
use Rattle.run_model.specs.Start.{goal_of}
use Rattle.run_model.specs.declared.attempt.Failed.{Failed}
use Rattle.run_model.specs.State.{PlainCluster, Setup}
use Rattle.run_model.specs.Turns.{turn}
use Rattle.run_model.specs.Wanted.{first_missing_block}

-- ---- causes

-- whichever reads miss, a refusal of the plan has this cause
abbrev pub Caused : {A : Type 0} → (PlainCluster → Refusal → Type 0) → Plan A → Type 0
Caused R (gives a) = Unit {0}
Caused R (refuses c why) = R c why
Caused R (does call plan) = Caused R plan
Caused R (asks node name next) = (missed : Bool) → Caused R (next missed)

-- the cause of each refusal, in the state that it leaves
abbrev pub Cause : Setup → PlainCluster → Refusal → Type 0
Cause setup c (TaskFailed task) = failures_of task c.failures ≡ setup.schedule.attempts
Cause setup c NoNode = (c.events ≡ []) × (c.running ≡ []) × (c.up ≡ [])
Cause setup c (BlockLost block) = (c.events ≡ []) × (c.running ≡ []) × (c.up ≡ [] → ⊥) × (first_missing_block (view_of setup c) (goal_of c) ≡ Some block)
Cause setup c Misses = 1000 ≤ misses c

-- each refusal of a turn has its cause
abbrev pub TurnsHaveCauses : Type 0
TurnsHaveCauses = (setup : Setup) (decision : Option EndWord) (c : PlainCluster) → Caused (Cause setup) (turn setup decision c)

-- ---- counts

-- each task once, with a count below the bound
abbrev pub FailuresFit : ℕ → List Failed → Type 0
FailuresFit bound [] = Unit {0}
FailuresFit bound (f ∷ failures) = (f.count < bound) × ((g : Failed) → IsIn g failures → f.task ≡ g.task → ⊥) × FailuresFit bound failures

-- in a state that goes on: fewer than 1,000 misses, and fewer failures of a task than `attempts`
abbrev pub Tallied : Setup → PlainCluster → Type 0
Tallied setup c = (misses c < 1000) × FailuresFit setup.schedule.attempts c.failures

-- in one where the run is refused: no more
abbrev pub TalliedAtMost : Setup → PlainCluster → Type 0
TalliedAtMost setup c = (misses c ≤ 1000) × FailuresFit (suc setup.schedule.attempts) c.failures

-- a turn keeps these counts
abbrev pub TurnTallies : Type 0
TurnTallies =
    (setup : Setup) (decision : Option EndWord) (c : PlainCluster)
    → 1 ≤ setup.schedule.attempts → Tallied setup c
    → Always (λ turned. Tallied setup (state_of turned)) (TalliedAtMost setup) (turn setup decision c)

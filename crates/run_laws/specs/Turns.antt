-- Turns one after another, by the calls that were made.
use Rattle.std.specs.Prelude.{◌≡◌, ℕ, suc, ◌<◌, false, List, ◌++◌, Option}
use Rattle.counter_report.specs.declared.journal.EndWord.{EndWord}
use Rattle.run_model.specs.Advance.{is_decided}
use Rattle.run_model.specs.Plans.{Leaves, Made, Plan, Refusal, gives, refuses, ◌>>=◌}
use Rattle.run_model.specs.Runs.{load, loaded, run, turns, unless_ended}
use Rattle.run_model.specs.State.{PlainCluster, Setup}
use Rattle.run_model.specs.Turns.{Turned, acted, ends, turn}
use Rattle.run_laws.specs.Measures.{measure}
use Rattle.run_laws.specs.Refusals.{Cause}
use Rattle.run_laws.specs.States.{EndsInTime, Fits, Reached}

-- what a turn comes to, as a turn of a run: a state that acted, an end or a refusal
abbrev pub as_turns : Setup → (ℕ → Option EndWord) → Plan Turned → Plan Turned
as_turns setup decisions plan = plan >>= unless_ended (turns 0 setup decisions)

-- after so many turns one more was begun: the calls of both are the first calls of one turn more, of which the rest is that of
-- the turn
abbrev pub OneTurnMore : Type 0
OneTurnMore =
    (n : ℕ) (setup : Setup) (decisions : ℕ → Option EndWord) (c d : PlainCluster) (made more : List Made) (rest : Plan Turned)
    → Leaves (turns n setup decisions c) made (gives (acted d)) → Leaves (turn setup (decisions d.round) d) more rest
    → Leaves (turns (suc n) setup decisions c) (made ++ more) (as_turns setup decisions rest)

-- once there is an outcome, that of a turn is that of the run
abbrev pub SameOutcome : Type 0
SameOutcome =
    (setup : Setup) (decisions : ℕ → Option EndWord)
    → ((turned : Turned) → as_turns setup decisions (gives turned) ≡ gives turned) × ((c : PlainCluster) (why : Refusal) → as_turns setup decisions (refuses c why) ≡ refuses c why)

-- the decision matters only where the round is decided
abbrev pub DecidesWhereDecided : Type 0
DecidesWhereDecided =
    (setup : Setup) (one other : Option EndWord) (c : PlainCluster)
    → is_decided setup c ≡ false → turn setup one c ≡ turn setup other c

-- after the calls of load, the calls of turns are those of a run
abbrev pub LoadThenTurns : Type 0
LoadThenTurns =
    (n : ℕ) (setup : Setup) (decisions : ℕ → Option EndWord) (made more : List Made) (rest : Plan Turned)
    → Leaves (load setup) made (gives (loaded setup)) → Leaves (turns n setup decisions (loaded setup)) more rest
    → Leaves (run n setup decisions) (made ++ more) rest

-- what came of a turn by its calls: a reached state, with a lesser measure where it acted, and with the cause where it was
-- refused
pub record CameTo (setup : Setup) (c : PlainCluster) (plan : Plan Turned) (made : List Made) : Type 0 where
  pub went_on : (d : PlainCluster) → Leaves plan made (gives (acted d)) → Reached setup d × (measure setup d < measure setup c)
  pub ended : (d : PlainCluster) (end : EndWord) → Leaves plan made (gives (ends d end)) → Reached setup d
  pub was_refused : (d : PlainCluster) (why : Refusal) → Leaves plan made (refuses d why) → Reached setup d × Cause setup d why

-- so it is after the calls of each turn of a reached state
abbrev pub TurnsByCalls : Type 0
TurnsByCalls =
    (setup : Setup) (decision : Option EndWord) (c : PlainCluster) (made : List Made)
    → Fits setup → EndsInTime setup c decision → Reached setup c → CameTo setup c (turn setup decision c) made

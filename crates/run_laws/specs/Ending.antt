-- That every run ends.
use Rattle.std.specs.Prelude.{◌≡◌, ℕ, ◌≤◌, ◌<◌, false, List, [], ◌∷◌, Option, None, Some}
use Rattle.node_names.specs.declared.name.Name.{Name}
use Rattle.counter_report.specs.declared.journal.EndWord.{EndWord}
use Rattle.run_model.specs.Acts.{act}
use Rattle.run_model.specs.Advance.{Advanced, advance, finished, goes_on, is_decided}
use Rattle.run_model.specs.Needs.{view_of}
use Rattle.run_model.specs.PlanLaws.{Always}
use Rattle.run_model.specs.Plans.{BlockLost, NoNode, refuses}
use Rattle.run_model.specs.Runs.{loaded, run}
use Rattle.run_model.specs.Start.{goal_of, start}
use Rattle.run_model.specs.State.{PlainCluster, Setup}
use Rattle.run_model.specs.Turns.{Turned, acted, ends, turn}
use Rattle.run_model.specs.Wanted.{first_missing_block}
use Rattle.run_laws.specs.Measures.{measure}
use Rattle.run_laws.specs.States.{EndsInTime, Fits, Reached}

-- this, where a turn acted
abbrev pub OnActed : (PlainCluster → Type 0) → Turned → Type 0
OnActed P (acted c) = P c
OnActed P (ends c end) = Unit {0}

-- this, where advance goes on
abbrev pub OnGoesOn : (PlainCluster → Type 0) → Advanced → Type 0
OnGoesOn P (goes_on c) = P c
OnGoesOn P (finished c end) = Unit {0}

-- nothing is said of where a run is refused
abbrev pub Any : PlainCluster → Type 0
Any c = Unit {0}

-- a turn that acts lets the measure fall
abbrev pub MeasureFalls : Type 0
MeasureFalls =
    (setup : Setup) (decision : Option EndWord) (c : PlainCluster)
    → Fits setup → EndsInTime setup c decision → Reached setup c
    → Always (OnActed (λ d. measure setup d < measure setup c)) Any (turn setup decision c)

-- in the last round the loop ends, whatever was decided before
abbrev pub AllEndInTime : Setup → (ℕ → Option EndWord) → Type 0
AllEndInTime setup decisions = (i : ℕ) → i ≤ setup.shape.rounds → decisions i ≡ None → i < setup.shape.rounds

-- the run is finished
abbrev pub IsEnd : Turned → Type 0
IsEnd (acted c) = ⊥
IsEnd (ends c end) = Unit {0}

-- within as many turns as the measure after load has, and one more, a run is finished or refused
abbrev pub RunEnds : Type 0
RunEnds =
    (setup : Setup) (decisions : ℕ → Option EndWord) (n : ℕ)
    → Fits setup → AllEndInTime setup decisions → measure setup (loaded setup) < n
    → Always IsEnd Any (run n setup decisions)

-- what comes of an act where the events are spent and nothing runs: no node where none is up, else the first missing block
pub record Answers (setup : Setup) (c : PlainCluster) : Type 0 where
  pub no_node : c.up ≡ [] → act setup c ≡ refuses c NoNode
  pub lost : (n : ℕ) (up : List ℕ) → c.up ≡ n ∷ up → (block : Name) × (first_missing_block (view_of setup c) (goal_of c) ≡ Some block) × (act setup c ≡ refuses c (BlockLost block))

-- a run that goes on is in a round that is not decided, and an act with nothing left to do has its answer
pub record AtAct (setup : Setup) (c : PlainCluster) : Type 0 where
  pub undecided : is_decided setup c ≡ false
  pub reached : Reached setup c
  pub answers : (start setup c).events ≡ [] → (start setup c).running ≡ [] → Answers setup (start setup c)

-- so it is wherever advance goes on
abbrev pub ActAnswers : Type 0
ActAnswers =
    (setup : Setup) (decision : Option EndWord) (c : PlainCluster)
    → Fits setup → EndsInTime setup c decision → Reached setup c
    → Always (OnGoesOn (AtAct setup)) Any (advance setup decision c)

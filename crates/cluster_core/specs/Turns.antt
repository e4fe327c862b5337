-- What a turn of the cluster comes to.
use Rattle.std.specs.Prelude.{◌≡◌, ℕ, ◌<◌, ◌≤◌, true, IsSome, Option, None, Some, List, [], ◌∷◌}
use Rattle.hal_base.specs.declared.shape.Shape.{Shape}
use Rattle.hal_outside.specs.DiskTold.{DiskTold}
use Rattle.name_values.specs.Values.{World}
use Rattle.plain_job.specs.Chain.{last_out}
use Rattle.plain_job.specs.Ends.{Ends}
use Rattle.task_values.specs.Worlds.{WorldFits}
use Rattle.hal_base.specs.declared.record.Record.{Record}
use Rattle.counter_report.specs.declared.journal.EndWord.{EndWord}
use Rattle.counter_report.specs.declared.journal.Entry.TheVariants.{End}
use Rattle.run_laws.specs.Refusals.{Tallied}
use Rattle.run_laws.specs.States.{Fits}
use Rattle.run_laws.specs.WithoutLoss.{StaysOrderly}
use Rattle.run_model.specs.Advance.{Advanced, decide, finished, goes_on, is_decided, pass}
use Rattle.run_model.specs.Plans.{Plan, gives, ◌>>=◌}
use Rattle.run_model.specs.State.{PlainCluster, Setup, noted}
use Rattle.run_model.specs.Turns.{Turned, acted, ends}
use Rattle.cluster_core.specs.Deciding.{chain_decision, decision_of, end_of}
use Rattle.cluster_core.specs.Works.{StandsFor}
use Rattle.cluster_core.specs.States.{Kept, Seen}
use Rattle.cluster_core.specs.declared.finished.Finished.{Finished}

-- a state of a run in which nothing is lost, with fewer misses and failures behind it than end the run
pub record IsRunning (setup : Setup) (c : PlainCluster) : Type 0 where
  pub fits : Fits setup
  pub attempts : 1 ≤ setup.schedule.attempts
  pub orderly : StaysOrderly setup c
  pub tallied : Tallied setup c

-- the decision on the round of the cluster
abbrev pub decision_in : Seen → Option EndWord
decision_in seen = decision_of seen.setup.shape seen.plain.round seen.kept.values

-- decisions by which the loop goes on in each round before this one
abbrev pub GoesOnUntil : ℕ → (ℕ → Option EndWord) → Type 0
GoesOnUntil round decisions = (i : ℕ) → i < round → decisions i ≡ None

-- such decisions, of which this is the one on the round
abbrev pub DecidesSo : ℕ → Option EndWord → (ℕ → Option EndWord) → Type 0
DecidesSo round decision decisions = GoesOnUntil round decisions × (decisions round ≡ decision)

-- such decisions, of which the one on the round of this state, if that is decided, is the one that the values of its tests make
abbrev pub DecidesAt : Seen → (ℕ → Option EndWord) → Type 0
DecidesAt seen decisions = GoesOnUntil seen.plain.round decisions × (is_decided seen.setup seen.plain ≡ true → decisions seen.plain.round ≡ decision_in seen)

-- where functions and tables fit and the state is right, its chain goes on until the round, and on a round that is decided the chain
-- decides as the values of its tests do
abbrev pub IsOfChain : Seen → Type 0
IsOfChain seen = (w : World) (told : Option DiskTold) → w.shape ≡ seen.setup.shape → WorldFits w → StandsFor w seen.kept told → DecidesAt seen (chain_decision w)

-- what advance comes to: the run goes on, or is finished
abbrev pub advanced_to : Option Finished → PlainCluster → Advanced
advanced_to None c = goes_on c
advanced_to (Some it) c = finished c it.end

-- what a turn comes to: it acted, or the run is finished
abbrev pub turned_to : Option Finished → PlainCluster → Turned
turned_to None c = acted c
turned_to (Some it) c = ends c it.end

-- the parts are read
abbrev pub parts_read : PlainCluster → Option (List (List Record)) → EndWord → Advanced
parts_read c None end = goes_on c
parts_read c (Some parts) end = finished (noted (End end c.round ∷ []) c) end

-- advance, where the round is decided so
abbrev pub advance_by : Setup → Option EndWord → PlainCluster → Plan Advanced
advance_by setup decision c = decide setup decision c >>= (λ it. gives (pass it))

-- what is right after advance or a turn, where it was before: the state; and of a run that is finished, the end of the chain and
-- its parts
abbrev pub IsRight : World → Option DiskTold → Kept → Option Finished → Type 0
IsRight w told kept None = StandsFor w kept told
IsRight w told kept (Some it) = StandsFor w kept told × Ends w.means w.shape w.tables it.rounds (end_of it.end) × (it.parts ≡ last_out w.means w.shape w.tables it.rounds)

-- functions and tables fit the shape, the disks tell and show their damage, and the state is right
pub record Rightly (w : World) (shape : Shape) (shows : Type 0) (told : Option DiskTold) (kept : Kept) : Type 0 where
  pub shape_is : w.shape ≡ shape
  pub fits : WorldFits w
  pub shown : shows
  pub told_is : IsSome told
  pub stands : StandsFor w kept told

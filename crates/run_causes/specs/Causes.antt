-- What the refusal of a run shows of its schedule alone, and when a run is never refused.
use Rattle.std.specs.Prelude.{◌≡◌, ◌⊎◌, ℕ, ◌≤◌, ◌<◌, List, [], Option, length, map, slice_index}
use Rattle.node_names.specs.declared.name.Name.{Name}
use Rattle.node_names.specs.declared.name.Name.TheVariants.{Blk, Mic, Out, Ric, Roc, Spill}
use Rattle.node_names.specs.declared.task.Task.{Task}
use Rattle.counter_report.specs.declared.journal.EndWord.{EndWord}
use Rattle.counter_report.specs.declared.journal.Entry.{Entry}
use Rattle.counter_report.specs.declared.journal.Entry.TheVariants as line
use Rattle.run_model.specs.Lists.{IsIn, below, number_of}
use Rattle.run_model.specs.Plans.{BlockLost, Leaves, Made, Misses, NoNode, Refusal, TaskFailed, refuses}
use Rattle.run_model.specs.Reading.{misses}
use Rattle.run_model.specs.Runs.{loaded, node_of, turns}
use Rattle.run_model.specs.State.{PlainCluster, Setup}
use Rattle.run_laws.specs.States.{Fits}
use Rattle.run_laws.specs.Telling.{fails_at}
use Rattle.run_causes.specs.Fates.{Fates, fates, is_fail, is_whole, lost_nodes}

-- the nodes that the copies of a block are put on, by copy
abbrev pub block_nodes : Setup → ℕ → ℕ → List ℕ
block_nodes setup t b = map (λ k. node_of t b k setup.schedule.nodes) (below setup.schedule.copies)

-- ---- causes

-- as many lines tell that the task failed as end a run, and the schedule has no fewer `fail` events
pub record FailedTooOften (setup : Setup) (c : PlainCluster) (task : Task) : Type 0 where
  pub told : number_of (fails_at task) c.journal ≡ setup.schedule.attempts
  pub scheduled : setup.schedule.attempts ≤ number_of is_fail setup.schedule.events

-- the schedule is spent, and all nodes are down after it
pub record AllDown (setup : Setup) (c : PlainCluster) : Type 0 where
  pub spent : c.events ≡ []
  pub down : (n : ℕ) → n < setup.schedule.nodes → IsIn n (fates setup.schedule.events).down

-- a copy of a block is of no use after these events: its node is down, or it was wiped, or there is a line that the copy was
-- struck
abbrev pub IsGone : Fates → List Entry → ℕ → ℕ → ℕ → Type 0
IsGone f journal t b n = IsIn n f.down ⊎ IsIn n f.wiped ⊎ IsIn (line.Struck (Blk t b) n) journal

-- the schedule is spent, and no copy of this block of the shape is of use after it: those of its nodes that are up and were
-- never wiped are no more than the misses
pub record CopiesGone (setup : Setup) (c : PlainCluster) (t b : ℕ) : Type 0 where
  pub spent : c.events ≡ []
  pub in_shape : b < slice_index setup.shape.blocks t
  pub gone : (k : ℕ) → k < setup.schedule.copies → IsGone (fates setup.schedule.events) c.journal t b (node_of t b k setup.schedule.nodes)
  pub few : number_of (is_whole (fates setup.schedule.events)) (block_nodes setup t b) ≤ misses c

-- the file is a block, and its copies are gone
abbrev pub BlockGone : Setup → PlainCluster → Name → Type 0
BlockGone setup c (Blk t b) = CopiesGone setup c t b
BlockGone setup c (Spill i j s q) = ⊥
BlockGone setup c (Out i j p) = ⊥
BlockGone setup c (Ric j s p) = ⊥
BlockGone setup c (Mic t b) = ⊥
BlockGone setup c (Roc i p) = ⊥

-- what a refusal shows, in the state that it leaves
abbrev pub Shown : Setup → PlainCluster → Refusal → Type 0
Shown setup c (TaskFailed task) = FailedTooOften setup c task
Shown setup c NoNode = AllDown setup c
Shown setup c (BlockLost block) = BlockGone setup c block
Shown setup c Misses = misses c ≡ 1000

-- each refusal of a run shows this, whichever reads missed
abbrev pub RefusalsShow : Type 0
RefusalsShow =
    (setup : Setup) (decisions : ℕ → Option EndWord) (n : ℕ) (made : List Made) (c : PlainCluster) (why : Refusal)
    → Fits setup → setup.schedule.copies ≤ setup.schedule.nodes
    → Leaves (turns n setup decisions (loaded setup)) made (refuses c why) → Shown setup c why

-- ---- completeness

-- fewer nodes are lost than a block has copies, no more copies are put than there are nodes, and fewer failures are scheduled
-- than end a run
pub record LosesLittle (setup : Setup) : Type 0 where
  pub few_lost : length (lost_nodes setup.schedule.events) < setup.schedule.copies
  pub spread : setup.schedule.copies ≤ setup.schedule.nodes
  pub few_fail : number_of is_fail setup.schedule.events < setup.schedule.attempts

-- then no run is refused in which no read missed
abbrev pub NeverRefused : Type 0
NeverRefused =
    (setup : Setup) (decisions : ℕ → Option EndWord) (n : ℕ) (made : List Made) (c : PlainCluster) (why : Refusal)
    → Fits setup → LosesLittle setup → misses c ≡ 0
    → Leaves (turns n setup decisions (loaded setup)) made (refuses c why) → ⊥

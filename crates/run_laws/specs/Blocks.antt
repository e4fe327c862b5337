-- What becomes of the copies of blocks.
use Rattle.std.specs.Prelude.{◌≡◌, ◌⊎◌, ℕ, true, Option}
use Rattle.node_names.specs.declared.name.Name.TheVariants.{Blk}
use Rattle.counter_report.specs.declared.journal.EndWord.{EndWord}
use Rattle.counter_report.specs.declared.journal.Entry.TheVariants as line
use Rattle.run_model.specs.Lists.{IsIn}
use Rattle.run_model.specs.PlanLaws.{Always}
use Rattle.run_model.specs.Runs.{state_of}
use Rattle.run_model.specs.State.{PlainCluster, Setup, holds}
use Rattle.run_model.specs.Turns.{turn}

-- the node holds the block, or there is a line that the copy was struck, or that the node was wiped
abbrev pub BlockKept : ℕ → ℕ → ℕ → PlainCluster → Type 0
BlockKept t b n c = (holds c.copies n (Blk t b) ≡ true) ⊎ IsIn (line.Struck (Blk t b) n) c.journal ⊎ IsIn (line.Wipe n) c.journal

-- however a turn goes, a copy of a block goes by a miss or a wipe alone, each with its line
abbrev pub BlockCopiesKeep : Type 0
BlockCopiesKeep =
    (setup : Setup) (decision : Option EndWord) (t b n : ℕ) (c : PlainCluster)
    → BlockKept t b n c → Always (λ turned. BlockKept t b n (state_of turned)) (BlockKept t b n) (turn setup decision c)

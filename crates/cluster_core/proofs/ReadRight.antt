-- An attempt that read texts of values makes what is right.
use Rattle.std.proofs.Common.{List, Option, subst}
use Rattle.hal_base.specs.Meaning.{Meaning}
use Rattle.hal_base.specs.declared.record.Record.{Record}
use Rattle.hal_outside.specs.DiskTold.{DiskTold}
use Rattle.name_values.specs.Values.{World}
use Rattle.replica_table.specs.Copies.{Copy}
use Rattle.run_laws.specs.States.{IsNow}
use Rattle.run_model.specs.declared.attempt.Attempt.{Attempt}
use Rattle.valid_copies.specs.Stands.{Stands}
use Rattle.valid_copies.specs.declared.inputs.ReadCounts.{ReadCounts}
use Rattle.cluster_core.proofs.Making.{made_right}
use Rattle.cluster_core.specs.Finishing.{CanFinish, HasRead}
use Rattle.cluster_core.specs.Outputs.{IsMade, IsRightOutput}
use Rattle.cluster_core.specs.States.{Kept, Seen}
use Rattle.cluster_core.specs.Works.{StandsFor, StaysRight, world_of}
use Rattle.cluster_core.specs.declared.output.Output.{Output}

pub read_right : (m : Meaning) (seen : Seen) (a : Attempt) (shows : Type 0) (before between after : Option DiskTold) (counts : ReadCounts) (lists : List (List (List Record))) (new : Kept)
    → CanFinish seen.setup a → IsNow seen.kept.round a.task → HasRead seen a shows before between counts lists → ((w : World) (copies : List Copy) → Stands w copies before → Stands w copies between)
    → ((w : World) → ((output : Output) → IsMade m seen.setup.shape a.task lists output → IsRightOutput w seen.kept.round output) → StandsFor w seen.kept between → StandsFor w new after)
    → StaysRight m seen.setup shows before after seen.kept new
read_right m seen a shows before between after counts lists new can now read valid right = λ tables fits s told stands.
    right (world_of m seen.setup tables)
    (λ output made. made_right (world_of m seen.setup tables) fits can.caches seen.kept.table a.node before stands.copies a.task can.task seen.kept.round now read.reads read.each (read.texts s told (world_of m seen.setup tables) stands.copies) output (subst (λ ls. IsMade m seen.setup.shape a.task ls output) read.rows made))
    (record { reached = stands.reached; copies = valid (world_of m seen.setup tables) seen.kept.table.copies stands.copies; values = stands.values })

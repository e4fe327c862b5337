use Rattle.std.proofs.Common.{refl, sym, subst}
use Rattle.hal_base.specs.declared.record.Record.{Record}
use Rattle.std.proofs.Common.{List}
use Rattle.node_names.specs.declared.name.Name.TheVariants.{Out, Spill}
use Rattle.partition_shuffle.specs.SpillTexts.{IsSpill}
use Rattle.sorted_parts.specs.Spills.{spilled}
use Rattle.cluster_core.specs.Outputs.{IsMade}
use Rattle.cluster_core.specs.declared.output.Output.TheVariants.{File}
use Rattle.cluster_core.proofs.output.output_of.Goals as goal

pub returns-in_ok-bytes-in-Map : goal.returns-in_ok-bytes-in-Map
returns-in_ok-bytes-in-Map g c =
    subst (λ task. IsMade (g.F.Functions.meaning c.args.functions.now) c.args.shape.now task c.args.inputs.items (File (Spill c.in-Map.round c.in-Map.step c.in-Map.source c.in-Map.split) c.in_ok-bytes-in-Map.bytes)) (sym c.in-Map.is)
    (refl, λ rows e it there. subst (λ (rs : List Record). IsSpill it.stream c.in_ok-bytes-in-Map.bytes.items (spilled (g.F.Functions.meaning c.args.functions.now) c.in-Map.round c.in-Map.step c.in-Map.source rs c.args.shape.now.parts)) (c.only_rows-rows.ensures rows e) (c.in_ok-bytes-in-Map.ensures it there))

pub returns-in_ok-bytes-in-Reduce : goal.returns-in_ok-bytes-in-Reduce
returns-in_ok-bytes-in-Reduce g c =
    subst (λ task. IsMade (g.F.Functions.meaning c.args.functions.now) c.args.shape.now task c.args.inputs.items (File (Out c.in-Reduce.round c.in-Reduce.step c.in-Reduce.part) c.in_ok-bytes-in-Reduce.bytes)) (sym c.in-Reduce.is)
    (refl, c.in_ok-bytes-in-Reduce.ensures)

use Rattle.std.proofs.Common.{ap, sym, ◌∙◌}
use Rattle.node_names.specs.declared.name.Name.TheVariants.{Out}
use Rattle.run_model.specs.Needs.{is_up}
use Rattle.run_model.specs.State.{bare}
use Rattle.run_model.specs.Tasks.{last}
use Rattle.cluster_core.proofs.Places.{outs_fail, outs_pass}
use Rattle.cluster_core.proofs.tables.parts_are_up.Goals as goal

pub returns-then-not-part_is_up : goal.returns-then-not-part_is_up
returns-then-not-part_is_up c =
    let fails = ap (λ j. is_up (bare c.args.table.now.copies) c.args.table.now.up (Out c.args.round j c.parts.part)) (sym c.last_step-step.ensures) ∙ sym c.part_is_up.ensures ∙ c.if-not-part_is_up.true in
    sym (outs_fail c.args.table.now c.args.round (last c.args.shape.now) c.parts.part c.args.shape.now.parts c.parts-test.true fails) ∙ c.parts.invariant

pub parts-preserved : goal.parts-preserved
parts-preserved c =
    let passes = ap (λ j. is_up (bare c.args.table.now.copies) c.args.table.now.up (Out c.args.round j c.parts.part)) (sym c.last_step-step.ensures) ∙ sym c.part_is_up.ensures ∙ c.if-not-part_is_up.false in
    sym (outs_pass c.args.table.now c.args.round (last c.args.shape.now) c.parts.part c.args.shape.now.parts c.parts-test.true passes) ∙ c.parts.invariant

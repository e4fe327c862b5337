use Rattle.std.proofs.Common.{sym, ap, ◌∙◌}
use Rattle.run_model.specs.Needs.{is_there}
use Rattle.loop_scheduler.proofs.Ranges.{testing_more, testing_stops}
use Rattle.cache_rebuild.specs.steps.Files.{name_of}
use Rattle.cache_rebuild.proofs.starts.are_there.Goals as goal

pub returns-then-not-is_there : goal.returns-then-not-is_there
returns-then-not-is_there c =
    let there = is_there c.args.view.now.copies c.args.view.now.up c.args.node in
    testing_stops there (name_of c.args.files.now) c.files.number c.count-number-end.result _ c.files-test.true (ap there (sym c.name.ensures) ∙ sym c.is_there.ensures ∙ c.if-not-is_there.true) c.files.invariant

pub files-preserved : goal.files-preserved
files-preserved c =
    let there = is_there c.args.view.now.copies c.args.view.now.up c.args.node in
    testing_more there (name_of c.args.files.now) c.files.number c.count-number-end.result _ c.files-test.true (ap there (sym c.name.ensures) ∙ sym c.is_there.ensures ∙ c.if-not-is_there.false) c.files.invariant

use Rattle.std.proofs.Common.{ap, ◌∙◌}
use Rattle.run_model.specs.Needs.{is_there, needs}
use Rattle.run_model.specs.Wanted.{ready_at}
use Rattle.cache_rebuild.proofs.Inputs.{none_missing}
use Rattle.cache_rebuild.proofs.starts.ready.Goals as goal

pub returns-in-Some : goal.returns-in-Some
returns-in-Some c =
    let view = c.args.view.now in
    c.has_needs.ensures
    ∙ none_missing (is_there view.copies view.up c.in-Some.node) (needs view.shape view.copies c.in-Some.node c.args.task.now)
    ∙ ap (ready_at view c.args.task.now) c.in-Some.ensures.place

use Rattle.std.proofs.Common.{sym, ap, ◌∙◌}
use Rattle.node_names.specs.declared.task.Task.TheVariants.{Reduce, Test}
use Rattle.run_model.specs.Sites.{favoured, site}
use Rattle.loop_scheduler.specs.steps.Choosing.{first_in_most, or_in_turn}
use Rattle.loop_scheduler.proofs.Held.{favourite_found}
use Rattle.loop_scheduler.proofs.placement.chosen.Goals as goal

pub returns-in-Reduce : goal.returns-in-Reduce
returns-in-Reduce c =
    c.most_favoured.ensures
    ∙ (λ i. or_in_turn (first_in_most (c.cache_holders.ensures i) (c.idle-in-Reduce.ensures.nodes i)) c.in-Reduce.part (c.idle-in-Reduce.ensures.nodes i))
    ∙ favourite_found c.args.view.now (favoured c.args.view.now.shape (Reduce c.in-Reduce.round c.in-Reduce.step c.in-Reduce.part)) c.in-Reduce.part c.args.view.now.idle c.idle-in-Reduce.ensures.up
    ∙ ap (site c.args.view.now) (sym c.in-Reduce.is)

pub returns-in-Test : goal.returns-in-Test
returns-in-Test c =
    c.most_favoured-in-Test.ensures
    ∙ (λ i. or_in_turn (first_in_most (c.test_holders.ensures i) (c.idle-in-Test.ensures.nodes i)) c.in-Test.part (c.idle-in-Test.ensures.nodes i))
    ∙ favourite_found c.args.view.now (favoured c.args.view.now.shape (Test c.in-Test.round c.in-Test.part)) c.in-Test.part c.args.view.now.idle c.idle-in-Test.ensures.up
    ∙ ap (site c.args.view.now) (sym c.in-Test.is)

use Rattle.std.proofs.Common.{◌≡◌, ◌↔◌, sym, subst}
use Rattle.std.proofs.lemmas.Result.{IfOk-weaker}
use Rattle.node_names.specs.declared.task.Task.{Task}
use Rattle.run_model.specs.Lists.{IsIn}
use Rattle.run_model.specs.Wanted.{IsWanted, wanted}
use Rattle.run_laws.proofs.Orders.{the_walk_is_right}
use Rattle.cache_rebuild.specs.Goals.{plain_goal}
use Rattle.cache_rebuild.proofs.wanting.wanted.Goals as goal

pub returns-clause-least : goal.returns-clause-least
returns-clause-least c =
    let view = c.args.view.now in
    let goal = plain_goal c.args.goal.now in
    IfOk-weaker c.walk_rounds.result (λ tasks. tasks ≡ wanted view goal) (λ tasks. (task : Task) → IsIn task tasks ↔ IsWanted view goal task)
    (λ tasks same task.
    let right = the_walk_is_right view goal c.shape-shape.ensures.counted.well_formed c.requires task in
    (λ i. right.found_is_wanted (subst (IsIn task) same i), λ w. subst (IsIn task) (sym same) (right.wanted_is_found w)))
    c.walk_rounds.ensures

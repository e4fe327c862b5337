use Rattle.cache_rebuild.specs.Goals.{plain_goal}
use Rattle.cache_rebuild.proofs.Steps.{begun}
use Rattle.cache_rebuild.proofs.walk.Walk.begin.Goals as goal

pub returns : goal.returns
returns c = begun c.args.view.now (plain_goal c.args.goal.now) (record { found = c.new.result; asked = c.in_ok-of_goal.field-0 }) c.new.ensures.items c.in_ok-of_goal.ensures

use Rattle.run_laws.proofs.Orders.{the_walk_is_right}
use Rattle.run_laws.proofs.wanting.the_walk_is_right.Goals as goal

pub returns : goal.returns
returns c = the_walk_is_right

use Rattle.run_laws.proofs.Listing.{tasks_are}
use Rattle.run_laws.proofs.rounds.tasks_are_of_the_shape.Goals as goal

pub returns : goal.returns
returns c = tasks_are

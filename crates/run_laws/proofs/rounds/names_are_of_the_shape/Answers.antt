use Rattle.run_laws.proofs.Listing.{names_are}
use Rattle.run_laws.proofs.rounds.names_are_of_the_shape.Goals as goal

pub returns : goal.returns
returns c = names_are

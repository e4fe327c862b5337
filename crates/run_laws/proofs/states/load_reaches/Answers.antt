use Rattle.run_laws.proofs.Loading.{load_is_reached}
use Rattle.run_laws.proofs.states.load_reaches.Goals as goal

pub returns : goal.returns
returns c = load_is_reached

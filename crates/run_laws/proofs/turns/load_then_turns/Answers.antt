use Rattle.run_laws.proofs.Following.{load_then_turns}
use Rattle.run_laws.proofs.turns.load_then_turns.Goals as goal

pub returns : goal.returns
returns c = load_then_turns

use Rattle.function_meaning.proofs.NeverStopping.{typed_functions_never_stop}
use Rattle.function_meaning.proofs.laws.typed_functions_never_stop.Goals as goal

pub returns : goal.returns
returns c = typed_functions_never_stop

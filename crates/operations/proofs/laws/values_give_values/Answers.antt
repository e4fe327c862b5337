use Rattle.operations.proofs.GivenValues.{applied_values}
use Rattle.operations.proofs.laws.values_give_values.Goals as goal

pub returns : goal.returns
returns c = applied_values

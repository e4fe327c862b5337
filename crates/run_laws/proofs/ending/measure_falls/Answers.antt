use Rattle.run_laws.proofs.Falling.{measure_falls}
use Rattle.run_laws.proofs.ending.measure_falls.Goals as goal

pub returns : goal.returns
returns c = measure_falls

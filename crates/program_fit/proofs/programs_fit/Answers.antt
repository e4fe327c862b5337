use Rattle.program_fit.proofs.Fitting.{programs_fit}
use Rattle.program_fit.proofs.programs_fit.Goals as goal

pub returns : goal.returns
returns c = programs_fit

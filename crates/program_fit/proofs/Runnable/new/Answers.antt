use Rattle.program_fit.proofs.Fitting.{programs_fit}
use Rattle.program_fit.proofs.Runnable.new.Goals as goal

pub returns-clause-fits : goal.returns-clause-fits
returns-clause-fits c = programs_fit _ c.program.invariant

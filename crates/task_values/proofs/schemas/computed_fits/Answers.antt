use Rattle.task_values.proofs.Fitting as law
use Rattle.task_values.proofs.schemas.computed_fits.Goals as goal

pub returns-clause-maps : goal.returns-clause-maps
returns-clause-maps c = law.maps_fit

pub returns-clause-reduces : goal.returns-clause-reduces
returns-clause-reduces c = law.reduces_fit

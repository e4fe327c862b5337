use Rattle.task_values.proofs.Testing as law
use Rattle.task_values.proofs.tests.tests_make_the_distance.Goals as goal

pub returns-clause-each : goal.returns-clause-each
returns-clause-each c = law.tests_made

pub returns-clause-sum : goal.returns-clause-sum
returns-clause-sum c = law.tests_make

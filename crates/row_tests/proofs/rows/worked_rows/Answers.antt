use Rattle.row_tests.proofs.Computed.{computed}
use Rattle.row_tests.proofs.rows.worked_rows.Goals as goal

pub returns : goal.returns
returns c = computed

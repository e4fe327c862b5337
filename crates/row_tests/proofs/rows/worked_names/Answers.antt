use Rattle.std.proofs.Common.{refl}
use Rattle.row_tests.proofs.rows.worked_names.Goals as goal

pub returns : goal.returns
returns c = record { second_link = refl; no_third_link = refl; first_state = refl; first_link = refl; later_state = refl; step_before = refl; no_hop = refl; one_hop = refl; last_part = refl; cached_links = refl; cached_start = refl; cached_output = refl; no_such_table = refl }

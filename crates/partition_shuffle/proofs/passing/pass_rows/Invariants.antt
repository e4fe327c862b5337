use Rattle.std.proofs.Common.{◌≡◌, None}
use Rattle.partition_shuffle.specs.steps.Sections.{passed}
use Rattle.partition_shuffle.proofs.passing.pass_rows.Given as goal

abbrev pub invariant-rows : goal.invariant-rows
invariant-rows l = passed l.schema l.before l.left l.cursor ≡ passed l.initial.schema None l.count l.initial.cursor

abbrev pub decreases-rows : goal.decreases-rows
decreases-rows l = l.left

use Rattle.std.proofs.Common.{◌≡◌, length}
use Rattle.loop_program.specs.Schemas as spec
use Rattle.loop_program.proofs.schemas.are_streams.Given as goal

abbrev pub invariant-streams : goal.invariant-streams
invariant-streams l = spec.are_streams l.key l.streams l.sources ≡ spec.are_streams l.key l.left l.found

abbrev pub decreases-streams : goal.decreases-streams
decreases-streams l = length l.left

use Rattle.std.proofs.Common.{◌≡◌, [], drop}
use Rattle.type_checker.specs.Functions.{streams_beside}
use Rattle.type_checker.proofs.function.known_streams.Given as goal

abbrev pub invariant-streams : goal.invariant-streams
invariant-streams l = streams_beside l.number l.scope l.known (drop l.stream-index l.streams) ≡ streams_beside l.number l.scope [] l.streams

use Rattle.std.proofs.Common.{◌≡◌, map, take}
use Rattle.loop_program.specs.declared.places.NamedSource.{NamedSource}
use Rattle.loop_program.proofs.reading.step_uses.Given as goal

abbrev pub invariant-sources : goal.invariant-sources
invariant-sources l = l.maps ≡ map (λ (source : NamedSource). source.map.what) (take l.source-index l.source-items)

use Rattle.std.proofs.Common.{◌≡◌, ◌++◌, drop}
use Rattle.std.specs.List.{flat_map}
use Rattle.cache_conditions.specs.Texts.{line_of, source_words}
use Rattle.cache_conditions.proofs.text.check_text.Given as goal

abbrev pub invariant-sources : goal.invariant-sources
invariant-sources l = l.text.items ++ flat_map (λ source. line_of (source_words source)) (drop l.source-index l.source-items) ≡ flat_map (λ source. line_of (source_words source)) l.source-items

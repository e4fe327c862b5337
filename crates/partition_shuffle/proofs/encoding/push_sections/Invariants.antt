use Rattle.std.proofs.Common.{◌≡◌, ◌++◌, take, drop}
use Rattle.std.specs.List.{AllByRecursion, flat_map}
use Rattle.partition_shuffle.specs.SpillTexts.{section_text}
use Rattle.partition_shuffle.specs.steps.Lengths.{IsShort}
use Rattle.partition_shuffle.proofs.encoding.push_sections.Given as goal

abbrev pub invariant-parts : goal.invariant-parts
invariant-parts l = (l.out.items ++ flat_map (section_text l.schema) (drop l.rows-index l.rows-items) ≡ l.initial.out.items ++ flat_map (section_text l.schema) l.rows-items) × AllByRecursion (IsShort l.schema) (take l.rows-index l.rows-items)

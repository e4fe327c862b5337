use Rattle.std.proofs.Common.{◌≡◌}
use Rattle.record_blocks.specs.steps.Decoders.{many}
use Rattle.partition_shuffle.specs.steps.Sections.{behind, section}
use Rattle.partition_shuffle.proofs.passing.pass_sections.Given as goal

abbrev pub invariant-sections : goal.invariant-sections
invariant-sections l = behind (many (section l.schema) l.left l.cursor) ≡ behind (many (section l.initial.schema) l.count l.initial.cursor)

abbrev pub decreases-sections : goal.decreases-sections
decreases-sections l = l.left

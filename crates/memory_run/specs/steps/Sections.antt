-- The steps of the chain in memory, for their contracts alone.
use Rattle.std.specs.Prelude.{◌==◌, ℕ, List, [], ◌∷◌, map, Option, None, Some}
use Rattle.hal_base.specs.declared.record.Record.{Record}
use Rattle.hal_base.specs.Meaning.{Meaning}
use Rattle.hal_base.specs.Order.{record_cmp}
use Rattle.hal_base.specs.Sorted.{sorted}
use Rattle.plain_job.specs.declared.ending.End.{End}
use Rattle.plain_job.specs.declared.ending.End.TheVariants as end
use Rattle.plain_job.specs.Laws.{part}
use Rattle.plain_job.specs.Chain.{numbers_from}
use Rattle.fixpoint_test.specs.declared.decision.Next.{Next}
use Rattle.fixpoint_test.specs.declared.decision.Next.TheVariants as next
use Rattle.memory_run.specs.declared.sections.Spill.{Spill}
use Rattle.memory_run.specs.declared.sections.Spill.TheVariants as spill
use Rattle.memory_run.specs.declared.streams.Stream.{Stream}
use Rattle.memory_run.specs.declared.streams.Stream.TheVariants as stream

-- the records that are left of a stream
abbrev pub rows_of : Stream → List Record
rows_of (stream.Own rows) = rows
rows_of (stream.Lent rows) = rows

-- the sections that are left of a spill
abbrev pub left_of : Spill → List (List Record)
left_of (spill.Own sections) = sections
left_of (spill.Lent sections) = sections

-- the first of some sections
abbrev pub first_section : List (List Record) → List Record
first_section [] = []
first_section (rows ∷ sections) = rows

-- the sections after the first
abbrev pub later_sections : List (List Record) → List (List Record)
later_sections [] = []
later_sections (rows ∷ sections) = sections

-- the sections of a stream of step j in round i, so many from part p on: the records of each part, sorted
abbrev pub sections : Meaning → ℕ → ℕ → ℕ → ℕ → List Record → List (List Record)
sections m i j p n rows = map (λ q. sorted record_cmp (part (λ key. m.partition i j key == q) rows)) (numbers_from p n)

-- the end that a decision stands for, unless there is another round
abbrev pub end_of : Next → Option End
end_of next.Again = None
end_of next.Fixpoint = Some end.Fixpoint
end_of next.Close = Some end.Close
end_of next.Limit = Some end.Limit

-- What a source's records leave for each part: the records that its map emits, sorted.
use Rattle.std.specs.Prelude.{ℕ, List, map}
use Rattle.hal_base.specs.declared.record.Record.{Record}
use Rattle.hal_base.specs.Meaning.{Meaning}
use Rattle.plain_job.specs.Chain.{numbers_from}
use Rattle.plain_job.specs.Sections.{source_section}

-- the section of each part of what the map of source s emits for these records in round i and step j
abbrev pub spilled : Meaning → ℕ → ℕ → ℕ → List Record → ℕ → List (List Record)
spilled m i j s rows parts = map (λ p. source_section m i j s p rows) (numbers_from 0 parts)

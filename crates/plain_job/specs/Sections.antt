-- What a step takes of its streams for each part: the records of the part, in order.
use Rattle.std.specs.Prelude.{◌≡◌, ◌==◌, ℕ, true, false, List, map}
use Rattle.hal_base.specs.declared.record.Record.{Record}
use Rattle.hal_base.specs.Meaning.{Meaning, RoundLaw}
use Rattle.hal_base.specs.Order.{record_cmp}
use Rattle.hal_base.specs.Sorted.{sorted}
use Rattle.plain_job.specs.Chain.{part_out, together}
use Rattle.plain_job.specs.Job.{job, stream}
use Rattle.plain_job.specs.Laws.{part}

-- section p of a stream of step j in round i: the records of part p, in order
abbrev pub section : Meaning → ℕ → ℕ → ℕ → List Record → List Record
section m i j p rows = sorted record_cmp (part (λ key. m.partition i j key == p) rows)

-- section p of what the map of source s emits for these records
abbrev pub source_section : Meaning → ℕ → ℕ → ℕ → ℕ → List Record → List Record
source_section m i j s p rows = section m i j p (stream (m.map i j s) rows)

-- the job over the sections of a part is the part of what the step emits
abbrev pub SectionsMakeThePart : Type 0
SectionsMakeThePart = (m : Meaning) (i j p : ℕ) (ss : List (List Record)) → job (m.reduce i j) (λ _. true) (map (section m i j p) ss) ≡ part_out m i j ss p

-- the sections of the splits of a source, made one, are the section of the source
abbrev pub SplitsMakeTheSection : Type 0
SplitsMakeTheSection = (m : Meaning) (i j s p : ℕ) (splits : List (List Record)) → sorted record_cmp (together (map (source_section m i j s p) splits)) ≡ source_section m i j s p (together splits)

-- where neither map nor partition uses the round, a source makes of the same records the same sections in each round
abbrev pub SectionsServeEachRound : Type 0
SectionsServeEachRound = (m : Meaning) → RoundLaw m → (i i' j s p : ℕ) (rows : List Record) → m.map_uses_round j s ≡ false → m.partition_uses_round j ≡ false → source_section m i j s p rows ≡ source_section m i' j s p rows

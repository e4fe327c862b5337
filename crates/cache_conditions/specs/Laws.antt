-- What the verdicts are for: what a cache keeps is what would be made anew.
use Rattle.std.specs.Prelude.{◌≡◌, ℕ, ◌≤◌, min, sum, true, List, Some}
use Rattle.hal_base.specs.declared.record.Record.{Record}
use Rattle.hal_base.specs.declared.shape.Source.{Source}
use Rattle.hal_base.specs.declared.value.Value.{Value}
use Rattle.hal_base.specs.Meaning.{Meaning}
use Rattle.hal_base.specs.Shapes.{source_at}
use Rattle.plain_job.specs.Chain.{last_out, source_list, stream_of, together}
use Rattle.plain_job.specs.Distances.{distance_by, part_distances}
use Rattle.plain_job.specs.Sections.{section}
use Rattle.function_meaning.specs.Meanings.{meaning_of}
use Rattle.loop_program.specs.Caches.{input_of, mapper_of, output_of}
use Rattle.loop_program.specs.Whole.{Whole}
use Rattle.loop_program.specs.declared.verdict.Verdict.TheVariants.{Applies}

-- what the functions of a program mean
abbrev pub meaning : Whole → Meaning
meaning program = meaning_of program.functions program.uses program.shape.parts

-- a source with the reducer input cache has in each round the same section for each part, whatever the tables
abbrev pub CachedSourcesStayTheSame : Type 0
CachedSourcesStayTheSame =
    (program : Whole) (tables : List (List Record)) (i i' j s p : ℕ) (source : Source)
    → source_at program.shape j s ≡ Some source → input_of program j s source.from ≡ Applies
    → section (meaning program) i j p (stream_of (meaning program) program.shape tables i j s) ≡ section (meaning program) i' j p (stream_of (meaning program) program.shape tables i' j s)

-- a source with the mapper input cache reads in each round the same records
abbrev pub MappedTablesStayTheSame : Type 0
MappedTablesStayTheSame =
    (program : Whole) (tables : List (List Record)) (i i' j s : ℕ) (source : Source)
    → source_at program.shape j s ≡ Some source → mapper_of program j s source.from ≡ true
    → source_list (meaning program) program.shape tables i j s ≡ source_list (meaning program) program.shape tables i' j s

-- with the reducer output cache the distances of the parts, which each compare a part with the same part of another round, make the distance of the rounds, up to the greatest number
abbrev pub LocalDistancesMakeTheDistance : Type 0
LocalDistancesMakeTheDistance =
    (program : Whole) (tables : List (List Record)) → output_of program ≡ Applies
    → (far : Value → List (List Value) → List (List Value) → ℕ) (i i' : ℕ) → 1 ≤ i → 1 ≤ i'
    → min (sum (part_distances far (last_out (meaning program) program.shape tables i) (last_out (meaning program) program.shape tables i'))) 9223372036854775807
    ≡ distance_by far (together (last_out (meaning program) program.shape tables i)) (together (last_out (meaning program) program.shape tables i'))

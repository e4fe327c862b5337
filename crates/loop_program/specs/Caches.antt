-- Which sources of a program have which cache, and whether its state has one; else the word that refuses it. Steps and sources count from 1.
use Rattle.std.specs.Prelude.{◌≡◌, ℕ, Bool, true, false, cond, not, ◌&&◌, List, [], ◌∷◌, None, Some, length}
use Rattle.hal_base.specs.declared.shape.Origin.{Origin}
use Rattle.hal_base.specs.declared.shape.Origin.TheVariants.{State, Prev, Table}
use Rattle.hal_base.specs.declared.shape.Shape.{Shape}
use Rattle.hal_base.specs.declared.shape.Source.{Source}
use Rattle.hal_base.specs.Shapes.{source_at}
use Rattle.function_language.specs.declared.tree.Function.{Function as Written}
use Rattle.program_sketch.specs.declared.sketch.Asked.{Asked}
use Rattle.type_checker.specs.Uses.{key_kept, map_at, partition_at, reduce_at, round_used}
use Rattle.type_checker.specs.declared.uses.Uses.{Uses}
use Rattle.loop_program.specs.Flags.{SourceFlags, flagged}
use Rattle.loop_program.specs.Whole.{Whole, whole_of}
use Rattle.loop_program.specs.declared.verdict.Verdict.{Verdict}
use Rattle.loop_program.specs.declared.verdict.Verdict.TheVariants.{Applies, NotInvariant, OneRoundOnly, UsesRound, PartitionUsesRound, EmitsOtherKey, NotAsked}

-- ---- what a word says

-- a source is the state, or the output of a step
abbrev pub is_remade : Origin → Bool
is_remade State = true
is_remade Prev = true
is_remade (Table t only) = false

-- a source is a table that is read in one round alone
abbrev pub is_of_one_round : Origin → Bool
is_of_one_round State = false
is_of_one_round Prev = false
is_of_one_round (Table t None) = false
is_of_one_round (Table t (Some round)) = true

-- a source is a table that is read in every round
abbrev pub is_table_of_each_round : Origin → Bool
is_table_of_each_round from = not (is_remade from) && not (is_of_one_round from)

-- the word `round` stands in the map of source s of step j
abbrev pub map_uses_round : List Written → Uses → ℕ → ℕ → Bool
map_uses_round functions uses j s = round_used functions (map_at uses j s)

-- it stands in the partition of step j
abbrev pub partition_uses_round : List Written → Uses → ℕ → Bool
partition_uses_round functions uses j = round_used functions (partition_at uses j)

-- the reduce of step j may emit at another key than the one that it is called for
abbrev pub emits_other_key : List Written → Uses → ℕ → Bool
emits_other_key functions uses j = not (key_kept functions (reduce_at uses j))

-- ---- verdicts

-- a word that refuses a cache, where it holds
pub record Word : Type 0 where
  pub says : Verdict
  pub holds : Bool

-- the first word that holds; where none does, the cache is had
abbrev pub first_word : List Word → Verdict
first_word [] = Applies
first_word (word ∷ words) = cond word.holds word.says (first_word words)

-- the cache is had
abbrev pub is_had : Verdict → Bool
is_had Applies = true
is_had NotInvariant = false
is_had OneRoundOnly = false
is_had UsesRound = false
is_had PartitionUsesRound = false
is_had EmitsOtherKey = false
is_had NotAsked = false

-- the words that refuse the reducer input cache to source s of step j, in their order
abbrev pub input_words : List Written → Uses → Asked → ℕ → ℕ → Origin → List Word
input_words functions uses asked j s from =
    record { says = NotInvariant; holds = is_remade from }
    ∷ record { says = OneRoundOnly; holds = is_of_one_round from }
    ∷ record { says = UsesRound; holds = map_uses_round functions uses j s }
    ∷ record { says = PartitionUsesRound; holds = partition_uses_round functions uses j }
    ∷ record { says = NotAsked; holds = not asked.reducer_input }
    ∷ []

-- the words that refuse the reducer output cache to the state, where the last step has this number
abbrev pub output_words : List Written → Uses → Asked → ℕ → List Word
output_words functions uses asked last =
    record { says = EmitsOtherKey; holds = emits_other_key functions uses last }
    ∷ record { says = PartitionUsesRound; holds = partition_uses_round functions uses last }
    ∷ record { says = NotAsked; holds = not asked.reducer_output }
    ∷ []

-- the verdict on the reducer input cache of source s of step j
abbrev pub input_verdict : List Written → Uses → Asked → ℕ → ℕ → Origin → Verdict
input_verdict functions uses asked j s from = first_word (input_words functions uses asked j s from)

-- the verdict on the reducer output cache of the state
abbrev pub output_verdict : List Written → Uses → Asked → ℕ → Verdict
output_verdict functions uses asked last = first_word (output_words functions uses asked last)

-- a source has the mapper input cache: the program asks for it, and the source is a table that is read in every round and has not the other cache
abbrev pub has_mapper_input : Asked → Origin → Verdict → Bool
has_mapper_input asked from input = asked.mapper_input && is_table_of_each_round from && not (is_had input)

-- ---- the verdicts on a program

-- on the reducer input cache of source s of step j
abbrev pub input_of : Whole → ℕ → ℕ → Origin → Verdict
input_of program j s from = input_verdict program.functions program.uses program.asked j s from

-- whether that source has the mapper input cache
abbrev pub mapper_of : Whole → ℕ → ℕ → Origin → Bool
mapper_of program j s from = has_mapper_input program.asked from (input_of program j s from)

-- on the reducer output cache of the state
abbrev pub output_of : Whole → Verdict
output_of program = output_verdict program.functions program.uses program.asked (length program.shape.steps)

-- the flags of the shape are the verdicts
pub record HasItsCaches (program : Whole) : Type 0 where
  -- a source has the reducer input cache where no word refuses it
  pub reducer_input : (j s : ℕ) (source : Source) → source_at program.shape j s ≡ Some source → source.reducer_input ≡ is_had (input_of program j s source.from)
  -- and the mapper input cache where this is so
  pub mapper_input : (j s : ℕ) (source : Source) → source_at program.shape j s ≡ Some source → source.mapper_input ≡ mapper_of program j s source.from
  -- the state has the reducer output cache where no word refuses it
  pub reducer_output : program.shape.reducer_output ≡ is_had (output_of program)

-- ---- a program with its caches

-- the flags of sources are the verdicts on them
abbrev pub verdict_flags : List Written → Uses → Asked → SourceFlags
verdict_flags functions uses asked = record {
  reducer_input = λ j s source. is_had (input_verdict functions uses asked j s source.from);
  mapper_input = λ j s source. has_mapper_input asked source.from (input_verdict functions uses asked j s source.from);
}

-- the shape of a program with the caches that it has
abbrev pub cached_shape : Whole → Shape
cached_shape program = flagged (verdict_flags program.functions program.uses program.asked) (is_had (output_of program)) program.shape

-- the program with that shape
abbrev pub cached : Whole → Whole
cached program = whole_of program.functions program.uses (cached_shape program) program.names program.files program.asked

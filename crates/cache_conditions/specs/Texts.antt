-- The text of the verdicts on a program.
use Rattle.std.specs.Prelude.{ℕ, Bool, cond, List, [], ◌∷◌, ◌++◌, codes, decimal}
use Rattle.std.specs.List.{flat_map, join_with_byte}
use Rattle.cache_conditions.specs.declared.verdict.SourceVerdict.{SourceVerdict}
use Rattle.loop_program.specs.declared.verdict.Verdict.{Verdict}
use Rattle.loop_program.specs.declared.verdict.Verdict.TheVariants.{Applies, NotInvariant, OneRoundOnly, UsesRound, PartitionUsesRound, EmitsOtherKey, NotAsked}
use Rattle.cache_conditions.specs.declared.verdict.Verdicts.{Verdicts}

-- the name of the cache where it is had, and else the word that refuses it
abbrev pub verdict_text : List ℕ → Verdict → List ℕ
verdict_text cache Applies = cache
verdict_text cache NotInvariant = codes "not-invariant"
verdict_text cache OneRoundOnly = codes "one-round-only"
verdict_text cache UsesRound = codes "uses-round"
verdict_text cache PartitionUsesRound = codes "partition-uses-round"
verdict_text cache EmitsOtherKey = codes "emits-other-key"
verdict_text cache NotAsked = codes "not-asked"

-- the name of the mapper input cache where it is had, and else a stroke
abbrev pub mapper_text : Bool → List ℕ
mapper_text mapper = cond mapper (codes "mapper-input") (codes "-")

-- the words of a source: its numbers, and its verdicts
abbrev pub source_words : SourceVerdict → List (List ℕ)
source_words it =
    codes "step" ∷ decimal it.step
    ∷ codes "source" ∷ decimal it.source
    ∷ verdict_text (codes "reducer-input") it.input
    ∷ mapper_text it.mapper
    ∷ []

-- the words of the state
abbrev pub state_words : Verdict → List (List ℕ)
state_words output = codes "state" ∷ verdict_text (codes "reducer-output") output ∷ []

-- words in a line, with one space between and LF at its end
abbrev pub line_of : List (List ℕ) → List ℕ
line_of words = join_with_byte 32 words ++ 10 ∷ []

-- the text: a line for each source, and one for the state
abbrev pub check_text : Verdicts → List ℕ
check_text it = flat_map (λ source. line_of (source_words source)) it.sources ++ line_of (state_words it.output)

-- A step is read up to its inputs, and then on from there.
use Rattle.std.proofs.Common.{List, Ok, Option, [], ap, codes, subst, ℕ, ◌∙◌, ◌≡◌}
use Rattle.program_tokens.specs.steps.Front.{sees}
use Rattle.program_tokens.specs.declared.token.Token.{Token}
use Rattle.program_tokens.specs.steps.Parsers.{Outcome, Parser, and_then, expect, pure, repeated, ◌>>=◌}
use Rattle.program_tokens.specs.declared.token.Ident.{Ident}
use Rattle.program_sketch.specs.steps.Reading.{ident_line, input, partition, step_rest}
use Rattle.program_sketch.specs.declared.sketch.InputSketch.{InputSketch}
use Rattle.program_sketch.specs.declared.sketch.StepSketch.{StepSketch}

-- how a step goes on behind its `}`
abbrev pub behind_brace : ℕ → Ident → List InputSketch → Ident → Option Ident → Unit {0} → Parser StepSketch
behind_brace line map inputs reduce parted _ = pure (record { line = line; map = map; inputs = inputs; reduce = reduce; partition = parted })

-- behind its partition
abbrev pub behind_partition : ℕ → Ident → List InputSketch → Ident → Option Ident → Parser StepSketch
behind_partition line map inputs reduce parted = expect (codes "}") >>= behind_brace line map inputs reduce parted

-- behind its `reduce`
abbrev pub behind_reduce : ℕ → Ident → List InputSketch → Ident → Parser StepSketch
behind_reduce line map inputs reduce = partition >>= behind_partition line map inputs reduce

-- and behind its inputs
abbrev pub behind_inputs : ℕ → Ident → List InputSketch → Parser StepSketch
behind_inputs line map inputs = ident_line (codes "reduce") >>= behind_reduce line map inputs

-- a step comes to what it does behind what its inputs came to
pub inputs_first : (line : ℕ) (ts mid : List Token) (map : Ident) (found : List InputSketch) (came : Outcome (List InputSketch)) → ident_line (codes "by") ts ≡ Ok (map, mid) → found ≡ []
    → repeated (sees (codes "table")) input found mid ≡ came → step_rest line ts ≡ and_then came (behind_inputs line map)
unfolding step_rest
inputs_first line ts mid map found came e none f =
    ap (λ o. and_then o (λ map. repeated (sees (codes "table")) input [] >>= behind_inputs line map)) e
    ∙ ap (λ o. and_then o (behind_inputs line map)) (subst (λ found. repeated (sees (codes "table")) input found mid ≡ came) none f)

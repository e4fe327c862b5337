use Rattle.std.proofs.Common.{ℕ, ◌+◌, List, codes, refl}
use Rattle.program_tokens.specs.steps.Lexing.{first_tokens, tokens_of}
use Rattle.program_tokens.specs.Tokens.{line_ends}
use Rattle.program_tokens.proofs.Lists.{tokens_are}
use Rattle.language_tests.proofs.vectors.key_part.Goals as goal

pub returns : goal.returns
unfolding tokens_of first_tokens
returns c =
    let text : List ℕ = codes "partition f(k: int) {\n  give(k); }" in
    record {
      tokens = tokens_of (1 + line_ends text) text;
      are = tokens_are text;
      stand = (refl, ((refl, refl, refl), (refl, ((refl, refl, refl), (refl, (refl, (refl, (refl, ((refl, refl), (refl, ((refl, refl, refl), (refl, (refl, (refl, (refl, tt)))))))))))))));
    }

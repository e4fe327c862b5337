use Rattle.std.proofs.Common.{codes}
use Rattle.program_tokens.specs.steps.Lexing.{first_tokens, tokens_of}
use Rattle.program_tokens.proofs.Lists.{tokens_are}
use Rattle.language_tests.proofs.vectors.small_text.Goals as goal

pub returns : goal.returns
unfolding tokens_of first_tokens
returns c = tokens_are (codes "a->b_1\n# b\n\"c\\\"\\\\\"")

-- What a `Tokens` shows, and what it keeps, for its model alone.
use Rattle.std.specs.Prelude.{◌+◌, ◌<◌, ◌^◌, List, ◌∷◌, length}
use Rattle.program_tokens.specs.declared.token.Token.{Token}
use Rattle.program_tokens.specs.declared.tokens.Tokens.TheInside.{Inside}
use Rattle.program_tokens.specs.steps.Lexing.{behind, tokens_of}
use Rattle.program_tokens.specs.Tokens.{line_ends}
use Rattle.program_tokens.specs.steps.Front.{AreSpelled}

-- the next token, and those of what is left
abbrev pub tokens_from : Inside → List Token
tokens_from t = t.next ∷ behind t.next.lexeme (tokens_of (t.text.line + line_ends t.text.left.now) t.text.left.now)

-- the lines that are left can be counted, and the tokens that are left can be spelled
pub record IsKept (t : Inside) : Type 0 where
  pub room : t.text.line + length t.text.left.now < 2 ^ 64
  pub spelled : AreSpelled (tokens_from t)

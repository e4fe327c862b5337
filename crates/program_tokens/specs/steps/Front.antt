-- What stands first among tokens, for the contracts of readers alone.
use Rattle.std.specs.Prelude.{◌≡◌, ℕ, Bool, true, false, cond, List, [], ◌∷◌, Option, None, Some}
use Rattle.std.specs.List.{AllByRecursion}
use Rattle.std.specs.Str.{bytes_eq}
use Rattle.program_tokens.specs.declared.token.Lexeme.{Lexeme}
use Rattle.program_tokens.specs.declared.token.Lexeme.TheVariants.{Plain, Int, Quoted, Bad, End}
use Rattle.program_tokens.specs.declared.token.Token.{Token}
use Rattle.program_tokens.specs.Tokens.{IsSpelled}
use Rattle.program_tokens.specs.Words.{is_name}

-- the tokens behind the first
abbrev pub later : List Token → List Token
later [] = []
later (token ∷ tokens) = tokens

-- the line of the first token
abbrev pub line_of : List Token → ℕ
line_of [] = 0
line_of (token ∷ tokens) = token.line

-- a token is this word or mark
abbrev pub is_plain : List ℕ → Lexeme → Bool
is_plain word (Plain other) = bytes_eq other word
is_plain word (Int n) = false
is_plain word (Quoted text) = false
is_plain word Bad = false
is_plain word End = false

-- the first token is this word or mark
abbrev pub sees : List ℕ → List Token → Bool
sees word [] = false
sees word (token ∷ tokens) = is_plain word token.lexeme

-- a token is the end
abbrev pub is_end : Lexeme → Bool
is_end (Plain word) = false
is_end (Int n) = false
is_end (Quoted text) = false
is_end Bad = false
is_end End = true

-- the name that a token is
abbrev pub name_in : Lexeme → Option (List ℕ)
name_in (Plain word) = cond (is_name word) (Some word) None
name_in (Int n) = None
name_in (Quoted text) = None
name_in Bad = None
name_in End = None

-- the first token is the end
abbrev pub at_end : List Token → Bool
at_end [] = false
at_end (token ∷ tokens) = is_end token.lexeme

-- a token is neither the end nor what is no token
abbrev pub is_spelled : Lexeme → Bool
is_spelled (Plain word) = true
is_spelled (Int n) = true
is_spelled (Quoted text) = true
is_spelled Bad = false
is_spelled End = false

-- each of the tokens can be spelled, unless it is the end or what is no token
abbrev pub AreSpelled : List Token → Type 0
AreSpelled tokens = AllByRecursion (λ (token : Token). is_spelled token.lexeme ≡ true → IsSpelled token.lexeme) tokens

-- the first token is neither the end nor what is no token
abbrev pub goes_on : List Token → Bool
goes_on [] = false
goes_on (token ∷ tokens) = is_spelled token.lexeme

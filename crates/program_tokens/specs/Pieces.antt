-- What stands at the places of a program's text.
use Rattle.std.specs.Prelude.{◌≡◌, ℕ, true, false, List, [], ◌∷◌, ◌++◌, map, codes}
use Rattle.std.specs.Int.{is_negative}
use Rattle.hal_base.specs.declared.value.Kind.{Kind}
use Rattle.hal_base.specs.declared.value.Kind.TheVariants as a_kind
use Rattle.hal_base.specs.declared.value.Value.TheVariants as a_value
use Rattle.hal_base.specs.Values.{IsValue}
use Rattle.program_tokens.specs.declared.token.Lexeme.{Lexeme}
use Rattle.program_tokens.specs.declared.token.Lexeme.TheVariants as lexeme
use Rattle.program_tokens.specs.declared.token.Token.{Token}
use Rattle.program_tokens.specs.Words.{is_name}
use Rattle.program_tokens.specs.declared.token.Ident.{Ident}
use Rattle.program_tokens.specs.declared.token.Number.{Number}

-- a place: a word or a mark, in any line or in this one; a name; a number; one that is not negative; a text; the end; what no token is
pub data Piece : Type 0 where
  plain : List ℕ → Piece
  placed : List ℕ → ℕ → Piece
  name : Ident → Piece
  int : Number → Piece
  natural : Number → Piece
  quoted : List ℕ → ℕ → Piece
  end : Piece
  nothing : Piece

-- the token may stand at the place
abbrev pub Fits : Piece → Token → Type 0
Fits (plain word) token = token.lexeme ≡ lexeme.Plain word
Fits (placed word line) token = (token.lexeme ≡ lexeme.Plain word) × (token.line ≡ line)
Fits (name ident) token = (token.lexeme ≡ lexeme.Plain ident.text) × (token.line ≡ ident.line) × (is_name ident.text ≡ true)
Fits (int number) token = (token.lexeme ≡ lexeme.Int number.value) × (token.line ≡ number.line)
Fits (natural number) token = (token.lexeme ≡ lexeme.Int number.value) × (token.line ≡ number.line) × (is_negative number.value ≡ false)
Fits (quoted text line) token = (token.lexeme ≡ lexeme.Quoted text) × (token.line ≡ line)
Fits end token = token.lexeme ≡ lexeme.End
Fits nothing token = ⊥

-- the tokens may stand at the places, one at each
abbrev pub Stand : List Piece → List Token → Type 0
Stand [] [] = Unit {0}
Stand [] (token ∷ tokens) = ⊥
Stand (piece ∷ pieces) [] = ⊥
Stand (piece ∷ pieces) (token ∷ tokens) = Fits piece token × Stand pieces tokens

-- a place at which a token may stand: its name can be one, and its number or text is a value
abbrev pub IsPlace : Piece → Type 0
IsPlace (plain word) = Unit {0}
IsPlace (placed word line) = Unit {0}
IsPlace (name ident) = is_name ident.text ≡ true
IsPlace (int number) = IsValue (a_value.Int number.value)
IsPlace (natural number) = (is_negative number.value ≡ false) × IsValue (a_value.Int number.value)
IsPlace (quoted text line) = IsValue (a_value.Text text)
IsPlace end = Unit {0}
IsPlace nothing = ⊥

-- the token that stands at a place; at `nothing` none can
abbrev pub lexeme_of : Piece → Lexeme
lexeme_of (plain word) = lexeme.Plain word
lexeme_of (placed word line) = lexeme.Plain word
lexeme_of (name ident) = lexeme.Plain ident.text
lexeme_of (int number) = lexeme.Int number.value
lexeme_of (natural number) = lexeme.Int number.value
lexeme_of (quoted text line) = lexeme.Quoted text
lexeme_of end = lexeme.End
lexeme_of nothing = lexeme.Bad

-- each with a comma before it
abbrev pub each_behind_comma : List (List Piece) → List Piece
each_behind_comma [] = []
each_behind_comma (pieces ∷ others) = plain (codes ",") ∷ pieces ++ each_behind_comma others

-- one after another, with a comma between two; perhaps none
abbrev pub comma_separated : List (List Piece) → List Piece
comma_separated [] = []
comma_separated (pieces ∷ others) = pieces ++ each_behind_comma others

-- the same, but at least one
abbrev pub some_comma_separated : List (List Piece) → List Piece
some_comma_separated [] = nothing ∷ []
some_comma_separated (pieces ∷ others) = pieces ++ each_behind_comma others

-- between parentheses
abbrev pub in_parentheses : List Piece → List Piece
in_parentheses pieces = plain (codes "(") ∷ pieces ++ plain (codes ")") ∷ []

-- a kind
abbrev pub kind_pieces : Kind → List Piece
kind_pieces a_kind.Int = plain (codes "int") ∷ []
kind_pieces a_kind.Text = plain (codes "text") ∷ []

-- kinds
abbrev pub kinds_pieces : List Kind → List Piece
kinds_pieces kinds = in_parentheses (comma_separated (map kind_pieces kinds))

-- How a text is written token by token, for the contracts of private steps alone.
use Rattle.std.specs.Prelude.{ℕ, cond, Bool, false, ◌&&◌, List, [], ◌∷◌, ◌++◌}
use Rattle.std.specs.List.{AllByRecursion}
use Rattle.program_tokens.specs.declared.token.Lexeme.{Lexeme}
use Rattle.program_tokens.specs.Tokens.{begins_in_word, ends_in_word, spaced, spelling}
use Rattle.program_tokens.specs.Pieces.{Piece}
use Rattle.program_tokens.specs.Pieces.{lexeme_of}
use Rattle.program_tokens.specs.Pieces.{IsPlace}

-- what is written, and whether a word ends it
abbrev pub Written : Type 0
Written = List ℕ × Bool

-- with one more spelling, behind a blank where it goes on in a word behind a word
unfoldable pub put : Written → List ℕ → Written
put written spelled = (written.0 ++ cond (written.1 && begins_in_word spelled) (32 ∷ []) [] ++ spelled, ends_in_word spelled)

-- with the tokens of these places, one after another
abbrev pub put_all : Written → List Piece → Written
put_all written [] = written
put_all written (piece ∷ pieces) = put_all (put written (spelling (lexeme_of piece))) pieces

-- with a whole line of tokens
abbrev pub put_line : Written → List Lexeme → Written
put_line written lexemes = (written.0 ++ spaced lexemes ++ 10 ∷ [], false)

-- a token may stand at each of these places
abbrev pub ArePlaces : List Piece → Type 0
ArePlaces pieces = AllByRecursion IsPlace pieces

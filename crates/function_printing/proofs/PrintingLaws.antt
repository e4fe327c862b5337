-- The print of functions that can be spelled is a text of these functions.
use Rattle.std.proofs.Common.{◌≡◌, ℕ, ◌+◌, List, [], ◌∷◌, ◌++◌, map, refl, sym, ap, ◌∙◌, append_assoc, subst}
use Rattle.std.specs.List.{AllByRecursion}
use Rattle.program_tokens.specs.declared.token.Lexeme.{Lexeme}
use Rattle.program_tokens.specs.declared.token.Token.{Token}
use Rattle.program_tokens.specs.Tokens.{IsSpelled, in_lines}
use Rattle.program_tokens.proofs.Printing.{printed_is_read}
use Rattle.function_language.specs.declared.tree.Function.{Function}
use Rattle.program_tokens.specs.Pieces.{Fits, Piece, Stand, plain, placed, name, int, natural, quoted, end, nothing}
use Rattle.function_printing.specs.Printing.{PrintIsReadAgain, function_in, function_line, relined}
use Rattle.program_tokens.specs.Pieces.{lexeme_of}
use Rattle.function_language.specs.Spelled.{function_pieces, functions_pieces}
use Rattle.program_tokens.specs.Pieces.{IsPlace}
use Rattle.function_language.specs.Spelled.{only_functions_pieces}
use Rattle.function_language.proofs.Inner.{functions_inner}
use Rattle.program_tokens.proofs.Inner.{AreInner, IsInner}
use Rattle.function_printing.proofs.PrintingLines.{function_pieces_in, piece_in}
use Rattle.program_tokens.proofs.Places.{all_back, all_front, name_spelled}

-- a token in this line
abbrev at_line : ℕ → Lexeme → Token
at_line line lexeme = record { lexeme = lexeme; line = line }

-- the token of a place can be spelled, and stands there in any line
record IsPrinted (piece : Piece) : Type 0 where
  pub spelled : IsSpelled (lexeme_of piece)
  pub fits : (line : ℕ) → Fits (piece_in line piece) (at_line line (lexeme_of piece))

-- all are so
abbrev ArePrinted : List Piece → Type 0
ArePrinted pieces = AllByRecursion IsPrinted pieces

-- the token of a place within functions is printed
place_printed : (piece : Piece) → IsInner piece → IsPlace piece → IsPrinted piece
place_printed (plain word) i p = record { spelled = i; fits = λ line. refl }
place_printed (placed word line) i p = record { spelled = i; fits = λ line. (refl, refl) }
place_printed (name ident) i p = record { spelled = name_spelled ident.text p; fits = λ line. (refl, refl, p) }
place_printed (int number) i p = record { spelled = p; fits = λ line. (refl, refl) }
place_printed (natural number) i p = record { spelled = p.1; fits = λ line. (refl, refl, p.0) }
place_printed (quoted text line) i p = record { spelled = p; fits = λ line. (refl, refl) }
place_printed end i p = absurd i
place_printed nothing i p = absurd p

-- so are those of all places
places_printed : (pieces : List Piece) → AreInner pieces → AllByRecursion IsPlace pieces → ArePrinted pieces
places_printed [] i p = tt
places_printed (piece ∷ pieces) i p = (place_printed piece i.0 p.0, places_printed pieces i.1 p.1)

-- the tokens of places that are printed can be spelled
line_spelled : (pieces : List Piece) → ArePrinted pieces → AllByRecursion IsSpelled (map lexeme_of pieces)
line_spelled [] p = tt
line_spelled (piece ∷ pieces) p = (p.0.spelled, line_spelled pieces p.1)

-- so can those of all lines
lines_spelled : (functions : List Function) → ArePrinted (functions_pieces functions) → AllByRecursion (AllByRecursion IsSpelled) (map function_line functions)
lines_spelled [] p = tt
lines_spelled (function ∷ functions) p =
    let pieces = function_pieces function in
    let others = functions_pieces functions in
    (line_spelled pieces (all_front IsPrinted pieces others p), lines_spelled functions (all_back IsPrinted pieces others p))

-- places that are printed stand in this line, before others
line_stands : (line : ℕ) (pieces others : List Piece) (tokens : List Token) → ArePrinted pieces → Stand others tokens → Stand (map (piece_in line) pieces ++ others) (map (at_line line) (map lexeme_of pieces) ++ tokens)
line_stands line [] others tokens p s = s
line_stands line (piece ∷ pieces) others tokens p s = (p.0.fits line, line_stands line pieces others tokens p.1 s)

-- functions stand in their lines, of which this is the first
lines_stand : (line : ℕ) (functions : List Function) → ArePrinted (functions_pieces functions) → Stand (only_functions_pieces (relined line functions)) (in_lines line (map function_line functions))
lines_stand line [] p = (refl, tt)
lines_stand line (function ∷ functions) p =
    let pieces = function_pieces function in
    let others = functions_pieces functions in
    let moved = only_functions_pieces (relined (line + 1) functions) in
    let tokens = in_lines (line + 1) (map function_line functions) in
    let stands = line_stands line pieces moved tokens (all_front IsPrinted pieces others p) (lines_stand (line + 1) functions (all_back IsPrinted pieces others p)) in
    subst (λ front. Stand front (map (at_line line) (function_line function) ++ tokens)) (sym (whole (function_pieces (function_in line function)) (functions_pieces (relined (line + 1) functions)) (map (piece_in line) pieces) (function_pieces_in line function))) stands
  where
    whole : (front behind moved : List Piece) → front ≡ moved → (front ++ behind) ++ end ∷ [] ≡ moved ++ (behind ++ end ∷ [])
    whole front behind moved e = append_assoc front behind (end ∷ []) ∙ ap (λ front. front ++ (behind ++ end ∷ [])) e

-- what is printed is read again
pub print_is_read_again : PrintIsReadAgain
print_is_read_again functions can =
    let p = places_printed (functions_pieces functions) (functions_inner functions) can in
    record {
      tokens = in_lines 1 (map function_line functions);
      are = printed_is_read (map function_line functions) (lines_spelled functions p);
      stand = lines_stand 1 functions p;
    }

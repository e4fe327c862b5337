-- A text that is written token by token: its blanks, and its lines.
use Rattle.std.proofs.Common.{◌≡◌, ℕ, suc, ◌-◌, ◌<◌, ◌&&◌, Bool, false, cond, List, [], ◌∷◌, ◌++◌, ◌∙◌, ap, ap₂, append-nil, append_assoc, arith, get_or, length, map, refl, sym}
use Rattle.std.proofs.lemmas.Bool.{and_right}
use Rattle.program_tokens.specs.declared.token.Lexeme.{Lexeme}
use Rattle.program_tokens.specs.Tokens.{begins_in_word, ends_in_word, escaped, spaced, spelling}
use Rattle.program_tokens.specs.Words.{is_word_byte}
use Rattle.program_tokens.specs.Pieces.{Piece}
use Rattle.program_tokens.specs.Pieces.{lexeme_of}
use Rattle.function_printing.specs.steps.Printer.{Written, put, put_all, put_line}

-- the last byte says whether a word ends
ends_behind : (front : List ℕ) (last : ℕ) → ends_in_word (front ++ last ∷ []) ≡ is_word_byte last
ends_behind [] last = refl
ends_behind (x ∷ []) last = refl
ends_behind (x ∷ y ∷ front) last = ends_behind (y ∷ front) last

-- the same, of the byte at the last index
pub ends_last : (bytes : List ℕ) (d : ℕ) → 0 < length bytes → ends_in_word bytes ≡ is_word_byte (get_or bytes (length bytes - 1) d)
ends_last [] d some = absurd (omega arith)
ends_last (x ∷ []) d some = refl
ends_last (x ∷ y ∷ bytes) d some =
    let next : length (x ∷ y ∷ bytes) - 1 ≡ suc (length (y ∷ bytes) - 1) = omega arith in
    ends_last (y ∷ bytes) d (omega arith) ∙ ap is_word_byte (sym (ap (λ at. get_or (x ∷ y ∷ bytes) at d) next))

-- bytes, and whether a word ends them
abbrev pub made : List ℕ → Bool → Written
made bytes in_word = (bytes, in_word)

-- a text within quotes has no blank before it, and ends no word
pub quoted_put : (written : Written) (text got : List ℕ) → got ≡ written.0 ++ (34 ∷ (escaped text ++ 34 ∷ [])) → ◌≡◌ {A = Written} (got, false) (put written (34 ∷ (escaped text ++ 34 ∷ [])))
unfolding put
quoted_put written text got e =
    let quoted = 34 ∷ (escaped text ++ 34 ∷ []) in
    let no_blank : written.0 ++ cond (written.1 && false) (32 ∷ []) [] ≡ written.0 = ap (λ joins. written.0 ++ cond joins (32 ∷ []) []) (and_right written.1 false refl) ∙ append-nil written.0 in
    ap₂ made (e ∙ ap (λ front. front ++ quoted) (sym no_blank)) (sym (ends_behind (34 ∷ escaped text) 34))

-- the blank before the first token, where a word ends before it
abbrev lead : Bool → List Lexeme → List ℕ
lead in_word [] = []
lead in_word (lexeme ∷ lexemes) = cond (in_word && begins_in_word (spelling lexeme)) (32 ∷ []) []

-- a token and those behind it
spaced_more : (lexeme : Lexeme) (lexemes : List Lexeme) → spaced (lexeme ∷ lexemes) ≡ spelling lexeme ++ (lead (ends_in_word (spelling lexeme)) lexemes ++ spaced lexemes)
spaced_more lexeme [] = sym (append-nil (spelling lexeme))
spaced_more lexeme (next ∷ lexemes) = append_assoc (spelling lexeme) (lead (ends_in_word (spelling lexeme)) (next ∷ lexemes)) (spaced (next ∷ lexemes))

-- three lists before a fourth
three : (xs ys zs rest : List ℕ) → ((xs ++ ys) ++ zs) ++ rest ≡ xs ++ (ys ++ (zs ++ rest))
three xs ys zs rest = append_assoc (xs ++ ys) zs rest ∙ append_assoc xs ys (zs ++ rest)

-- tokens that are written one after another are spaced
written_spaced : (written : Written) (pieces : List Piece) → (put_all written pieces).0 ≡ written.0 ++ (lead written.1 (map lexeme_of pieces) ++ spaced (map lexeme_of pieces))
unfolding put
written_spaced written [] = sym (append-nil written.0)
written_spaced written (piece ∷ pieces) =
    let spelled = spelling (lexeme_of piece) in
    let lexemes = map lexeme_of pieces in
    let gap = lead written.1 (lexeme_of piece ∷ lexemes) in
    written_spaced (put written spelled) pieces
    ∙ three written.0 gap spelled (lead (ends_in_word spelled) lexemes ++ spaced lexemes)
    ∙ ap (λ bytes. written.0 ++ (gap ++ bytes)) (sym (spaced_more (lexeme_of piece) lexemes))

-- where no word ends, no blank leads
no_lead : (in_word : Bool) (lexemes : List Lexeme) → in_word ≡ false → lead in_word lexemes ≡ []
no_lead in_word lexemes e = ap (λ in_word. lead in_word lexemes) e ∙ none lexemes
  where
    none : (lexemes : List Lexeme) → lead false lexemes ≡ []
    none [] = refl
    none (lexeme ∷ lexemes) = refl

-- the tokens of a line, and its end, are the line
pub put_is_line : (written : Written) (pieces : List Piece) → written.1 ≡ false → ◌≡◌ {A = Written} ((put_all written pieces).0 ++ 10 ∷ [], false) (put_line written (map lexeme_of pieces))
put_is_line written pieces e =
    let lexemes = map lexeme_of pieces in
    ap (λ bytes. made (bytes ++ 10 ∷ []) false) (written_spaced written pieces ∙ ap (λ gap. written.0 ++ (gap ++ spaced lexemes)) (no_lead written.1 lexemes e))

-- What is printed of tokens is read as these tokens.
use Rattle.std.proofs.Common.{◌≡◌, ℕ, ◌+◌, ◌&&◌, true, false, cond, List, [], ◌∷◌, ◌++◌, map, refl, sym, ap, ◌∙◌, subst, append_assoc, arith}
use Rattle.std.specs.List.{AllByRecursion}
use Rattle.std.proofs.lemmas.Bool.{and_right}
use Rattle.program_tokens.specs.declared.token.Lexeme.{Lexeme}
use Rattle.program_tokens.specs.declared.token.Lexeme.TheVariants.{Plain, Int, Quoted, Bad, End}
use Rattle.program_tokens.specs.declared.token.Token.{Token}
use Rattle.program_tokens.specs.Tokens.{AreTokens, Follows, IsSpelled, PrintedIsRead, StandsBefore, begins_in_word, ends_in_word, from_token, in_lines, line_ends, printed, spaced, spelling}
use Rattle.program_tokens.proofs.Spelled.{BeginsWell, no_line_ends, nothing_skipped, spelling_good}

-- the tokens of a text in which so many lines end
record AreRead (line last : ℕ) (text : List ℕ) (tokens : List Token) : Type 0 where
  pub lines : line + line_ends text ≡ last
  pub are : AreTokens last text tokens

-- a token that stands before others is followed by them
follows : (lexeme : Lexeme) (rest text : List ℕ) (tokens : List Token) (on : List ℕ → Type 0) → StandsBefore lexeme rest text → on rest → Follows lexeme text tokens on
follows (Plain word) rest text tokens on s o = (rest, s, o)
follows (Int n) rest text tokens on s o = (rest, s, o)
follows (Quoted quoted) rest text tokens on s o = (rest, s, o)
follows Bad rest text tokens on s o = absurd s.is
follows End rest text tokens on s o = absurd s.is

-- a token before others is read first
one_more : (line last : ℕ) (lexeme : Lexeme) (rest : List ℕ) (tokens : List Token) → IsSpelled lexeme → (ends_in_word (spelling lexeme) && begins_in_word rest) ≡ false → AreRead line last rest tokens → AreRead line last (spelling lexeme ++ rest) (record { lexeme = lexeme; line = line } ∷ tokens)
one_more line last lexeme rest tokens is apart a =
    let g = spelling_good lexeme is in
    let lines : line_ends (spelling lexeme ++ rest) ≡ line_ends rest = no_line_ends (spelling lexeme) rest g.high in
    let so_many = a.lines in
    let front : from_token (spelling lexeme ++ rest) ≡ spelling lexeme ++ rest = nothing_skipped (spelling lexeme) rest g.begins in
    let stands : StandsBefore lexeme rest (spelling lexeme ++ rest) = record { is = is; spelled = refl; apart = apart } in
    let on = λ (rest : List ℕ). AreTokens last rest tokens in
    record {
      lines = omega arith;
      are = (
        ap (λ text. line + line_ends text) front ∙ omega arith,
        subst (λ text. Follows lexeme text tokens on) (sym front) (follows lexeme rest (spelling lexeme ++ rest) tokens on stands a.are),
      );
    }

-- a blank is skipped
blank_before : (line last : ℕ) (rest : List ℕ) (tokens : List Token) → AreRead line last rest tokens → AreRead line last (32 ∷ rest) tokens
blank_before line last rest [] a = absurd a.are
blank_before line last rest (token ∷ tokens) a = record { lines = a.lines; are = a.are }

-- the end of a line is skipped, and counted
line_before : (line last : ℕ) (rest : List ℕ) (tokens : List Token) → AreRead (line + 1) last rest tokens → AreRead line last (10 ∷ rest) tokens
line_before line last rest [] a = absurd a.are
line_before line last rest (token ∷ tokens) a = let so_many = a.lines in record { lines = omega arith; are = a.are }

-- bytes that are some begin as they do alone
begins_again : (bytes rest : List ℕ) → BeginsWell bytes → begins_in_word (bytes ++ rest) ≡ begins_in_word bytes
begins_again [] rest b = absurd b
begins_again (x ∷ bytes) rest b = refl

-- three lists before a fourth
three : (xs ys zs rest : List ℕ) → ((xs ++ ys) ++ zs) ++ rest ≡ xs ++ (ys ++ (zs ++ rest))
three xs ys zs rest = append_assoc (xs ++ ys) zs rest ∙ append_assoc xs ys (zs ++ rest)

-- what begins with a spelling begins in a word where it does
begins_spaced : (lexeme : Lexeme) (lexemes : List Lexeme) (rest : List ℕ) → IsSpelled lexeme → begins_in_word (spaced (lexeme ∷ lexemes) ++ rest) ≡ begins_in_word (spelling lexeme)
begins_spaced lexeme [] rest is = begins_again (spelling lexeme) rest (spelling_good lexeme is).begins
begins_spaced lexeme (next ∷ lexemes) rest is =
    let gap = cond (ends_in_word (spelling lexeme) && begins_in_word (spelling next)) (32 ∷ []) [] in
    ap begins_in_word (three (spelling lexeme) gap (spaced (next ∷ lexemes)) rest) ∙ begins_again (spelling lexeme) (gap ++ (spaced (next ∷ lexemes) ++ rest)) (spelling_good lexeme is).begins

-- a token of this line
abbrev at_line : ℕ → Lexeme → Token
at_line line lexeme = record { lexeme = lexeme; line = line }

-- the tokens of a line, before what begins in no word
line_is_read : (line last : ℕ) (lexemes : List Lexeme) (rest : List ℕ) (tokens : List Token) → AllByRecursion IsSpelled lexemes → begins_in_word rest ≡ false → AreRead line last rest tokens → AreRead line last (spaced lexemes ++ rest) (map (at_line line) lexemes ++ tokens)
line_is_read line last [] rest tokens is apart a = a
line_is_read line last (lexeme ∷ []) rest tokens is apart a = one_more line last lexeme rest tokens is.0 (and_right (ends_in_word (spelling lexeme)) (begins_in_word rest) apart) a
line_is_read line last (lexeme ∷ next ∷ lexemes) rest tokens is apart a =
    let others = map (at_line line) (next ∷ lexemes) ++ tokens in
    let behind = spaced (next ∷ lexemes) in
    let more = line_is_read line last (next ∷ lexemes) rest tokens is.1 apart a in
    let joins = ends_in_word (spelling lexeme) && begins_in_word (spelling next) in
    let whole = λ (gap : List ℕ). ((spelling lexeme ++ gap) ++ behind) ++ rest in
    let Goal = λ (text : List ℕ). AreRead line last text (at_line line lexeme ∷ others) in
    elim joins as (λ t. joins ≡ t → Goal (whole (cond t (32 ∷ []) []))) [
      | true ↦ λ t. subst Goal (sym (three (spelling lexeme) (32 ∷ []) behind rest)) (one_more line last lexeme (32 ∷ (behind ++ rest)) others is.0 (and_right (ends_in_word (spelling lexeme)) false refl) (blank_before line last (behind ++ rest) others more))
      | false ↦ λ t. subst Goal (sym (three (spelling lexeme) [] behind rest)) (one_more line last lexeme (behind ++ rest) others is.0 (ap (λ begins. ends_in_word (spelling lexeme) && begins) (begins_spaced next lexemes rest is.1.0) ∙ t) more)
    ] refl

-- all lines, from the first of this number
lines_are_read : (line : ℕ) (lines : List (List Lexeme)) → AllByRecursion (AllByRecursion IsSpelled) lines → AreRead line (line + line_ends (printed lines)) (printed lines) (in_lines line lines)
lines_are_read line [] is = record { lines = refl; are = (refl, (refl, refl)) }
lines_are_read line (lexemes ∷ lines) is =
    let last = line + line_ends (printed (lexemes ∷ lines)) in
    let others = in_lines (line + 1) lines in
    let more = lines_are_read (line + 1) lines is.1 in
    let whole : printed (lexemes ∷ lines) ≡ spaced lexemes ++ 10 ∷ printed lines = append_assoc (spaced lexemes) (10 ∷ []) (printed lines) in
    let given = line_is_read line (line + 1 + line_ends (printed lines)) lexemes (10 ∷ printed lines) others is.0 refl (line_before line (line + 1 + line_ends (printed lines)) (printed lines) others more) in
    let read = subst (λ text. AreRead line (line + 1 + line_ends (printed lines)) text (in_lines line (lexemes ∷ lines))) (sym whole) given in
    subst (λ n. AreRead line n (printed (lexemes ∷ lines)) (in_lines line (lexemes ∷ lines))) (sym read.lines) read

-- what was printed is read again
pub printed_is_read : PrintedIsRead
printed_is_read lines is = (lines_are_read 1 lines is).are

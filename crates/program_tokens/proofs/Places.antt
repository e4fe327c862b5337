-- Where tokens stand that can be spelled, they stand at places.
use Rattle.std.proofs.Common.{◌≡◌, ◌||◌, ℕ, true, not, List, [], ◌∷◌, ◌++◌, ap, bytes_eq, refl, subst}
use Rattle.std.specs.List.{AllByRecursion, list_any}
use Rattle.std.proofs.lemmas.Bool.{and_parts}
use Rattle.program_tokens.specs.declared.token.Lexeme.TheVariants as lexeme
use Rattle.program_tokens.specs.declared.token.Token.{Token}
use Rattle.program_tokens.specs.Tokens.{IsSpelled, marks}
use Rattle.program_tokens.specs.steps.Front.{AreSpelled, is_spelled}
use Rattle.program_tokens.specs.Words.{is_name, is_word, reserved}
use Rattle.program_tokens.specs.Pieces.{Piece, plain, placed, name, int, natural, quoted, end, nothing, Fits, Stand}
use Rattle.program_tokens.specs.Pieces.{IsPlace}
use Rattle.program_tokens.specs.Texts.{IsTextOf}
use Rattle.program_tokens.proofs.Lists.{are_spelled}

-- of what holds of all, the first
pub all_front : {A : Type 0} (P : A → Type 0) (xs ys : List A) → AllByRecursion P (xs ++ ys) → AllByRecursion P xs
all_front P [] ys p = tt
all_front P (x ∷ xs) ys p = (p.0, all_front P xs ys p.1)

-- and the others
pub all_back : {A : Type 0} (P : A → Type 0) (xs ys : List A) → AllByRecursion P (xs ++ ys) → AllByRecursion P ys
all_back P [] ys p = p
all_back P (x ∷ xs) ys p = all_back P xs ys p.1

-- a name is a word, so it can be spelled
pub name_spelled : (word : List ℕ) → is_name word ≡ true → IsSpelled (lexeme.Plain word)
name_spelled word n = ap (λ b. b || list_any (bytes_eq word) marks) (and_parts (is_word word) (not (list_any (bytes_eq word) reserved)) n).0

fit_place : (piece : Piece) (token : Token) → Fits piece token → (is_spelled token.lexeme ≡ true → IsSpelled token.lexeme) → IsPlace piece
fit_place (plain word) token f s = tt
fit_place (placed word line) token f s = tt
fit_place (name ident) token f s = f.2
fit_place (int number) token f s = subst (λ l. is_spelled l ≡ true → IsSpelled l) f.0 s refl
fit_place (natural number) token f s = (f.2, subst (λ l. is_spelled l ≡ true → IsSpelled l) f.0 s refl)
fit_place (quoted text line) token f s = subst (λ l. is_spelled l ≡ true → IsSpelled l) f.0 s refl
fit_place end token f s = tt
fit_place nothing token f s = f

-- where tokens stand that can be spelled, they stand at places
pub stand_places : (pieces : List Piece) (tokens : List Token) → Stand pieces tokens → AreSpelled tokens → AllByRecursion IsPlace pieces
stand_places [] [] st s = tt
stand_places [] (token ∷ tokens) st s = absurd st
stand_places (piece ∷ pieces) [] st s = absurd st
stand_places (piece ∷ pieces) (token ∷ tokens) st s = (fit_place piece token st.0 s.0, stand_places pieces tokens st.1 s.1)

-- the tokens of a tree's text stand at places
pub text_places : {A : Type 0} (spelled : A → List Piece) (text : List ℕ) (tree : A) → IsTextOf spelled text tree → AllByRecursion IsPlace (spelled tree)
text_places spelled text tree t = stand_places (spelled tree) t.tokens t.stand (are_spelled _ text t.tokens t.are)

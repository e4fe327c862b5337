-- What is known of the first token.
use Rattle.std.proofs.Common.{◌≡◌, ℕ, Bool, true, false, cond, List, [], ◌∷◌, Option, None, Some, is_some, option_map, Err, Ok, refl, sym, ap, ◌∙◌}
use Rattle.program_tokens.specs.declared.token.Lexeme.{Lexeme}
use Rattle.program_tokens.specs.declared.token.Lexeme.TheVariants.{Plain, Int, Quoted, Bad, End}
use Rattle.program_tokens.specs.declared.token.Token.{Token}
use Rattle.program_tokens.specs.steps.Front.{is_plain, later, name_in, sees}
use Rattle.program_tokens.specs.steps.Front.{goes_on, is_spelled}
use Rattle.program_tokens.specs.Words.{is_name}
use Rattle.program_tokens.specs.declared.token.Number.{Number}
use Rattle.program_tokens.specs.steps.Parsers.{ident, ident_at, ident_of, natural, natural_at, natural_in, quoted, quoted_at, quoted_in, taken}

apart : false ≡ true → ⊥
apart e = cc

plain_is_spelled : (word : List _) (lexeme : Lexeme) → is_plain word lexeme ≡ true → is_spelled lexeme ≡ true
plain_is_spelled word (Plain other) e = refl
plain_is_spelled word (Int n) e = cc
plain_is_spelled word (Quoted text) e = cc
plain_is_spelled word Bad e = cc
plain_is_spelled word End e = cc

-- a word or a mark is no end
pub seen_goes_on : (word : List _) (ts : List Token) → sees word ts ≡ true → goes_on ts ≡ true
seen_goes_on word [] e = cc
seen_goes_on word (token ∷ tokens) e = plain_is_spelled word token.lexeme e

named : (b : Bool) (text : List ℕ) (line : ℕ) (ts left : List Token) → later ts ≡ left → is_some (option_map (ident_of line) (cond b (Some text) None)) ≡ true
    → taken (option_map (ident_of line) (cond b (Some text) None)) ts ≡ Ok (ident_of line text, left)
named true text line ts left e some = ap (λ xs. Ok (ident_of line text, xs)) e
named false text line ts left e some = absurd (apart some)

-- a name that comes first is read
pub ident_is : (token : Token) (ts left : List Token) (text : List ℕ) → ts ≡ token ∷ left → token.lexeme ≡ Plain text → is_some (ident_at ts) ≡ true → ident ts ≡ Ok (ident_of token.line text, left)
unfolding ident
ident_is token ts left text e is some =
    let at : ident_at ts ≡ option_map (ident_of token.line) (cond (is_name text) (Some text) None) = ap ident_at e ∙ ap (λ lexeme. option_map (ident_of token.line) (name_in lexeme)) is in
    ap (λ found. taken found ts) at ∙ named (is_name text) text token.line ts left (ap later e) (ap is_some (sym at) ∙ some)

-- a number that comes first is read, unless it is negative
pub natural_is : (token : Token) (ts left : List Token) (number : Number) → ts ≡ token ∷ left → natural_in token.line token.lexeme ≡ Some number → natural ts ≡ Ok (number, left)
unfolding natural
natural_is token ts left number e is = ap (λ found. taken found ts) (ap natural_at e ∙ is) ∙ ap (λ xs. Ok (number, xs)) (ap later e)

-- a text that comes first is read
pub quoted_is : (token : Token) (ts left : List Token) (text : List ℕ) → ts ≡ token ∷ left → token.lexeme ≡ Quoted text → quoted ts ≡ Ok (text, left)
unfolding quoted
quoted_is token ts left text e is =
    let at : quoted_at ts ≡ Some text = ap quoted_at e ∙ ap quoted_in is in
    ap (λ found. taken found ts) at ∙ ap (λ xs. Ok (text, xs)) (ap later e)

-- what is not there is refused
pub not_taken : {A : Type 0} (found : Option A) (ts : List Token) → is_some found ≡ false → taken found ts ≡ Err ts
not_taken (Some a) ts e = absurd (apart (sym e))
not_taken None ts e = refl

-- Readers of tokens, for the contracts of the reading steps alone.
use Rattle.std.specs.Prelude.{◌≡◌, ◌≢◌, ℕ, ℤ, zero, suc, Bool, cond, List, [], ◌∷◌, ◌++◌, length, Option, None, Some, option_map, Result, Ok, Err, codes}
use Rattle.hal_base.specs.declared.value.Kind.{Kind}
use Rattle.hal_base.specs.declared.value.Kind.TheVariants as a_kind
use Rattle.program_tokens.specs.steps.Front.{at_end, later, line_of, name_in, sees}
use Rattle.std.specs.Int.{is_negative}
use Rattle.program_tokens.specs.declared.token.Lexeme.{Lexeme}
use Rattle.program_tokens.specs.declared.token.Lexeme.TheVariants as lexeme
use Rattle.program_tokens.specs.declared.token.Token.{Token}
use Rattle.program_tokens.specs.declared.fault.SyntaxFault.{SyntaxFault}
use Rattle.program_tokens.specs.declared.fault.SyntaxFault.TheVariants as fault
use Rattle.program_tokens.specs.declared.token.Ident.{Ident}
use Rattle.program_tokens.specs.declared.token.Number.{Number}

-- what was read, and the tokens behind it; or the tokens from the first that does not belong
abbrev pub Outcome : Type 0 → Type 0
Outcome A = Result (A × List Token) (List Token)

-- a reader of tokens
abbrev pub Parser : Type 0 → Type 0
Parser A = List Token → Outcome A

abbrev pub and_then : {A B : Type 0} → Outcome A → (A → Parser B) → Outcome B
and_then (Ok p) f = f p.0 p.1
and_then (Err left) f = Err left

infixl 10 ◌>>=◌
abbrev pub ◌>>=◌ : {A B : Type 0} → Parser A → (A → Parser B) → Parser B
p >>= f = λ ts. and_then (p ts) f

infixl 10 ◌>>◌
abbrev pub ◌>>◌ : {A B : Type 0} → Parser A → Parser B → Parser B
p >> q = p >>= (λ _. q)

abbrev pub pure : {A : Type 0} → A → Parser A
pure a = λ ts. Ok (a, ts)

abbrev pub refuse : {A : Type 0} → Parser A
refuse = λ ts. Err ts

-- takes the word or mark, if it comes next
unfoldable pub eat : List ℕ → Parser Bool
eat word = λ ts. Ok (sees word ts, cond (sees word ts) (later ts) ts)

-- the word or mark must come next
unfoldable pub expect : List ℕ → Parser (Unit {0})
expect word = λ ts. cond (sees word ts) (Ok (tt, later ts)) (Err ts)

-- the same, and the line in which it stands
unfoldable pub expect_line : List ℕ → Parser ℕ
expect_line word = λ ts. cond (sees word ts) (Ok (line_of ts, later ts)) (Err ts)

-- what the first token is read as, which is taken, or refused
abbrev pub taken : {A : Type 0} → Option A → Parser A
taken (Some a) ts = Ok (a, later ts)
taken None ts = Err ts

-- the name of this text in this line
abbrev pub ident_of : ℕ → List ℕ → Ident
ident_of line text = record { text = text; line = line }

-- the name that the first token is
abbrev pub ident_at : List Token → Option Ident
ident_at [] = None
ident_at (token ∷ tokens) = option_map (ident_of token.line) (name_in token.lexeme)

-- a name must come next
unfoldable pub ident : Parser Ident
ident = λ ts. taken (ident_at ts) ts

-- what a function that reads ensures: what the reader comes to, unless memory fails; a fault has the line of the first token left
abbrev pub Reads : {A : Type 0} → Outcome A → Result A SyntaxFault → List Token → Type 0
Reads outcome (Ok a) new = outcome ≡ Ok (a, new)
Reads outcome (Err f) new = f ≢ fault.Memory → (outcome ≡ Err new) × (f ≡ fault.At (line_of new))

-- the end must come next
unfoldable pub expect_end : Parser (Unit {0})
expect_end = λ ts. cond (at_end ts) (Ok (tt, later ts)) (Err ts)

-- whether the first token is this word or mark, which is left there
abbrev pub peek : List ℕ → Parser Bool
peek word = λ ts. Ok (sees word ts, ts)

-- the line of the first token, which is left there
abbrev pub here : Parser ℕ
here = λ ts. Ok (line_of ts, ts)

-- one or more behind those found, with commas between; the bound is more than the tokens allow
unfoldable pub separated_from : {A : Type 0} → Parser A → ℕ → List A → Parser (List A)
separated_from item zero found = refuse
separated_from item (suc n) found = do
  x ← item
  more ← eat (codes ",")
  cond more (separated_from item n (found ++ x ∷ [])) (pure (found ++ x ∷ []))

-- one or more, with commas between
abbrev pub separated : {A : Type 0} → Parser A → Parser (List A)
separated item = λ ts. separated_from item (suc (length ts)) [] ts

-- perhaps none, with commas between, up to `)`
unfoldable pub closed : {A : Type 0} → Parser A → Parser (List A)
closed item = do
  none ← eat (codes ")")
  cond none (pure []) (do
    found ← separated item
    expect (codes ")")
    pure found)

-- one after another behind those found, up to `}`
unfoldable pub block_from : {A : Type 0} → Parser A → ℕ → List A → Parser (List A)
block_from item zero found = refuse
block_from item (suc n) found = do
  done ← eat (codes "}")
  cond done (pure found) (do
    x ← item
    block_from item n (found ++ x ∷ []))

-- the same; the bound is more than the tokens allow
unfoldable pub while_from : {A : Type 0} → (List Token → Bool) → Parser A → ℕ → List A → Parser (List A)
while_from begins item zero found = refuse
while_from begins item (suc n) found = λ ts. cond (begins ts) ((do
  x ← item
  while_from begins item n (found ++ x ∷ [])) ts) (Ok (found, ts))

-- one after another behind those found, as long as the next begins so
abbrev pub repeated : {A : Type 0} → (List Token → Bool) → Parser A → List A → Parser (List A)
repeated begins item found = λ ts. while_from begins item (suc (length ts)) found ts

-- the number of this value in this line
abbrev pub number_of : ℕ → ℤ → Number
number_of line n = record { value = n; line = line }

-- a number that is not negative
abbrev pub natural_in : ℕ → Lexeme → Option Number
natural_in line (lexeme.Plain word) = None
natural_in line (lexeme.Int n) = cond (is_negative n) None (Some (number_of line n))
natural_in line (lexeme.Quoted text) = None
natural_in line lexeme.Bad = None
natural_in line lexeme.End = None

abbrev pub natural_at : List Token → Option Number
natural_at [] = None
natural_at (token ∷ tokens) = natural_in token.line token.lexeme

-- a number that is not negative must come next
unfoldable pub natural : Parser Number
natural = λ ts. taken (natural_at ts) ts

-- a text
abbrev pub quoted_in : Lexeme → Option (List ℕ)
quoted_in (lexeme.Plain word) = None
quoted_in (lexeme.Int n) = None
quoted_in (lexeme.Quoted text) = Some text
quoted_in lexeme.Bad = None
quoted_in lexeme.End = None

abbrev pub quoted_at : List Token → Option (List ℕ)
quoted_at [] = None
quoted_at (token ∷ tokens) = quoted_in token.lexeme

-- a text must come next
unfoldable pub quoted : Parser (List ℕ)
quoted = λ ts. taken (quoted_at ts) ts

-- `int` or `text` must come next
unfoldable pub kind : Parser Kind
kind = do
  is_int ← eat (codes "int")
  cond is_int (pure a_kind.Int) (do
    expect (codes "text")
    pure a_kind.Text)

-- kinds between parentheses
unfoldable pub kinds : Parser (List Kind)
kinds = do
  expect (codes "(")
  closed kind

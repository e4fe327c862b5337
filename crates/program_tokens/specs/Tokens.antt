-- The tokens of a text.
use Rattle.std.specs.Prelude.{◌≡◌, ◌≢◌, ℕ, ◌+◌, ◌==◌, cond, Bool, true, false, ◌&&◌, ◌||◌, List, [], ◌∷◌, ◌++◌, map, codes, FitsSigned}
use Rattle.std.specs.Fmt.{signed_decimal}
use Rattle.std.specs.Int.{w64}
use Rattle.std.specs.List.{AllByRecursion, flat_map, list_any}
use Rattle.std.specs.Str.{bytes_eq}
use Rattle.hal_base.specs.Text.{IsText}
use Rattle.program_tokens.specs.declared.token.Lexeme.{Lexeme}
use Rattle.program_tokens.specs.declared.token.Lexeme.TheVariants.{Plain, Int, Quoted, Bad, End}
use Rattle.program_tokens.specs.declared.token.Token.{Token}
use Rattle.program_tokens.specs.Words.{is_word, is_word_byte}

-- space, tab, LF and CR
abbrev pub is_blank : ℕ → Bool
is_blank b = b == 32 || b == 9 || b == 10 || b == 13

-- the text from its first token on: without the blanks and comments in front; a comment goes from `#` to the end of its line
abbrev mutual
  pub from_token : List ℕ → List ℕ
  from_token [] = []
  from_token (b ∷ text) = cond (is_blank b) (from_token text) (cond (b == 35) (behind_comment text) (b ∷ text))

  -- within a comment, the text from the first token behind it on
  pub behind_comment : List ℕ → List ℕ
  behind_comment [] = []
  behind_comment (b ∷ text) = cond (b == 10) (from_token text) (behind_comment text)

-- how many LFs the text has
abbrev pub line_ends : List ℕ → ℕ
line_ends [] = 0
line_ends (b ∷ text) = cond (b == 10) (line_ends text + 1) (line_ends text)

-- the marks
abbrev pub marks : List (List ℕ)
marks = codes "(" ∷ codes ")" ∷ codes "{" ∷ codes "}" ∷ codes "," ∷ codes ";" ∷ codes ":" ∷ codes "=" ∷ codes "->" ∷ []

-- a text with `\` before each `"` and each `\`
abbrev pub escaped : List ℕ → List ℕ
escaped [] = []
escaped (b ∷ text) = cond (b == 34 || b == 92) (92 ∷ b ∷ escaped text) (b ∷ escaped text)

-- how a token is spelled
abbrev pub spelling : Lexeme → List ℕ
spelling (Plain word) = word
spelling (Int n) = signed_decimal n
spelling (Quoted text) = 34 ∷ escaped text ++ 34 ∷ []
spelling Bad = []
spelling End = []

-- what can be spelled: a word or a mark, a number of 64 bits, a text
abbrev pub IsSpelled : Lexeme → Type 0
IsSpelled (Plain word) = (is_word word || list_any (bytes_eq word) marks) ≡ true
IsSpelled (Int n) = FitsSigned w64 n
IsSpelled (Quoted text) = IsText text
IsSpelled Bad = ⊥
IsSpelled End = ⊥

-- the last byte is one of a word
abbrev pub ends_in_word : List ℕ → Bool
ends_in_word [] = false
ends_in_word (b ∷ []) = is_word_byte b
ends_in_word (b ∷ c ∷ bytes) = ends_in_word (c ∷ bytes)

-- the first byte is one of a word
abbrev pub begins_in_word : List ℕ → Bool
begins_in_word [] = false
begins_in_word (b ∷ bytes) = is_word_byte b

-- the token stands at the front of the text, before the rest, and no word goes on behind it
pub record StandsBefore (lexeme : Lexeme) (rest text : List ℕ) : Type 0 where
  pub is : IsSpelled lexeme
  pub spelled : text ≡ spelling lexeme ++ rest
  pub apart : (ends_in_word (spelling lexeme) && begins_in_word rest) ≡ false

-- there is something at the front of the text, and no token
pub record HasNoToken (text : List ℕ) : Type 0 where
  pub some : text ≢ []
  pub none : (lexeme : Lexeme) (rest : List ℕ) → StandsBefore lexeme rest text → ⊥

-- what follows a token at the front of the text: nothing, or what stands behind it
abbrev pub Follows : Lexeme → List ℕ → List Token → (List ℕ → Type 0) → Type 0
Follows End text tokens on = (text ≡ []) × (tokens ≡ [])
Follows Bad text tokens on = HasNoToken text × (tokens ≡ [])
Follows (Plain word) text tokens on = (rest : List ℕ) × StandsBefore (Plain word) rest text × on rest
Follows (Int n) text tokens on = (rest : List ℕ) × StandsBefore (Int n) rest text × on rest
Follows (Quoted quoted) text tokens on = (rest : List ℕ) × StandsBefore (Quoted quoted) rest text × on rest

-- the tokens of a text whose last line has this number: one after another up to the end, or to the first bytes that are no token
abbrev pub AreTokens : ℕ → List ℕ → List Token → Type 0
AreTokens last text [] = ⊥
AreTokens last text (token ∷ tokens) = (token.line + line_ends (from_token text) ≡ last) × Follows token.lexeme (from_token text) tokens (λ rest. AreTokens last rest tokens)

-- the tokens of a whole text
abbrev pub AreTokensOf : List ℕ → List Token → Type 0
AreTokensOf text tokens = AreTokens (1 + line_ends text) text tokens

-- a text has one list of tokens
abbrev pub TextHasOneTokenList : Type 0
TextHasOneTokenList = (text : List ℕ) (some others : List Token) → AreTokensOf text some → AreTokensOf text others → some ≡ others

-- tokens on a line: one blank after each word that a word follows, and no other
abbrev pub spaced : List Lexeme → List ℕ
spaced [] = []
spaced (lexeme ∷ []) = spelling lexeme
spaced (lexeme ∷ next ∷ lexemes) = spelling lexeme ++ cond (ends_in_word (spelling lexeme) && begins_in_word (spelling next)) (32 ∷ []) [] ++ spaced (next ∷ lexemes)

-- these lines, each ended by LF
abbrev pub printed : List (List Lexeme) → List ℕ
printed lines = flat_map (λ lexemes. spaced lexemes ++ 10 ∷ []) lines

-- the tokens of such lines, the first of which has this number
abbrev pub in_lines : ℕ → List (List Lexeme) → List Token
in_lines line [] = record { lexeme = End; line = line } ∷ []
in_lines line (lexemes ∷ lines) = map (λ lexeme. record { lexeme = lexeme; line = line }) lexemes ++ in_lines (line + 1) lines

-- what was printed is read again
abbrev pub PrintedIsRead : Type 0
PrintedIsRead = (lines : List (List Lexeme)) → AllByRecursion (AllByRecursion IsSpelled) lines → AreTokensOf (printed lines) (in_lines 1 lines)

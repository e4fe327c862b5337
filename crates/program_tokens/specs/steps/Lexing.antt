-- How the tokens of a text are cut, for the contracts of private steps alone.
use Rattle.std.specs.Prelude.{◌≡◌, ◌<◌, ◌≤◌, ℕ, zero, suc, ℤ, pos, negsuc, neg_ℤ, ◌-◌, ◌^◌, ◌==◌, nat_le, nat_lt, cond, Bool, false, ◌&&◌, ◌||◌, List, [], ◌∷◌, ◌++◌, length, drop, Option, None, Some}
use Rattle.std.specs.Fmt.{signed_decimal}
use Rattle.std.specs.Str.{bytes_eq}
use Rattle.std.specs.Str.Parse.{digits_value}
use Rattle.program_tokens.specs.declared.token.Lexeme.{Lexeme}
use Rattle.program_tokens.specs.declared.token.Lexeme.TheVariants.{Plain, Int, Quoted, Bad, End}
use Rattle.program_tokens.specs.declared.token.Token.{Token}
use Rattle.program_tokens.specs.Words.{is_word, is_word_byte}
use Rattle.program_tokens.specs.Tokens.{from_token, line_ends}
use Rattle.program_tokens.specs.steps.Front.{is_spelled}

-- a token, and the text behind it
abbrev pub Cut : Type 0
Cut = Lexeme × List ℕ

-- the word at the front
abbrev pub word_front : List ℕ → List ℕ
word_front [] = []
word_front (b ∷ text) = cond (is_word_byte b) (b ∷ word_front text) []

-- what is behind the word at the front
abbrev pub word_rest : List ℕ → List ℕ
word_rest [] = []
word_rest (b ∷ text) = cond (is_word_byte b) (word_rest text) (b ∷ text)

-- what the digits come to, with a `-` before them or none
abbrev pub digits_read : List ℕ → ℤ
digits_read [] = pos 0
digits_read (b ∷ bytes) = cond (b == 45) (neg_ℤ (pos (digits_value 10 bytes))) (pos (digits_value 10 (b ∷ bytes)))

-- a number of 64 bits
abbrev pub is_int : ℤ → Bool
is_int (pos n) = nat_lt n (2 ^ 63)
is_int (negsuc n) = nat_lt n (2 ^ 63)

-- the number that is spelled so
unfoldable pub number_of : List ℕ → Option ℤ
number_of piece = cond (is_int (digits_read piece) && bytes_eq piece (signed_decimal (digits_read piece))) (Some (digits_read piece)) None

-- the number with the text behind it, if there is one
abbrev pub as_number : Option ℤ → List ℕ → List ℕ → Cut
as_number None rest text = (Bad, text)
as_number (Some n) rest text = (Int n, rest)

-- a word or a number
abbrev pub cut_word : List ℕ → Cut
cut_word text = cond (is_word (word_front text)) (Plain (word_front text), word_rest text) (as_number (number_of (word_front text)) (word_rest text) text)

-- behind a `-` this makes an arrow
abbrev pub is_arrow : List ℕ → Bool
is_arrow [] = false
is_arrow (b ∷ text) = b == 62

-- what begins with `-`, which is in front of the text: an arrow or a number
abbrev pub cut_dash : List ℕ → Cut
cut_dash text = cond (is_arrow text) (Plain (45 ∷ 62 ∷ []), drop 1 text) (as_number (number_of (45 ∷ word_front text)) (word_rest text) (45 ∷ text))

-- a byte that a text may have
abbrev pub is_printable : ℕ → Bool
is_printable b = nat_le 32 b && nat_le b 126

-- what a text within quotes goes on with, where this much was read of it and the whole text is `all`
abbrev mutual
  pub cut_quoted : List ℕ → List ℕ → List ℕ → Cut
  cut_quoted all got [] = (Bad, all)
  cut_quoted all got (b ∷ text) = cond (b == 34) (Quoted got, text) (cond (b == 92) (cut_escaped all got text) (cond (is_printable b && nat_lt (length got) 255) (cut_quoted all (got ++ b ∷ []) text) (Bad, all)))

  pub cut_escaped : List ℕ → List ℕ → List ℕ → Cut
  cut_escaped all got [] = (Bad, all)
  cut_escaped all got (b ∷ text) = cond ((b == 34 || b == 92) && nat_lt (length got) 255) (cut_quoted all (got ++ b ∷ []) text) (Bad, all)

-- a text with what is behind its quote, if that was there
abbrev pub as_quoted : List ℕ → Option (List ℕ) → List ℕ → Cut
as_quoted text None all = (Bad, all)
as_quoted text (Some rest) all = (Quoted text, rest)

-- a text within quotes ends here, with its quote or with what is no text
abbrev pub last_of_quoted : List ℕ → List ℕ → List ℕ → Cut
last_of_quoted all got [] = (Bad, all)
last_of_quoted all got (b ∷ text) = cond (b == 34) (Quoted got, text) (Bad, all)

-- a text within quotes goes on with this byte, before the rest
pub record GoesOn (byte : ℕ) (rest text : List ℕ) : Type 0 where
  pub low : 32 ≤ byte
  pub high : byte ≤ 126
  pub shorter : length rest < length text
  pub more : (all got : List ℕ) → length got < 255 → cut_quoted all got text ≡ cut_quoted all (got ++ byte ∷ []) rest
  pub full : (all got : List ℕ) → 255 ≤ length got → cut_quoted all got text ≡ (Bad, all)

-- a mark of one byte
abbrev pub is_mark : ℕ → Bool
is_mark b = b == 40 || b == 41 || b == 123 || b == 125 || b == 44 || b == 59 || b == 58 || b == 61

-- the token at the front of a text that begins with one
abbrev pub cut : List ℕ → Cut
cut [] = (End, [])
cut (b ∷ text) = cond (is_mark b) (Plain (b ∷ []), text) (cond (b == 34) (cut_quoted (b ∷ text) [] text) (cond (b == 45) (cut_dash text) (cut_word (b ∷ text))))

-- these tokens, if this one goes before others
abbrev pub behind : Lexeme → List Token → List Token
behind lexeme tokens = cond (is_spelled lexeme) tokens []

-- the first tokens of a text whose last line has this number
unfoldable pub first_tokens : ℕ → ℕ → List ℕ → List Token
first_tokens zero last text = []
first_tokens (suc n) last text = record { lexeme = (cut (from_token text)).0; line = last - line_ends (from_token text) } ∷ behind (cut (from_token text)).0 (first_tokens n last (cut (from_token text)).1)

-- all its tokens: each takes a byte at least, and there is one more at the end
unfoldable pub tokens_of : ℕ → List ℕ → List Token
tokens_of last text = first_tokens (suc (length text)) last text

-- The words of a program's text.
use Rattle.std.specs.Prelude.{ℕ, Bool, false, ◌&&◌, ◌||◌, not, nat_le, ◌==◌, List, [], ◌∷◌, length, codes}
use Rattle.std.specs.List.{list_all, list_any}
use Rattle.std.specs.Str.{bytes_eq}

-- a small letter
abbrev pub is_lower : ℕ → Bool
is_lower b = nat_le 97 b && nat_le b 122

-- a small letter, a digit or `_`
abbrev pub is_name_byte : ℕ → Bool
is_name_byte b = is_lower b || (nat_le 48 b && nat_le b 57) || b == 95

-- the words that no name may be
abbrev pub reserved : List (List ℕ)
reserved =
    codes "program" ∷ codes "parts" ∷ codes "rounds" ∷ codes "stop" ∷ codes "exact" ∷ codes "below" ∷ codes "by" ∷ codes "cache"
    ∷ codes "reducer_input" ∷ codes "reducer_output" ∷ codes "mapper_input" ∷ codes "table" ∷ codes "begin" ∷ codes "step" ∷ codes "state" ∷ codes "prev"
    ∷ codes "round" ∷ codes "reduce" ∷ codes "map" ∷ codes "distance" ∷ codes "partition" ∷ codes "let" ∷ codes "set" ∷ codes "if"
    ∷ codes "else" ∷ codes "for" ∷ codes "in" ∷ codes "emit" ∷ codes "give" ∷ codes "int" ∷ codes "text" ∷ []

-- the first byte is a small letter
abbrev pub begins_lower : List ℕ → Bool
begins_lower [] = false
begins_lower (b ∷ bytes) = is_lower b

-- a letter, a digit or `_`
abbrev pub is_word_byte : ℕ → Bool
is_word_byte b = is_name_byte b || (nat_le 65 b && nat_le b 90)

-- 1 to 31 bytes of a name, of which the first is a letter: a name or a reserved word
abbrev pub is_word : List ℕ → Bool
is_word bytes = begins_lower bytes && nat_le (length bytes) 31 && list_all is_name_byte bytes

-- a word that is not reserved
abbrev pub is_name : List ℕ → Bool
is_name bytes = is_word bytes && not (list_any (bytes_eq bytes) reserved)

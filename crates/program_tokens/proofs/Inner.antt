-- Places within a text: no end stands there, and each word can be spelled.
use Rattle.std.proofs.Common.{refl, List, [], ◌∷◌, ◌++◌, map, codes}
use Rattle.std.specs.List.{AllByRecursion, flat_map}
use Rattle.program_tokens.specs.Tokens.{IsSpelled}
use Rattle.program_tokens.specs.declared.token.Lexeme.TheVariants as lexeme
use Rattle.program_tokens.specs.Pieces.{Piece, plain, placed, name, int, natural, quoted, end, nothing}
use Rattle.program_tokens.specs.Pieces.{each_behind_comma, in_parentheses, comma_separated, some_comma_separated}
use Rattle.hal_base.specs.declared.value.Kind.{Kind}
use Rattle.hal_base.specs.declared.value.Kind.TheVariants as a_kind
use Rattle.program_tokens.specs.Pieces.{kind_pieces, kinds_pieces}

-- a place that no end stands at, nor a word that cannot be spelled
abbrev pub IsInner : Piece → Type 0
IsInner (plain word) = IsSpelled (lexeme.Plain word)
IsInner (placed word line) = IsSpelled (lexeme.Plain word)
IsInner (name ident) = Unit {0}
IsInner (int number) = Unit {0}
IsInner (natural number) = Unit {0}
IsInner (quoted text line) = Unit {0}
IsInner end = ⊥
IsInner nothing = Unit {0}

-- all places are inner ones
abbrev pub AreInner : List Piece → Type 0
AreInner pieces = AllByRecursion IsInner pieces

pub both_inner : (pieces others : List Piece) → AreInner pieces → AreInner others → AreInner (pieces ++ others)
both_inner [] others a b = b
both_inner (piece ∷ pieces) others a b = (a.0, both_inner pieces others a.1 b)

pub all_inner : {A : Type 0} (f : A → List Piece) → ((a : A) → AreInner (f a)) → (xs : List A) → AreInner (flat_map f xs)
all_inner f each [] = tt
all_inner f each (x ∷ xs) = both_inner (f x) (flat_map f xs) (each x) (all_inner f each xs)

abbrev pub AreAllInner : List (List Piece) → Type 0
AreAllInner [] = Unit {0}
AreAllInner (pieces ∷ others) = AreInner pieces × AreAllInner others

pub commas_inner : (others : List (List Piece)) → AreAllInner others → AreInner (each_behind_comma others)
commas_inner [] a = tt
commas_inner (pieces ∷ others) a = (refl, both_inner pieces (each_behind_comma others) a.0 (commas_inner others a.1))

pub separated_inner : (all : List (List Piece)) → AreAllInner all → AreInner (comma_separated all)
separated_inner [] a = tt
separated_inner (pieces ∷ others) a = both_inner pieces (each_behind_comma others) a.0 (commas_inner others a.1)

pub some_inner : (all : List (List Piece)) → AreAllInner all → AreInner (some_comma_separated all)
some_inner [] a = (tt, tt)
some_inner (pieces ∷ others) a = both_inner pieces (each_behind_comma others) a.0 (commas_inner others a.1)

pub each_inner : {A : Type 0} (f : A → List Piece) → ((a : A) → AreInner (f a)) → (xs : List A) → AreAllInner (map f xs)
each_inner f each [] = tt
each_inner f each (x ∷ xs) = (each x, each_inner f each xs)

pub parentheses_inner : (pieces : List Piece) → AreInner pieces → AreInner (in_parentheses pieces)
parentheses_inner pieces a = (refl, both_inner pieces (plain (codes ")") ∷ []) a (refl, tt))

pub kind_inner : (k : Kind) → AreInner (kind_pieces k)
kind_inner a_kind.Int = (refl, tt)
kind_inner a_kind.Text = (refl, tt)

pub kinds_inner : (kinds : List Kind) → AreInner (kinds_pieces kinds)
kinds_inner kinds = parentheses_inner (comma_separated (map kind_pieces kinds)) (separated_inner (map kind_pieces kinds) (each_inner kind_pieces kind_inner kinds))

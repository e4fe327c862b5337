-- What was read has at least one token.
use Rattle.std.proofs.Common.{codes, List, Ok, [], length, subst, ◌<◌, ◌≡◌, ◌≤◌}
use Rattle.program_tokens.specs.declared.token.Token.{Token}
use Rattle.program_tokens.specs.steps.Parsers.{Parser, ident}
use Rattle.program_tokens.specs.declared.token.Ident.{Ident}
use Rattle.program_tokens.proofs.Right.{Right, Spells, Stops, left_of, never_grows, read_shorter}
use Rattle.program_tokens.proofs.Firsts.{Free}
use Rattle.program_tokens.proofs.OneToken.{ident_right}
use Rattle.hal_base.specs.declared.value.Kind.{Kind}
use Rattle.program_tokens.specs.Pieces.{kind_pieces}
use Rattle.program_tokens.specs.steps.Parsers.{kind, kinds}
use Rattle.program_tokens.proofs.Avoiding.{Avoids}
use Rattle.program_tokens.proofs.Firsts.{heads_some}
use Rattle.program_tokens.proofs.KindReaders.{kind_first, kind_right, kinds_right}

-- what a reader of something leaves is shorter
pub right_shorter : {A : Type 0} {spells : Spells A} {stops : Stops} {p : Parser A} → Right spells stops p → ((a : A) → spells a [] → ⊥)
    → (ts : List Token) (a : A) (rest : List Token) → p ts ≡ Ok (a, rest) → length rest < length ts
right_shorter {spells = spells} {p = p} r some ts a rest e = read_shorter spells ts (p ts) a rest (r ts).sound some e

-- what a reader leaves is not longer
pub right_no_longer : {A : Type 0} {spells : Spells A} {stops : Stops} {p : Parser A} → Right spells stops p → (ts : List Token) (a : A) (rest : List Token) → p ts ≡ Ok (a, rest) → length rest ≤ length ts
right_no_longer {spells = spells} {p = p} r ts a rest e = subst (λ o. length (left_of o) ≤ length ts) e (never_grows spells ts (p ts) (r ts).sound)

-- a name
pub ident_shorter : (ts : List Token) (i : Ident) (rest : List Token) → ident ts ≡ Ok (i, rest) → length rest < length ts
ident_shorter = right_shorter (ident_right Free) (λ i e. cc)

-- a kind
pub kind_shorter : (ts : List Token) (k : Kind) (rest : List Token) → kind ts ≡ Ok (k, rest) → length rest < length ts
kind_shorter = right_shorter (kind_right Free) (heads_some (Avoids (codes ")")) kind_pieces kind_first)

-- kinds
pub kinds_shorter : (ts : List Token) (ks : List Kind) (rest : List Token) → kinds ts ≡ Ok (ks, rest) → length rest < length ts
kinds_shorter = right_shorter (kinds_right Free) (λ ks e. cc)

-- Records cut into pieces.
use Rattle.std.specs.Prelude.{◌≡◌, ℕ, ◌*◌, ◌<◌, ◌≤◌, nat_lt, if◌then◌else◌, List, [], ◌∷◌, length, take, drop, Option, None, Some, slice_get}
use Rattle.std.specs.List.{flat_map}
use Rattle.hal_base.specs.declared.record.Record.{Record}

-- each piece has this size, but the last, which has some records and at most so many
abbrev pub AreOfSize : ℕ → List (List Record) → Type 0
AreOfSize size [] = Unit {0}
AreOfSize size (piece ∷ []) = (0 < length piece) × (length piece ≤ size)
AreOfSize size (piece ∷ next ∷ pieces) = (length piece ≡ size) × AreOfSize size (next ∷ pieces)

-- the records are cut into these pieces, one after another
pub record AreCut (size : ℕ) (rows : List Record) (pieces : List (List Record)) : Type 0 where
  pub whole : flat_map (λ piece. piece) pieces ≡ rows
  pub sizes : AreOfSize size pieces

-- the piece of this number, from 0 on, if there is one
abbrev pub piece_at : ℕ → List Record → ℕ → Option (List Record)
piece_at size rows b = if nat_lt (b * size) (length rows) then Some (take size (drop (b * size) rows)) else None

-- each piece is the one of its number, and there are no others
abbrev pub PiecesStandByNumber : Type 0
PiecesStandByNumber = (size : ℕ) (rows : List Record) (pieces : List (List Record)) → 1 ≤ size → AreCut size rows pieces → (b : ℕ) → slice_get pieces b ≡ piece_at size rows b

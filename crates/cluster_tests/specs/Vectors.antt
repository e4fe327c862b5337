-- Texts of blocks, spills and caches that were written down by hand.
use Rattle.std.specs.Prelude.{◌≡◌, ℕ, ℤ, pos, negsuc, List, [], ◌∷◌, ◌++◌}
use Rattle.hal_base.specs.declared.value.Kind.TheVariants as kind
use Rattle.hal_base.specs.declared.value.Value.TheVariants.{Int, Text}
use Rattle.hal_base.specs.declared.record.Record.{Record}
use Rattle.hal_base.specs.declared.fields.Schema.{Schema}
use Rattle.record_blocks.specs.Blocks.{block_text, value_bytes}
use Rattle.partition_shuffle.specs.SpillTexts.{spill_text}
use Rattle.valid_copies.specs.Texts.{cache_text}

-- two numbers
abbrev pub pairs : Schema
pairs = record { key = kind.Int; fields = kind.Int ∷ [] }

-- a text alone
abbrev pub words : Schema
words = record { key = kind.Text; fields = [] }

-- a record of two numbers
abbrev pub pair : ℤ → ℤ → Record
pair key field = record { key = Int key; fields = Int field ∷ [] }

-- a record of a text alone
abbrev pub word : List ℕ → Record
word text = record { key = Text text; fields = [] }

-- a small count in eight bytes
abbrev pub small : ℕ → List ℕ
small n = 0 ∷ 0 ∷ 0 ∷ 0 ∷ 0 ∷ 0 ∷ 0 ∷ n ∷ []

-- what the block of two numbers begins with
abbrev pub pairs_head : List ℕ
pairs_head = 0x48 ∷ 0x4c ∷ 0x42 ∷ 0x31 ∷ 0x02 ∷ 0x49 ∷ 0x49 ∷ []

-- the definitions give these texts
pub record WorkedVectors : Type 0 where
  pub empty : block_text pairs [] ≡ pairs_head ++ small 0
  pub one_pair : block_text pairs (pair (pos 2) (pos 1) ∷ []) ≡ pairs_head ++ (small 1 ++ (small 2 ++ small 1))
  pub one_word : block_text words (word (0x61 ∷ 0x62 ∷ []) ∷ []) ≡ 0x48 ∷ 0x4c ∷ 0x42 ∷ 0x31 ∷ 0x01 ∷ 0x54 ∷ small 1 ++ (0x02 ∷ 0x61 ∷ 0x62 ∷ [])
  pub minus_one : value_bytes (Int (negsuc 0)) ≡ 0xff ∷ 0xff ∷ 0xff ∷ 0xff ∷ 0xff ∷ 0xff ∷ 0xff ∷ 0xff ∷ []
  pub two_parts : spill_text pairs ([] ∷ (pair (pos 2) (pos 1) ∷ []) ∷ []) ≡ 0x48 ∷ 0x4c ∷ 0x53 ∷ 0x31 ∷ 0x00 ∷ 0x02 ∷ small 15 ++ (pairs_head ++ (small 0 ++ (small 31 ++ (pairs_head ++ (small 1 ++ (small 2 ++ small 1))))))
  pub two_keys : cache_text pairs (pair (pos 1) (pos 5) ∷ pair (pos 1) (pos 7) ∷ pair (pos 2) (pos 0) ∷ []) ≡ 0x48 ∷ 0x4c ∷ 0x43 ∷ 0x31 ∷ small 2 ++ ((small 1 ++ (small 0 ++ small 2)) ++ (small 2 ++ (small 32 ++ small 1)) ++ (pairs_head ++ (small 3 ++ (small 1 ++ small 5 ++ (small 1 ++ small 7 ++ (small 2 ++ small 0))))))

-- What the functions of a program mean, and the laws that hold of them.
use Rattle.std.specs.Prelude.{◌≡◌, ℕ, Bool, true, false, List}
use Rattle.std.specs.declared.cmp.Ordering.TheVariants.{Equal}
use Rattle.std.specs.List.{AllByRecursion}
use Rattle.hal_base.specs.declared.value.Value.{Value}
use Rattle.hal_base.specs.declared.record.Record.{Record}
use Rattle.hal_base.specs.Order.{value_cmp, record_cmp}

-- each function by round, step and source, as far as it has them; they count from 1
pub record Meaning : Type 0 where
  pub map : ℕ → ℕ → ℕ → Record → List Record
  pub reduce : ℕ → ℕ → Value → List (List (List Value)) → List Record
  pub partition : ℕ → ℕ → Value → ℕ
  pub distance : Value → List (List Value) → List (List Value) → ℕ
  pub map_uses_round : ℕ → ℕ → Bool
  pub partition_uses_round : ℕ → Bool
  pub keeps_key : ℕ → Bool

-- a map or a partition that does not use the round means the same in all rounds
pub record RoundLaw (m : Meaning) : Type 0 where
  pub maps : (i i' j s : ℕ) (row : Record) → m.map_uses_round j s ≡ false → m.map i j s row ≡ m.map i' j s row
  pub partitions : (i i' j : ℕ) (key : Value) → m.partition_uses_round j ≡ false → m.partition i j key ≡ m.partition i' j key

-- a reduce that keeps the key emits at a key only records with that key
abbrev pub KeyLaw : Meaning → Type 0
KeyLaw m = (i j : ℕ) (key : Value) (groups : List (List (List Value))) → m.keeps_key j ≡ true → AllByRecursion (λ (row : Record). row.key ≡ key) (m.reduce i j key groups)

-- what compares as equal is one value to each function
pub record ValueLaw (m : Meaning) : Type 0 where
  pub maps : (i j s : ℕ) (a b : Record) → record_cmp a b ≡ Equal → m.map i j s a ≡ m.map i j s b
  pub reduces : (i j : ℕ) (a b : Value) (groups : List (List (List Value))) → value_cmp a b ≡ Equal → m.reduce i j a groups ≡ m.reduce i j b groups
  pub partitions : (i j : ℕ) (a b : Value) → value_cmp a b ≡ Equal → m.partition i j a ≡ m.partition i j b
  pub distances : (a b : Value) (old new : List (List Value)) → value_cmp a b ≡ Equal → m.distance a old new ≡ m.distance b old new

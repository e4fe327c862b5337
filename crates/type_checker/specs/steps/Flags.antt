-- The flags of the block of an `else`, by its list.
use Rattle.std.specs.Prelude.{ℕ, Bool, true, false, List, Option, None, Some}
use Rattle.std.specs.List.{list_all, list_any}
use Rattle.function_language.specs.declared.tree.Statement.{Statement}
use Rattle.type_checker.specs.Flags.{emits_first, uses_round}

-- `round` stands in the block of an `else`
abbrev pub other_uses_round : Option (List Statement) → Bool
other_uses_round None = false
other_uses_round (Some other) = list_any uses_round other

-- the first argument of each `emit` in it is this name
abbrev pub other_emits_first : List ℕ → Option (List Statement) → Bool
other_emits_first name None = true
other_emits_first name (Some other) = list_all (emits_first name) other

-- How far the groups of a key are apart, where a list has them.
use Rattle.std.specs.Prelude.{ℕ, List, [], ◌∷◌}
use Rattle.hal_base.specs.declared.value.Value.{Value}

-- how far the two groups of a key are from each other; nothing where there are not two
abbrev pub far_between : (Value → List (List Value) → List (List Value) → ℕ) → Value → List (List (List Value)) → ℕ
far_between far key (old ∷ new ∷ []) = far key old new
far_between far key groups = 0

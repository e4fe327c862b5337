-- Numbers among values.
use Rattle.std.proofs.Common.{◌≡◌, ℤ, Option, None, Some, option_map}
use Rattle.hal_base.specs.declared.value.Value.TheVariants as value

-- the number whose value is found
pub number_found : (found : Option ℤ) (n : ℤ) → option_map value.Int found ≡ Some (value.Int n) → found ≡ Some n
number_found None n e = absurd (no e)
  where
    no : None ≡ Some (value.Int n) → ⊥
    no e = cc
number_found (Some m) n e = cc

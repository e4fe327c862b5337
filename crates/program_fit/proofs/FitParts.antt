-- Each key has a part, and the default distance is that of the exact stop.
use Rattle.std.proofs.Common.{◌≡◌, ℕ, ◌<◌, ◌≤◌, List, [], Option, None, Some, pos, negsuc, ap, arith, slice_get}
use Rattle.hal_base.specs.declared.value.Value.{Value}
use Rattle.hal_base.specs.declared.value.Value.TheVariants.{Int, Text}
use Rattle.hal_base.specs.Parts.{default_part}
use Rattle.plain_job.specs.Distances.{differ}
use Rattle.function_language.specs.declared.tree.Function.{Function as Written}
use Rattle.function_language.specs.declared.tree.Function.TheVariants.{Map, Reduce, Distance, Partition}
use Rattle.type_checker.specs.declared.uses.Use.{Use}
use Rattle.type_checker.specs.declared.uses.Use.TheVariants.{Same, Least, Every, Hop, Default, Function}
use Rattle.type_checker.specs.declared.uses.Uses.{Uses}
use Rattle.function_meaning.specs.Functions.{key_named, partition_gives, ran}
use Rattle.function_meaning.specs.Meanings.{distance_used, meaning_of, partition_used}
use Rattle.function_meaning.specs.Optional.{◌>>=◌, or_zero}
use Rattle.function_meaning.specs.Statements.{State}

-- ---- each key has a part

default_within : (key : Value) (parts : ℕ) → 1 ≤ parts → default_part key parts < parts
default_within (Int (pos n)) parts l = omega arith
default_within (Int (negsuc n)) parts l = omega arith
default_within (Text bytes) parts l = omega arith

module _ (functions : List Written) (parts i : ℕ) (key : Value) (l : 1 ≤ parts) where
  -- a part that may be there is below the number of parts
  abbrev Within : Option ℕ → Type 0
  Within part = or_zero part < parts

  given_within : (done : Option State) → Within (done >>= (λ done. Some (default_part (Int done.given) parts)))
  given_within None = l
  given_within (Some done) = default_within (Int done.given) parts l

  own_within : (function : Written) → Within (partition_gives parts i function key)
  own_within (Map name params arrow out body) = l
  own_within (Reduce name param streams arrow out body) = l
  own_within (Distance name param before after body) = l
  own_within (Partition name param body) = given_within (ran (Some i) (key_named param key) [] body)

  found_within : (function : Option Written) → Within (function >>= (λ function. partition_gives parts i function key))
  found_within None = l
  found_within (Some function) = own_within function

  pub used_within : (use_ : Option Use) → Within (use_ >>= partition_used functions parts i key)
  used_within None = l
  used_within (Some Same) = l
  used_within (Some Least) = l
  used_within (Some Every) = l
  used_within (Some Hop) = l
  used_within (Some Default) = default_within key parts l
  used_within (Some (Function n)) = found_within (slice_get functions n)

-- ---- the exact stop

-- where no distance is named, it is that of the exact stop
pub default_distance : (functions : List Written) (uses : Uses) (parts : ℕ) → uses.distance ≡ Default → (key : Value) (old new : List (List Value)) → (meaning_of functions uses parts).distance key old new ≡ differ old new
default_distance functions uses parts e key old new = ap (λ (u : Use). or_zero (distance_used functions key old new u)) e

-- Which function of a program each place uses, and its flags. Steps and sources count from 1.
use Rattle.std.specs.Prelude.{ℕ, Bool, true, false, List, Option, None, Some, option_map, slice_get}
use Rattle.std.specs.Option.{option_and_then, option_map_or}
use Rattle.hal_base.specs.Shapes.{nth}
use Rattle.function_language.specs.declared.tree.Function.{Function as Written}
use Rattle.type_checker.specs.declared.uses.Use.{Use}
use Rattle.type_checker.specs.declared.uses.Use.TheVariants.{Same, Least, Every, Hop, Default, Function}
use Rattle.type_checker.specs.declared.uses.UseStep.{UseStep}
use Rattle.type_checker.specs.declared.uses.Uses.{Uses}
use Rattle.type_checker.specs.Flags.{function_uses_round, keeps_its_key}

-- the map of source s of step j
abbrev pub map_at : Uses → ℕ → ℕ → Option Use
map_at uses j s = option_and_then (λ (step : UseStep). nth step.maps s) (nth uses.steps j)

-- the reduce of step j
abbrev pub reduce_at : Uses → ℕ → Option Use
reduce_at uses j = option_map (λ (step : UseStep). step.reduce) (nth uses.steps j)

-- the partition of step j
abbrev pub partition_at : Uses → ℕ → Option Use
partition_at uses j = option_map (λ (step : UseStep). step.partition) (nth uses.steps j)

-- `round` stands in the function that is used
abbrev pub round_used : List Written → Option Use → Bool
round_used functions None = false
round_used functions (Some Same) = false
round_used functions (Some Least) = false
round_used functions (Some Every) = false
round_used functions (Some Hop) = false
round_used functions (Some Default) = false
round_used functions (Some (Function n)) = option_map_or function_uses_round (slice_get functions n) false

-- the reduce that is used emits at its key alone
abbrev pub key_kept : List Written → Option Use → Bool
key_kept functions None = false
key_kept functions (Some Same) = false
key_kept functions (Some Least) = true
key_kept functions (Some Every) = true
key_kept functions (Some Hop) = false
key_kept functions (Some Default) = false
key_kept functions (Some (Function n)) = option_map_or keeps_its_key (slice_get functions n) false

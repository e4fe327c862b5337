-- What the functions of a program mean, by the places at which it uses them.
use Rattle.std.specs.Prelude.{ℕ, List, Option, None, Some, slice_get}
use Rattle.hal_base.specs.declared.record.Record.{Record}
use Rattle.hal_base.specs.declared.value.Value.{Value}
use Rattle.hal_base.specs.Meaning.{Meaning}
use Rattle.hal_base.specs.Parts.{default_part}
use Rattle.plain_job.specs.Distances.{differ}
use Rattle.plain_job.specs.Predefined.{every, hop, least, same}
use Rattle.function_language.specs.declared.tree.Function.{Function as Written}
use Rattle.type_checker.specs.declared.uses.Use.{Use}
use Rattle.type_checker.specs.declared.uses.Use.TheVariants.{Same, Least, Every, Hop, Default, Function}
use Rattle.type_checker.specs.declared.uses.Uses.{Uses}
use Rattle.type_checker.specs.Uses.{key_kept, map_at, partition_at, reduce_at, round_used}
use Rattle.function_meaning.specs.Functions.{distance_gives, map_emits, partition_gives, reduce_emits}
use Rattle.function_meaning.specs.Optional.{◌>>=◌, or_none, or_zero}

-- what a place that uses a map emits for a record
abbrev pub map_used : List Written → ℕ → Record → Use → Option (List Record)
map_used functions i row Same = Some (same row)
map_used functions i row Least = None
map_used functions i row Every = None
map_used functions i row Hop = None
map_used functions i row Default = None
map_used functions i row (Function n) = do
  function ← slice_get functions n
  map_emits i function row

-- what a place that uses a reduce emits for a key and its groups
abbrev pub reduce_used : List Written → ℕ → Value → List (List (List Value)) → Use → Option (List Record)
reduce_used functions i key groups Same = None
reduce_used functions i key groups Least = Some (least key groups)
reduce_used functions i key groups Every = Some (every key groups)
reduce_used functions i key groups Hop = Some (hop key groups)
reduce_used functions i key groups Default = None
reduce_used functions i key groups (Function n) = do
  function ← slice_get functions n
  reduce_emits i function key groups

-- the part of a key by the partition that a place uses
abbrev pub partition_used : List Written → ℕ → ℕ → Value → Use → Option ℕ
partition_used functions parts i key Same = None
partition_used functions parts i key Least = None
partition_used functions parts i key Every = None
partition_used functions parts i key Hop = None
partition_used functions parts i key Default = Some (default_part key parts)
partition_used functions parts i key (Function n) = do
  function ← slice_get functions n
  partition_gives parts i function key

-- the distance of two groups of a key by the distance that is used
abbrev pub distance_used : List Written → Value → List (List Value) → List (List Value) → Use → Option ℕ
distance_used functions key old new Same = None
distance_used functions key old new Least = None
distance_used functions key old new Every = None
distance_used functions key old new Hop = None
distance_used functions key old new Default = Some (differ old new)
distance_used functions key old new (Function n) = do
  function ← slice_get functions n
  distance_gives function key old new

-- what the functions of a program mean, over so many parts; a place that has no function for a record, a key or a group means nothing there
abbrev pub meaning_of : List Written → Uses → ℕ → Meaning
meaning_of functions uses parts = record {
  map = λ i j s row. or_none (map_at uses j s >>= map_used functions i row);
  reduce = λ i j key groups. or_none (reduce_at uses j >>= reduce_used functions i key groups);
  partition = λ i j key. or_zero (partition_at uses j >>= partition_used functions parts i key);
  distance = λ key old new. or_zero (distance_used functions key old new uses.distance);
  map_uses_round = λ j s. round_used functions (map_at uses j s);
  partition_uses_round = λ j. round_used functions (partition_at uses j);
  keeps_key = λ j. key_kept functions (reduce_at uses j);
}

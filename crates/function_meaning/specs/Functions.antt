-- What functions mean.
use Rattle.std.specs.Prelude.{ℕ, List, [], ◌∷◌, Option, None, Some, map}
use Rattle.hal_base.specs.declared.record.Record.{Record}
use Rattle.hal_base.specs.declared.value.Value.{Value}
use Rattle.hal_base.specs.declared.value.Value.TheVariants as value
use Rattle.hal_base.specs.Parts.{default_part}
use Rattle.hal_base.specs.Values.{record_values}
use Rattle.function_language.specs.declared.tree.Function.{Function}
use Rattle.function_language.specs.declared.tree.Function.TheVariants.{Map, Reduce, Distance, Partition}
use Rattle.function_language.specs.declared.tree.Param.{Param}
use Rattle.function_language.specs.declared.tree.Statement.{Statement}
use Rattle.function_language.specs.declared.tree.Stream.{Stream}
use Rattle.operations.specs.Applied.{at_least_zero}
use Rattle.function_meaning.specs.Expressions.{Named, paired}
use Rattle.function_meaning.specs.Optional.{◌>>=◌}
use Rattle.function_meaning.specs.Statements.{State, all_after, start}

-- a body in a round, if there is one, under these parameters and groups
abbrev pub ran : Option ℕ → Named Value → Named (List (List Value)) → List Statement → Option State
ran round params groups body = all_after (record { round = round; params = params; groups = groups }) body start

-- the key alone
abbrev pub key_named : Param → Value → Named Value
key_named param key = (param.name.text, key) ∷ []

-- the records that a map emits for a record; nothing where the function is no map or does not fit the record
abbrev pub map_emits : ℕ → Function → Record → Option (List Record)
map_emits round (Map name params arrow out body) row = do
  values ← paired (map (λ (param : Param). param.name.text) params) (record_values row)
  done ← ran (Some round) values [] body
  Some done.out
map_emits round (Reduce name key streams arrow out body) row = None
map_emits round (Distance name key before after body) row = None
map_emits round (Partition name key body) row = None

-- the records that a reduce emits for a key and its groups
abbrev pub reduce_emits : ℕ → Function → Value → List (List (List Value)) → Option (List Record)
reduce_emits round (Map name params arrow out body) key groups = None
reduce_emits round (Reduce name param streams arrow out body) key groups = do
  known ← paired (map (λ (stream : Stream). stream.name.text) streams) groups
  done ← ran (Some round) (key_named param key) known body
  Some done.out
reduce_emits round (Distance name param before after body) key groups = None
reduce_emits round (Partition name param body) key groups = None

-- the distance of two groups of a key, where a negative one counts as 0
abbrev pub distance_gives : Function → Value → List (List Value) → List (List Value) → Option ℕ
distance_gives (Map name params arrow out body) key old new = None
distance_gives (Reduce name param streams arrow out body) key old new = None
distance_gives (Distance name param before after body) key old new = do
  done ← ran None (key_named param key) ((before.name.text, old) ∷ (after.name.text, new) ∷ []) body
  Some (at_least_zero done.given)
distance_gives (Partition name param body) key old new = None

-- the part of a key, of so many: the number that is given modulo them, never negative
abbrev pub partition_gives : ℕ → ℕ → Function → Value → Option ℕ
partition_gives parts round (Map name params arrow out body) key = None
partition_gives parts round (Reduce name param streams arrow out body) key = None
partition_gives parts round (Distance name param before after body) key = None
partition_gives parts round (Partition name param body) key = do
  done ← ran (Some round) (key_named param key) [] body
  Some (default_part (value.Int done.given) parts)

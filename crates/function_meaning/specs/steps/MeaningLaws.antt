-- The laws of what the functions of a program mean.
use Rattle.std.proofs.Common.{◌≡◌, ℕ, Bool, true, false, List, [], ◌∷◌, Option, None, Some, refl, ap, map, slice_get}
use Rattle.std.specs.List.{flat_map}
use Rattle.std.specs.Option.{option_map_or}
use Rattle.hal_base.specs.declared.record.Record.{Record}
use Rattle.hal_base.specs.declared.value.Value.{Value}
use Rattle.hal_base.specs.declared.value.Value.TheVariants as value
use Rattle.hal_base.specs.Parts.{default_part}
use Rattle.hal_base.specs.Laws.{record_cmp_exact, value_cmp_exact}
use Rattle.hal_base.specs.Meaning.{RoundLaw, KeyLaw, ValueLaw}
use Rattle.plain_job.specs.Predefined.{least_of, made, row_of}
use Rattle.function_language.specs.declared.tree.Function.{Function as Written}
use Rattle.function_language.specs.declared.tree.Function.TheVariants.{Map, Reduce, Distance, Partition}
use Rattle.function_language.specs.declared.tree.Param.{Param}
use Rattle.function_language.specs.declared.tree.Stream.{Stream}
use Rattle.type_checker.specs.declared.uses.Use.{Use}
use Rattle.type_checker.specs.declared.uses.Use.TheVariants.{Same, Least, Every, Hop, Default, Function}
use Rattle.type_checker.specs.declared.uses.Uses.{Uses}
use Rattle.type_checker.specs.Flags.{function_uses_round, keeps_its_key}
use Rattle.type_checker.specs.Uses.{key_kept, map_at, partition_at, reduce_at, round_used}
use Rattle.function_meaning.specs.Expressions.{paired}
use Rattle.function_meaning.specs.Functions.{key_named, map_emits, partition_gives, ran, reduce_emits}
use Rattle.function_meaning.specs.Meanings.{map_used, meaning_of, partition_used, reduce_used}
use Rattle.function_meaning.specs.Optional.{◌>>=◌, or_none, or_zero}
use Rattle.function_meaning.specs.Statements.{State, start}
use Rattle.function_meaning.specs.steps.KeyLaws.{AtKey, StaysAt, body_stays}
use Rattle.function_meaning.specs.steps.RoundLaws.{body_same, bound}

-- ---- the round

map_same : (i i' : ℕ) (row : Record) (f : Written) → function_uses_round f ≡ false → map_emits i f row ≡ map_emits i' f row
map_same i i' row (Map name params arrow out body) h =
    bound (paired (map (λ (param : Param). param.name.text) params) (row.key ∷ row.fields)) _ _ (λ values. ap (λ o. o >>= (λ (done : State). Some done.out)) (body_same values [] i i' body start h))
map_same i i' row (Reduce name key streams arrow out body) h = refl
map_same i i' row (Distance name key before after body) h = refl
map_same i i' row (Partition name key body) h = refl

partition_same : (parts i i' : ℕ) (key : Value) (f : Written) → function_uses_round f ≡ false → partition_gives parts i f key ≡ partition_gives parts i' f key
partition_same parts i i' key (Map name params arrow out body) h = refl
partition_same parts i i' key (Reduce name param streams arrow out body) h = refl
partition_same parts i i' key (Distance name param before after body) h = refl
partition_same parts i i' key (Partition name param body) h = ap (λ o. o >>= (λ (done : State). Some (default_part (value.Int done.given) parts))) (body_same (key_named param key) [] i i' body start h)

if_so : {A : Type 0} (test : Written → Bool) (f g : Written → Option A) (o : Option Written) → ((w : Written) → test w ≡ false → f w ≡ g w) → option_map_or test o false ≡ false → (o >>= f) ≡ (o >>= g)
if_so test f g None h e = refl
if_so test f g (Some w) h e = h w e

map_use_same : (functions : List Written) (i i' : ℕ) (row : Record) (o : Option Use) → round_used functions o ≡ false → (o >>= map_used functions i row) ≡ (o >>= map_used functions i' row)
map_use_same functions i i' row None h = refl
map_use_same functions i i' row (Some Same) h = refl
map_use_same functions i i' row (Some Least) h = refl
map_use_same functions i i' row (Some Every) h = refl
map_use_same functions i i' row (Some Hop) h = refl
map_use_same functions i i' row (Some Default) h = refl
map_use_same functions i i' row (Some (Function n)) h = if_so function_uses_round (λ f. map_emits i f row) (λ f. map_emits i' f row) (slice_get functions n) (map_same i i' row) h

partition_use_same : (functions : List Written) (parts i i' : ℕ) (key : Value) (o : Option Use) → round_used functions o ≡ false → (o >>= partition_used functions parts i key) ≡ (o >>= partition_used functions parts i' key)
partition_use_same functions parts i i' key None h = refl
partition_use_same functions parts i i' key (Some Same) h = refl
partition_use_same functions parts i i' key (Some Least) h = refl
partition_use_same functions parts i i' key (Some Every) h = refl
partition_use_same functions parts i i' key (Some Hop) h = refl
partition_use_same functions parts i i' key (Some Default) h = refl
partition_use_same functions parts i i' key (Some (Function n)) h = if_so function_uses_round (λ f. partition_gives parts i f key) (λ f. partition_gives parts i' f key) (slice_get functions n) (partition_same parts i i' key) h

-- what does not use the round means the same in all rounds
pub round_law : (functions : List Written) (uses : Uses) (parts : ℕ) → RoundLaw (meaning_of functions uses parts)
round_law functions uses parts = record {
  maps = λ i i' j s row h. ap or_none (map_use_same functions i i' row (map_at uses j s) h);
  partitions = λ i i' j key h. ap or_zero (partition_use_same functions parts i i' key (partition_at uses j) h);
}

-- ---- the key

rows_at : (key : Value) (group : List (List Value)) → AtKey key (map (λ fields. made key fields) group)
rows_at key [] = tt
rows_at key (fields ∷ group) = (refl, rows_at key group)

row_at : (key : Value) (fields : Option (List Value)) → AtKey key (row_of key fields)
row_at key None = tt
row_at key (Some fields) = (refl, tt)

-- each record that may be there has the key
abbrev MayAt : Value → Option (List Record) → Type 0
MayAt key o = AtKey key (or_none o)

out_at : (key : Value) (o : Option State) → StaysAt key o → MayAt key (o >>= (λ done. Some done.out))
out_at key None a = tt
out_at key (Some done) a = a

no_keep : {A : Type 0} → false ≡ true → A
no_keep e = absurd (no e)
  where
    no : false ≡ true → ⊥
    no e = cc

reduce_at_key : (i : ℕ) (key : Value) (groups : List (List (List Value))) (f : Written) → keeps_its_key f ≡ true → MayAt key (reduce_emits i f key groups)
reduce_at_key i key groups (Map name params arrow out body) h = tt
reduce_at_key i key groups (Reduce name param streams arrow out body) h =
    elim (paired (map (λ (stream : Stream). stream.name.text) streams) groups) as (λ o. MayAt key (o >>= (λ known. ran (Some i) (key_named param key) known body >>= (λ done. Some done.out)))) [
      | None ↦ tt
      | Some known ↦ out_at key (ran (Some i) (key_named param key) known body) (body_stays (Some i) param.name.text key known body start h tt)
    ]
reduce_at_key i key groups (Distance name param before after body) h = tt
reduce_at_key i key groups (Partition name param body) h = tt

function_at_key : (i : ℕ) (key : Value) (groups : List (List (List Value))) (o : Option Written) → option_map_or keeps_its_key o false ≡ true → MayAt key (o >>= (λ f. reduce_emits i f key groups))
function_at_key i key groups None h = tt
function_at_key i key groups (Some f) h = reduce_at_key i key groups f h

used_at_key : (functions : List Written) (i : ℕ) (key : Value) (groups : List (List (List Value))) (o : Option Use) → key_kept functions o ≡ true → MayAt key (o >>= reduce_used functions i key groups)
used_at_key functions i key groups None h = tt
used_at_key functions i key groups (Some Same) h = tt
used_at_key functions i key groups (Some Least) h = row_at key (least_of None (flat_map (λ group. group) groups))
used_at_key functions i key groups (Some Every) h = rows_at key (flat_map (λ group. group) groups)
used_at_key functions i key groups (Some Hop) h = no_keep h
used_at_key functions i key groups (Some Default) h = tt
used_at_key functions i key groups (Some (Function n)) h = function_at_key i key groups (slice_get functions n) h

-- a reduce that keeps the key emits at a key only records with that key
pub key_law : (functions : List Written) (uses : Uses) (parts : ℕ) → KeyLaw (meaning_of functions uses parts)
key_law functions uses parts = λ i j key groups h. used_at_key functions i key groups (reduce_at uses j) h

-- ---- values

-- what compares as equal is one value to each function
pub value_law : (functions : List Written) (uses : Uses) (parts : ℕ) → ValueLaw (meaning_of functions uses parts)
value_law functions uses parts =
    let m = meaning_of functions uses parts in
    record {
      maps = λ i j s a b e. ap (m.map i j s) (record_cmp_exact a b e);
      reduces = λ i j a b groups e. ap (λ key. m.reduce i j key groups) (value_cmp_exact a b e);
      partitions = λ i j a b e. ap (m.partition i j) (value_cmp_exact a b e);
      distances = λ a b old new e. ap (λ key. m.distance key old new) (value_cmp_exact a b e);
    }

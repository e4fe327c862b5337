-- Typed functions never stop, and give values for values.
use Rattle.std.specs.Prelude.{ℕ, ◌≤◌, List, [], ◌∷◌, Option, None, Some, length, map}
use Rattle.std.specs.List.{AllByRecursion}
use Rattle.hal_base.specs.declared.record.Record.{Record}
use Rattle.hal_base.specs.declared.value.Kind.{Kind}
use Rattle.hal_base.specs.declared.value.Value.{Value}
use Rattle.hal_base.specs.Values.{record_values}
use Rattle.plain_job.specs.Fit.{AreFieldsOf, IsGroupOf, IsKeyOf}
use Rattle.function_language.specs.declared.tree.Function.{Function}
use Rattle.function_language.specs.declared.tree.Function.TheVariants.{Map, Reduce, Distance, Partition}
use Rattle.function_language.specs.declared.tree.Param.{Param}
use Rattle.function_language.specs.declared.tree.Stream.{Stream}
use Rattle.function_language.specs.Spelled.{CanBeSpelled}
use Rattle.type_checker.specs.Functions.{AreTyped}
use Rattle.function_meaning.specs.Functions.{distance_gives, map_emits, partition_gives, reduce_emits}

-- it is there, and this holds of it
abbrev pub GoesRight : {A : Type 0} → (A → Type 0) → Option A → Type 0
GoesRight P None = ⊥
GoesRight P (Some a) = P a

-- a record of values of these kinds, that of the key first
abbrev pub IsOfKinds : List Kind → Record → Type 0
IsOfKinds kinds row = AreFieldsOf kinds (record_values row)

-- a record has from 1 to 8 values
abbrev pub MakeARecord : List Kind → Type 0
MakeARecord kinds = (1 ≤ length kinds) × (length kinds ≤ 8)

-- there is a group for each stream, of values of its kinds
abbrev pub AreGroupsOf : List Stream → List (List (List Value)) → Type 0
AreGroupsOf [] [] = Unit {0}
AreGroupsOf [] (group ∷ groups) = ⊥
AreGroupsOf (stream ∷ streams) [] = ⊥
AreGroupsOf (stream ∷ streams) (group ∷ groups) = IsGroupOf stream.kinds group × AreGroupsOf streams groups

-- whatever values of the kinds that it takes a function is given, in any round that a program may have: it has a meaning there; what it emits are values of the kinds behind its arrow, and a distance is a number of 64 bits
abbrev pub NeverStops : Function → Type 0
NeverStops (Map name params arrow out body) =
    MakeARecord out.kinds → (round : ℕ) (row : Record) → round ≤ 10000 → IsOfKinds (map (λ (param : Param). param.kind) params) row
    → GoesRight (AllByRecursion (IsOfKinds out.kinds)) (map_emits round (Map name params arrow out body) row)
NeverStops (Reduce name param streams arrow out body) =
    MakeARecord out.kinds → (round : ℕ) (key : Value) (groups : List (List (List Value))) → round ≤ 10000 → IsKeyOf param.kind key → AreGroupsOf streams groups
    → GoesRight (AllByRecursion (IsOfKinds out.kinds)) (reduce_emits round (Reduce name param streams arrow out body) key groups)
NeverStops (Distance name param before after body) =
    (key : Value) (old new : List (List Value)) → IsKeyOf param.kind key → IsGroupOf before.kinds old → IsGroupOf after.kinds new
    → GoesRight (λ distance. distance ≤ 9223372036854775807) (distance_gives (Distance name param before after body) key old new)
NeverStops (Partition name param body) =
    (parts round : ℕ) (key : Value) → round ≤ 10000 → IsKeyOf param.kind key
    → GoesRight (λ part. Unit {0}) (partition_gives parts round (Partition name param body) key)

-- functions in which no fault is found, and whose literals are values, never stop
abbrev pub TypedFunctionsNeverStop : Type 0
TypedFunctionsNeverStop = (functions : List Function) → AreTyped functions → CanBeSpelled functions → AllByRecursion NeverStops functions

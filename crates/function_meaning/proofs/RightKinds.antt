-- What functions take and give, by kinds alone.
use Rattle.std.proofs.Common.{◌≡◌, ℕ, List, [], ◌∷◌, map}
use Rattle.std.specs.List.{AllByRecursion}
use Rattle.hal_base.specs.declared.record.Record.{Record}
use Rattle.hal_base.specs.declared.value.Kind.{Kind}
use Rattle.hal_base.specs.declared.value.Value.{Value}
use Rattle.hal_base.specs.Values.{kind_of}
use Rattle.function_language.specs.declared.tree.Function.{Function}
use Rattle.function_language.specs.declared.tree.Function.TheVariants.{Map, Reduce, Distance, Partition}
use Rattle.function_language.specs.declared.tree.Param.{Param}
use Rattle.function_language.specs.declared.tree.Stream.{Stream}
use Rattle.function_meaning.specs.Functions.{distance_gives, map_emits, partition_gives, reduce_emits}
use Rattle.function_meaning.specs.NeverStops.{GoesRight, MakeARecord}

-- the values are of these kinds
abbrev pub HaveKinds : List Kind → List Value → Type 0
HaveKinds kinds values = map kind_of values ≡ kinds

-- the key and the fields of a record are of these kinds
abbrev pub RowHasKinds : List Kind → Record → Type 0
RowHasKinds kinds row = HaveKinds kinds (row.key ∷ row.fields)

-- the field lists of a group are of these kinds
abbrev pub GroupHasKinds : List Kind → List (List Value) → Type 0
GroupHasKinds kinds group = AllByRecursion (HaveKinds kinds) group

-- there is a group for each stream, of its kinds
abbrev pub GroupsHaveKinds : List Stream → List (List (List Value)) → Type 0
GroupsHaveKinds [] [] = Unit {0}
GroupsHaveKinds [] (group ∷ groups) = ⊥
GroupsHaveKinds (stream ∷ streams) [] = ⊥
GroupsHaveKinds (stream ∷ streams) (group ∷ groups) = GroupHasKinds stream.kinds group × GroupsHaveKinds streams groups

-- of what has the kinds that it takes a function makes something that has the kinds that it names
abbrev pub KeepsKinds : Function → Type 0
KeepsKinds (Map name params arrow out body) =
    MakeARecord out.kinds → (round : ℕ) (row : Record) → RowHasKinds (map (λ (param : Param). param.kind) params) row
    → GoesRight (AllByRecursion (RowHasKinds out.kinds)) (map_emits round (Map name params arrow out body) row)
KeepsKinds (Reduce name param streams arrow out body) =
    MakeARecord out.kinds → (round : ℕ) (key : Value) (groups : List (List (List Value))) → kind_of key ≡ param.kind → GroupsHaveKinds streams groups
    → GoesRight (AllByRecursion (RowHasKinds out.kinds)) (reduce_emits round (Reduce name param streams arrow out body) key groups)
KeepsKinds (Distance name param before after body) =
    (key : Value) (old new : List (List Value)) → kind_of key ≡ param.kind → GroupHasKinds before.kinds old → GroupHasKinds after.kinds new
    → GoesRight (λ distance. Unit {0}) (distance_gives (Distance name param before after body) key old new)
KeepsKinds (Partition name param body) =
    (parts round : ℕ) (key : Value) → kind_of key ≡ param.kind
    → GoesRight (λ part. Unit {0}) (partition_gives parts round (Partition name param body) key)

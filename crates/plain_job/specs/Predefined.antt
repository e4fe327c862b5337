-- The functions that every program knows.
use Rattle.std.specs.Prelude.{cond, List, [], ◌∷◌, Option, None, Some, map, ℤ, pos, ◌+ℤ◌}
use Rattle.std.specs.Int.{w64, saturate_signed}
use Rattle.std.specs.Ordering.{is_le}
use Rattle.std.specs.Cmp.Lexicographic.{slice_cmp}
use Rattle.std.specs.List.{flat_map}
use Rattle.hal_base.specs.declared.value.Value.{Value}
use Rattle.hal_base.specs.declared.value.Value.TheVariants.{Int}
use Rattle.hal_base.specs.declared.record.Record.{Record}
use Rattle.hal_base.specs.Order.{value_cmp}

-- the map that emits each record as it is
abbrev pub same : Record → List Record
same row = row ∷ []

-- the lesser of two field lists, of which one may be missing
abbrev pub lesser : Option (List Value) → List Value → List Value
lesser None fields = fields
lesser (Some best) fields = cond (is_le (slice_cmp value_cmp best fields)) best fields

-- the least of a field list, if there is one, and others
abbrev pub least_of : Option (List Value) → List (List Value) → Option (List Value)
least_of best [] = best
least_of best (fields ∷ others) = least_of (Some (lesser best fields)) others

-- a record of this key and these fields
abbrev pub made : Value → List Value → Record
made key fields = record { key = key; fields = fields }

-- the key with these fields, or nothing
abbrev pub row_of : Value → Option (List Value) → List Record
row_of key None = []
row_of key (Some fields) = made key fields ∷ []

-- the reduce that emits the key with the least field list of all groups
abbrev pub least : Value → List (List (List Value)) → List Record
least key groups = row_of key (least_of None (flat_map (λ group. group) groups))

-- the reduce that emits each field list of each group, streams in order
abbrev pub every : Value → List (List (List Value)) → List Record
every key groups = map (λ fields. made key fields) (flat_map (λ group. group) groups)

-- the sum, or the greatest or least number of 64 bits past which it would go
abbrev pub add : ℤ → ℤ → ℤ
add a b = saturate_signed w64 (a +ℤ b)

-- the next number, from a list of one number; nothing from any other list
abbrev pub next_of : List Value → List Value
next_of (Int d ∷ []) = Int (add d (pos 1)) ∷ []
next_of fields = []

-- the first field of a list as a key, with these fields
abbrev pub keyed : List Value → List Value → List Record
keyed [] fields = []
keyed (key ∷ others) fields = made key fields ∷ []

-- the reduce of two streams that emits, for each number d of the first and each field t of the second, the key t with d + 1
abbrev pub hop : Value → List (List (List Value)) → List Record
hop key (distances ∷ targets ∷ []) = flat_map (λ d. flat_map (λ t. keyed t (next_of d)) targets) distances
hop key groups = []

-- How far an output is from that of the round before, as a whole and part by part.
use Rattle.std.specs.Prelude.{◌≡◌, ℕ, ◌+◌, min, sum, Bool, true, false, List, [], ◌∷◌, map, if◌then◌else◌}
use Rattle.std.specs.Ordering.{is_eq}
use Rattle.std.specs.Cmp.Lexicographic.{slice_cmp}
use Rattle.std.specs.List.{AllByRecursion}
use Rattle.hal_base.specs.declared.value.Value.{Value}
use Rattle.hal_base.specs.declared.record.Record.{Record}
use Rattle.hal_base.specs.declared.shape.Shape.{Shape}
use Rattle.hal_base.specs.Order.{value_cmp}
use Rattle.hal_base.specs.Meaning.{Meaning}
use Rattle.plain_job.specs.Job.{group, keys}

-- 1 where the two groups differ, else 0
abbrev pub differ : List (List Value) → List (List Value) → ℕ
differ old new = if is_eq (slice_cmp (slice_cmp value_cmp) old new) then 0 else 1

-- how far the group of a key is from that of the round before: where the program stops exactly, whether they differ
abbrev pub key_distance : Meaning → Bool → Value → List (List Value) → List (List Value) → ℕ
key_distance m true key old new = differ old new
key_distance m false key old new = m.distance key old new

-- the sum over all keys of two outputs, each once, of how far their groups are from each other, up to the greatest number
abbrev pub distance_by : (Value → List (List Value) → List (List Value) → ℕ) → List Record → List Record → ℕ
distance_by far old new = min (sum (map (λ key. far key (group old key) (group new key)) (keys (old ∷ new ∷ [])))) 9223372036854775807

-- how far an output is from that of the round before
abbrev pub distance : Meaning → Shape → List Record → List Record → ℕ
distance m shape old new = distance_by (key_distance m shape.exact) old new

-- the distance of each part
abbrev pub part_distances : (Value → List (List Value) → List (List Value) → ℕ) → List (List Record) → List (List Record) → List ℕ
part_distances far [] news = []
part_distances far (old ∷ olds) [] = []
part_distances far (old ∷ olds) (new ∷ news) = distance_by far old new ∷ part_distances far olds news

-- the keys of each part are those of its number, and the first number is n
abbrev pub EachIn : (Value → ℕ) → ℕ → List (List Record) → Type 0
EachIn part_of n [] = Unit {0}
EachIn part_of n (rows ∷ parts) = AllByRecursion (λ (row : Record). part_of row.key ≡ n) rows × EachIn part_of (n + 1) parts

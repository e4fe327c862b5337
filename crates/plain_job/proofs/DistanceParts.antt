-- The distance of a whole, and the distances of its parts.
use Rattle.std.proofs.Common.{◌≡◌, ℕ, ◌+◌, ◌==◌, ◌<◌, Bool, true, false, not, List, [], ◌∷◌, ◌++◌, refl, sym, ap, ◌∙◌, min, sum, length, arith}
use Rattle.std.specs.List.{AllByRecursion, sum_by}
use Rattle.std.proofs.lemmas.Bool.{eqb-true, eq-eqb}
use Rattle.std.proofs.lemmas.List.Filters.{sum_by-filter_both}
use Rattle.std.proofs.lemmas.List.Sums.{sum_by-cons}
use Rattle.hal_base.specs.declared.value.Value.{Value}
use Rattle.hal_base.specs.declared.record.Record.{Record}
use Rattle.plain_job.specs.Chain.{together}
use Rattle.plain_job.specs.Job.{keys}
use Rattle.plain_job.specs.Laws.{part}
use Rattle.plain_job.proofs.Keys.{all_kept}
use Rattle.plain_job.specs.ChainLaws.{PartsSumToTheDistance}
use Rattle.plain_job.specs.Distances.{distance_by, part_distances, EachIn}
use Rattle.plain_job.proofs.Distances.{apart, sum_of, chosen_is, sum_is}

-- the records have chosen keys, or none has
abbrev All : (Value → Bool) → Bool → List Record → Type 0
All chosen b rows = AllByRecursion (λ (row : Record). chosen row.key ≡ b) rows

nothing_chosen : (chosen : Value → Bool) (rows : List Record) → All chosen false rows → part chosen rows ≡ []
nothing_chosen chosen [] a = refl
nothing_chosen chosen (row ∷ rows) a = rw (a.0, nothing_chosen chosen rows a.1)

first_part : (chosen : Value → Bool) (rows others : List Record) → All chosen true rows → All chosen false others → part chosen (rows ++ others) ≡ rows
first_part chosen [] others a b = nothing_chosen chosen others b
first_part chosen (row ∷ rows) others a b = rw (a.0, first_part chosen rows others a.1 b)

abbrev other : (Value → Bool) → Value → Bool
other chosen key = not (chosen key)

all_others : (chosen : Value → Bool) (rows : List Record) → All chosen false rows → part (other chosen) rows ≡ rows
all_others chosen [] a = refl
all_others chosen (row ∷ rows) a = rw (a.0, all_others chosen rows a.1)

other_part : (chosen : Value → Bool) (rows others : List Record) → All chosen true rows → All chosen false others → part (other chosen) (rows ++ others) ≡ others
other_part chosen [] others a b = all_others chosen others b
other_part chosen (row ∷ rows) others a b = rw (a.0, other_part chosen rows others a.1 b)

module _ (far : Value → List (List Value) → List (List Value) → ℕ) where
  abbrev whole : List Record → List Record → ℕ
  whole old new = sum_of far (λ _. true) old new

  split : (chosen : Value → Bool) (old new : List Record) → whole old new ≡ sum_of far chosen old new + sum_of far (other chosen) old new
  split chosen old new =
      ap (sum_by (apart far old new)) (all_kept (keys (old ∷ new ∷ [])))
      ∙ sym (sum_by-filter_both chosen (other chosen) (λ key. refl) (apart far old new) (keys (old ∷ new ∷ [])))

  -- where two parts have no key in common, the whole is their sum
  two_parts : (chosen : Value → Bool) (old new olds news : List Record) → All chosen true old → All chosen true new → All chosen false olds → All chosen false news → whole (old ++ olds) (new ++ news) ≡ whole old new + whole olds news
  two_parts chosen old new olds news a b c d =
      let first : sum_of far chosen (old ++ olds) (new ++ news) ≡ whole old new =
      chosen_is far chosen (old ++ olds) (new ++ news) ∙ rw (first_part chosen old olds a c, first_part chosen new news b d)
      in
      let second : sum_of far (other chosen) (old ++ olds) (new ++ news) ≡ whole olds news =
      chosen_is far (other chosen) (old ++ olds) (new ++ news) ∙ rw (other_part chosen old olds a c, other_part chosen new news b d)
      in
      split chosen (old ++ olds) (new ++ news) ∙ ap (λ n. n + sum_of far (other chosen) (old ++ olds) (new ++ news)) first ∙ ap (λ n. whole old new + n) second

-- whether a key is of this part
abbrev is_in : (Value → ℕ) → ℕ → Value → Bool
is_in part_of n key = part_of key == n

all_in : (part_of : Value → ℕ) (n : ℕ) (rows : List Record) → AllByRecursion (λ (row : Record). part_of row.key ≡ n) rows → All (is_in part_of n) true rows
all_in part_of n [] a = tt
all_in part_of n (row ∷ rows) a = (eq-eqb (part_of row.key) n a.0, all_in part_of n rows a.1)

unequal : (a b : ℕ) → b < a → (a == b) ≡ false
unequal a b l =
    elim (a == b) as (λ t. (a == b) ≡ t → t ≡ false) [
      | true ↦ λ e. let same : a ≡ b = eqb-true a b e in absurd (omega arith)
      | false ↦ λ e. refl
    ] refl

not_in : (part_of : Value → ℕ) (n m : ℕ) → n < m → (rows more : List Record) → AllByRecursion (λ (row : Record). part_of row.key ≡ m) rows → All (is_in part_of n) false more → All (is_in part_of n) false (rows ++ more)
not_in part_of n m l [] more a b = b
not_in part_of n m l (row ∷ rows) more a b = (unequal (part_of row.key) n (rw a.0 l), not_in part_of n m l rows more a.1 b)

later : (part_of : Value → ℕ) (n m : ℕ) → n < m → (parts : List (List Record)) → EachIn part_of m parts → All (is_in part_of n) false (together parts)
later part_of n m l [] a = tt
later part_of n m l (rows ∷ parts) a = not_in part_of n m l rows (together parts) a.0 (later part_of n (m + 1) (omega arith) parts a.1)

-- caps nest
capped : (a b r greatest : ℕ) → min r greatest ≡ min b greatest → min (min a greatest + r) greatest ≡ min (a + b) greatest
capped a b r greatest e = omega arith

from_part : (far : Value → List (List Value) → List (List Value) → ℕ) (part_of : Value → ℕ) (n : ℕ) (olds news : List (List Record)) → length olds ≡ length news → EachIn part_of n olds → EachIn part_of n news → min (sum (part_distances far olds news)) 9223372036854775807 ≡ min (whole far (together olds) (together news)) 9223372036854775807
from_part far part_of n [] [] l a b = refl
from_part far part_of n [] (new ∷ news) l a b = absurd (omega arith)
from_part far part_of n (old ∷ olds) [] l a b = absurd (omega arith)
from_part far part_of n (old ∷ olds) (new ∷ news) l a b =
    let rest = from_part far part_of (n + 1) olds news (omega arith) a.1 b.1 in
    let chosen : Value → Bool = is_in part_of n in
    let parted = two_parts far chosen old new (together olds) (together news) (all_in part_of n old a.0) (all_in part_of n new b.0) (later part_of n (n + 1) (omega arith) olds a.1) (later part_of n (n + 1) (omega arith) news b.1) in
    let head : distance_by far old new ≡ min (whole far old new) 9223372036854775807 = ap (λ k. min k 9223372036854775807) (sum_is far old new) in
    ap (λ k. min k 9223372036854775807) (sum_by-cons (λ k. k) (distance_by far old new) (part_distances far olds news) ∙ ap (λ k. k + sum (part_distances far olds news)) head)
    ∙ capped (whole far old new) (whole far (together olds) (together news)) (sum (part_distances far olds news)) 9223372036854775807 rest
    ∙ ap (λ k. min k 9223372036854775807) (sym parted)

pub parts_sum : PartsSumToTheDistance
parts_sum far part_of olds news l a b = from_part far part_of 0 olds news l a b ∙ ap (λ k. min k 9223372036854775807) (sym (sum_is far (together olds) (together news)))

-- Lists in an order: what it is to be in order, and the list in order that has the same items.
use Rattle.std.specs.Prelude.{◌≡◌, false, cond, List, [], ◌∷◌}
use Rattle.std.specs.declared.cmp.Ordering.{Ordering}
use Rattle.std.specs.declared.cmp.Ordering.TheVariants.{Less, Equal, Greater}
use Rattle.std.specs.Ordering.{is_gt}
use Rattle.std.specs.List.{AllByRecursion}

-- no item is greater than a later one
abbrev pub Ascending : {A : Type 0} → (A → A → Ordering) → List A → Type 0
Ascending R [] = Unit {0}
Ascending R (x ∷ xs) = AllByRecursion (λ y. is_gt (R x y) ≡ false) xs × Ascending R xs

-- x in front of the first item that is not below it
abbrev pub placed : {A : Type 0} → (A → A → Ordering) → A → List A → List A
placed R x [] = x ∷ []
placed R x (y ∷ ys) = cond (is_gt (R x y)) (y ∷ placed R x ys) (x ∷ y ∷ ys)

-- the items in order, repeats kept
abbrev pub sorted : {A : Type 0} → (A → A → Ordering) → List A → List A
sorted R [] = []
sorted R (x ∷ xs) = placed R x (sorted R xs)

-- one of three, by an answer
abbrev pub by_order : {A : Type 0} → Ordering → A → A → A → A
by_order Less a b c = a
by_order Equal a b c = b
by_order Greater a b c = c

-- x placed, unless it is there already
abbrev pub joined : {A : Type 0} → (A → A → Ordering) → A → List A → List A
joined R x [] = x ∷ []
joined R x (y ∷ ys) = by_order (R x y) (x ∷ y ∷ ys) (y ∷ ys) (y ∷ joined R x ys)

-- each item once, in order
abbrev pub distinct : {A : Type 0} → (A → A → Ordering) → List A → List A
distinct R [] = []
distinct R (x ∷ xs) = joined R x (distinct R xs)

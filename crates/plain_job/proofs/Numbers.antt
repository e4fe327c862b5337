-- Lists by number.
use Rattle.std.proofs.Common.{◌≡◌, ℕ, zero, suc, ◌+◌, ◌<◌, ◌≤◌, List, [], ◌∷◌, ◌++◌, refl, ap, ◌∙◌, map, length, arith, add-one, Some, slice_get}
use Rattle.hal_base.specs.declared.record.Record.{Record}
use Rattle.hal_base.specs.Shapes.{nth}
use Rattle.plain_job.specs.Chain.{numbers_from, table_at, together}

pub map_same : {A B : Type 0} (f g : A → B) → ((x : A) → f x ≡ g x) → (xs : List A) → map f xs ≡ map g xs
map_same f g e [] = refl
map_same f g e (x ∷ xs) = ap (λ y. y ∷ map f xs) (e x) ∙ ap (λ ys. g x ∷ ys) (map_same f g e xs)

pub map_twice : {A B C : Type 0} (f : B → C) (g : A → B) (xs : List A) → map f (map g xs) ≡ map (λ x. f (g x)) xs
map_twice f g [] = refl
map_twice f g (x ∷ xs) = ap (λ ys. f (g x) ∷ ys) (map_twice f g xs)

-- the numbers from p on, one later
pub shifted : {B : Type 0} (f : ℕ → B) (p n : ℕ) → map f (numbers_from (p + 1) n) ≡ map (λ k. f (k + 1)) (numbers_from p n)
shifted f p zero = refl
shifted f p (suc n) = ap (λ xs. f (p + 1) ∷ xs) (shifted f (p + 1) n)

-- what is made of some numbers is the same where it is the same of each of them
pub map_below : {B : Type 0} (f g : ℕ → B) (a n : ℕ) → ((k : ℕ) → a ≤ k → k < a + n → f k ≡ g k) → map f (numbers_from a n) ≡ map g (numbers_from a n)
map_below f g a zero e = refl
map_below f g a (suc n) e = ap (λ y. y ∷ map f (numbers_from (a + 1) n)) (e a (omega arith) (omega arith)) ∙ ap (λ ys. g a ∷ ys) (map_below f g (a + 1) n (λ k l h. e k (omega arith) (omega arith)))

pub length_numbers : {B : Type 0} (f : ℕ → B) (a n : ℕ) → length (map f (numbers_from a n)) ≡ n
length_numbers f a zero = refl
length_numbers f a (suc n) = ap suc (length_numbers f (a + 1) n)

-- the list of this number among lists made by number
pub at_number : (f : ℕ → List Record) (a n p : ℕ) → p < n → table_at (map f (numbers_from a n)) p ≡ f (a + p)
at_number f a zero p l = absurd (omega arith)
at_number f a (suc n) zero l = let e : a ≡ a + 0 = omega arith in ap f e
at_number f a (suc n) (suc p) l = let e : a + 1 + p ≡ a + suc p = omega arith in at_number f (a + 1) n p (omega arith) ∙ ap f e

table_next : (rows : List Record) (tables : List (List Record)) (k : ℕ) → table_at (rows ∷ tables) (k + 1) ≡ table_at tables k
table_next rows tables k = ap (table_at (rows ∷ tables)) (add-one k)

-- lists, by their numbers
pub all_numbers : (xs : List (List Record)) → map (table_at xs) (numbers_from 0 (length xs)) ≡ xs
all_numbers [] = refl
all_numbers (x ∷ xs) = ap (λ ys. x ∷ ys) (shifted (table_at (x ∷ xs)) 0 (length xs) ∙ map_same (λ k. table_at (x ∷ xs) (k + 1)) (table_at xs) (table_next x xs) (numbers_from 0 (length xs)) ∙ all_numbers xs)

none_there : (a n : ℕ) → together (map (table_at []) (numbers_from a n)) ≡ []
none_there a zero = refl
none_there a (suc n) = none_there (a + 1) n

-- lists one after another, and as many as there are numbers
pub all_together : (xs : List (List Record)) (n : ℕ) → length xs ≤ n → together (map (table_at xs) (numbers_from 0 n)) ≡ together xs
all_together [] n l = none_there 0 n
all_together (x ∷ xs) zero l = absurd (omega arith)
all_together (x ∷ xs) (suc n) l =
    ap (λ ys. x ++ together ys) (shifted (table_at (x ∷ xs)) 0 n ∙ map_same (λ k. table_at (x ∷ xs) (k + 1)) (table_at xs) (table_next x xs) (numbers_from 0 n))
    ∙ ap (λ ys. x ++ ys) (all_together xs n (omega arith))

-- an item by its number from 1 on
pub nth_is : {A : Type 0} (xs : List A) (n : ℕ) → nth xs (1 + n) ≡ slice_get xs n
nth_is xs n = let e : 1 + n ≡ suc n = omega arith in ap (nth xs) e

-- of the items from number s on, those behind the first are the items from s + 1 on
pub nth_behind : {A : Type 0} (all : List A) (x : A) (rest : List A) (s : ℕ) → ((n : ℕ) → nth all (s + n) ≡ slice_get (x ∷ rest) n) → (n : ℕ) → nth all (s + 1 + n) ≡ slice_get rest n
nth_behind all x rest s at n = (let e : s + 1 + n ≡ s + suc n = omega arith in ap (nth all) e) ∙ at (suc n)

-- the first of the items from number s on
pub nth_first : {A : Type 0} (all : List A) (x : A) (rest : List A) (s : ℕ) → ((n : ℕ) → nth all (s + n) ≡ slice_get (x ∷ rest) n) → nth all s ≡ Some x
nth_first all x rest s at = (let e : s ≡ s + 0 = omega arith in ap (nth all) e) ∙ at 0

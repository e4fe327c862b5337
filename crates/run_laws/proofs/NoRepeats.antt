-- No task stands twice among those of a round.
use Rattle.std.proofs.Common.{◌≡◌, ◌⊎◌, inl, inr, ℕ, zero, suc, ◌+◌, ◌<◌, true, false, cond, List, [], ◌∷◌, ◌++◌, refl, sym, ap, ◌∙◌, map, arith, nat_le}
use Rattle.std.specs.List.{flat_map, range_with_len}
use Rattle.hal_base.specs.Shapes.{source_at, step_at}
use Rattle.hal_base.specs.declared.shape.Shape.{Shape}
use Rattle.node_names.specs.declared.task.Task.{Task}
use Rattle.node_names.specs.declared.task.Task.TheVariants.{Map, Reduce, Test}
use Rattle.run_model.specs.Lists.{IsIn, below}
use Rattle.run_model.specs.Tasks.{count_in, last, maps, reduces, source_count, source_numbers, splits, tasks_of_round, test_count, tests}
use Rattle.run_laws.proofs.Members.{from_flat, from_map, from_range, in_either}

abbrev pub Apart : List Task → Type 0
Apart [] = Unit {0}
Apart (t ∷ ts) = (IsIn t ts → ⊥) × Apart ts

apart_append : (xs ys : List Task) → Apart xs → Apart ys → ((t : Task) → IsIn t xs → IsIn t ys → ⊥) → Apart (xs ++ ys)
apart_append [] ys a b d = b
apart_append (x ∷ xs) ys a b d = (
  λ i. elim (in_either x xs ys i) [ inl j ↦ a.0 j | inr j ↦ d x (inl refl) j ],
  apart_append xs ys a.1 b (λ t i j. d t (inr i) j),
)

-- what is made of different numbers is told apart by a key
apart_map : (f : ℕ → Task) (key : Task → ℕ) (a n : ℕ) → ((k : ℕ) → key (f k) ≡ k) → Apart (map f (range_with_len a n))
apart_map f key a zero e = tt
apart_map f key a (suc n) e = (
  λ i.
      let m = from_map f (f a) (range_with_len (a + 1) n) i in
      let r = from_range (a + 1) n m.0 m.1 in
      let same : a ≡ m.0 = sym (e a) ∙ ap key m.2 ∙ e m.0 in omega arith,
  apart_map f key (a + 1) n e,
)

apart_flat : (f : ℕ → List Task) (key : Task → ℕ) (a n : ℕ) → ((k : ℕ) (t : Task) → IsIn t (f k) → key t ≡ k) → ((k : ℕ) → Apart (f k)) → Apart (flat_map f (range_with_len a n))
apart_flat f key a zero e h = tt
apart_flat f key a (suc n) e h = apart_append (f a) (flat_map f (range_with_len (a + 1) n)) (h a) (apart_flat f key (a + 1) n e h) (λ t i j.
    let m = from_flat f t (range_with_len (a + 1) n) j in
    let r = from_range (a + 1) n m.0 m.1 in
    let same : a ≡ m.0 = sym (e a t i) ∙ e m.0 t m.2 in omega arith)

-- ---- keys

abbrev last_number : Task → ℕ
last_number (Map i j s q) = q
last_number (Reduce i j p) = p
last_number (Test i p) = p

abbrev source_number : Task → ℕ
source_number (Map i j s q) = s
source_number (Reduce i j p) = 0
source_number (Test i p) = 0

abbrev step_number : Task → ℕ
step_number (Map i j s q) = j
step_number (Reduce i j p) = j
step_number (Test i p) = 0

abbrev sort_number : Task → ℕ
sort_number (Map i j s q) = 0
sort_number (Reduce i j p) = 1
sort_number (Test i p) = 2

map_is : (shape : Shape) (i j : ℕ) (t : Task) → IsIn t (maps shape i j) → (step_number t ≡ j) × (sort_number t ≡ 0)
map_is shape i j t x =
    let s = from_flat (λ s. map (Map i j s) (splits shape i j s)) t (source_numbers shape j) x in
    let q = from_map (Map i j s.0) t (splits shape i j s.0) s.2 in
    (ap step_number q.2, ap sort_number q.2)

reduce_is : (shape : Shape) (i j : ℕ) (t : Task) → IsIn t (reduces shape i j) → (step_number t ≡ j) × (sort_number t ≡ 1)
reduce_is shape i j t x = let p = from_map (Reduce i j) t (below shape.parts) x in (ap step_number p.2, ap sort_number p.2)

test_is : (shape : Shape) (i : ℕ) (t : Task) → IsIn t (tests shape i) → sort_number t ≡ 2
test_is shape i t x = elim (nat_le 2 i) as (λ v. IsIn t (cond v (map (Test i) (below (test_count shape))) []) → sort_number t ≡ 2) [
  | true ↦ λ y. ap sort_number (from_map (Test i) t (below (test_count shape)) y).2
  | false ↦ λ y. absurd y
] x

-- ---- the tasks of a round

apart_maps : (shape : Shape) (i j : ℕ) → Apart (maps shape i j)
apart_maps shape i j = apart_flat (λ s. map (Map i j s) (splits shape i j s)) source_number 1 (source_count (step_at shape j))
    (λ s t x. ap source_number (from_map (Map i j s) t (splits shape i j s) x).2)
    (λ s. apart_map (Map i j s) last_number 0 (count_in shape i (source_at shape j s)) (λ k. refl))

apart_step : (shape : Shape) (i j : ℕ) → Apart (maps shape i j ++ reduces shape i j)
apart_step shape i j = apart_append (maps shape i j) (reduces shape i j) (apart_maps shape i j) (apart_map (Reduce i j) last_number 0 shape.parts (λ k. refl)) (λ t x y.
    let same : 0 ≡ 1 = sym (map_is shape i j t x).1 ∙ (reduce_is shape i j t y).1 in omega arith)

apart_tests : (shape : Shape) (i : ℕ) → Apart (tests shape i)
apart_tests shape i = elim (nat_le 2 i) as (λ v. Apart (cond v (map (Test i) (below (test_count shape))) [])) [
  | true ↦ apart_map (Test i) last_number 0 (test_count shape) (λ k. refl)
  | false ↦ tt
]

pub apart_round : (shape : Shape) (i : ℕ) → Apart (tasks_of_round shape i)
apart_round shape i = apart_append (flat_map (λ j. maps shape i j ++ reduces shape i j) (range_with_len 1 (last shape))) (tests shape i)
    (apart_flat (λ j. maps shape i j ++ reduces shape i j) step_number 1 (last shape) (λ j t x. of_step j t (in_either t (maps shape i j) (reduces shape i j) x)) (λ j. apart_step shape i j))
    (apart_tests shape i)
    (λ t x y.
    let j = from_flat (λ j. maps shape i j ++ reduces shape i j) t (range_with_len 1 (last shape)) x in
    no_test (sort_number t) (sorts j.0 t (in_either t (maps shape i j.0) (reduces shape i j.0) j.2)) (test_is shape i t y))
  where
    of_step : (j : ℕ) (t : Task) → IsIn t (maps shape i j) ⊎ IsIn t (reduces shape i j) → step_number t ≡ j
    of_step j t (inl x) = (map_is shape i j t x).0
    of_step j t (inr x) = (reduce_is shape i j t x).0

    sorts : (j : ℕ) (t : Task) → IsIn t (maps shape i j) ⊎ IsIn t (reduces shape i j) → sort_number t < 2
    sorts j t (inl x) = let e = (map_is shape i j t x).1 in omega arith
    sorts j t (inr x) = let e = (reduce_is shape i j t x).1 in omega arith

    no_test : (n : ℕ) → n < 2 → n ≡ 2 → ⊥
    no_test n l e = omega arith

-- Each task asks for earlier tasks alone, in task order.
use Rattle.std.proofs.Common.{◌≡◌, ◌⊎◌, inl, inr, ℕ, zero, suc, ◌+◌, ◌-◌, ◌≤◌, ◌<◌, Bool, true, false, not, List, [], ◌∷◌, ◌++◌, Option, None, Some, refl, sym, ap, subst, ◌∙◌, map, arith, ◌==◌, nat_le}
use Rattle.std.specs.Prelude.{slice_index, slice_get, if◌then◌else◌}
use Rattle.std.specs.List.{AllByRecursion, filter, flat_map, range_with_len}
use Rattle.std.specs.Option.{option_and_then}
use Rattle.std.proofs.lemmas.Bool.{eqb-false, eqb-true, le-leb, leb-true}
use Rattle.hal_base.specs.Shapes.{IsTable, IsWellFormed, ReadFrom, StepsReadFrom, nth, source_at}
use Rattle.hal_base.specs.declared.fields.Schema.{Schema}
use Rattle.hal_base.specs.declared.shape.Origin.{Origin}
use Rattle.hal_base.specs.declared.shape.Origin.TheVariants.{Prev, State, Table}
use Rattle.hal_base.specs.declared.shape.Shape.{Shape}
use Rattle.hal_base.specs.declared.shape.Source.{Source}
use Rattle.hal_base.specs.declared.shape.Step.{Step}
use Rattle.node_names.specs.declared.name.Name.{Name}
use Rattle.node_names.specs.declared.name.Name.TheVariants.{Blk, Out, Spill}
use Rattle.node_names.specs.declared.task.Task.{Task}
use Rattle.node_names.specs.declared.task.Task.TheVariants.{Map, Reduce, Test}
use Rattle.replica_table.specs.Sets.{among}
use Rattle.run_model.specs.Lists.{IsIn, below}
use Rattle.run_model.specs.Needs.{Input, View, holds_cache, inputs, is_up, needs, reduce_input, test_inputs, unless}
use Rattle.run_model.specs.Sites.{site}
use Rattle.run_model.specs.Tasks.{count_in, is_cached, last, last_outs, maker, maps, reduces, source_numbers, spills, split_count, split_in, split_of, splits, tasks_of_round, tasks_until, test_count, tests}
use Rattle.run_model.specs.Wanted.{Goal, asked_by, goals, listed, missing_at, missing_of, missing_parts, unknown_tests, walk}
use Rattle.run_laws.specs.Wanting.{TheWalkIsRight}
use Rattle.run_laws.proofs.Members.{from_filter, from_flat, from_map, in_either, in_flat, in_left, in_map, in_right}
use Rattle.run_laws.proofs.Walks.{AsksEarlier, all_found, walk_finds}

-- the numbers of a task stand in the lists of its shape
abbrev IsListed : Shape → Task → Type 0
IsListed shape (Map i j s q) = (1 ≤ i) × (1 ≤ j) × (j ≤ last shape) × IsIn s (source_numbers shape j) × IsIn q (splits shape i j s)
IsListed shape (Reduce i j p) = (1 ≤ i) × (1 ≤ j) × (j ≤ last shape) × IsIn p (below shape.parts)
IsListed shape (Test i p) = (2 ≤ i) × IsIn p (below (test_count shape))

-- ---- tasks that ask for earlier ones, list by list

module _ (view : View) where
  weaker : (P Q : Task → Type 0) → ((a : Task) → P a → Q a) → (ts : List Task) → AsksEarlier view P ts → AsksEarlier view Q ts
  weaker P Q f [] h = tt
  weaker P Q f (t ∷ ts) h = (λ a i. f a (h.0 a i), weaker (λ a. P a ⊎ (a ≡ t)) (λ a. Q a ⊎ (a ≡ t)) (λ a p. elim p [ inl x ↦ inl (f a x) | inr e ↦ inr e ]) ts h.1)

  all_ask : (P : Task → Type 0) (ts : List Task) → ((t : Task) → IsIn t ts → (a : Task) → IsIn a (asked_by view t) → P a) → AsksEarlier view P ts
  all_ask P [] h = tt
  all_ask P (t ∷ ts) h = (h t (inl refl), weaker P (λ a. P a ⊎ (a ≡ t)) (λ a p. inl p) ts (all_ask P ts (λ u i. h u (inr i))))

  appended : (P : Task → Type 0) (xs ys : List Task) → AsksEarlier view P xs → AsksEarlier view (λ a. P a ⊎ IsIn a xs) ys → AsksEarlier view P (xs ++ ys)
  appended P [] ys a b = weaker (λ a. P a ⊎ ⊥) P (λ a p. elim p [ inl x ↦ x | inr nothing ↦ absurd nothing ]) ys b
  appended P (x ∷ xs) ys a b = (a.0, appended (λ a. P a ⊎ (a ≡ x)) xs ys a.1 (weaker (λ a. P a ⊎ IsIn a (x ∷ xs)) (λ a. (P a ⊎ (a ≡ x)) ⊎ IsIn a xs) (λ a p. elim p [ inl y ↦ inl (inl y) | inr m ↦ elim m [ inl e ↦ inl (inr e) | inr more ↦ inr more ] ]) ys b))

  each_earlier : (f : ℕ → List Task) (P : ℕ → Task → Type 0) (k n : ℕ)
      → ((m : ℕ) → k ≤ m → m < k + n → AsksEarlier view (P m) (f m))
      → ((m : ℕ) → k ≤ m → m < k + n → (a : Task) → P (m + 1) a → P m a ⊎ IsIn a (f m))
      → AsksEarlier view (P k) (flat_map f (range_with_len k n))
  each_earlier f P k zero earlier next = tt
  each_earlier f P k (suc n) earlier next =
      appended (P k) (f k) (flat_map f (range_with_len (k + 1) n)) (earlier k (omega arith) (omega arith))
      (weaker (P (k + 1)) (λ a. P k a ⊎ IsIn a (f k)) (next k (omega arith) (omega arith)) (flat_map f (range_with_len (k + 1) n))
      (each_earlier f P (k + 1) n (λ m l u. earlier m (omega arith) (omega arith)) (λ m l u. next m (omega arith) (omega arith))))

each_covers : (f : ℕ → List Task) (P : ℕ → Task → Type 0) (k n m : ℕ) → m ≡ k + n
    → ((m : ℕ) → k ≤ m → m < k + n → (a : Task) → P (m + 1) a → P m a ⊎ IsIn a (f m))
    → (a : Task) → P m a → P k a ⊎ IsIn a (flat_map f (range_with_len k n))
each_covers f P k zero m e next a p = inl (let same : m ≡ k = omega arith in subst (λ x. P x a) same p)
each_covers f P k (suc n) m e next a p =
    elim (each_covers f P (k + 1) n m (omega arith) (λ x l u. next x (omega arith) (omega arith)) a p) [
      | inl q ↦ elim (next k (omega arith) (omega arith) a q) [ inl r ↦ inl r | inr i ↦ inr (in_left a (f k) (flat_map f (range_with_len (k + 1) n)) i) ]
      | inr i ↦ inr (in_right a (f k) (flat_map f (range_with_len (k + 1) n)) i)
    ]

-- ---- what a task asks for

-- the task makes a file of an input
pub record Asked (shape : Shape) (t a : Task) : Type 0 where
  pub name : Name
  pub it : Input
  pub is_input : IsIn it (inputs shape t)
  pub is_file : IsIn name it.files
  pub makes : maker name ≡ Some a

same_some : (a b : Task) → Some a ≡ Some b → a ≡ b
same_some a b e = cc

from_maker : (a : Task) (o : Option Task) → IsIn a (listed o) → o ≡ Some a
from_maker a None i = elim i [ ]
from_maker a (Some t) (inl e) = ap Some (sym e)
from_maker a (Some t) (inr i) = elim i [ ]

pub from_unless : (name : Name) (b : Bool) (names : List Name) → IsIn name (unless b names) → IsIn name names
from_unless name true names i = elim i [ ]
from_unless name false names i = i

needed : (view : View) (t : Task) (name : Name) (o : Option ℕ) → IsIn name (missing_at view t o) → (node : ℕ) × IsIn name (needs view.shape view.copies node t)
needed view t name None i = elim i [ ]
needed view t name (Some node) i = (node, (from_filter _ name (needs view.shape view.copies node t) i).0)

-- what is missing of a task is a file of an input
pub missing_is : (view : View) (t : Task) (name : Name) → IsIn name (missing_of view t) → (it : Input) × IsIn it (inputs view.shape t) × IsIn name it.files
missing_is view t name i =
    let n = needed view t name (site view t) i in
    let k = from_flat (λ (it : Input). unless (holds_cache view.copies n.0 it.cache) it.files) name (inputs view.shape t) n.1 in
    (k.0, k.1, from_unless name _ k.0.files k.2)

pub asked_is : (view : View) (t a : Task) → IsIn a (asked_by view t) → Asked view.shape t a
asked_is view t a i =
    let m = from_flat (λ name. listed (maker name)) a (missing_of view t) i in
    let k = missing_is view t m.0 m.1 in
    record { name = m.0; it = k.0; is_input = k.1; is_file = k.2; makes = from_maker a (maker m.0) m.2 }

-- ---- tasks below a place in the order

-- a task of an earlier round, or of this one, of which the maps are of steps below m, and the reduces of steps below r
abbrev Past : Shape → ℕ → ℕ → ℕ → Task → Type 0
Past shape i m r (Map k j s q) = IsListed shape (Map k j s q) × ((k < i) ⊎ ((k ≡ i) × (j < m)))
Past shape i m r (Reduce k j p) = IsListed shape (Reduce k j p) × ((k < i) ⊎ ((k ≡ i) × (j < r)))
Past shape i m r (Test k p) = IsListed shape (Test k p) × (k < i)

-- what is made by no task is not asked for
not_made : (a : Task) (name other : Name) → name ≡ other → maker other ≡ None → maker name ≡ Some a → ⊥
not_made a name other e n m = let same : maker name ≡ maker other = ap maker e in cc

made_is : (a b : Task) (name other : Name) → name ≡ other → maker other ≡ Some b → maker name ≡ Some a → b ≡ a
made_is a b name other e n m = same_some b a (sym n ∙ sym (ap maker e) ∙ m)

same_source : (a b : Source) → Some a ≡ Some b → a ≡ b
same_source a b e = cc

no_source : (from : Source) → None ≡ Some from → ⊥
no_source from e = cc

table_there : (tables : List Schema) (n : ℕ) (sources : List Source) → AllByRecursion (λ (other : Source). IsTable tables other.from) sources → (from : Source) → slice_get sources n ≡ Some from → IsTable tables from.from
table_there tables n [] b from e = absurd (no_source from e)
table_there tables zero (first ∷ sources) b from e = subst (λ (x : Source). IsTable tables x.from) (same_source first from e) b.0
table_there tables (suc n) (first ∷ sources) b from e = table_there tables n sources b.1 from e

no_table : (tables : List Schema) (origin : Origin) → origin ≡ Prev → IsTable tables origin → ⊥
no_table tables State e t = t
no_table tables Prev e t = t
no_table tables (Table n only) e t = cc

unlike_state : State ≡ Prev → ⊥
unlike_state h = cc

-- in step 1 no source is the output before
not_before : (tables : List Schema) (s : ℕ) (sources : List Source) → ReadFrom tables State sources → (from : Source) → nth sources s ≡ Some from → from.from ≡ Prev → ⊥
not_before tables zero sources b from e p = no_source from e
not_before tables (suc n) [] b from e p = b
not_before tables (suc zero) (first ∷ sources) b from e p = unlike_state (sym b.0 ∙ ap (λ (x : Source). x.from) (same_source first from e) ∙ p)
not_before tables (suc (suc n)) (first ∷ sources) b from e p = no_table tables from.from p (table_there tables n sources b.1 from e)

first_step : (tables : List Schema) (s : ℕ) (steps : List Step) → StepsReadFrom tables State steps → (from : Source) → option_and_then (λ (step : Step). nth step.sources s) (slice_get steps 0) ≡ Some from → from.from ≡ Prev → ⊥
first_step tables s [] fit from e p = no_source from e
first_step tables s (step ∷ steps) fit from e p = not_before tables s step.sources fit.0 from e p

after_first : (shape : Shape) → IsWellFormed shape → (j s : ℕ) → 1 ≤ j → (from : Source) → source_at shape j s ≡ Some from → from.from ≡ Prev → 2 ≤ j
after_first shape fit j s l from e p = elim (j == 1) as (λ b. (j == 1) ≡ b → 2 ≤ j) [
  | true ↦ λ t. absurd (first_step shape.tables s shape.steps fit.steps from (subst (λ x. source_at shape x s ≡ Some from) (eqb-true j 1 t) e) p)
  | false ↦ λ t. let other = eqb-false j 1 t in omega arith
] refl

-- ---- maps

module _ (shape : Shape) (fit : IsWellFormed shape) where
  -- a map of a part of an output asks for the reduce that makes it
  by_origin : (i j s q : ℕ) (a : Task) (name : Name) → 1 ≤ i → 1 ≤ j → j ≤ last shape → (origin : Origin) → (origin ≡ Prev → 2 ≤ j) → IsIn q (below (split_count shape i origin)) → name ≡ split_of shape i j origin q → maker name ≡ Some a → Past shape i j j a
  by_origin i j s q a name il jl jh State h x e m =
      elim (i == 1) as (λ b. (i == 1) ≡ b → IsIn q (below (if b then slice_index shape.blocks shape.start else shape.parts)) → name ≡ (if b then Blk shape.start q else Out (i - 1) (last shape) q) → Past shape i j j a) [
        | true ↦ λ t x e. absurd (not_made a name (Blk shape.start q) e refl m)
        | false ↦ λ t x e.
            let other = eqb-false i 1 t in
            subst (Past shape i j j) (made_is a (Reduce (i - 1) (last shape) q) name (Out (i - 1) (last shape) q) e refl m)
            ((omega arith, omega arith, omega arith, x), inl (omega arith))
      ] refl x e
  by_origin i j s q a name il jl jh Prev h x e m =
      let second : 2 ≤ j = h refl in
      subst (Past shape i j j) (made_is a (Reduce i (j - 1) q) name (Out i (j - 1) q) e refl m)
      ((il, omega arith, omega arith, x), inr (refl, omega arith))
  by_origin i j s q a name il jl jh (Table t only) h x e m = absurd (not_made a name (Blk t q) e refl m)

  by_source : (i j s q : ℕ) (a : Task) (name : Name) → 1 ≤ i → 1 ≤ j → j ≤ last shape → (o : Option Source) → source_at shape j s ≡ o → IsIn q (below (count_in shape i o)) → IsIn name (split_in shape i j o q) → maker name ≡ Some a → Past shape i j j a
  by_source i j s q a name il jl jh None e x y m = elim y [ ]
  by_source i j s q a name il jl jh (Some from) e x (inl y) m = by_origin i j s q a name il jl jh from.from (after_first shape fit j s jl from e) x y m
  by_source i j s q a name il jl jh (Some from) e x (inr y) m = elim y [ ]

  map_asks : (i j s q : ℕ) (a : Task) → IsListed shape (Map i j s q) → Asked shape (Map i j s q) a → Past shape i j j a
  map_asks i j s q a v k = elim k.is_input [
    | inl e ↦ by_source i j s q a k.name v.0 v.1 v.2 (source_at shape j s) refl v.4 (subst (λ (x : Input). IsIn k.name x.files) e k.is_file) k.makes
    | inr nothing ↦ absurd nothing
  ]

  -- a spill of this round, or of round 1, is made by an earlier map
  spill_asks : (i j s : ℕ) (a : Task) (name : Name) (r : ℕ) → 1 ≤ r → r ≤ i → 1 ≤ j → j ≤ last shape → IsIn s (source_numbers shape j) → IsIn name (spills shape r j s) → maker name ≡ Some a → Past shape i (j + 1) j a
  spill_asks i j s a name r rl ri jl jh m x e =
      let q = from_map (Spill r j s) name (splits shape r j s) x in
      subst (Past shape i (j + 1) j) (made_is a (Map r j s q.0) name (Spill r j s q.0) q.2 refl e) (
        (rl, jl, jh, m, q.1),
        elim (r == i) as (λ b. (r == i) ≡ b → (r < i) ⊎ ((r ≡ i) × (j < j + 1))) [
          | true ↦ λ t. inr (eqb-true r i t, omega arith)
          | false ↦ λ t. let other = eqb-false r i t in inl (omega arith)
        ] refl,
      )

  by_cached : (i j p s : ℕ) (a : Task) (name : Name) → 1 ≤ i → 1 ≤ j → j ≤ last shape → IsIn s (source_numbers shape j) → (b : Bool) → IsIn name (reduce_input shape i j p s b).files → maker name ≡ Some a → Past shape i (j + 1) j a
  by_cached i j p s a name il jl jh m false x e = spill_asks i j s a name i il (omega arith) jl jh m x e
  by_cached i j p s a name il jl jh m true x e = spill_asks i j s a name 1 (omega arith) il jl jh m x e

  reduce_asks : (i j p : ℕ) (a : Task) → IsListed shape (Reduce i j p) → Asked shape (Reduce i j p) a → Past shape i (j + 1) j a
  reduce_asks i j p a v k =
      let m = from_map (λ s. reduce_input shape i j p s (is_cached (source_at shape j s))) k.it (source_numbers shape j) k.is_input in
      by_cached i j p m.0 a k.name v.0 v.1 v.2 m.1 (is_cached (source_at shape j m.0)) (subst (λ (x : Input). IsIn k.name x.files) m.2 k.is_file) k.makes

  -- a part of the last step, of this round or the one before, is made by an earlier reduce
  part_asks : (i p r : ℕ) (a : Task) (name : Name) → 1 ≤ last shape → 1 ≤ r → r ≤ i → IsIn p (below shape.parts) → name ≡ Out r (last shape) p → maker name ≡ Some a → Past shape i (last shape + 1) (last shape + 1) a
  part_asks i p r a name l rl ri x e m =
      subst (Past shape i (last shape + 1) (last shape + 1)) (made_is a (Reduce r (last shape) p) name (Out r (last shape) p) e refl m) (
        (rl, l, omega arith, x),
        elim (r == i) as (λ b. (r == i) ≡ b → (r < i) ⊎ ((r ≡ i) × (last shape < last shape + 1))) [
          | true ↦ λ t. inr (eqb-true r i t, omega arith)
          | false ↦ λ t. let other = eqb-false r i t in inl (omega arith)
        ] refl,
      )

  parts_ask : (i r : ℕ) (a : Task) (name : Name) → 1 ≤ last shape → 1 ≤ r → r ≤ i → IsIn name (last_outs shape r) → maker name ≡ Some a → Past shape i (last shape + 1) (last shape + 1) a
  parts_ask i r a name l rl ri x m =
      let p = from_map (Out r (last shape)) name (below shape.parts) x in
      part_asks i p.0 r a name l rl ri p.1 p.2 m

  test_by : (i p : ℕ) (a : Task) (name : Name) (it : Input) → 2 ≤ i → (b : Bool) → IsIn p (below (if b then shape.parts else 1)) → IsIn it (test_inputs shape i p b) → IsIn name it.files → maker name ≡ Some a → Past shape i (last shape + 1) (last shape + 1) a
  test_by i p a name it il true x (inl e) f m = elim (subst (λ (y : Input). IsIn name y.files) e f) [
    | inl n ↦ part_asks i p i a name fit.few_steps.0 (omega arith) (omega arith) x n m
    | inr nothing ↦ absurd nothing
  ]
  test_by i p a name it il true x (inr (inl e)) f m = elim (subst (λ (y : Input). IsIn name y.files) e f) [
    | inl n ↦ part_asks i p (i - 1) a name fit.few_steps.0 (omega arith) (omega arith) x n m
    | inr nothing ↦ absurd nothing
  ]
  test_by i p a name it il true x (inr (inr nothing)) f m = elim nothing [ ]
  test_by i p a name it il false x (inl e) f m = elim (in_either name (last_outs shape i) (last_outs shape (i - 1)) (subst (λ (y : Input). IsIn name y.files) e f)) [
    | inl n ↦ parts_ask i i a name fit.few_steps.0 (omega arith) (omega arith) n m
    | inr n ↦ parts_ask i (i - 1) a name fit.few_steps.0 (omega arith) (omega arith) n m
  ]
  test_by i p a name it il false x (inr nothing) f m = elim nothing [ ]

  test_asks : (i p : ℕ) (a : Task) → IsListed shape (Test i p) → Asked shape (Test i p) a → Past shape i (last shape + 1) (last shape + 1) a
  test_asks i p a v k = test_by i p a k.name k.it v.0 shape.reducer_output v.1 k.is_input k.is_file k.makes

  -- ---- what stands where

  maps_in : (i j : ℕ) (a : Task) → Past shape i (j + 1) j a → Past shape i j j a ⊎ IsIn a (maps shape i j)
  maps_in i j (Map k m s q) (v, inl l) = inl (v, inl l)
  maps_in i j (Map k m s q) (v, inr (e, l)) = elim (m == j) as (λ b. (m == j) ≡ b → Past shape i j j (Map k m s q) ⊎ IsIn (Map k m s q) (maps shape i j)) [
    | true ↦ λ t. inr (subst (λ x. IsIn (Map k m s q) (maps shape x j)) e (subst (λ x. IsIn (Map k m s q) (maps shape k x)) (eqb-true m j t) (in_flat (λ s. map (Map k m s) (splits shape k m s)) s (Map k m s q) (source_numbers shape m) v.3 (in_map (Map k m s) q (splits shape k m s) v.4))))
    | false ↦ λ t. let other = eqb-false m j t in inl (v, inr (e, omega arith))
  ] refl
  maps_in i j (Reduce k m p) p' = inl p'
  maps_in i j (Test k p) p' = inl p'

  reduces_in : (i j : ℕ) (a : Task) → Past shape i (j + 1) (j + 1) a → Past shape i (j + 1) j a ⊎ IsIn a (reduces shape i j)
  reduces_in i j (Map k m s q) p' = inl p'
  reduces_in i j (Reduce k m p) (v, inl l) = inl (v, inl l)
  reduces_in i j (Reduce k m p) (v, inr (e, l)) = elim (m == j) as (λ b. (m == j) ≡ b → Past shape i (j + 1) j (Reduce k m p) ⊎ IsIn (Reduce k m p) (reduces shape i j)) [
    | true ↦ λ t. inr (subst (λ x. IsIn (Reduce k m p) (reduces shape x j)) e (subst (λ x. IsIn (Reduce k m p) (reduces shape k x)) (eqb-true m j t) (in_map (Reduce k m) p (below shape.parts) v.3)))
    | false ↦ λ t. let other = eqb-false m j t in inl (v, inr (e, omega arith))
  ] refl
  reduces_in i j (Test k p) p' = inl p'

  step_in : (i j : ℕ) (a : Task) → Past shape i (j + 1) (j + 1) a → Past shape i j j a ⊎ IsIn a (maps shape i j ++ reduces shape i j)
  step_in i j a p = elim (reduces_in i j a p) [
    | inl q ↦ elim (maps_in i j a q) [ inl r ↦ inl r | inr m ↦ inr (in_left a (maps shape i j) (reduces shape i j) m) ]
    | inr m ↦ inr (in_right a (maps shape i j) (reduces shape i j) m)
  ]

  tests_here : (i p : ℕ) → 2 ≤ i → IsIn p (below (test_count shape)) → IsIn (Test i p) (tests shape i)
  tests_here i p l x = rw (le-leb 2 i l) (in_map (Test i) p (below (test_count shape)) x)

  -- a round that is not above this one is below it, or this one
  at_most : (k i : ℕ) → k < i + 1 → (k < i) ⊎ (k ≡ i)
  at_most k i l = elim (k == i) as (λ b. (k == i) ≡ b → (k < i) ⊎ (k ≡ i)) [
    | true ↦ λ t. inr (eqb-true k i t)
    | false ↦ λ t. let other = eqb-false k i t in inl (omega arith)
  ] refl

  tests_in : (i : ℕ) (a : Task) → Past shape (i + 1) 1 1 a → Past shape i (last shape + 1) (last shape + 1) a ⊎ IsIn a (tests shape i)
  tests_in i (Map k m s q) (v, inl l) = elim (at_most k i l) [ inl b ↦ inl (v, inl b) | inr e ↦ inl (v, inr (e, let h = v.2 in omega arith)) ]
  tests_in i (Map k m s q) (v, inr (e, l)) = let h = v.1 in absurd (omega arith)
  tests_in i (Reduce k m p) (v, inl l) = elim (at_most k i l) [ inl b ↦ inl (v, inl b) | inr e ↦ inl (v, inr (e, let h = v.2 in omega arith)) ]
  tests_in i (Reduce k m p) (v, inr (e, l)) = let h = v.1 in absurd (omega arith)
  tests_in i (Test k p) (v, l) = elim (at_most k i l) [ inl b ↦ inl (v, b) | inr e ↦ inr (subst (λ x. IsIn (Test k p) (tests shape x)) e (tests_here k p v.0 v.1)) ]

  -- no task is past the begin of round 1
  nothing_past : (a : Task) → Past shape 1 1 1 a → ⊥
  nothing_past (Map k m s q) (v, inl l) = let h = v.0 in omega arith
  nothing_past (Map k m s q) (v, inr (e, l)) = let h = v.1 in omega arith
  nothing_past (Reduce k m p) (v, inl l) = let h = v.0 in omega arith
  nothing_past (Reduce k m p) (v, inr (e, l)) = let h = v.1 in omega arith
  nothing_past (Test k p) (v, l) = let h = v.0 in omega arith

  abbrev step_tasks : ℕ → ℕ → List Task
  step_tasks i j = maps shape i j ++ reduces shape i j

  -- the tasks before the tests of a round
  steps_in : (i : ℕ) (a : Task) → Past shape i (last shape + 1) (last shape + 1) a → Past shape i 1 1 a ⊎ IsIn a (flat_map (step_tasks i) (range_with_len 1 (last shape)))
  steps_in i a p = each_covers (step_tasks i) (λ j. Past shape i j j) 1 (last shape) (last shape + 1) (omega arith) (λ m l u b. step_in i m b) a p

  round_in : (i : ℕ) (a : Task) → Past shape (i + 1) 1 1 a → Past shape i 1 1 a ⊎ IsIn a (tasks_of_round shape i)
  round_in i a p = elim (tests_in i a p) [
    | inl q ↦ elim (steps_in i a q) [ inl r ↦ inl r | inr m ↦ inr (in_left a (flat_map (step_tasks i) (range_with_len 1 (last shape))) (tests shape i) m) ]
    | inr m ↦ inr (in_right a (flat_map (step_tasks i) (range_with_len 1 (last shape))) (tests shape i) m)
  ]

  -- the tasks of the rounds up to n are listed
  pub all_listed : (n : ℕ) (a : Task) → Past shape (n + 1) 1 1 a → IsIn a (tasks_until shape n)
  all_listed n a p = elim (each_covers (tasks_of_round shape) (λ i. Past shape i 1 1) 1 n (n + 1) (omega arith) (λ m l u b. round_in m b) a p) [
    | inl q ↦ absurd (nothing_past a q)
    | inr m ↦ m
  ]

-- ---- the listed tasks are of the shape

module _ (view : View) (fit : IsWellFormed view.shape) where
  map_of : (i j : ℕ) (t : Task) → 1 ≤ i → 1 ≤ j → j ≤ last view.shape → IsIn t (maps view.shape i j) → (a : Task) → IsIn a (asked_by view t) → Past view.shape i j j a
  map_of i j t il jl jh m a x =
      let s = from_flat (λ s. map (Map i j s) (splits view.shape i j s)) t (source_numbers view.shape j) m in
      let q = from_map (Map i j s.0) t (splits view.shape i j s.0) s.2 in
      map_asks view.shape fit i j s.0 q.0 a (il, jl, jh, s.1, q.1) (asked_is view (Map i j s.0 q.0) a (subst (λ u. IsIn a (asked_by view u)) q.2 x))

  reduce_of : (i j : ℕ) (t : Task) → 1 ≤ i → 1 ≤ j → j ≤ last view.shape → IsIn t (reduces view.shape i j) → (a : Task) → IsIn a (asked_by view t) → Past view.shape i (j + 1) j a
  reduce_of i j t il jl jh m a x =
      let p = from_map (Reduce i j) t (below view.shape.parts) m in
      reduce_asks view.shape fit i j p.0 a (il, jl, jh, p.1) (asked_is view (Reduce i j p.0) a (subst (λ u. IsIn a (asked_by view u)) p.2 x))

  test_of : (i : ℕ) (t : Task) → IsIn t (tests view.shape i) → (a : Task) → IsIn a (asked_by view t) → Past view.shape i (last view.shape + 1) (last view.shape + 1) a
  test_of i t m a x = elim (nat_le 2 i) as (λ b. nat_le 2 i ≡ b → IsIn t (if b then map (Test i) (below (test_count view.shape)) else []) → Past view.shape i (last view.shape + 1) (last view.shape + 1) a) [
    | true ↦ λ e m.
        let p = from_map (Test i) t (below (test_count view.shape)) m in
        test_asks view.shape fit i p.0 a (leb-true 2 i e, p.1) (asked_is view (Test i p.0) a (subst (λ u. IsIn a (asked_by view u)) p.2 x))
    | false ↦ λ e m. elim m [ ]
  ] refl m

  step_earlier : (i j : ℕ) → 1 ≤ i → 1 ≤ j → j ≤ last view.shape → AsksEarlier view (Past view.shape i j j) (maps view.shape i j ++ reduces view.shape i j)
  step_earlier i j il jl jh =
      appended view (Past view.shape i j j) (maps view.shape i j) (reduces view.shape i j)
      (all_ask view (Past view.shape i j j) (maps view.shape i j) (λ t m a x. map_of i j t il jl jh m a x))
      (weaker view (Past view.shape i (j + 1) j) (λ a. Past view.shape i j j a ⊎ IsIn a (maps view.shape i j)) (λ a p. maps_in view.shape fit i j a p) (reduces view.shape i j)
      (all_ask view (Past view.shape i (j + 1) j) (reduces view.shape i j) (λ t m a x. reduce_of i j t il jl jh m a x)))

  round_earlier : (i : ℕ) → 1 ≤ i → AsksEarlier view (Past view.shape i 1 1) (tasks_of_round view.shape i)
  round_earlier i il =
      appended view (Past view.shape i 1 1) (flat_map (λ j. maps view.shape i j ++ reduces view.shape i j) (range_with_len 1 (last view.shape))) (tests view.shape i)
      (each_earlier view (λ j. maps view.shape i j ++ reduces view.shape i j) (λ j. Past view.shape i j j) 1 (last view.shape)
      (λ j jl ju. step_earlier i j il jl (omega arith))
      (λ j jl ju a p. step_in view.shape fit i j a p))
      (weaker view (Past view.shape i (last view.shape + 1) (last view.shape + 1)) (λ a. Past view.shape i 1 1 a ⊎ IsIn a (flat_map (λ j. maps view.shape i j ++ reduces view.shape i j) (range_with_len 1 (last view.shape)))) (λ a p. steps_in view.shape fit i a p) (tests view.shape i)
      (all_ask view (Past view.shape i (last view.shape + 1) (last view.shape + 1)) (tests view.shape i) (λ t m a x. test_of i t m a x)))

  -- in task order each task asks for earlier ones alone
  pub all_earlier : (n : ℕ) → AsksEarlier view (λ a. ⊥) (tasks_until view.shape n)
  all_earlier n =
      weaker view (Past view.shape 1 1 1) (λ a. ⊥) (λ a p. nothing_past view.shape fit a p) (tasks_until view.shape n)
      (each_earlier view (tasks_of_round view.shape) (λ i. Past view.shape i 1 1) 1 n (λ i il iu. round_earlier i il) (λ i il iu a p. round_in view.shape fit i a p))

  -- the goals are listed
  pub goal_listed : (goal : Goal) → 1 ≤ goal.round → (t : Task) → IsIn t (goals view goal) → IsIn t (tasks_until view.shape goal.round)
  goal_listed goal l t i = elim (in_either t (missing_parts view goal.round) (unknown_tests view goal) i) [
    | inl m ↦
        let p = from_map (Reduce goal.round (last view.shape)) t (filter (λ p. not (is_up view.copies view.up (Out goal.round (last view.shape) p))) (below view.shape.parts)) m in
        let q = from_filter (λ p. not (is_up view.copies view.up (Out goal.round (last view.shape) p))) p.0 (below view.shape.parts) p.1 in
        subst (λ u. IsIn u (tasks_until view.shape goal.round)) (sym p.2) (all_listed view.shape fit goal.round (Reduce goal.round (last view.shape) p.0) ((l, fit.few_steps.0, omega arith, q.0), inl (omega arith)))
    | inr m ↦ test_listed goal t m
  ]
    where
      test_listed : (goal : Goal) (t : Task) → IsIn t (unknown_tests view goal) → IsIn t (tasks_until view.shape goal.round)
      test_listed goal t m = elim (nat_le 2 goal.round) as (λ b. nat_le 2 goal.round ≡ b → IsIn t (if b then map (Test goal.round) (filter (λ p. not (among p goal.known)) (below (test_count view.shape))) else []) → IsIn t (tasks_until view.shape goal.round)) [
        | true ↦ λ e m.
            let p = from_map (Test goal.round) t (filter (λ p. not (among p goal.known)) (below (test_count view.shape))) m in
            let q = from_filter (λ p. not (among p goal.known)) p.0 (below (test_count view.shape)) p.1 in
            subst (λ u. IsIn u (tasks_until view.shape goal.round)) (sym p.2) (all_listed view.shape fit goal.round (Test goal.round p.0) ((leb-true 2 goal.round e, q.0), omega arith))
        | false ↦ λ e m. elim m [ ]
      ] refl m

pub the_walk_is_right : TheWalkIsRight
the_walk_is_right view goal fit l task =
    let finds = walk_finds view goal (λ a. ⊥) (tasks_until view.shape goal.round) (all_earlier view fit goal.round) (λ t i. inr (goal_listed view fit goal l t i)) in
    record { found_is_wanted = finds.sound_found task; wanted_is_found = all_found view goal (walk view (tasks_until view.shape goal.round) (goals view goal)) finds task }

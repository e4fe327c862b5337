-- The first missing block, found from the last task to the first.
use Rattle.std.proofs.Common.{◌≡◌, inl, inr, ℕ, ◌-◌, Bool, true, false, List, [], ◌∷◌, ◌++◌, Option, None, Some, refl, sym, ap, subst, ◌∙◌}
use Rattle.std.specs.List.{flat_map}
use Rattle.std.proofs.lemmas.Grind.{flat_map-append}
use Rattle.std.proofs.lemmas.List.{append-nil}
use Rattle.hal_base.specs.Shapes.{source_at}
use Rattle.hal_base.specs.declared.shape.Shape.{Shape}
use Rattle.node_names.specs.declared.name.Name.{Name}
use Rattle.node_names.specs.declared.name.Name.TheVariants.{Out, Spill}
use Rattle.node_names.specs.declared.task.Task.{Task}
use Rattle.node_names.specs.declared.task.Task.TheVariants.{Reduce, Test}
use Rattle.run_model.specs.Lists.{IsIn, below}
use Rattle.run_model.specs.Needs.{Input, View, reduce_input, test_inputs}
use Rattle.run_model.specs.Tasks.{is_cached, last, last_outs, source_numbers, spills, splits}
use Rattle.run_model.specs.Wanted.{block_in, least_name, lesser, missing_of}
use Rattle.run_laws.proofs.Members.{from_map, in_either}
use Rattle.run_laws.proofs.Orders.{missing_is}
use Rattle.cache_rebuild.specs.steps.Blocks.{least_on}

-- ---- the first of names

-- with no other name, the first of all
pub least_begins : (names : List Name) → least_on names None ≡ least_name names
least_begins [] = refl
least_begins (name ∷ names) = ap (λ o. Some (lesser name o)) (least_begins names)

-- the first of two lists, one after the other
pub least_parts : (xs ys : List Name) (last : Option Name) → least_on (xs ++ ys) last ≡ least_on xs (least_on ys last)
least_parts [] ys last = refl
least_parts (x ∷ xs) ys last = ap (λ o. Some (lesser x o)) (least_parts xs ys last)

-- no first name, no names
pub least_none : (names : List Name) → None ≡ least_name names → names ≡ []
least_none [] e = refl
least_none (name ∷ names) e = absurd (unlike e)
  where
    unlike : None ≡ Some (lesser name (least_name names)) → ⊥
    unlike h = cc

-- the last task that is left, and then those before it
pub least_more : (blocks : Task → List Name) (left rest : List Task) (t : Task) (last : Option Name) → left ≡ rest ++ t ∷ [] → least_on (flat_map blocks rest) (least_on (blocks t) last) ≡ least_on (flat_map blocks left) last
least_more blocks left rest t last e =
    sym (least_parts (flat_map blocks rest) (blocks t) last)
    ∙ ap (λ names. least_on (flat_map blocks rest ++ names) last) (sym (append-nil (blocks t)))
    ∙ ap (λ names. least_on names last) (sym (flat_map-append blocks rest (t ∷ [])))
    ∙ ap (λ ts. least_on (flat_map blocks ts) last) (sym e)

-- ---- what is made by tasks is no block

none_flat : (f : Name → List Name) (xs : List Name) → ((x : Name) → IsIn x xs → f x ≡ []) → flat_map f xs ≡ []
none_flat f [] h = refl
none_flat f (x ∷ xs) h = (λ i. h x (inl refl) i ++ none_flat f xs (λ y j. h y (inr j)) i)

spill_is_none : (shape : Shape) (i j s : ℕ) (name : Name) → IsIn name (spills shape i j s) → block_in name ≡ []
spill_is_none shape i j s name x = let q = from_map (Spill i j s) name (splits shape i j s) x in ap block_in q.2

source_is_none : (shape : Shape) (i j p s : ℕ) (name : Name) (cached : Bool) → IsIn name (reduce_input shape i j p s cached).files → block_in name ≡ []
source_is_none shape i j p s name true x = spill_is_none shape 1 j s name x
source_is_none shape i j p s name false x = spill_is_none shape i j s name x

-- a reduce reads no block
pub reduce_misses_none : (view : View) (i j p : ℕ) → flat_map block_in (missing_of view (Reduce i j p)) ≡ []
reduce_misses_none view i j p = none_flat block_in (missing_of view (Reduce i j p)) (λ name x.
    let m = missing_is view (Reduce i j p) name x in
    let s = from_map (λ s. reduce_input view.shape i j p s (is_cached (source_at view.shape j s))) m.0 (source_numbers view.shape j) m.1 in
    source_is_none view.shape i j p s.0 name (is_cached (source_at view.shape j s.0)) (subst (λ (it : Input). IsIn name it.files) s.2 m.2))

part_is_none : (shape : Shape) (i : ℕ) (name : Name) → IsIn name (last_outs shape i) → block_in name ≡ []
part_is_none shape i name x = let p = from_map (Out i (last shape)) name (below shape.parts) x in ap block_in p.2

one_is_none : (i j p : ℕ) (name : Name) → IsIn name (Out i j p ∷ []) → block_in name ≡ []
one_is_none i j p name (inl e) = ap block_in e
one_is_none i j p name (inr x) = elim x [ ]

input_is_none : (shape : Shape) (i p : ℕ) (name : Name) (it : Input) (kept : Bool) → IsIn it (test_inputs shape i p kept) → IsIn name it.files → block_in name ≡ []
input_is_none shape i p name it true (inl e) x = one_is_none i (last shape) p name (subst (λ (it : Input). IsIn name it.files) e x)
input_is_none shape i p name it true (inr (inl e)) x = one_is_none (i - 1) (last shape) p name (subst (λ (it : Input). IsIn name it.files) e x)
input_is_none shape i p name it true (inr (inr y)) x = elim y [ ]
input_is_none shape i p name it false (inl e) x = elim (in_either name (last_outs shape i) (last_outs shape (i - 1)) (subst (λ (it : Input). IsIn name it.files) e x)) [
  | inl a ↦ part_is_none shape i name a
  | inr b ↦ part_is_none shape (i - 1) name b
]
input_is_none shape i p name it false (inr y) x = elim y [ ]

-- nor does a test
pub test_misses_none : (view : View) (i p : ℕ) → flat_map block_in (missing_of view (Test i p)) ≡ []
test_misses_none view i p = none_flat block_in (missing_of view (Test i p)) (λ name x.
    let m = missing_is view (Test i p) name x in
    input_is_none view.shape i p name m.0 view.shape.reducer_output m.1 m.2)

-- What attempts write.
use Rattle.std.proofs.Common.{◌≡◌, ◌⊎◌, inl, inr, ℕ, zero, suc, ◌-◌, ◌<◌, Bool, true, false, ◌&&◌, not, cond, List, [], ◌∷◌, ◌++◌, Option, None, Some, refl, sym, ap, subst, ◌∙◌, map, arith, length, ◌==◌, nat_lt}
use Rattle.std.specs.Prelude.{slice_index, ◌%◌, take}
use Rattle.std.specs.List.{filter, flat_map}
use Rattle.std.proofs.lemmas.Bool.{eqb-true, false_from_ne_true, false≢true}
use Rattle.hal_base.specs.Shapes.{source_at}
use Rattle.hal_base.specs.declared.shape.Origin.{Origin}
use Rattle.hal_base.specs.declared.shape.Origin.TheVariants.{Prev, State, Table}
use Rattle.hal_base.specs.declared.shape.Shape.{Shape}
use Rattle.hal_base.specs.declared.shape.Source.{Source}
use Rattle.node_names.specs.declared.name.Name.{Name}
use Rattle.node_names.specs.declared.name.Name.TheVariants.{Out, Roc, Spill}
use Rattle.node_names.specs.declared.task.Task.{Task}
use Rattle.node_names.specs.declared.task.Task.TheVariants.{Map, Reduce, Test}
use Rattle.replica_table.proofs.Names.{same_by}
use Rattle.replica_table.specs.Copies.{is_name, up_holders, with_copy}
use Rattle.replica_table.specs.Sets.{among}
use Rattle.run_model.specs.Attempts.{block_kept, further_calls, further_nodes, made_by, nodes_behind, nodes_for, output_kept, own_calls, own_writes, rebuilt, with_known, writes, writes_to, written}
use Rattle.run_model.specs.Lists.{IsIn, below}
use Rattle.run_model.specs.Needs.{Input, inputs, reduce_input, test_inputs}
use Rattle.run_model.specs.Plans.{Call, Read, Remove, Wipe, Write}
use Rattle.run_model.specs.Reading.{Reading, is_cache}
use Rattle.run_model.specs.Sites.{kept_block, kept_split}
use Rattle.run_model.specs.declared.attempt.Attempt.{Attempt}
use Rattle.run_model.specs.State.{Copy, Setup, copy, holds}
use Rattle.run_model.specs.Tasks.{count_in, is_cached, last, source_numbers, split_count, tasks_until}
use Rattle.run_laws.specs.Rounds.{NameFits}
use Rattle.run_laws.specs.States.{CopiesFit, IsNow, is_open}
use Rattle.run_laws.proofs.Copies.{from_with, holds_apart, holds_with, order_with}
use Rattle.run_laws.proofs.Listing.{Listed, numbers_are}
use Rattle.run_laws.proofs.Members.{and_true, from_below, from_filter, in_either}
use Rattle.run_laws.proofs.Numbers.{with_other}
use Rattle.run_laws.proofs.Turning.{CacheFits, CachesFit}

-- ---- calls that write

-- these calls write names that pass, on nodes that are there
abbrev pub WritesFit : (ℕ → Name → Type 0) → List Call → Type 0
WritesFit P [] = Unit {0}
WritesFit P (Write node name ∷ calls) = P node name × WritesFit P calls
WritesFit P (Wipe node ∷ calls) = ⊥
WritesFit P (Read node name ∷ calls) = ⊥
WritesFit P (Remove node name ∷ calls) = ⊥

-- copies with one more, of such a name on such a node
pub put_fits : (setup : Setup) (round : ℕ) (name : Name) (node : ℕ) (copies : List Copy) → NameFits setup.shape round name → node < setup.schedule.nodes → CopiesFit setup round copies → CopiesFit setup round (with_copy (copy name node) copies)
put_fits setup round name node copies fits l f = record {
  each = λ it i. elim (from_with (copy name node) it copies i) [
    | inl e ↦ subst (λ (x : Copy). NameFits setup.shape round x.name) (sym e) fits
    | inr j ↦ f.each it j
  ];
  order = order_with setup.schedule.nodes (copy name node) copies l f.order;
}

pub written_fits : (setup : Setup) (round : ℕ) (calls : List Call) (copies : List Copy) → WritesFit (λ node name. NameFits setup.shape round name × (node < setup.schedule.nodes)) calls → CopiesFit setup round copies → CopiesFit setup round (written calls copies)
written_fits setup round [] copies w f = f
written_fits setup round (Write node name ∷ calls) copies w f = written_fits setup round calls (with_copy (copy name node) copies) w.1 (put_fits setup round name node copies w.0.0 w.0.1 f)
written_fits setup round (Wipe node ∷ calls) copies w f = absurd w
written_fits setup round (Read node name ∷ calls) copies w f = absurd w
written_fits setup round (Remove node name ∷ calls) copies w f = absurd w

pub written_holds : (calls : List Call) (copies : List Copy) (n : ℕ) (a : Name) → holds copies n a ≡ true → holds (written calls copies) n a ≡ true
written_holds [] copies n a h = h
written_holds (Write node name ∷ calls) copies n a h = written_holds calls (with_copy (copy name node) copies) n a (holds_with (copy name node) n a copies h)
written_holds (Wipe node ∷ calls) copies n a h = written_holds calls copies n a h
written_holds (Read node name ∷ calls) copies n a h = written_holds calls copies n a h
written_holds (Remove node name ∷ calls) copies n a h = written_holds calls copies n a h

-- a name that is not written stays where it was
pub written_other : (n : ℕ) (a : Name) (calls : List Call) (copies : List Copy) → WritesFit (λ node name. is_name name a ≡ false) calls → holds (written calls copies) n a ≡ holds copies n a
written_other n a [] copies w = refl
written_other n a (Write node name ∷ calls) copies w = written_other n a calls (with_copy (copy name node) copies) w.1 ∙ holds_apart (copy name node) n a copies w.0
written_other n a (Wipe node ∷ calls) copies w = absurd w
written_other n a (Read node name ∷ calls) copies w = absurd w
written_other n a (Remove node name ∷ calls) copies w = absurd w

pub writes_append : (P : ℕ → Name → Type 0) (xs ys : List Call) → WritesFit P xs → WritesFit P ys → WritesFit P (xs ++ ys)
writes_append P [] ys a b = b
writes_append P (Write node name ∷ xs) ys a b = (a.0, writes_append P xs ys a.1 b)
writes_append P (Wipe node ∷ xs) ys a b = absurd a
writes_append P (Read node name ∷ xs) ys a b = absurd a
writes_append P (Remove node name ∷ xs) ys a b = absurd a

pub writes_weaker : (P Q : ℕ → Name → Type 0) (xs : List Call) → ((node : ℕ) (name : Name) → P node name → Q node name) → WritesFit P xs → WritesFit Q xs
writes_weaker P Q [] f a = tt
writes_weaker P Q (Write node name ∷ xs) f a = (f node name a.0, writes_weaker P Q xs f a.1)
writes_weaker P Q (Wipe node ∷ xs) f a = absurd a
writes_weaker P Q (Read node name ∷ xs) f a = absurd a
writes_weaker P Q (Remove node name ∷ xs) f a = absurd a

-- ---- what a task writes

-- what it makes, or a cache; of this shape
pub record MadeOrCache (shape : Shape) (round : ℕ) (t : Task) (name : Name) : Type 0 where
  pub fits : NameFits shape round name
  pub is : IsIn name (made_by t) ⊎ (is_cache name ≡ true)

abbrev pub Unread : Shape → ℕ → Task → Name → Type 0
Unread shape round (Map i j s q) name = Unit {0}
Unread shape round (Reduce i j p) name = MadeOrCache shape round (Reduce i j p) name
Unread shape round (Test i p) name = Unit {0}

caches_map : (C : Name → Type 0) (f : ℕ → Input) (ss : List ℕ) → ((s : ℕ) → IsIn s ss → CacheFits C (f s).cache) → CachesFit C (map f ss)
caches_map C f [] h = tt
caches_map C f (s ∷ ss) h = (h s (inl refl), caches_map C f ss (λ k i. h k (inr i)))

pub caches_fit : (shape : Shape) (round : ℕ) (t : Task) → IsIn t (tasks_until shape round) → CachesFit (Unread shape round t) (inputs shape t)
caches_fit shape round (Map i j s q) x = (tt, tt)
caches_fit shape round (Reduce i j p) x =
    let l = numbers_are shape round (Reduce i j p) x in
    caches_map (Unread shape round (Reduce i j p)) (λ s. reduce_input shape i j p s (is_cached (source_at shape j s))) (source_numbers shape j) (λ s y. go s y l (is_cached (source_at shape j s)))
  where
    go : (s : ℕ) → IsIn s (source_numbers shape j) → Listed shape round (Reduce i j p) → (v : Bool) → CacheFits (Unread shape round (Reduce i j p)) (reduce_input shape i j p s v).cache
    go s y l true = record { fits = (l.1, y, l.2); is = inr refl }
    go s y l false = tt
caches_fit shape round (Test i p) x = go shape.reducer_output
  where
    go : (v : Bool) → CachesFit (Unread shape round (Test i p)) (test_inputs shape i p v)
    go true = (tt, (tt, tt))
    go false = (tt, tt)

made_fits : (shape : Shape) (round : ℕ) (t : Task) (name : Name) → IsIn t (tasks_until shape round) → IsIn name (made_by t) → MadeOrCache shape round t name
made_fits shape round (Map i j s q) name x (inl e) = record { fits = subst (NameFits shape round) (sym e) x; is = inl (inl e) }
made_fits shape round (Map i j s q) name x (inr y) = elim y [ ]
made_fits shape round (Reduce i j p) name x (inl e) = record { fits = subst (NameFits shape round) (sym e) x; is = inl (inl e) }
made_fits shape round (Reduce i j p) name x (inr y) = elim y [ ]
made_fits shape round (Test i p) name x y = elim y [ ]

rebuilt_fits : (shape : Shape) (round : ℕ) (t : Task) (name : Name) (unread : List Name) → ((name : Name) → IsIn name unread → Unread shape round t name) → IsIn name (rebuilt t unread) → MadeOrCache shape round t name
rebuilt_fits shape round (Map i j s q) name unread h y = elim y [ ]
rebuilt_fits shape round (Reduce i j p) name unread h y = h name y
rebuilt_fits shape round (Test i p) name unread h y = elim y [ ]

split_block : (shape : Shape) (i q t : ℕ) (only : Option ℕ) → IsIn q (below (split_count shape i (Table t only))) → q < slice_index shape.blocks t
split_block shape i q t None y = from_below (slice_index shape.blocks t) q y
split_block shape i q t (Some k) y = elim (i == k) as (λ v. IsIn q (below (cond v (slice_index shape.blocks t) 0)) → q < slice_index shape.blocks t) [
  | true ↦ λ z. from_below (slice_index shape.blocks t) q z
  | false ↦ λ z. elim z [ ]
] y

kept_block_fits : (shape : Shape) (round i q : ℕ) (t : Task) (from : Origin) (keeps : Bool) (name : Name) → IsIn q (below (split_count shape i from)) → IsIn name (kept_block from keeps q) → MadeOrCache shape round t name
kept_block_fits shape round i q u State keeps name x y = elim y [ ]
kept_block_fits shape round i q u Prev keeps name x y = elim y [ ]
kept_block_fits shape round i q u (Table t only) false name x y = elim y [ ]
kept_block_fits shape round i q u (Table t only) true name x (inl e) = record { fits = subst (NameFits shape round) (sym e) (split_block shape i q t only x); is = inr (ap is_cache e) }
kept_block_fits shape round i q u (Table t only) true name x (inr y) = elim y [ ]

kept_split_fits : (shape : Shape) (round i q : ℕ) (t : Task) (o : Option Source) (name : Name) → IsIn q (below (count_in shape i o)) → IsIn name (kept_split o q) → MadeOrCache shape round t name
kept_split_fits shape round i q t None name x y = elim y [ ]
kept_split_fits shape round i q t (Some from) name x y = kept_block_fits shape round i q t from.from from.mapper_input name x y

block_fits : (shape : Shape) (round : ℕ) (t : Task) (remote : ℕ) (name : Name) → IsIn t (tasks_until shape round) → IsIn name (block_kept shape t remote) → MadeOrCache shape round t name
block_fits shape round (Map i j s q) remote name x y = elim (nat_lt 0 remote) as (λ v. IsIn name (cond v (kept_split (source_at shape j s) q) []) → MadeOrCache shape round (Map i j s q) name) [
  | true ↦ λ z. let l = numbers_are shape round (Map i j s q) x in kept_split_fits shape round i q (Map i j s q) (source_at shape j s) name l.3 z
  | false ↦ λ z. elim z [ ]
] y
block_fits shape round (Reduce i j p) remote name x y = elim y [ ]
block_fits shape round (Test i p) remote name x y = elim y [ ]

output_fits : (shape : Shape) (round now : ℕ) (t : Task) (name : Name) → IsIn t (tasks_until shape round) → IsIn name (output_kept shape now t) → MadeOrCache shape round t name
output_fits shape round now (Map i j s q) name x y = elim y [ ]
output_fits shape round now (Reduce i j p) name x y = elim (shape.reducer_output && (j == last shape) && (i == now)) as (λ v. (shape.reducer_output && (j == last shape) && (i == now)) ≡ v → IsIn name (cond v (Roc i p ∷ []) []) → MadeOrCache shape round (Reduce i j p) name) [
  | true ↦ λ e z. kept_out (eqb-true j (last shape) (and_true shape.reducer_output (j == last shape) (and_true (shape.reducer_output && (j == last shape)) (i == now) e).0).1) z
  | false ↦ λ e z. elim z [ ]
] refl y
  where
    kept_out : j ≡ last shape → IsIn name (Roc i p ∷ []) → MadeOrCache shape round (Reduce i j p) name
    kept_out e (inl n) = record { fits = subst (NameFits shape round) (sym n) (subst (λ k. IsIn (Reduce i k p) (tasks_until shape round)) e x); is = inr (ap is_cache n) }
    kept_out e (inr z) = elim z [ ]
output_fits shape round now (Test i p) name x y = elim y [ ]

own_fits : (setup : Setup) (round : ℕ) (t : Task) (r : Reading) (name : Name) → IsIn t (tasks_until setup.shape round) → ((name : Name) → IsIn name r.unread → Unread setup.shape round t name) → IsIn name (own_writes setup t r) → MadeOrCache setup.shape round t name
own_fits setup round t r name x h y =
    elim (in_either name (made_by t ++ rebuilt t r.unread ++ block_kept setup.shape t r.remote) (output_kept setup.shape r.cluster.round t) y) [
      | inl a ↦ elim (in_either name (made_by t ++ rebuilt t r.unread) (block_kept setup.shape t r.remote) a) [
        | inl b ↦ elim (in_either name (made_by t) (rebuilt t r.unread) b) [
          | inl c ↦ made_fits setup.shape round t name x c
          | inr c ↦ rebuilt_fits setup.shape round t name r.unread h c
        ]
        | inr b ↦ block_fits setup.shape round t r.remote name x b
      ]
      | inr a ↦ output_fits setup.shape round r.cluster.round t name x a
    ]

writes_map : (P : ℕ → Name → Type 0) (node : ℕ) (names : List Name) → ((name : Name) → IsIn name names → P node name) → WritesFit P (map (Write node) names)
writes_map P node [] h = tt
writes_map P node (name ∷ names) h = (h name (inl refl), writes_map P node names (λ n i. h n (inr i)))

writes_on : (P : ℕ → Name → Type 0) (name : Name) (nodes : List ℕ) → ((node : ℕ) → IsIn node nodes → P node name) → WritesFit P (writes_to nodes name)
writes_on P name [] h = tt
writes_on P name (node ∷ nodes) h = (h node (inl refl), writes_on P name nodes (λ n i. h n (inr i)))

writes_all : (P : ℕ → Name → Type 0) (names : List Name) (nodes : List ℕ) → ((node : ℕ) (name : Name) → IsIn node nodes → IsIn name names → P node name) → WritesFit P (flat_map (writes_to nodes) names)
writes_all P [] nodes h = tt
writes_all P (name ∷ names) nodes h = writes_append P (writes_to nodes name) (flat_map (writes_to nodes) names) (writes_on P name nodes (λ n i. h n name i (inl refl))) (writes_all P names nodes (λ n m i j. h n m i (inr j)))

from_take : (k n : ℕ) (ns : List ℕ) → IsIn n (take k ns) → IsIn n ns
from_take zero n [] i = elim i [ ]
from_take zero n (m ∷ ns) i = elim i [ ]
from_take (suc k) n [] i = elim i [ ]
from_take (suc k) n (m ∷ ns) (inl e) = inl e
from_take (suc k) n (m ∷ ns) (inr i) = inr (from_take k n ns i)

behind_there : (nodes node n : ℕ) → node < nodes → IsIn n (nodes_behind nodes node) → n < nodes
behind_there nodes node n l x = elim (in_either n (filter (λ m. nat_lt node m) (below nodes)) (below node) x) [
  | inl a ↦ from_below nodes n (from_filter (λ m. nat_lt node m) n (below nodes) a).0
  | inr b ↦ let h = from_below node n b in omega arith
]

further_there : (setup : Setup) (t : Task) (node n : ℕ) (up : List ℕ) (copies : List Copy) → node < setup.schedule.nodes → IsIn n (further_nodes setup t node up copies) → n < setup.schedule.nodes
further_there setup (Map i j s q) node n up copies l x = elim x [ ]
further_there setup (Reduce i j p) node n up copies l x = elim ((j == last setup.shape) && (i % setup.schedule.keep == 0)) as (λ v. IsIn n (cond v (nodes_for setup node up (up_holders (Out i j p) up copies)) []) → n < setup.schedule.nodes) [
  | true ↦ λ y. behind_there setup.schedule.nodes node n l (from_filter (λ m. among m up && not (among m (up_holders (Out i j p) up copies))) n (nodes_behind setup.schedule.nodes node) (from_take (setup.schedule.copies - length (up_holders (Out i j p) up copies)) n _ y)).0
  | false ↦ λ y. elim y [ ]
] x
further_there setup (Test i p) node n up copies l x = elim x [ ]

-- each write is on a node that is there, of what the task makes or of a cache
pub record GoodWrite (setup : Setup) (round : ℕ) (t : Task) (node : ℕ) (name : Name) : Type 0 where
  pub made : MadeOrCache setup.shape round t name
  pub there : node < setup.schedule.nodes

pub calls_fit : (setup : Setup) (round : ℕ) (a : Attempt) (r : Reading) → IsIn a.task (tasks_until setup.shape round) → a.node < setup.schedule.nodes → ((name : Name) → IsIn name r.unread → Unread setup.shape round a.task name) → WritesFit (GoodWrite setup round a.task) (writes setup a r)
calls_fit setup round a r x l h =
    writes_append (GoodWrite setup round a.task) (own_calls setup a r) (further_calls setup a r)
    (writes_map (GoodWrite setup round a.task) a.node (own_writes setup a.task r) (λ name i. record { made = own_fits setup round a.task r name x h i; there = l }))
    (writes_all (GoodWrite setup round a.task) (made_by a.task) (further_nodes setup a.task a.node r.cluster.up (written (own_calls setup a r) r.cluster.copies)) (λ n name i j. record { made = made_fits setup.shape round a.task name x j; there = further_there setup a.task a.node n r.cluster.up (written (own_calls setup a r) r.cluster.copies) l i }))

-- ---- what another task makes stays open

spill_made : (i j s q : ℕ) (t : Task) → IsIn (Spill i j s q) (made_by t) → t ≡ Map i j s q
spill_made i j s q (Map i' j' s' q') (inl e) = cc
spill_made i j s q (Map i' j' s' q') (inr x) = elim x [ ]
spill_made i j s q (Reduce i' j' p) (inl e) = cc
spill_made i j s q (Reduce i' j' p) (inr x) = elim x [ ]
spill_made i j s q (Test i' p) x = elim x [ ]

out_made : (i j p : ℕ) (t : Task) → IsIn (Out i j p) (made_by t) → t ≡ Reduce i j p
out_made i j p (Map i' j' s' q') (inl e) = cc
out_made i j p (Map i' j' s' q') (inr x) = elim x [ ]
out_made i j p (Reduce i' j' p') (inl e) = cc
out_made i j p (Reduce i' j' p') (inr x) = elim x [ ]
out_made i j p (Test i' p') x = elim x [ ]

other_name : (t : Task) (name a : Name) → (is_cache a ≡ false) → (IsIn a (made_by t) → ⊥) → IsIn name (made_by t) ⊎ (is_cache name ≡ true) → is_name name a ≡ false
other_name t name a c d m = false_from_ne_true (is_name name a) (λ e. go (same_by name a e) m)
  where
    go : name ≡ a → IsIn name (made_by t) ⊎ (is_cache name ≡ true) → ⊥
    go e (inl x) = d (subst (λ n. IsIn n (made_by t)) e x)
    go e (inr x) = false≢true (sym c ∙ ap is_cache (sym e) ∙ x)

pub stays_open : (setup : Setup) (round : ℕ) (t u : Task) (node : ℕ) (calls : List Call) (copies : List Copy) (known : List ℕ)
    → (t ≡ u → ⊥) → IsNow round t → IsNow round u → WritesFit (GoodWrite setup round t) calls
    → is_open (written calls copies) (with_known t known) u node ≡ is_open copies known u node
stays_open setup round t (Map i j s q) node calls copies known d n m w = ap not (written_other node (Spill i j s q) calls copies
    (writes_weaker (GoodWrite setup round t) (λ k name. is_name name (Spill i j s q) ≡ false) calls (λ k name g. other_name t name (Spill i j s q) refl (λ x. d (spill_made i j s q t x)) g.made.is) w))
stays_open setup round t (Reduce i j p) node calls copies known d n m w = ap not (written_other node (Out i j p) calls copies
    (writes_weaker (GoodWrite setup round t) (λ k name. is_name name (Out i j p) ≡ false) calls (λ k name g. other_name t name (Out i j p) refl (λ x. d (out_made i j p t x)) g.made.is) w))
stays_open setup round (Map i j s q) (Test i' p) node calls copies known d n m w = refl
stays_open setup round (Reduce i j q) (Test i' p) node calls copies known d n m w = refl
stays_open setup round (Test i q) (Test i' p) node calls copies known d n m w = ap not (with_other q p known (λ e. d (same i i' p q (n ∙ sym m) e)))
  where
    same : (i i' p q : ℕ) → i ≡ i' → p ≡ q → Test i q ≡ Test i' p
    same i i' p q x y = cc

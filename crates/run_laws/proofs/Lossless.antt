-- Where nothing is lost: blocks that are needed are there, and what an attempt reads without a miss.
use Rattle.std.proofs.Common.{◌≡◌, ◌⊎◌, inl, inr, ℕ, zero, suc, ◌+◌, ◌<◌, true, false, List, [], ◌∷◌, refl, subst, map, arith, length}
use Rattle.std.specs.Prelude.{slice_index}
use Rattle.std.specs.List.{flat_map}
use Rattle.std.proofs.Math.Nat.{mod-lt}
use Rattle.std.proofs.lemmas.Bool.{false≢true}
use Rattle.node_names.specs.declared.name.Name.{Name}
use Rattle.node_names.specs.declared.name.Name.TheVariants.{Blk, Mic, Out, Ric, Roc, Spill}
use Rattle.node_names.specs.declared.task.Task.{Task}
use Rattle.node_names.specs.declared.task.Task.TheVariants.{Map, Reduce, Test}
use Rattle.replica_table.proofs.Names.{same_by}
use Rattle.replica_table.specs.Copies.{is_name, nodes_with, with_copy}
use Rattle.replica_table.specs.Sets.{among}
use Rattle.run_model.specs.Attempts.{written}
use Rattle.run_model.specs.Lists.{IsIn, below}
use Rattle.run_model.specs.Needs.{is_up}
use Rattle.run_model.specs.Plans.{Call, Read, Remove, Wipe, Write}
use Rattle.run_model.specs.Runs.{block_writes, loaded, node_of}
use Rattle.run_model.specs.State.{Copy, Setup, copy, holds}
use Rattle.run_laws.specs.WithoutLoss.{LoadIsOrderly, is_made}
use Rattle.run_laws.proofs.Copies.{held_node, holds_new, holds_other, node_held}
use Rattle.run_laws.proofs.Loading.{load_is_reached, writes_each, writes_same}
use Rattle.run_laws.proofs.Members.{any_is, in_flat, in_map, in_range, is_any}
use Rattle.run_laws.proofs.Numbers.{is_among}
use Rattle.run_laws.proofs.Writes.{WritesFit, written_holds}

-- ---- the state after load

pub there_written : (node : ℕ) (name : Name) (calls : List Call) (copies : List Copy) → IsIn (Write node name) calls → holds (written calls copies) node name ≡ true
there_written node name [] copies i = elim i [ ]
there_written node name (Write node' name' ∷ calls) copies (inl e) = written_holds calls (with_copy (copy name' node') copies) node name (same (holds_new (copy name' node') copies))
  where
    same : holds (with_copy (copy name' node') copies) node' name' ≡ true → holds (with_copy (copy name' node') copies) node name ≡ true
    same h = subst (λ n. holds (with_copy (copy name' node') copies) n name ≡ true) (node_is e) (subst (λ a. holds (with_copy (copy name' node') copies) node' a ≡ true) (name_is e) h)
      where
        node_is : Write node name ≡ Write node' name' → node' ≡ node
        node_is e = cc

        name_is : Write node name ≡ Write node' name' → name' ≡ name
        name_is e = cc
there_written node name (Write node' name' ∷ calls) copies (inr i) = there_written node name calls (with_copy (copy name' node') copies) i
there_written node name (Wipe node' ∷ calls) copies (inr i) = there_written node name calls copies i
there_written node name (Read node' name' ∷ calls) copies (inr i) = there_written node name calls copies i
there_written node name (Remove node' name' ∷ calls) copies (inr i) = there_written node name calls copies i
there_written node name (Wipe node' ∷ calls) copies (inl e) = cc
there_written node name (Read node' name' ∷ calls) copies (inl e) = cc
there_written node name (Remove node' name' ∷ calls) copies (inl e) = cc

-- what is written is of these names alone
only_written : (P : Name → Type 0) (node : ℕ) (name : Name) (calls : List Call) (copies : List Copy) → WritesFit (λ n a. P a) calls → holds (written calls copies) node name ≡ true → (holds copies node name ≡ true) ⊎ P name
only_written P node name [] copies w h = inl h
only_written P node name (Write n a ∷ calls) copies w h = elim (only_written P node name calls (with_copy (copy a n) copies) w.1 h) [
  | inl x ↦ elim (is_name a name) as (λ v. is_name a name ≡ v → (holds copies node name ≡ true) ⊎ P name) [
    | true ↦ λ e. inr (subst P (same_by a name e) w.0)
    | false ↦ λ e. inl (holds_other (copy a n) node name copies e x)
  ] refl
  | inr p ↦ inr p
]
only_written P node name (Wipe n ∷ calls) copies w h = elim w [ ]
only_written P node name (Read n a ∷ calls) copies w h = elim w [ ]
only_written P node name (Remove n a ∷ calls) copies w h = elim w [ ]

abbrev pub IsBlock : Name → Type 0
IsBlock (Blk t b) = Unit {0}
IsBlock (Spill i j s q) = ⊥
IsBlock (Out i j p) = ⊥
IsBlock (Ric j s p) = ⊥
IsBlock (Mic t b) = ⊥
IsBlock (Roc i p) = ⊥

writes_blocks : (setup : Setup) → WritesFit (λ n a. IsBlock a) (block_writes setup)
writes_blocks setup =
    writes_each (λ n a. IsBlock a) (λ t. flat_map (λ b. map (λ k. Write (node_of t b k setup.schedule.nodes) (Blk t b)) (below setup.schedule.copies)) (below (slice_index setup.shape.blocks t))) (below (length setup.shape.blocks)) (λ t i.
    writes_each (λ n a. IsBlock a) (λ b. map (λ k. Write (node_of t b k setup.schedule.nodes) (Blk t b)) (below setup.schedule.copies)) (below (slice_index setup.shape.blocks t)) (λ b j.
    writes_same (λ n a. IsBlock a) (λ k. node_of t b k setup.schedule.nodes) (Blk t b) (below setup.schedule.copies) (λ k. tt)))

in_blocks : (blocks : List ℕ) (t b : ℕ) → b < slice_index blocks t → t < length blocks
in_blocks [] t b l = absurd (omega arith)
in_blocks (n ∷ blocks) zero b l = omega arith
in_blocks (n ∷ blocks) (suc t) b l = let h = in_blocks blocks t b l in omega arith

-- each copy of a block of the shape is written
pub block_written : (setup : Setup) (t b k : ℕ) → k < setup.schedule.copies → b < slice_index setup.shape.blocks t → IsIn (Write (node_of t b k setup.schedule.nodes) (Blk t b)) (block_writes setup)
block_written setup t b k l u =
    let call = Write (node_of t b k setup.schedule.nodes) (Blk t b) in
    let ks = in_map (λ k. Write (node_of t b k setup.schedule.nodes) (Blk t b)) k (below setup.schedule.copies) (in_range 0 setup.schedule.copies k (omega arith) (omega arith)) in
    let bs = in_flat (λ b. map (λ k. Write (node_of t b k setup.schedule.nodes) (Blk t b)) (below setup.schedule.copies)) b call (below (slice_index setup.shape.blocks t)) (in_range 0 (slice_index setup.shape.blocks t) b (omega arith) (omega arith)) ks in
    in_flat (λ t. flat_map (λ b. map (λ k. Write (node_of t b k setup.schedule.nodes) (Blk t b)) (below setup.schedule.copies)) (below (slice_index setup.shape.blocks t))) t call (below (length setup.shape.blocks)) (in_range 0 (length setup.shape.blocks) t (omega arith) (let h = in_blocks setup.shape.blocks t b u in omega arith)) bs

-- a name that an up node holds is up
pub held_up : (copies : List Copy) (up : List ℕ) (n : ℕ) (name : Name) → among n up ≡ true → holds copies n name ≡ true → is_up copies up name ≡ true
held_up copies up n name u h = is_any (λ node. among node up) n (nodes_with name copies) (held_node n name copies h) u

-- and a name that is up is held by an up node
pub up_held : (copies : List Copy) (up : List ℕ) (name : Name) → is_up copies up name ≡ true → (n : ℕ) × (among n up ≡ true) × (holds copies n name ≡ true)
up_held copies up name e = let m = any_is (λ node. among node up) (nodes_with name copies) e in (m.0, m.2, node_held m.0 name copies m.1)

nothing_made : (setup : Setup) (t : Task) → is_made (loaded setup) t ≡ true → ⊥
nothing_made setup (Map i j s q) e =
    let m = up_held (loaded setup).copies (loaded setup).up (Spill i j s q) e in
    none m.0 (only_written IsBlock m.0 (Spill i j s q) (block_writes setup) [] (writes_blocks setup) m.2)
  where
    none : (n : ℕ) → (holds [] n (Spill i j s q) ≡ true) ⊎ IsBlock (Spill i j s q) → ⊥
    none n (inl h) = false≢true h
    none n (inr x) = x
nothing_made setup (Reduce i j p) e =
    let m = up_held (loaded setup).copies (loaded setup).up (Out i j p) e in
    none m.0 (only_written IsBlock m.0 (Out i j p) (block_writes setup) [] (writes_blocks setup) m.2)
  where
    none : (n : ℕ) → (holds [] n (Out i j p) ≡ true) ⊎ IsBlock (Out i j p) → ⊥
    none n (inl h) = false≢true h
    none n (inr x) = x
nothing_made setup (Test i p) e = false≢true e

pub load_is_orderly : LoadIsOrderly
load_is_orderly setup fits caches l = record {
  reached = load_is_reached setup fits;
  caches = caches;
  all_up = refl;
  blocks = λ t b u.
      let node = node_of t b 0 setup.schedule.nodes in
      held_up (loaded setup).copies (loaded setup).up node (Blk t b) (is_among node (below setup.schedule.nodes) (in_range 0 setup.schedule.nodes node (omega arith) (let h = mod-lt (t + b + 0) fits.nodes in omega arith))) (there_written node (Blk t b) (block_writes setup) [] (block_written setup t b 0 (omega arith) u));
  before = λ x p u. absurd (omega arith);
  made = λ t x e. absurd (nothing_made setup t e);
}

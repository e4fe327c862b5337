-- The state after load is one that a run reaches.
use Rattle.std.proofs.Common.{inl, inr, ℕ, ◌+◌, ◌≤◌, ◌<◌, List, [], ◌∷◌, refl, map, arith, length}
use Rattle.std.specs.Prelude.{slice_index}
use Rattle.std.specs.List.{flat_map}
use Rattle.std.proofs.Math.Nat.{mod-lt}
use Rattle.node_names.specs.declared.name.Name.{Name}
use Rattle.node_names.specs.declared.name.Name.TheVariants.{Blk}
use Rattle.replica_table.proofs.Members.{range_ascend}
use Rattle.run_model.specs.Lists.{IsIn, below}
use Rattle.run_model.specs.Plans.{Call, Write}
use Rattle.run_model.specs.Runs.{block_writes, node_of}
use Rattle.run_model.specs.State.{Setup}
use Rattle.run_laws.specs.Rounds.{NameFits}
use Rattle.run_laws.specs.States.{LoadReaches}
use Rattle.run_laws.proofs.Members.{from_below}
use Rattle.run_laws.proofs.Writes.{WritesFit, writes_append, written_fits}

pub writes_each : (P : ℕ → Name → Type 0) (f : ℕ → List Call) (xs : List ℕ) → ((x : ℕ) → IsIn x xs → WritesFit P (f x)) → WritesFit P (flat_map f xs)
writes_each P f [] h = tt
writes_each P f (x ∷ xs) h = writes_append P (f x) (flat_map f xs) (h x (inl refl)) (writes_each P f xs (λ y i. h y (inr i)))

pub writes_same : (P : ℕ → Name → Type 0) (f : ℕ → ℕ) (name : Name) (ks : List ℕ) → ((k : ℕ) → P (f k) name) → WritesFit P (map (λ k. Write (f k) name) ks)
writes_same P f name [] h = tt
writes_same P f name (k ∷ ks) h = (h k, writes_same P f name ks h)

blocks_fit : (setup : Setup) → 1 ≤ setup.schedule.nodes → WritesFit (λ node name. NameFits setup.shape 1 name × (node < setup.schedule.nodes)) (block_writes setup)
blocks_fit setup l =
    let P : ℕ → Name → Type 0 = λ node name. NameFits setup.shape 1 name × (node < setup.schedule.nodes) in
    writes_each P (λ t. flat_map (λ b. map (λ k. Write (node_of t b k setup.schedule.nodes) (Blk t b)) (below setup.schedule.copies)) (below (slice_index setup.shape.blocks t))) (below (length setup.shape.blocks)) (λ t i.
    writes_each P (λ b. map (λ k. Write (node_of t b k setup.schedule.nodes) (Blk t b)) (below setup.schedule.copies)) (below (slice_index setup.shape.blocks t)) (λ b j.
    writes_same P (λ k. node_of t b k setup.schedule.nodes) (Blk t b) (below setup.schedule.copies) (λ k. (from_below (slice_index setup.shape.blocks t) b j, mod-lt (t + b + k) l))))

pub load_is_reached : LoadReaches
load_is_reached setup fits = record {
  time = record { begun = omega arith; in_time = fits.shape.rounds.0; spent = ([], refl) };
  up = range_ascend 0 setup.schedule.nodes setup.schedule.nodes (omega arith);
  marked = tt;
  copies = written_fits setup 1 (block_writes setup) [] (blocks_fit setup fits.nodes) (record { each = λ it i. elim i [ ]; order = tt });
  running = record { each = λ a i. elim i [ ]; once = tt; loads = λ n. omega arith };
  known = tt;
}

-- The first missing block is one of the shape, and no up node holds it.
use Rattle.std.proofs.Common.{◌≡◌, ◌⊎◌, inl, inr, ℕ, ◌<◌, true, false, ◌&&◌, ◌||◌, cond, List, [], ◌∷◌, Option, None, Some, refl, sym, subst, ◌∙◌, ◌==◌, nat_lt, nat_le}
use Rattle.std.specs.Prelude.{slice_index}
use Rattle.std.specs.List.{flat_map}
use Rattle.node_names.specs.declared.name.Name.{Name}
use Rattle.node_names.specs.declared.name.Name.TheVariants.{Blk, Mic, Out, Ric, Roc, Spill}
use Rattle.node_names.specs.declared.task.Task.{Task}
use Rattle.run_model.specs.Lists.{IsIn}
use Rattle.run_model.specs.Needs.{View, is_up}
use Rattle.run_model.specs.Sites.{site}
use Rattle.run_model.specs.State.{holds}
use Rattle.run_model.specs.Wanted.{Goal, block_in, first_missing_block, least_name, lesser, lesser_block, missing_blocks, missing_of, wanted}
use Rattle.run_laws.proofs.Members.{from_flat, or_false}
use Rattle.run_laws.proofs.Opening.{missing_from, wanted_are_tasks}
use Rattle.run_laws.proofs.Orders.{missing_is}
use Rattle.run_laws.proofs.UnmissedReads.{block_needed}

lesser_is : (a b : Name) → (lesser_block a b ≡ a) ⊎ (lesser_block a b ≡ b)
lesser_is (Blk t b) (Blk t' b') = elim (nat_lt t t' || ((t == t') && nat_le b b')) as (λ v. (cond v (Blk t b) (Blk t' b') ≡ Blk t b) ⊎ (cond v (Blk t b) (Blk t' b') ≡ Blk t' b')) [ true ↦ inl refl | false ↦ inr refl ]
lesser_is a b = inl refl

same_found : (a b : Name) → Some a ≡ Some b → b ≡ a
same_found a b e = cc

none_found : (a : Name) → None ≡ Some a → ⊥
none_found a e = cc

-- the least name is one of them
least_in : (names : List Name) (name : Name) → least_name names ≡ Some name → IsIn name names
least_in [] name e = absurd (none_found name e)
least_in (a ∷ names) name e = go (least_name names) refl (same_found (lesser a (least_name names)) name e) (least_in names)
  where
    go : (o : Option Name) → least_name names ≡ o → name ≡ lesser a o → ((b : Name) → least_name names ≡ Some b → IsIn b names) → IsIn name (a ∷ names)
    go None x s more = inl s
    go (Some b) x s more = elim (lesser_is a b) [ inl l ↦ inl (s ∙ l) | inr r ↦ inr (subst (λ z. IsIn z names) (sym (s ∙ r)) (more b x)) ]

-- a block of the shape that no up node holds
pub record NotThere (view : View) (t b : ℕ) : Type 0 where
  pub in_shape : b < slice_index view.shape.blocks t
  pub not_up : is_up view.copies view.up (Blk t b) ≡ false

-- such a block is missing of a task
pub block_missing : (view : View) (goal : Goal) (block : Name) → first_missing_block view goal ≡ Some block → (t : ℕ) × (b : ℕ) × (block ≡ Blk t b) × NotThere view t b
block_missing view goal block e =
    let w = from_flat (λ task. flat_map block_in (missing_of view task)) block (wanted view goal) (least_in (missing_blocks view goal) block e) in
    let m = from_flat block_in block (missing_of view w.0) w.2 in
    go w.0 m.0 w.1 m.1 m.2
  where
    go : (task : Task) (name : Name) → IsIn task (wanted view goal) → IsIn name (missing_of view task) → IsIn block (block_in name) → (t : ℕ) × (b : ℕ) × (block ≡ Blk t b) × NotThere view t b
    go task (Blk t b) x y (inl s) =
        let f = missing_is view task (Blk t b) y in
        let g = missing_from view task (site view task) (Blk t b) y in
        let not_held = or_false (is_up view.copies view.up (Blk t b) || holds view.copies g.0 (Blk t b)) (holds view.copies g.0 (Mic t b)) g.1 in (
          t,
          b,
          s,
          record {
            in_shape = block_needed view.shape task f.0 t b (wanted_are_tasks view goal task x).0 f.1 f.2;
            not_up = (or_false (is_up view.copies view.up (Blk t b)) (holds view.copies g.0 (Blk t b)) not_held.0).0;
          },
        )
    go task (Blk t b) x y (inr z) = elim z [ ]
    go task (Spill i j s q) x y z = elim z [ ]
    go task (Out i j p) x y z = elim z [ ]
    go task (Ric j s p) x y z = elim z [ ]
    go task (Mic t b) x y z = elim z [ ]
    go task (Roc i p) x y z = elim z [ ]

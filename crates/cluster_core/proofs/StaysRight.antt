-- Copies stay valid and values of tests right, where what was made is right.
use Rattle.std.proofs.Common.{◌≡◌, ◌⊎◌, inl, inr, ℕ, zero, suc, List, [], ◌∷◌, Option, Some, slice_get, refl, sym, ap, ◌∙◌, subst}
use Rattle.std.proofs.Math.ListN.{set}
use Rattle.hal_base.specs.Meaning.{Meaning}
use Rattle.hal_outside.specs.DiskTold.{DiskTold}
use Rattle.name_values.specs.Values.{World}
use Rattle.plain_job.specs.Ends.{Reaches}
use Rattle.replica_table.specs.Copies.{Replicas}
use Rattle.run_model.specs.State.{Setup}
use Rattle.run_model.specs.declared.attempt.Attempt.{Attempt}
use Rattle.task_values.specs.Tests.{test_of}
use Rattle.valid_copies.specs.Stands.{Stands}
use Rattle.cluster_core.specs.States.{Kept}
use Rattle.cluster_core.specs.Works.{StandsFor, StaysRight}

pub was_set : (xs : List (Option ℕ)) (p v q value : ℕ) → slice_get (set xs p (Some v)) q ≡ Some (Some value) → ((value ≡ v) × (q ≡ p)) ⊎ (slice_get xs q ≡ Some (Some value))
was_set [] p v q value e = inr e
was_set (x ∷ xs) zero v zero value e = inl (same e, refl)
  where
    same : Some (Some v) ≡ Some (Some value) → value ≡ v
    same e = cc
was_set (x ∷ xs) zero v (suc q) value e = inr e
was_set (x ∷ xs) (suc p) v zero value e = inr e
was_set (x ∷ xs) (suc p) v (suc q) value e = elim (was_set xs p v q value e) [ inl k ↦ inl (k.0, ap suc k.1) | inr k ↦ inr k ]

-- a file was written
pub file_stays : (w : World) (old new : Kept) (before after : Option DiskTold) → new.values ≡ old.values → new.round ≡ old.round → (Stands w old.table.copies before → Stands w new.table.copies after) → StandsFor w old before → StandsFor w new after
file_stays w old new before after values round valid s = record {
  reached = subst (Reaches w.means w.shape w.tables) (sym round) s.reached;
  copies = valid s.copies;
  values = λ p value e. s.values p value (subst (λ vs. slice_get vs p ≡ Some (Some value)) values e) ∙ ap (λ n. test_of w n p) (sym round);
}

-- a test has its value
pub value_stays : (w : World) (old new : Kept) (told : Option DiskTold) (part v : ℕ) → new.table ≡ old.table → new.values ≡ set old.values part (Some v) → new.round ≡ old.round → v ≡ test_of w old.round part → StandsFor w old told → StandsFor w new told
value_stays w old new told part v table values round right s = record {
  reached = subst (Reaches w.means w.shape w.tables) (sym round) s.reached;
  copies = subst (λ (t : Replicas). Stands w t.copies told) (sym table) s.copies;
  values = λ p value e.
      elim (was_set old.values part v p value (subst (λ vs. slice_get vs p ≡ Some (Some value)) values e)) [
        | inl k ↦ k.0 ∙ right ∙ ap (test_of w old.round) (sym k.1)
        | inr k ↦ s.values p value k
      ]
      ∙ ap (λ n. test_of w n p) (sym round);
}

-- what runs does not matter
pub stays_out : (m : Meaning) (setup : Setup) (shows : Type 0) (old new : Kept) (running : List Attempt) (before after : Option DiskTold) → StaysRight m setup shows before after (record old { running = running }) new → StaysRight m setup shows before after old new
stays_out m setup shows old new running before after h = λ tables fits s told stands. h tables fits s told (record { reached = stands.reached; copies = stands.copies; values = stands.values })

-- The state after load.
use Rattle.std.proofs.Common.{◌≡◌, ◌<◌, ◌≤◌, ℕ, zero, suc, List, [], ◌∷◌, Option, None, Some, replicate, slice_get, refl, sym, ap, ◌∙◌, subst, arith}
use Rattle.hal_base.specs.declared.shape.Shape.{Shape}
use Rattle.hal_outside.specs.DiskTold.{DiskTold}
use Rattle.loop_scheduler.specs.Views.{IsCounted}
use Rattle.plain_job.specs.Ends.{Reaches}
use Rattle.name_values.specs.Values.{World}
use Rattle.replica_table.specs.Copies.{Replicas}
use Rattle.schedule_text.specs.declared.schedule.Event.{Event}
use Rattle.schedule_text.specs.declared.schedule.Schedule.{Schedule}
use Rattle.counter_report.specs.declared.journal.Entry.{Entry}
use Rattle.counter_report.specs.declared.journal.Entry.TheVariants as line
use Rattle.run_laws.proofs.Lossless.{load_is_orderly}
use Rattle.run_model.specs.Lists.{below}
use Rattle.run_model.specs.Runs.{loaded}
use Rattle.run_model.specs.State.{Copy, PlainCluster, Setup, bare}
use Rattle.run_model.specs.Tasks.{test_count}
use Rattle.run_model.specs.declared.attempt.Attempt.{Attempt}
use Rattle.run_model.specs.declared.attempt.Failed.{Failed}
use Rattle.valid_copies.specs.Stands.{Stands}
use Rattle.cluster_core.specs.Clusters.{CanBegin}
use Rattle.cluster_core.specs.Loading.{IsLoaded, setup_of}
use Rattle.cluster_core.specs.States.{Kept, Seen, known_from, known_in, plain_of}
use Rattle.cluster_core.specs.Turns.{IsRunning}
use Rattle.cluster_core.specs.Works.{StandsFor}
use Rattle.cluster_core.proofs.Ready.{fits_of}

-- ---- no value is known

none_known : (n p : ℕ) → known_from p (replicate n None) ≡ []
none_known zero p = refl
none_known (suc n) p = none_known n (suc p)

none_there : (n p value : ℕ) → slice_get (replicate n None) p ≡ Some (Some value) → ⊥
none_there zero p value e = cc
none_there (suc n) zero value e = cc
none_there (suc n) (suc p) value e = none_there n p value e

-- ---- the plain state

abbrev with_fields : List ℕ → List Copy → List Attempt → List ℕ → List Failed → List Event → List Entry → PlainCluster
with_fields up copies running known failures events journal = record { round = 1; up = up; marked = []; copies = copies; running = running; known = known; failures = failures; events = events; journal = journal }

pub first_plain : (shape : Shape) (schedule : Schedule) (table : Replicas) (values : List (Option ℕ)) (running : List Attempt) (failures : List Failed) (journal : List Entry)
    → IsLoaded (setup_of shape schedule) table → values ≡ replicate (test_count shape) None → running ≡ [] → failures ≡ [] → journal ≡ line.Round 1 ∷ []
    → plain_of schedule (record { round = 1; table = table; values = values; running = running; failures = failures; spent = 0; journal = journal }) ≡ loaded (setup_of shape schedule)
first_plain shape schedule table values running failures journal l v r f j =
    let known : known_in values ≡ [] = ap known_in v ∙ none_known (test_count shape) 0 in
    let up = below schedule.nodes in
    let copies = (loaded (setup_of shape schedule)).copies in
    ap (λ ns. with_fields ns (bare table.copies) running (known_in values) failures schedule.events journal) l.up
    ∙ ap (λ its. with_fields up its running (known_in values) failures schedule.events journal) l.copies
    ∙ ap (λ its. with_fields up copies its (known_in values) failures schedule.events journal) r
    ∙ ap (λ ps. with_fields up copies [] ps failures schedule.events journal) known
    ∙ ap (λ its. with_fields up copies [] [] its schedule.events journal) f
    ∙ ap (λ lines. with_fields up copies [] [] [] schedule.events lines) j

-- ---- what holds of it

first_running : (shape : Shape) (schedule : Schedule) → CanBegin shape schedule → IsRunning (setup_of shape schedule) (loaded (setup_of shape schedule))
first_running shape schedule can =
    let fits = fits_of shape schedule can.counted can.limits in
    record {
      fits = fits;
      attempts = can.limits.attempts.0;
      orderly = (load_is_orderly (setup_of shape schedule) fits can.caches can.limits.copies.0, can.quiet);
      tallied = (omega arith, tt);
    }

pub begins_running : (shape : Shape) (schedule : Schedule) (seen : Seen) → CanBegin shape schedule → seen.setup ≡ setup_of shape schedule → seen.plain ≡ loaded (setup_of shape schedule) → IsRunning seen.setup seen.plain
begins_running shape schedule seen can s p = subst (λ (setup : Setup). IsRunning setup seen.plain) (sym s) (subst (IsRunning (setup_of shape schedule)) (sym p) (first_running shape schedule can))

-- the chain comes to round 1
reaches_first : (w : World) → 1 ≤ w.shape.rounds → Reaches w.means w.shape w.tables 1
reaches_first w some = record { within = (omega arith, some); not_before = λ k l m. absurd (none k l m) }
  where
    none : (k : ℕ) → 2 ≤ k → k < 1 → ⊥
    none k l m = omega (arith, l, m)

pub begins_standing : (w : World) (shape : Shape) (kept : Kept) (table : Replicas) (n : ℕ) (told : Option DiskTold) → IsCounted shape → w.shape ≡ shape → kept.round ≡ 1 → kept.table ≡ table → kept.values ≡ replicate n None → Stands w table.copies told → StandsFor w kept told
begins_standing w shape kept table n told counted same r t v stands = record {
  reached = subst (Reaches w.means w.shape w.tables) (sym r) (reaches_first w (subst (λ (s : Shape). 1 ≤ s.rounds) (sym same) counted.well_formed.rounds.0));
  copies = subst (λ (t : Replicas). Stands w t.copies told) (sym t) stands;
  values = λ p value e. absurd (none_there n p value (sym (ap (λ values. slice_get values p) v) ∙ e));
}

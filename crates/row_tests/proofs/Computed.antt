-- The worked rows, computed from the definitions.
use Rattle.std.proofs.Common.{◌≡◌, ℕ, ◌<◌, ◌≤◌, List, [], ◌∷◌, refl, subst, arith, lit≤, lit<}
use Rattle.hal_base.specs.declared.record.Record.{Record}
use Rattle.hal_base.specs.declared.shape.Shape.{Shape}
use Rattle.hal_base.specs.Meaning.{Meaning}
use Rattle.plain_job.specs.Chain.{last_out}
use Rattle.plain_job.specs.declared.ending.End.{End}
use Rattle.plain_job.specs.declared.ending.End.TheVariants.{Fixpoint, Close, Limit}
use Rattle.plain_job.specs.Ends.{EndsBy, round_distance}
use Rattle.row_tests.specs.Programs.{pair, hops, hops_shape, links, counts, counts_shape, leasts, one_job_shape, late_shape, ranks, ranks_shape}
use Rattle.row_tests.specs.Rows.{Gives, WorkedRows}

-- no round before round 1 or 2 is judged
early : (m : Meaning) (shape : Shape) (tables : List (List Record)) (rounds : ℕ) → rounds ≤ 2 → (k : ℕ) → 2 ≤ k → k < rounds → shape.threshold ≤ round_distance m shape tables k
early m shape tables rounds l k a b = absurd (omega arith)

-- before round 3 only round 2 is
before_third : (m : Meaning) (shape : Shape) (tables : List (List Record)) → shape.threshold ≤ round_distance m shape tables 2 → (k : ℕ) → 2 ≤ k → k < 3 → shape.threshold ≤ round_distance m shape tables k
before_third m shape tables d k a b =
    let e : 2 ≡ k = omega arith in subst (λ (n : ℕ). shape.threshold ≤ round_distance m shape tables n) e d

in_round_3 : (m : Meaning) (shape : Shape) (tables : List (List Record)) (end : End) (parts : List (List Record)) → 3 ≤ shape.rounds → shape.threshold ≤ round_distance m shape tables 2 → EndsBy m shape tables 3 end → last_out m shape tables 3 ≡ parts → Gives m shape tables 3 end parts
in_round_3 m shape tables end parts l d b o = record { ends = record { reached = record { within = (lit≤ tt, l); not_before = before_third m shape tables d }; by = b }; out = o }

sooner : (m : Meaning) (shape : Shape) (tables : List (List Record)) (rounds : ℕ) (end : End) (parts : List (List Record)) → (1 ≤ rounds) × (rounds ≤ 2) → rounds ≤ shape.rounds → EndsBy m shape tables rounds end → last_out m shape tables rounds ≡ parts → Gives m shape tables rounds end parts
sooner m shape tables rounds end parts e l b o = record { ends = record { reached = record { within = (e.0, l); not_before = early m shape tables rounds e.1 }; by = b }; out = o }

pub computed : WorkedRows
computed = record {
  hops_first = refl;
  hops_second = refl;
  distances_by_hops = in_round_3 hops (hops_shape 20) ((pair 1 0 ∷ []) ∷ links ∷ []) Fixpoint _ (lit≤ tt) (lit≤ tt) (refl, lit≤ tt, lit< tt) refl;
  empty_first = refl;
  empty_start = sooner hops (hops_shape 20) ([] ∷ links ∷ []) 2 Fixpoint _ (lit≤ tt, lit≤ tt) (lit≤ tt) (refl, lit≤ tt, lit< tt) refl;
  one_round = sooner hops (hops_shape 1) ((pair 1 0 ∷ []) ∷ links ∷ []) 1 Limit _ (lit≤ tt, lit≤ tt) (lit≤ tt) (refl, λ h. absurd (omega arith)) refl;
  counted_first = refl;
  counted_links = sooner counts counts_shape ((pair 9 0 ∷ []) ∷ (pair 1 2 ∷ pair 1 3 ∷ pair 4 1 ∷ []) ∷ []) 2 Limit _ (lit≤ tt, lit≤ tt) (lit≤ tt) (refl, λ h. lit≤ tt) refl;
  counted_distance = refl;
  one_job = sooner leasts one_job_shape ((pair 2 7 ∷ pair 1 5 ∷ pair 2 3 ∷ []) ∷ []) 1 Limit _ (lit≤ tt, lit≤ tt) (lit≤ tt) (refl, λ h. absurd (omega arith)) refl;
  late_first = refl;
  late_second = refl;
  late_table = in_round_3 leasts late_shape ((pair 1 9 ∷ []) ∷ (pair 1 4 ∷ []) ∷ []) Fixpoint _ (lit≤ tt) (lit≤ tt) (refl, lit≤ tt, lit< tt) refl;
  ranks_first = refl;
  ranks_second = refl;
  ranks_distance = refl;
  ranks_last_distance = refl;
  ranks_end = in_round_3 ranks ranks_shape ((pair 1 1000000 ∷ pair 2 0 ∷ []) ∷ (pair 1 2 ∷ pair 2 1 ∷ []) ∷ []) Close _ (lit≤ tt) (lit≤ tt) (refl, lit≤ tt, lit< tt) refl;
}

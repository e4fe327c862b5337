-- How many blocks its tables have, and which caches there are, is nothing to a chain.
use Rattle.std.proofs.Common.{◌≡◌, ℕ, zero, suc, ◌+◌, ◌≤◌, ◌<◌, Bool, List, [], ◌∷◌, refl, ap, subst, ◌∙◌, length, map, slice_get}
use Rattle.hal_base.specs.declared.record.Record.{Record}
use Rattle.hal_base.specs.declared.shape.Origin.{Origin}
use Rattle.hal_base.specs.declared.shape.Shape.{Shape}
use Rattle.hal_base.specs.declared.shape.Source.{Source}
use Rattle.hal_base.specs.declared.shape.Step.{Step}
use Rattle.hal_base.specs.Meaning.{Meaning}
use Rattle.hal_base.specs.Shapes.{step_at}
use Rattle.loop_program.proofs.FlaggedShapes.{many_steps}
use Rattle.loop_program.specs.Flags.{SourceFlags, flagged, flagged_sources, flagged_steps}
use Rattle.loop_program.specs.Whole.{blocked}
use Rattle.plain_job.specs.Job.{stream}
use Rattle.plain_job.specs.Chain.{last_out, numbers_from, part_out, parts_by, parts_from, source_rows, state_of, streams, together}
use Rattle.plain_job.specs.Distances.{distance}
use Rattle.plain_job.specs.Ends.{Ends, EndsBy, round_distance}
use Rattle.plain_job.specs.declared.ending.End.{End}
use Rattle.plain_job.specs.declared.ending.End.TheVariants.{Fixpoint, Close, Limit}

module _ (m : Meaning) (shape : Shape) (blocks : List ℕ) (flags : SourceFlags) (output : Bool) (tables : List (List Record)) where
  abbrev with_them : Shape
  with_them = flagged flags output (blocked shape blocks)

  -- what is emitted goes by the origins of sources alone
  streams_same : (i j : ℕ) (rows : Origin → List Record) (s k n : ℕ) (sources : List Source) → streams m i j rows s (flagged_sources flags k n sources) ≡ streams m i j rows s sources
  streams_same i j rows s k n [] = refl
  streams_same i j rows s k n (source ∷ sources) = ap (λ more. stream (m.map i j s) (rows source.from) ∷ more) (streams_same i j rows (s + 1) k (suc n) sources)

  step_same : (i j from n : ℕ) (state before : List Record) (steps : List Step) → parts_by m with_them tables i j state before (slice_get (flagged_steps flags from steps) n) ≡ parts_by m shape tables i j state before (slice_get steps n)
  step_same i j from n state before [] = refl
  step_same i j from zero state before (step ∷ steps) = ap (λ ss. map (part_out m i j ss) (numbers_from 0 shape.parts)) (streams_same i j (source_rows tables i state before) 1 from 1 step.sources)
  step_same i j from (suc n) state before (step ∷ steps) = step_same i j (suc from) n state before steps

  steps_same : (i : ℕ) (state : List Record) (k : ℕ) → parts_from m with_them tables i state k ≡ parts_from m shape tables i state k
  steps_same i state zero = refl
  steps_same i state (suc k) =
      ap (λ parts. parts_by m with_them tables i (suc k) state (together parts) (step_at with_them (suc k))) (steps_same i state k)
      ∙ step_same i (suc k) 1 k state (together (parts_from m shape tables i state k)) shape.steps

  -- the chain has the same parts
  pub same_parts : (i : ℕ) → last_out m with_them tables i ≡ last_out m shape tables i
  same_parts zero = refl
  same_parts (suc n) =
      ap (λ parts. parts_from m with_them tables (suc n) (together parts) (length with_them.steps)) (same_parts n)
      ∙ ap (parts_from m with_them tables (suc n) (together (last_out m shape tables n))) (many_steps flags 1 shape.steps)
      ∙ steps_same (suc n) (together (last_out m shape tables n)) (length shape.steps)

  same_state : (i : ℕ) → state_of m with_them tables i ≡ state_of m shape tables i
  same_state zero = refl
  same_state (suc n) = ap together (same_parts n)

  same_distance : (i : ℕ) → round_distance m with_them tables i ≡ round_distance m shape tables i
  same_distance i = ap (λ state. distance m shape state (together (last_out m with_them tables i))) (same_state i) ∙ ap (λ parts. distance m shape (state_of m shape tables i) (together parts)) (same_parts i)

  ends_by : (i : ℕ) (end : End) → EndsBy m with_them tables i end → EndsBy m shape tables i end
  ends_by i Fixpoint e = (e.0, e.1, subst (λ n. n < shape.threshold) (same_distance i) e.2)
  ends_by i Close e = (e.0, e.1, subst (λ n. n < shape.threshold) (same_distance i) e.2)
  ends_by i Limit e = (e.0, λ l. subst (λ n. shape.threshold ≤ n) (same_distance i) (e.1 l))

  -- and ends in the same round, and so
  pub same_end : (i : ℕ) (end : End) → Ends m with_them tables i end → Ends m shape tables i end
  same_end i end e = record {
    reached = record { within = e.reached.within; not_before = λ k l n. subst (λ d. shape.threshold ≤ d) (same_distance k) (e.reached.not_before k l n) };
    by = ends_by i end e.by;
  }

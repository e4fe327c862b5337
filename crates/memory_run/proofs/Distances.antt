-- The distance of two rounds of the chain.
use Rattle.std.proofs.Common.{◌≡◌, ℕ, false, true, List, Some, sym, ap, ◌∙◌, subst, min, sum, length}
use Rattle.std.specs.List.{AllByRecursion}
use Rattle.hal_base.specs.declared.fields.Schema.{Schema}
use Rattle.hal_base.specs.declared.record.Record.{Record}
use Rattle.hal_base.specs.declared.shape.Shape.{Shape}
use Rattle.hal_base.specs.Meaning.{KeyLaw, Meaning, RoundLaw}
use Rattle.hal_base.specs.Shapes.{IsWellFormed, state_schema}
use Rattle.hal_base.specs.Values.{IsRecordOf}
use Rattle.plain_job.specs.Chain.{last_out, together}
use Rattle.plain_job.specs.Distances.{distance, distance_by, part_distances}
use Rattle.plain_job.specs.Fit.{AreRecordsOf, FunctionsFit, TablesFit}
use Rattle.plain_job.proofs.KeyParts.{parts_make}
use Rattle.plain_job.proofs.Lists.{all_flat}
use Rattle.plain_job.proofs.Schemas.{item_there, of_their_schemas}
use Rattle.plain_job.proofs.TellDistance.{tell_the_distance}
use Rattle.memory_run.specs.steps.Rounds.{AreLeft}

module _ {m : Meaning} {shape : Shape} (w : IsWellFormed shape) (f : FunctionsFit m shape) (tables : List (List Record)) (t : TablesFit shape tables) where
  -- what a round leaves is of the schema of the state
  left_fits : (schema : Schema) → state_schema shape ≡ Some schema → (i : ℕ) (parts : List (List Record)) → AreLeft m shape tables i parts → AreRecordsOf schema (together parts)
  left_fits schema e i parts left =
      let states = of_their_schemas m shape tables w f t in
      all_flat (AreRecordsOf schema) (IsRecordOf schema) (λ rows. rows) parts (λ rows r. r)
      (subst (λ (parts : List (List Record)). AllByRecursion (AreRecordsOf schema) parts) (sym left.parts_are) (states.states i schema left.within.1 e))

  -- the functions' distance of two rounds is that of the chain
  pub whole_is : (old new : List (List Record)) (i j : ℕ) → AreLeft m shape tables i old → AreLeft m shape tables j new → distance_by m.distance (together old) (together new) ≡ distance m shape (together old) (together new)
  whole_is old new i j before after =
      let state = item_there shape.tables shape.start w.start in
      tell_the_distance m shape state.0 f state.1 (together old) (together new) (left_fits state.0 state.1 i old before) (left_fits state.0 state.1 j new after)

  -- where each key stands in its part, the distances of the parts make it
  pub parts_are : RoundLaw m → KeyLaw m → m.keeps_key (length shape.steps) ≡ true → m.partition_uses_round (length shape.steps) ≡ false → (old new : List (List Record)) (i j : ℕ) → AreLeft m shape tables i old → AreLeft m shape tables j new → min (sum (part_distances m.distance old new)) 9223372036854775807 ≡ distance m shape (together old) (together new)
  parts_are r k keeps fixed old new i j before after =
      ap (λ parts. min (sum (part_distances m.distance parts new)) 9223372036854775807) before.parts_are
      ∙ ap (λ parts. min (sum (part_distances m.distance (last_out m shape tables i) parts)) 9223372036854775807) after.parts_are
      ∙ parts_make m shape tables r k keeps fixed m.distance i j before.within.0 after.within.0
      ∙ ap (λ parts. distance_by m.distance (together parts) (together (last_out m shape tables j))) (sym before.parts_are)
      ∙ ap (λ parts. distance_by m.distance (together old) (together parts)) (sym after.parts_are)
      ∙ whole_is old new i j before after

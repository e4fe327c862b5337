-- What it is that a cache is had: no word refuses it.
use Rattle.std.proofs.Common.{◌≡◌, ℕ, Bool, true, false, cond, not, List, None, Some, refl, sym}
use Rattle.hal_base.specs.declared.shape.Origin.{Origin}
use Rattle.hal_base.specs.declared.shape.Origin.TheVariants.{State, Prev, Table}
use Rattle.hal_base.specs.Shapes.{IsFixed, MayBeKept}
use Rattle.function_language.specs.declared.tree.Function.{Function as Written}
use Rattle.program_sketch.specs.declared.sketch.Asked.{Asked}
use Rattle.type_checker.specs.Uses.{key_kept, reduce_at}
use Rattle.type_checker.specs.declared.uses.Uses.{Uses}
use Rattle.loop_program.specs.declared.verdict.Verdict.{Verdict}
use Rattle.loop_program.specs.declared.verdict.Verdict.TheVariants.{Applies, NotInvariant, OneRoundOnly, UsesRound, PartitionUsesRound, EmitsOtherKey, NotAsked}
use Rattle.loop_program.specs.Caches.{emits_other_key, input_verdict, is_had, is_of_one_round, is_remade, map_uses_round, output_verdict, partition_uses_round}

apart : true ≡ false → ⊥
apart e = cc

-- where the cache is had, this word does not hold, nor does any behind it
goes_on : (says : Verdict) → (says ≡ Applies → ⊥) → (holds : Bool) (behind : Verdict) → cond holds says behind ≡ Applies → (holds ≡ false) × (behind ≡ Applies)
goes_on says other true behind e = absurd (other e)
goes_on says other false behind e = (refl, e)

not_remade : NotInvariant ≡ Applies → ⊥
not_remade e = cc

not_once : OneRoundOnly ≡ Applies → ⊥
not_once e = cc

not_round : UsesRound ≡ Applies → ⊥
not_round e = cc

not_partition : PartitionUsesRound ≡ Applies → ⊥
not_partition e = cc

not_key : EmitsOtherKey ≡ Applies → ⊥
not_key e = cc

-- what is false where it is turned is true
turned : (b : Bool) → not b ≡ false → b ≡ true
turned true e = refl
turned false e = absurd (apart e)

-- a source that is neither remade nor read in one round is fixed
fixed_by : (from : Origin) → is_remade from ≡ false → is_of_one_round from ≡ false → IsFixed from
fixed_by State e f = absurd (apart e)
fixed_by Prev e f = absurd (apart e)
fixed_by (Table t None) e f = tt
fixed_by (Table t (Some round)) e f = absurd (apart f)

module _ (functions : List Written) (uses : Uses) (asked : Asked) where
  -- a source with the reducer input cache may be kept over the rounds
  pub may_be_kept : (j s : ℕ) (from : Origin) → input_verdict functions uses asked j s from ≡ Applies → MayBeKept from (map_uses_round functions uses j s) (partition_uses_round functions uses j)
  may_be_kept j s from e =
      let remade = goes_on NotInvariant not_remade (is_remade from) _ e in
      let once = goes_on OneRoundOnly not_once (is_of_one_round from) _ remade.1 in
      let round = goes_on UsesRound not_round (map_uses_round functions uses j s) _ once.1 in
      let parts = goes_on PartitionUsesRound not_partition (partition_uses_round functions uses j) _ round.1 in
      record { fixed = fixed_by from remade.0 once.0; map = round.0; partition = parts.0 }

  -- with the reducer output cache the last step keeps its key, and its partition does not use the round
  pub stays_local : (last : ℕ) → output_verdict functions uses asked last ≡ Applies → (key_kept functions (reduce_at uses last) ≡ true) × (partition_uses_round functions uses last ≡ false)
  stays_local last e =
      let key = goes_on EmitsOtherKey not_key (emits_other_key functions uses last) _ e in
      let parts = goes_on PartitionUsesRound not_partition (partition_uses_round functions uses last) _ key.1 in
      (turned (key_kept functions (reduce_at uses last)) key.0, parts.0)

-- a cache is had by no other verdict
pub had_by : (verdict : Verdict) → is_had verdict ≡ true → verdict ≡ Applies
had_by Applies e = refl
had_by NotInvariant e = absurd (apart (sym e))
had_by OneRoundOnly e = absurd (apart (sym e))
had_by UsesRound e = absurd (apart (sym e))
had_by PartitionUsesRound e = absurd (apart (sym e))
had_by EmitsOtherKey e = absurd (apart (sym e))
had_by NotAsked e = absurd (apart (sym e))

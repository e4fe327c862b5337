-- Each key in its part, and the distance of two rounds by their parts.
use Rattle.std.proofs.Common.{◌≡◌, ℕ, zero, suc, ◌+◌, ◌≤◌, ◌==◌, Bool, true, false, cond, List, [], ◌∷◌, refl, sym, ap, ◌∙◌, map, length, arith, None, Some, Option}
use Rattle.std.specs.List.{AllByRecursion, filter, flat_map}
use Rattle.std.proofs.lemmas.Bool.{eqb-true}
use Rattle.hal_base.specs.declared.value.Value.{Value}
use Rattle.hal_base.specs.declared.record.Record.{Record}
use Rattle.hal_base.specs.declared.shape.Shape.{Shape}
use Rattle.hal_base.specs.declared.shape.Step.{Step}
use Rattle.hal_base.specs.Meaning.{Meaning, RoundLaw, KeyLaw}
use Rattle.hal_base.specs.Shapes.{step_at}
use Rattle.plain_job.specs.Job.{group, keys}
use Rattle.plain_job.specs.Chain.{last_out, numbers_from, part_out, parts_by, parts_from, source_rows, streams, together}
use Rattle.plain_job.specs.ChainLaws.{KeysStandInTheirParts, PartsMakeTheDistance}
use Rattle.plain_job.specs.Distances.{EachIn}
use Rattle.plain_job.proofs.DistanceParts.{parts_sum}
use Rattle.plain_job.proofs.Lists.{all_both, all_weaker}
use Rattle.plain_job.proofs.Numbers.{length_numbers}

-- what is emitted at chosen keys has chosen keys, where each record has its group's key
chosen_out : (chosen : Value → Bool) (emits : Value → List Record) → ((key : Value) → AllByRecursion (λ (row : Record). row.key ≡ key) (emits key)) → (qs : List Value) → AllByRecursion (λ (row : Record). chosen row.key ≡ true) (flat_map emits (filter chosen qs))
chosen_out chosen emits own [] = tt
chosen_out chosen emits own (q ∷ qs) =
    elim (chosen q) as (λ b. chosen q ≡ b → AllByRecursion (λ (row : Record). chosen row.key ≡ true) (flat_map emits (cond b (q ∷ filter chosen qs) (filter chosen qs)))) [
      | true ↦ λ e. all_both (λ row. chosen row.key ≡ true) (emits q) (flat_map emits (filter chosen qs)) (all_weaker (λ (row : Record). row.key ≡ q) (λ row. chosen row.key ≡ true) (emits q) (λ row k. ap chosen k ∙ e) (own q)) (chosen_out chosen emits own qs)
      | false ↦ λ e. chosen_out chosen emits own qs
    ] refl

module _ (m : Meaning) (shape : Shape) (tables : List (List Record)) where
  each_from : (j : ℕ) → RoundLaw m → KeyLaw m → m.keeps_key j ≡ true → m.partition_uses_round j ≡ false → (i p n : ℕ) (ss : List (List Record)) → EachIn (m.partition 1 j) p (map (part_out m i j ss) (numbers_from p n))
  each_from j r k keeps fixed i p zero ss = tt
  each_from j r k keeps fixed i p (suc n) ss =
      let chosen : Value → Bool = λ key. m.partition i j key == p in
      let emits : Value → List Record = λ key. m.reduce i j key (map (λ rows. group rows key) ss) in
      let out = chosen_out chosen emits (λ key. k i j key (map (λ rows. group rows key) ss) keeps) (keys ss) in
      (all_weaker (λ (row : Record). chosen row.key ≡ true) (λ row. m.partition 1 j row.key ≡ p) (part_out m i j ss p) (λ row e. r.partitions 1 i j row.key fixed ∙ eqb-true (m.partition i j row.key) p e) out, each_from j r k keeps fixed i (p + 1) n ss)

  each_by : (i j : ℕ) (state before : List Record) (o : Option Step) → RoundLaw m → KeyLaw m → m.keeps_key j ≡ true → m.partition_uses_round j ≡ false → EachIn (m.partition 1 j) 0 (parts_by m shape tables i j state before o)
  each_by i j state before None r k keeps fixed = tt
  each_by i j state before (Some step) r k keeps fixed = each_from j r k keeps fixed i 0 shape.parts (streams m i j (source_rows tables i state before) 1 step.sources)

  each_of : (i j : ℕ) (state : List Record) → RoundLaw m → KeyLaw m → m.keeps_key j ≡ true → m.partition_uses_round j ≡ false → EachIn (m.partition 1 j) 0 (parts_from m shape tables i state j)
  each_of i zero state r k keeps fixed = tt
  each_of i (suc j) state r k keeps fixed = each_by i (suc j) state (together (parts_from m shape tables i state j)) (step_at shape (suc j)) r k keeps fixed

  as_many_by : (i i' j : ℕ) (state state' before before' : List Record) (o : Option Step) → length (parts_by m shape tables i j state before o) ≡ length (parts_by m shape tables i' j state' before' o)
  as_many_by i i' j state state' before before' None = refl
  as_many_by i i' j state state' before before' (Some step) =
      length_numbers (part_out m i j (streams m i j (source_rows tables i state before) 1 step.sources)) 0 shape.parts
      ∙ sym (length_numbers (part_out m i' j (streams m i' j (source_rows tables i' state' before') 1 step.sources)) 0 shape.parts)

  as_many_of : (i i' j : ℕ) (state state' : List Record) → length (parts_from m shape tables i state j) ≡ length (parts_from m shape tables i' state' j)
  as_many_of i i' zero state state' = refl
  as_many_of i i' (suc j) state state' = as_many_by i i' (suc j) state state' (together (parts_from m shape tables i state j)) (together (parts_from m shape tables i' state' j)) (step_at shape (suc j))

pub keys_stand : KeysStandInTheirParts
keys_stand m shape tables r k keeps fixed zero l = absurd (omega arith)
keys_stand m shape tables r k keeps fixed (suc n) l = each_of m shape tables (suc n) (length shape.steps) (together (last_out m shape tables n)) r k keeps fixed

as_many : (m : Meaning) (shape : Shape) (tables : List (List Record)) (i i' : ℕ) → 1 ≤ i → 1 ≤ i' → length (last_out m shape tables i) ≡ length (last_out m shape tables i')
as_many m shape tables zero i' l l' = absurd (omega arith)
as_many m shape tables (suc n) zero l l' = absurd (omega arith)
as_many m shape tables (suc n) (suc n') l l' = as_many_of m shape tables (suc n) (suc n') (length shape.steps) (together (last_out m shape tables n)) (together (last_out m shape tables n'))

pub parts_make : PartsMakeTheDistance
parts_make m shape tables r k keeps fixed far i i' l l' =
    parts_sum far (m.partition 1 (length shape.steps)) (last_out m shape tables i) (last_out m shape tables i') (as_many m shape tables i i' l l')
    (keys_stand m shape tables r k keeps fixed i l) (keys_stand m shape tables r k keeps fixed i' l')

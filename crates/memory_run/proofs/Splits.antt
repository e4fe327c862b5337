-- Splits dealt one after another.
use Rattle.std.proofs.Common.{◌≡◌, ℕ, ◌+◌, ◌<◌, List, [], ◌∷◌, refl, sym, ap, ◌∙◌, map, length, get_or, drop, replicate}
use Rattle.std.proofs.lemmas.List.{at_drop_more, length-replicate}
use Rattle.std.proofs.lemmas.Grind.{flat_map-append}
use Rattle.hal_base.specs.declared.record.Record.{Record}
use Rattle.hal_base.specs.Meaning.{Meaning}
use Rattle.hal_base.specs.Order.{record_cmp}
use Rattle.hal_base.specs.Sorted.{sorted}
use Rattle.plain_job.specs.Job.{stream}
use Rattle.plain_job.specs.Chain.{together}
use Rattle.sorted_parts.specs.Spills.{spilled}
use Rattle.sorted_parts.specs.steps.Dealt.{dealt}
use Rattle.sorted_parts.proofs.Dealing.{length-dealt, dealt_twice, dealt_end, dealt_sorted}

-- a map that emits each record as it is emits the records
pub stream_same : (means : Record → List Record) (rows : List Record) → ((row : Record) → means row ≡ row ∷ []) → stream means rows ≡ rows
stream_same means [] same = refl
stream_same means (row ∷ rows) same = rw (same row, stream_same means rows same) refl

-- what is dealt so far, and what these splits are to add, make the whole
pub record Dealt (m : Meaning) (i j s n : ℕ) (builder splits all : List (List Record)) : Type 0 where
  pub many : length builder ≡ n
  pub left : dealt m i j 0 builder (stream (m.map i j s) (together splits)) ≡ dealt m i j 0 (replicate n []) (stream (m.map i j s) (together all))

module _ {m : Meaning} {i j s n : ℕ} where
  pub none_dealt : (builder all : List (List Record)) → builder ≡ replicate n [] → Dealt m i j s n builder all all
  none_dealt builder all e = record { many = ap length e ∙ length-replicate n []; left = ap (λ parts. dealt m i j 0 parts (stream (m.map i j s) (together all))) e }

  pub one_dealt : {builder before all : List (List Record)} (changed : List (List Record)) (rows : List Record) (splits : List (List Record)) → before ≡ rows ∷ splits → Dealt m i j s n builder before all → changed ≡ dealt m i j 0 builder (stream (m.map i j s) rows) → Dealt m i j s n changed splits all
  one_dealt {builder} changed rows splits next d made =
      let means = m.map i j s in
      record {
        many = ap length made ∙ length-dealt m i j 0 builder (stream means rows) ∙ d.many;
        left =
            ap (λ parts. dealt m i j 0 parts (stream means (together splits))) made
            ∙ dealt_twice m i j 0 builder (stream means rows) (stream means (together splits))
            ∙ ap (dealt m i j 0 builder) (sym (flat_map-append means rows (together splits)))
            ∙ ap (λ xs. dealt m i j 0 builder (stream means (together xs))) (sym next)
            ∙ d.left;
      }

  pub next_dealt : {builder : List (List Record)} (changed all : List (List Record)) (k : ℕ) (rows : List Record) → k < length all → rows ≡ get_or all k rows → Dealt m i j s n builder (drop k all) all → changed ≡ dealt m i j 0 builder (stream (m.map i j s) rows) → Dealt m i j s n changed (drop (k + 1) all) all
  next_dealt {builder} changed all k rows l e d made =
      let here : drop k all ≡ rows ∷ drop (k + 1) all = at_drop_more (λ xs. xs) all k rows l ∙ ap (λ x. x ∷ drop (k + 1) all) (sym e) in
      one_dealt changed rows (drop (k + 1) all) here d made

  pub all_dealt : {builder splits all : List (List Record)} → splits ≡ [] → Dealt m i j s n builder splits all → map (sorted record_cmp) builder ≡ spilled m i j s (together all) n
  all_dealt {builder} {splits} {all} none d =
      let means = m.map i j s in
      let emitted : List Record = stream means (together all) in
      let is : builder ≡ dealt m i j 0 (replicate n []) emitted =
      dealt_end m i j builder (dealt m i j 0 (replicate n []) emitted) (stream means (together splits)) (ap (λ xs. stream means (together xs)) none) d.left
      in
      dealt_sorted m i j n emitted (replicate n []) builder refl is

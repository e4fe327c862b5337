-- A distance as the length of a job that emits as many records at a key as its groups are apart: so the laws of jobs are laws of distances.
use Rattle.std.proofs.Common.{◌≡◌, ℕ, Bool, true, List, [], ◌∷◌, sym, ap, ◌∙◌, map, min, sum, length, replicate}
use Rattle.std.specs.List.{filter, sum_by}
use Rattle.std.proofs.lemmas.List.{length-replicate}
use Rattle.std.proofs.lemmas.List.Concat.{length-flat_map}
use Rattle.std.proofs.lemmas.List.Sums.{sum-map}
use Rattle.hal_base.specs.declared.value.Value.{Value}
use Rattle.hal_base.specs.declared.record.Record.{Record}
use Rattle.hal_base.specs.Order.{record_cmp}
use Rattle.hal_base.specs.Sorted.{sorted}
use Rattle.plain_job.specs.Job.{group, keys, job}
use Rattle.plain_job.specs.Laws.{part}
use Rattle.plain_job.proofs.Keys.{all_kept}
use Rattle.plain_job.proofs.Keeps.{keeps}
use Rattle.plain_job.proofs.Parted.{parts}
use Rattle.plain_job.specs.Distances.{distance_by}
use Rattle.plain_job.specs.steps.Groups.{far_between}

module _ (far : Value → List (List Value) → List (List Value) → ℕ) where
  -- how far the groups of a key are apart
  abbrev pub apart : List Record → List Record → Value → ℕ
  apart old new key = far key (group old key) (group new key)

  -- the sum over the chosen keys
  abbrev pub sum_of : (Value → Bool) → List Record → List Record → ℕ
  sum_of chosen old new = sum_by (apart old new) (filter chosen (keys (old ∷ new ∷ [])))

  abbrev emit : Value → List (List (List Value)) → List Record
  emit key groups = replicate (far_between far key groups) (record { key = key; fields = [] })

  counted : (old new : List Record) (qs : List Value) → sum_by (λ key. length (emit key (map (λ rows. group rows key) (old ∷ new ∷ [])))) qs ≡ sum_by (apart old new) qs
  counted old new qs = simp length-replicate

  as_job : (chosen : Value → Bool) (old new : List Record) → length (job emit chosen (old ∷ new ∷ [])) ≡ sum_of chosen old new
  as_job chosen old new =
      length-flat_map (λ key. emit key (map (λ rows. group rows key) (old ∷ new ∷ []))) (filter chosen (keys (old ∷ new ∷ [])))
      ∙ counted old new (filter chosen (keys (old ∷ new ∷ [])))

  pub sorting_keeps : (chosen : Value → Bool) (old new : List Record) → sum_of chosen (sorted record_cmp old) (sorted record_cmp new) ≡ sum_of chosen old new
  sorting_keeps chosen old new =
      sym (as_job chosen (sorted record_cmp old) (sorted record_cmp new)) ∙ ap length (keeps emit chosen (old ∷ new ∷ [])) ∙ as_job chosen old new

  pub chosen_is : (chosen : Value → Bool) (old new : List Record) → sum_of chosen old new ≡ sum_of (λ _. true) (part chosen old) (part chosen new)
  chosen_is chosen old new =
      sym (as_job chosen old new) ∙ ap length (parts emit chosen (old ∷ new ∷ [])) ∙ as_job (λ _. true) (part chosen old) (part chosen new)

  pub sum_is : (old new : List Record) → sum (map (apart old new) (keys (old ∷ new ∷ []))) ≡ sum_of (λ _. true) old new
  sum_is old new = sum-map (apart old new) (keys (old ∷ new ∷ [])) ∙ ap (sum_by (apart old new)) (sym (all_kept (keys (old ∷ new ∷ []))))

  pub distance_sorted : (old new : List Record) → distance_by far (sorted record_cmp old) (sorted record_cmp new) ≡ distance_by far old new
  distance_sorted old new =
      ap (λ n. min n 9223372036854775807) (sum_is (sorted record_cmp old) (sorted record_cmp new) ∙ sorting_keeps (λ _. true) old new ∙ sym (sum_is old new))

-- Steps that count as earlier ones.
use Rattle.std.proofs.Common.{◌≡◌, ℕ, ◌≤◌, List, [], ◌∷◌, ◌++◌, Option, Some, refl, sym, ap, ◌∙◌, length, map, take, drop, subst, inl}
use Rattle.std.proofs.lemmas.List.{append-nil, drop_all, take_all}
use Rattle.hal_outside.specs.declared.log.Entry.{Entry}
use Rattle.hal_outside.specs.declared.log.Cause.TheVariants as why
use Rattle.hal_outside.specs.DiskFiles.{DiskMap, file_at}
use Rattle.hal_outside.specs.DiskCalls.{after_call}
use Rattle.hal_outside.specs.Damage.{ShowsAt, ShowsDamage}
use Rattle.hal_outside.specs.DiskSteps.{Step, calls_made, now_after, put_after, script_told}
use Rattle.hal_outside.specs.steps.DiskLogs.{call_of, settled, settled_entry, steps_of}

-- what lies there stays
pub settled_now : (steps : List Step) → now_after (map settled steps) ≡ now_after steps
settled_now [] = refl
settled_now (step ∷ steps) = ap (after_call step.call) (settled_now steps)

-- and is all that was put
pub settled_put : (steps : List Step) → put_after (map settled steps) ≡ now_after steps
settled_put [] = refl
settled_put (step ∷ steps) = ap (after_call step.call) (settled_put steps)

-- none of them was called
pub settled_calls : (steps : List Step) → calls_made (map settled steps) ≡ []
settled_calls [] = refl
settled_calls (step ∷ steps) = settled_calls steps

abbrev earlier_by : DiskMap → Entry → Step
earlier_by files entry = record { cause = why.Earlier; call = call_of files entry.deed }

-- entries that count as earlier ones are such steps
pub settled_steps : (entries : List Entry) → steps_of (map settled_entry entries) ≡ map settled (steps_of entries)
settled_steps [] = refl
settled_steps (entry ∷ entries) =
    let rest = settled_steps entries in
    let now : now_after (steps_of (map settled_entry entries)) ≡ now_after (steps_of entries) = ap now_after rest ∙ settled_now (steps_of entries) in
    ap (λ files. earlier_by files entry ∷ steps_of (map settled_entry entries)) now ∙ ap (λ steps. earlier_by (now_after (steps_of entries)) entry ∷ steps) rest

-- past the last entry all are settled
pub all_settled : (entries : List Entry) (i : ℕ) → length entries ≤ i → map settled_entry (take i entries) ++ drop i entries ≡ map settled_entry entries
all_settled entries i l = rw (take_all i entries l, drop_all i entries l) (append-nil (map settled_entry entries))

lies_shows : (put : List ℕ) (now : Option (List ℕ)) → now ≡ Some put → ShowsAt put now
lies_shows put now e = subst (λ o. ShowsAt put o) (sym e) (inl refl)

-- so they show no damage
pub settled_shows : (steps : List Step) → ShowsDamage (script_told (map settled steps))
settled_shows steps = record {
  each = λ node name put e. lies_shows put (file_at (now_after (map settled steps)) node name) (ap (λ files. file_at files node name) (settled_now steps ∙ sym (settled_put steps)) ∙ e);
}

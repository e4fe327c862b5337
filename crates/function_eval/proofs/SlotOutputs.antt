-- What is emitted behind what was there.
use Rattle.std.proofs.Common.{◌≡◌, ℕ, ◌==◌, true, false, cond, List, [], ◌∷◌, ◌++◌, Option, None, Some, option_map, refl, ap, ◌∙◌, append_assoc, length, map, slice_get}
use Rattle.hal_base.specs.declared.record.Record.{Record}
use Rattle.hal_base.specs.declared.value.Value.{Value}
use Rattle.operations.specs.Applied.{is_true}
use Rattle.function_eval.specs.declared.running.Running.{Running}
use Rattle.function_eval.specs.declared.resolved.ResolvedStatement as resolved_statement
use Rattle.function_eval.specs.declared.resolved.ResolvedStatement.{ResolvedStatement}
use Rattle.function_meaning.specs.Optional.{◌>>=◌, all_of}
use Rattle.function_eval.specs.steps.Slots.{slot_after, slot_all_after, slot_leave, slot_number, slot_row_after, slot_set, slot_turn, slot_value, with_slots}
use Rattle.function_meaning.specs.Statements.{record_of, turns}

-- what was emitted stands behind these records
abbrev pub behind : List Record → Running → Running
behind rows s = record { slots = s.slots; out = rows ++ s.out; given = s.given }

module _ (round : Option ℕ) (groups : List (List (List Value))) (rows : List Record) where
  then_behind : (o : Option Running) (k k' : Running → Option Running) → ((s : Running) → k' (behind rows s) ≡ option_map (behind rows) (k s)) → (option_map (behind rows) o >>= k') ≡ option_map (behind rows) (o >>= k)
  then_behind None k k' h = refl
  then_behind (Some s) k k' h = h s

  turns_behind : (f : List Value → Running → Option Running) → ((fields : List Value) (s : Running) → f fields (behind rows s) ≡ option_map (behind rows) (f fields s)) → (group : List (List Value)) (s : Running) → turns f group (behind rows s) ≡ option_map (behind rows) (turns f group s)
  turns_behind f h [] s = refl
  turns_behind f h (fields ∷ group) s = ap (λ o. o >>= turns f group) (h fields s) ∙ then_behind (f fields s) (turns f group) (turns f group) (turns_behind f h group)

  leave_behind : (s : Running) (o : Option Running) → option_map (slot_leave (behind rows s)) (option_map (behind rows) o) ≡ option_map (behind rows) (option_map (slot_leave s) o)
  leave_behind s None = refl
  leave_behind s (Some done) = refl

  turn_behind : (body : Running → Option Running) → ((s : Running) → body (behind rows s) ≡ option_map (behind rows) (body s)) → (count : ℕ) (fields : List Value) (s : Running) →
      slot_turn body count fields (behind rows s) ≡ option_map (behind rows) (slot_turn body count fields s)
  turn_behind body h count fields s =
      elim (length fields == count) as (λ b. cond b (option_map (slot_leave (behind rows s)) (body (with_slots (s.slots ++ fields) (behind rows s)))) None ≡ option_map (behind rows) (cond b (option_map (slot_leave s) (body (with_slots (s.slots ++ fields) s))) None)) [
        | true ↦ ap (option_map (slot_leave (behind rows s))) (h (with_slots (s.slots ++ fields) s)) ∙ leave_behind s (body (with_slots (s.slots ++ fields) s))
        | false ↦ refl
      ]

  map_behind : {A : Type 0} (o : Option A) (k k' : A → Option Running) → ((a : A) → k' a ≡ option_map (behind rows) (k a)) → (o >>= k') ≡ option_map (behind rows) (o >>= k)
  map_behind None k k' h = refl
  map_behind (Some a) k k' h = h a

  mutual
    after_behind : (st : ResolvedStatement) (s : Running) → slot_after round groups st (behind rows s) ≡ option_map (behind rows) (slot_after round groups st s)
    after_behind (resolved_statement.Let expr) s = map_behind (slot_value round s.slots expr) _ _ (λ v. refl)
    after_behind (resolved_statement.Set place expr) s = map_behind (slot_value round s.slots expr) _ _ (λ v. map_behind (slot_set place v s.slots) _ _ (λ slots. refl))
    after_behind (resolved_statement.If' test shape chosen shape' other) s =
        map_behind (slot_number round s.slots test) _ _ (λ n.
        elim (is_true n) as (λ b. (cond b (slot_row_after round groups chosen (behind rows s)) (slot_row_after round groups other (behind rows s)) >>= (λ done. Some (slot_leave (behind rows s) done)))
        ≡ option_map (behind rows) (cond b (slot_row_after round groups chosen s) (slot_row_after round groups other s) >>= (λ done. Some (slot_leave s done)))) [
          | true ↦ ap (λ o. o >>= (λ done. Some (slot_leave (behind rows s) done))) (row_behind chosen s) ∙ then_behind (slot_row_after round groups chosen s) _ _ (λ done. refl)
          | false ↦ ap (λ o. o >>= (λ done. Some (slot_leave (behind rows s) done))) (row_behind other s) ∙ then_behind (slot_row_after round groups other s) _ _ (λ done. refl)
        ])
    after_behind (resolved_statement.For' stream fields shape body) s =
        map_behind (slice_get groups stream) _ _ (λ group. turns_behind (slot_turn (slot_row_after round groups body) fields) (λ fs s. turn_behind (slot_row_after round groups body) (λ s. row_behind body s) fields fs s) group s)
    after_behind (resolved_statement.Emit args) s =
        map_behind (all_of (map (slot_value round s.slots) args)) _ _ (λ values. map_behind (record_of values) _ _ (λ row. ap (λ out. Some (record { slots = s.slots; out = out; given = s.given })) (append_assoc rows s.out (row ∷ []))))
    after_behind (resolved_statement.Give expr) s = map_behind (slot_number round s.slots expr) _ _ (λ n. refl)
    after_behind resolved_statement.Unresolved s = refl

    row_behind : {n : _} (row : resolved_statement.Row_of-ResolvedStatement n) (s : Running) → slot_row_after round groups row (behind rows s) ≡ option_map (behind rows) (slot_row_after round groups row s)
    row_behind resolved_statement.end_of-ResolvedStatement s = refl
    row_behind (resolved_statement.more_of-ResolvedStatement st sts) s = ap (λ o. o >>= slot_row_after round groups sts) (after_behind st s) ∙ then_behind (slot_after round groups st s) _ _ (λ done. row_behind sts done)

  -- statements do the same behind these records
  pub all_behind : (sts : List ResolvedStatement) (s : Running) → slot_all_after round groups sts (behind rows s) ≡ option_map (behind rows) (slot_all_after round groups sts s)
  all_behind [] s = refl
  all_behind (st ∷ sts) s = ap (λ o. o >>= slot_all_after round groups sts) (after_behind st s) ∙ then_behind (slot_after round groups st s) _ _ (all_behind sts)

-- A statement with slots does what the statement with names does.
use Rattle.std.proofs.Common.{◌≡◌, ℕ, ◌+◌, ◌==◌, suc, ◌<◌, true, false, cond, List, [], ◌∷◌, ◌++◌, Option, None, Some, option_map, refl, sym, ap, ap₂, ◌∙◌, subst, append_assoc, arith, length, set, slice_get}
use Rattle.std.proofs.lemmas.Bool.{lt-ltb}
use Rattle.std.proofs.lemmas.List.{length-append}
use Rattle.std.proofs.Math.Seq.{set-append_seam}
use Rattle.std.specs.Str.{bytes_eq}
use Rattle.hal_base.specs.declared.value.Value.{Value}
use Rattle.name_index.specs.Names.{place_behind, place_of}
use Rattle.operations.specs.Applied.{is_true}
use Rattle.function_eval.specs.declared.running.Running.{Running}
use Rattle.function_eval.specs.declared.resolved.ResolvedExpr.{ResolvedExpr}
use Rattle.function_eval.specs.declared.resolved.ResolvedStatement as resolved_statement
use Rattle.function_eval.specs.declared.resolved.ResolvedStatement.{ResolvedStatement, items-the_row-ResolvedStatement, items_hidden-the_row-ResolvedStatement-0}
use Rattle.function_eval.specs.declared.resolved.ResolvedStatement.TheBlock.{hidden-the_row-ResolvedStatement-0}
use Rattle.function_eval.specs.declared.resolved.ResolvedStatement.TheVariants as a_resolved_statement
use Rattle.function_meaning.specs.Expressions.{Named, looked_up}
use Rattle.function_meaning.specs.Optional.{◌>>=◌}
use Rattle.function_eval.specs.steps.Slots.{slot_after, slot_all_after, slot_leave, slot_number, slot_row_after, slot_set, slot_turn, with_slots}
use Rattle.function_meaning.specs.Statements.{replaced, turns}
use Rattle.function_eval.proofs.SlotExpressions.{behind_list, names, one_more, things}

module _ (round : Option ℕ) (groups : List (List (List Value))) where
  pub slot_row_is : (n : _) (row : resolved_statement.Row_of-ResolvedStatement n) (s : Running) → slot_row_after round groups row s ≡ slot_all_after round groups (items-the_row-ResolvedStatement n row) s
  slot_row_is n resolved_statement.end_of-ResolvedStatement s = refl
  slot_row_is n (resolved_statement.more_of-ResolvedStatement st sts) s =
      elim (slot_after round groups st s) as (λ o. (o >>= (λ done. slot_row_after round groups sts done)) ≡ (o >>= slot_all_after round groups (items-the_row-ResolvedStatement _ sts))) [
        | None ↦ refl
        | Some done ↦ slot_row_is _ sts done
      ]

  row_of_list : (statements : List ResolvedStatement) (s : Running) → slot_row_after round groups (hidden-the_row-ResolvedStatement-0 statements) s ≡ slot_all_after round groups statements s
  row_of_list statements s = slot_row_is _ (hidden-the_row-ResolvedStatement-0 statements) s ∙ ap (λ statements. slot_all_after round groups statements s) (items_hidden-the_row-ResolvedStatement-0 statements)

  -- an `if` with these statements
  pub if_after : (test : ResolvedExpr) (chosen other : List ResolvedStatement) (s : Running) →
      slot_after round groups (a_resolved_statement.If test chosen other) s ≡ (slot_number round s.slots test >>= (λ n. cond (is_true n) (slot_all_after round groups chosen s) (slot_all_after round groups other s) >>= (λ done. Some (slot_leave s done))))
  if_after test chosen other s =
      ap₂ (λ a b. slot_number round s.slots test >>= (λ n. cond (is_true n) a b >>= (λ done. Some (slot_leave s done)))) (row_of_list chosen s) (row_of_list other s)

  same_turns : (f g : List Value → Running → Option Running) → ((fields : List Value) (s : Running) → f fields s ≡ g fields s) → (group : List (List Value)) (s : Running) → turns f group s ≡ turns g group s
  same_turns f g h [] s = refl
  same_turns f g h (fields ∷ group) s =
      ap (λ o. o >>= turns f group) (h fields s)
      ∙ (elim (g fields s) as (λ o. (o >>= turns f group) ≡ (o >>= turns g group)) [ None ↦ refl | Some done ↦ same_turns f g h group done ])

  -- a `for` with these statements
  pub for_after : (stream count : ℕ) (body : List ResolvedStatement) (s : Running) →
      slot_after round groups (a_resolved_statement.For stream count body) s ≡ (slice_get groups stream >>= (λ group. turns (slot_turn (slot_all_after round groups body) count) group s))
  for_after stream count body s =
      elim (slice_get groups stream) as (λ o. (o >>= (λ group. turns (slot_turn (slot_row_after round groups (hidden-the_row-ResolvedStatement-0 body)) count) group s)) ≡ (o >>= (λ group. turns (slot_turn (slot_all_after round groups body) count) group s))) [
        | None ↦ refl
        | Some group ↦ same_turns _ _ (λ fields s. ap (λ o. cond (length fields == count) (option_map (slot_leave s) o) None) (row_of_list body (with_slots (s.slots ++ fields) s))) group s
      ]

-- ---- places of variables

-- what is known of a name and its place among variables, whose slots come behind others
abbrev pub Placed : List Value → Value → Named Value → Option ℕ → Option (Named Value) → Type 0
Placed before v variables None None = Unit {0}
Placed before v variables None (Some others) = ⊥
Placed before v variables (Some place) None = ⊥
Placed before v variables (Some place) (Some others) = slot_set place v (before ++ things variables) ≡ Some (before ++ things others)

set_at : (before : List Value) (v a : Value) (rest : List Value) → slot_set (length before) v (before ++ a ∷ rest) ≡ Some (before ++ v ∷ rest)
set_at before v a rest =
    let within : length before < length (before ++ a ∷ rest) = omega (arith, length-append before (a ∷ rest)) in
    ap (λ t. cond t (Some (set (before ++ a ∷ rest) (length before) v)) None) (lt-ltb (length before) (length (before ++ a ∷ rest)) within)
    ∙ ap (λ slots. Some slots) (set-append_seam before a rest v)

moved : (before : List Value) (v : Value) (pair : List ℕ × Value) (pairs : Named Value) (place : Option ℕ) (o : Option (Named Value)) →
    Placed (before ++ pair.1 ∷ []) v pairs place o → Placed before v (pair ∷ pairs) place (option_map (λ others. pair ∷ others) o)
moved before v pair pairs None None p = tt
moved before v pair pairs None (Some others) p = p
moved before v pair pairs (Some place) None p = p
moved before v pair pairs (Some place) (Some others) p =
    ap (slot_set place v) (sym (append_assoc before (pair.1 ∷ []) (things pairs))) ∙ p ∙ ap (λ slots. Some slots) (append_assoc before (pair.1 ∷ []) (things others))

set_behind : (before : List Value) (name : List ℕ) (v : Value) (variables : Named Value) → Placed before v variables (place_behind (length before) name (names variables)) (replaced name v variables)
set_behind before name v [] = tt
set_behind before name v (pair ∷ pairs) =
    elim (bytes_eq name pair.0) as (λ b. Placed before v (pair ∷ pairs) (cond b (Some (length before)) (place_behind (suc (length before)) name (names pairs))) (cond b (Some ((pair.0, v) ∷ pairs)) (option_map (λ others. pair ∷ others) (replaced name v pairs)))) [
      | true ↦ set_at before v pair.1 (things pairs)
      | false ↦ moved before v pair pairs (place_behind (suc (length before)) name (names pairs)) (replaced name v pairs)
          (subst (λ n. Placed (before ++ pair.1 ∷ []) v pairs (place_behind n name (names pairs)) (replaced name v pairs)) (one_more before pair.1) (set_behind (before ++ pair.1 ∷ []) name v pairs))
    ]

place_plus : (m n : ℕ) (name : List ℕ) (ns : List (List ℕ)) → place_behind (m + n) name ns ≡ option_map (λ i. m + i) (place_behind n name ns)
place_plus m n name [] = refl
place_plus m n name (other ∷ ns) =
    elim (bytes_eq name other) as (λ b. cond b (Some (m + n)) (place_behind (suc (m + n)) name ns) ≡ option_map (λ i. m + i) (cond b (Some n) (place_behind (suc n) name ns))) [
      | true ↦ refl
      | false ↦ ap (λ k. place_behind k name ns) (omega arith) ∙ place_plus m (suc n) name ns
    ]

-- where a name stands among variables whose slots come behind others
pub set_placed : (before : List Value) (name : List ℕ) (v : Value) (variables : Named Value) →
    Placed before v variables (option_map (λ i. length before + i) (place_of name (names variables))) (replaced name v variables)
set_placed before name v variables =
    subst (λ place. Placed before v variables place (replaced name v variables)) (ap (λ n. place_behind n name (names variables)) (omega arith) ∙ place_plus (length before) 0 name (names variables)) (set_behind before name v variables)

-- what stands at the place of a name
pub found_behind : {A : Type 0} (name : List ℕ) (before : List A) (pairs : Named A) → (place_behind (length before) name (names pairs) >>= slice_get (before ++ things pairs)) ≡ looked_up name pairs
found_behind name before [] = refl
found_behind name before (pair ∷ pairs) =
    elim (bytes_eq name pair.0) as (λ b. (cond b (Some (length before)) (place_behind (suc (length before)) name (names pairs)) >>= slice_get (before ++ pair.1 ∷ things pairs)) ≡ cond b (Some pair.1) (looked_up name pairs)) [
      | true ↦ behind_list before pair.1 (things pairs)
      | false ↦
          ap₂ (λ all n. place_behind n name (names pairs) >>= slice_get all) (sym (append_assoc before (pair.1 ∷ []) (things pairs))) (sym (one_more before pair.1))
          ∙ found_behind name (before ++ pair.1 ∷ []) pairs
    ]

pub same_length : {A : Type 0} (pairs : Named A) → length (names pairs) ≡ length (things pairs)
same_length [] = refl
same_length (pair ∷ pairs) = ap suc (same_length pairs)

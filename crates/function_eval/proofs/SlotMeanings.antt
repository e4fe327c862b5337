-- A statement with slots does what the statement with names does.
use Rattle.std.proofs.Common.{◌≡◌, ℕ, ◌+◌, ◌==◌, true, false, cond, List, [], ◌∷◌, ◌++◌, Option, None, Some, option_map, refl, sym, ap, ap₂, ◌∙◌, append_assoc, length, map, slice_get, take}
use Rattle.std.proofs.lemmas.List.{append-nil, length-map}
use Rattle.std.proofs.Math.Dec.{eqb-suc-suc, eqb-suc-zero, eqb-zero-suc}
use Rattle.hal_base.specs.declared.value.Value.{Value}
use Rattle.function_language.specs.declared.tree.Expr.{Expr}
use Rattle.program_tokens.specs.declared.token.Ident.{Ident}
use Rattle.function_language.specs.declared.tree.Statement.{Statement, Let, Set, If', For', Emit, Give, Row_of-Statement, end_of-Statement, more_of-Statement, Held-Statement-If-2, None', Some'}
use Rattle.name_index.specs.Names.{place_of}
use Rattle.operations.specs.Applied.{is_true}
use Rattle.function_eval.specs.declared.running.Running.{Running}
use Rattle.function_eval.specs.declared.resolved.ResolvedExpr.{ResolvedExpr}
use Rattle.function_eval.specs.declared.resolved.ResolvedStatement.{ResolvedStatement}
use Rattle.function_meaning.specs.Expressions.{Named, as_number, looked_up, paired}
use Rattle.function_meaning.specs.Optional.{◌>>=◌, all_of}
use Rattle.function_eval.specs.steps.Resolved.{Scope, all_resolved, else_resolved, for_of, ident_text, row_resolved, scope_after, set_of, slots_in, resolved, statement_resolved, with_names}
use Rattle.function_eval.specs.steps.Slots.{slot_after, slot_all_after, slot_emitted, slot_gave, slot_leave, slot_number, slot_set, slot_turn, slot_value, with_slots}
use Rattle.function_meaning.specs.Statements.{Call, State, after, all_after, else_after, emitted, gave, leave, number_in, record_of, replaced, row_after, turn, turns, value_in, with_variables}
use Rattle.function_eval.proofs.SlotExpressions.{names, resolved_value, things}
use Rattle.function_eval.proofs.SlotNames.{Adds, added, after_adds, names_append, row_grows, things_append, turn_adds}
use Rattle.function_eval.proofs.SlotStatements.{Placed, for_after, found_behind, if_after, same_length, set_placed}

-- what stands in the slots
abbrev pub placed : Call → State → Running
placed call s = record { slots = things (call.params ++ s.variables); out = s.out; given = s.given }

-- the names of the slots
abbrev pub scope_at : Call → State → Scope
scope_at call s = record { params = names call.params; variables = names s.variables; streams = names call.groups }

-- ---- names of a loop

pub mapped_bind : {A B : Type 0} (pair : List ℕ × A) (h : Named A → Option B) (o : Option (Named A)) → (option_map (λ pairs. pair ∷ pairs) o >>= h) ≡ (o >>= (λ pairs. h (pair ∷ pairs)))
mapped_bind pair h None = refl
mapped_bind pair h (Some pairs) = refl

pub paired_bind : {A B : Type 0} (ns : List (List ℕ)) (xs : List A) (h : Named A → Option B) (k : List A → Option B) →
    ((pairs : Named A) → names pairs ≡ ns → things pairs ≡ xs → h pairs ≡ k xs) → (paired ns xs >>= h) ≡ cond (length xs == length ns) (k xs) None
paired_bind [] [] h k e = e [] refl refl
paired_bind [] (x ∷ xs) h k e = ap (λ b. cond b (k (x ∷ xs)) None) (sym (eqb-suc-zero (length xs)))
paired_bind (n ∷ ns) [] h k e = ap (λ b. cond b (k []) None) (sym (eqb-zero-suc (length ns)))
paired_bind (n ∷ ns) (x ∷ xs) h k e =
    mapped_bind (n, x) h (paired ns xs) ∙ paired_bind ns xs (λ pairs. h ((n, x) ∷ pairs)) (λ ys. k (x ∷ ys)) (λ pairs a b. e ((n, x) ∷ pairs) (ap (◌∷◌ n) a) (ap (◌∷◌ x) b))
    ∙ ap (λ b. cond b (k (x ∷ xs)) None) (sym (eqb-suc-suc (length xs) (length ns)))

module _ (call : Call) where
  -- ---- expressions

  abbrev here : ResolvedExpr → State → Option Value
  here e s = slot_value call.round (things (call.params ++ s.variables)) e

  expr_means : (s : State) (e : Expr) → here (resolved (slots_in (scope_at call s)) e) s ≡ value_in call s e
  expr_means s e = ap (λ ns. here (resolved ns e) s) (sym (names_append call.params s.variables)) ∙ resolved_value call.round (call.params ++ s.variables) e

  number_means : (s : State) (e : Expr) → slot_number call.round (things (call.params ++ s.variables)) (resolved (slots_in (scope_at call s)) e) ≡ number_in call s e
  number_means s e = ap (λ o. o >>= as_number) (expr_means s e)

  exprs_mean : (s : State) (es : List Expr) → map (slot_value call.round (things (call.params ++ s.variables))) (map (resolved (slots_in (scope_at call s))) es) ≡ map (value_in call s) es
  exprs_mean s [] = refl
  exprs_mean s (e ∷ es) = ap₂ (λ v vs. v ∷ vs) (expr_means s e) (exprs_mean s es)

  -- ---- slots that are added, and left

  slots_more : (vs more : Named Value) → things (call.params ++ vs) ++ things more ≡ things (call.params ++ (vs ++ more))
  slots_more vs more = sym (things_append (call.params ++ vs) more) ∙ ap things (append_assoc call.params vs more)

  take_variables : (vs ds : Named Value) → take (length (things vs)) (things ds) ≡ things (take (length vs) ds)
  take_variables [] ds = refl
  take_variables (v ∷ vs) [] = refl
  take_variables (v ∷ vs) (d ∷ ds) = ap (◌∷◌ d.1) (take_variables vs ds)

  take_slots : (ps vs ds : Named Value) → take (length (things (ps ++ vs))) (things (ps ++ ds)) ≡ things (ps ++ take (length vs) ds)
  take_slots [] vs ds = take_variables vs ds
  take_slots (p ∷ ps) vs ds = ap (◌∷◌ p.1) (take_slots ps vs ds)

  abbrev with : State → List Value → Running
  with s slots = record { slots = slots; out = s.out; given = s.given }

  left_means : (s : State) (o : Option State) → (option_map (placed call) o >>= (λ done. Some (slot_leave (placed call s) done))) ≡ option_map (placed call) (o >>= (λ done. Some (leave s done)))
  left_means s None = refl
  left_means s (Some done) = ap (λ slots. Some (with done slots)) (take_slots call.params s.variables done.variables)

  mapped_leave : (s : Running) (o : Option Running) → option_map (slot_leave s) o ≡ (o >>= (λ done. Some (slot_leave s done)))
  mapped_leave s None = refl
  mapped_leave s (Some done) = refl

  map_bind : {A : Type 0} (o : Option A) (f : A → Option State) → option_map (placed call) (o >>= f) ≡ (o >>= (λ a. option_map (placed call) (f a)))
  map_bind None f = refl
  map_bind (Some a) f = refl

  -- ---- statements

  set_means : (s : State) (ident : Ident) (e : ResolvedExpr) (v : Option Value) (place : Option ℕ) → here e s ≡ v →
      ((v : Value) → Placed (things call.params) v s.variables (option_map (λ i. length (things call.params) + i) place) (replaced ident.text v s.variables)) →
      slot_after call.round (things call.groups) (set_of (length (names call.params)) place e) (placed call s) ≡ option_map (placed call) (v >>= (λ v. replaced ident.text v s.variables >>= (λ variables. Some (with_variables variables s))))
  set_means s ident e None None is p = refl
  set_means s ident e (Some v) None is p =
      elim (replaced ident.text v s.variables) as (λ o. Placed (things call.params) v s.variables None o → None ≡ option_map (placed call) (o >>= (λ variables. Some (with_variables variables s)))) [
        | None ↦ λ p. refl
        | Some variables ↦ λ p. absurd p
      ] (p v)
  set_means s ident e None (Some place) is p = ap (λ o. o >>= (λ v. slot_set (length (names call.params) + place) v (things (call.params ++ s.variables)) >>= (λ slots. Some (with s slots)))) is
  set_means s ident e (Some v) (Some place) is p =
      ap (λ o. o >>= (λ v. slot_set (length (names call.params) + place) v (things (call.params ++ s.variables)) >>= (λ slots. Some (with s slots)))) is
      ∙ ap₂ (λ n slots. slot_set (n + place) v slots >>= (λ slots. Some (with s slots))) (same_length call.params) (things_append call.params s.variables)
      ∙ (elim (replaced ident.text v s.variables) as (λ o. Placed (things call.params) v s.variables (Some (length (things call.params) + place)) o →
      (slot_set (length (things call.params) + place) v (things call.params ++ things s.variables) >>= (λ slots. Some (with s slots))) ≡ option_map (placed call) (o >>= (λ variables. Some (with_variables variables s)))) [
        | None ↦ λ p. absurd p
        | Some variables ↦ λ p. ap (λ o. o >>= (λ slots. Some (with s slots))) (p ∙ ap (λ slots. Some slots) (sym (things_append call.params variables)))
      ] (p v))

  -- the turns of a loop whose body keeps the names of variables
  turns_mean : (ns : List (List ℕ)) (f : List Value → Running → Option Running) (g : List Value → State → Option State)
      (same : (fields : List Value) (s : State) → names s.variables ≡ ns → f fields (placed call s) ≡ option_map (placed call) (g fields s))
      (keeps : (fields : List Value) (s : State) → Adds s [] (g fields s))
      (group : List (List Value)) (s : State) → names s.variables ≡ ns → turns f group (placed call s) ≡ option_map (placed call) (turns g group s)
  turns_mean ns f g same keeps [] s e = refl
  turns_mean ns f g same keeps (fields ∷ group) s e =
      ap (λ o. o >>= turns f group) (same fields s e)
      ∙ (elim (g fields s) as (λ o. Adds s [] o → (option_map (placed call) o >>= turns f group) ≡ option_map (placed call) (o >>= turns g group)) [
        | None ↦ λ a. refl
        | Some done ↦ λ a. turns_mean ns f g same keeps group done (a ∙ append-nil (names s.variables) ∙ e)
      ] (keeps fields s))

  scope_is : (s done : State) (st : Statement) → names done.variables ≡ names s.variables ++ added st → scope_after (scope_at call s) st ≡ scope_at call done
  scope_is s done (Let ident value) e = ap (λ ns. record { params = names call.params; variables = ns; streams = names call.groups }) (sym e)
  scope_is s done (Set ident value) e = ap (λ ns. record { params = names call.params; variables = ns; streams = names call.groups }) (sym (e ∙ append-nil (names s.variables)))
  scope_is s done (If' test shape chosen other) e = ap (λ ns. record { params = names call.params; variables = ns; streams = names call.groups }) (sym (e ∙ append-nil (names s.variables)))
  scope_is s done (For' idents stream shape body) e = ap (λ ns. record { params = names call.params; variables = ns; streams = names call.groups }) (sym (e ∙ append-nil (names s.variables)))
  scope_is s done (Emit line args) e = ap (λ ns. record { params = names call.params; variables = ns; streams = names call.groups }) (sym (e ∙ append-nil (names s.variables)))
  scope_is s done (Give line value) e = ap (λ ns. record { params = names call.params; variables = ns; streams = names call.groups }) (sym (e ∙ append-nil (names s.variables)))

  abbrev does : List ResolvedStatement → Running → Option Running
  does statements s = slot_all_after call.round (things call.groups) statements s

  -- a body under names that a loop adds
  turn_means : (body : Scope → List ResolvedStatement) (row : State → Option State) (means : (s : State) → does (body (scope_at call s)) (placed call s) ≡ option_map (placed call) (row s))
      (idents : List Ident) (fields : List Value) (s : State) →
      slot_turn (does (body (with_names (map ident_text idents) (scope_at call s)))) (length idents) fields (placed call s) ≡ option_map (placed call) (turn row idents fields s)
  turn_means body row means idents fields s =
      let run = does (body (with_names (map ident_text idents) (scope_at call s))) in
      sym (
      map_bind (paired (map ident_text idents) fields) (λ inner. row (with_variables (s.variables ++ inner) s) >>= (λ done. Some (leave s done)))
      ∙ paired_bind (map ident_text idents) fields
      (λ inner. option_map (placed call) (row (with_variables (s.variables ++ inner) s) >>= (λ done. Some (leave s done))))
      (λ xs. option_map (slot_leave (placed call s)) (run (with_slots (things (call.params ++ s.variables) ++ xs) (placed call s))))
      (λ pairs of_names of_things.
      let inside = with_variables (s.variables ++ pairs) s in
      sym (left_means s (row inside))
      ∙ sym (mapped_leave (placed call s) (option_map (placed call) (row inside)))
      ∙ ap (option_map (slot_leave (placed call s))) (
      sym (means inside)
      ∙ ap₂ (λ ns slots. does (body (record { params = names call.params; variables = ns; streams = names call.groups })) (with s slots))
      (names_append s.variables pairs ∙ ap (λ ns. names s.variables ++ ns) of_names)
      (sym (slots_more s.variables pairs) ∙ ap (λ xs. things (call.params ++ s.variables) ++ xs) of_things)))
      ∙ ap (λ n. cond (length fields == n) (option_map (slot_leave (placed call s)) (run (with_slots (things (call.params ++ s.variables) ++ fields) (placed call s)))) None) (length-map idents ident_text))

  for_means : (body : Scope → List ResolvedStatement) (row : State → Option State) (means : (s : State) → does (body (scope_at call s)) (placed call s) ≡ option_map (placed call) (row s))
      (keeps : (idents : List Ident) (fields : List Value) (s : State) → Adds s [] (turn row idents fields s))
      (idents : List Ident) (place : Option ℕ) (group : Option (List (List Value))) (s : State) → (place >>= slice_get (things call.groups)) ≡ group →
      slot_after call.round (things call.groups) (for_of place (length idents) (body (with_names (map ident_text idents) (scope_at call s)))) (placed call s)
      ≡ option_map (placed call) (group >>= (λ group. turns (turn row idents) group s))
  for_means body row means keeps idents None group s e = ap (λ group. option_map (placed call) (group >>= (λ group. turns (turn row idents) group s))) e
  for_means body row means keeps idents (Some place) group s e =
      for_after call.round (things call.groups) place (length idents) (body (with_names (map ident_text idents) (scope_at call s))) (placed call s)
      ∙ ap (λ group. group >>= (λ group. turns (slot_turn (does (body (with_names (map ident_text idents) (scope_at call s)))) (length idents)) group (placed call s))) e
      ∙ (elim group as (λ group. (group >>= (λ group. turns (slot_turn (does (body (with_names (map ident_text idents) (scope_at call s)))) (length idents)) group (placed call s))) ≡ option_map (placed call) (group >>= (λ group. turns (turn row idents) group s))) [
        | None ↦ refl
        | Some group ↦ turns_mean (names s.variables) (slot_turn (does (body (with_names (map ident_text idents) (scope_at call s)))) (length idents)) (turn row idents)
            (λ fields s' same. ap (λ ns. slot_turn (does (body (with_names (map ident_text idents) (record { params = names call.params; variables = ns; streams = names call.groups })))) (length idents) fields (placed call s')) (sym same) ∙ turn_means body row means idents fields s')
            (λ fields s. keeps idents fields s) group s refl
      ])

  -- a statement with slots does what the statement does
  mutual
    pub statement_means : (st : Statement) (s : State) → slot_after call.round (things call.groups) (statement_resolved (scope_at call s) st) (placed call s) ≡ option_map (placed call) (after call st s)
    statement_means (Let ident value) s =
        ap (λ o. o >>= (λ v. Some (with s (things (call.params ++ s.variables) ++ v ∷ [])))) (expr_means s value)
        ∙ (elim (value_in call s value) as (λ o. (o >>= (λ v. Some (with s (things (call.params ++ s.variables) ++ v ∷ [])))) ≡ option_map (placed call) (o >>= (λ v. Some (with_variables (s.variables ++ (ident.text, v) ∷ []) s)))) [
          | None ↦ refl
          | Some v ↦ ap (λ slots. Some (with s slots)) (slots_more s.variables ((ident.text, v) ∷ []))
        ])
    statement_means (Set ident value) s = set_means s ident (resolved (slots_in (scope_at call s)) value) (value_in call s value) (place_of ident.text (names s.variables)) (expr_means s value) (λ v. set_placed (things call.params) ident.text v s.variables)
    statement_means (If' test shape chosen other) s =
        if_after call.round (things call.groups) (resolved (slots_in (scope_at call s)) test) (row_resolved (scope_at call s) chosen) (else_resolved (scope_at call s) other) (placed call s)
        ∙ ap (λ o. o >>= (λ n. cond (is_true n) (does (row_resolved (scope_at call s) chosen) (placed call s)) (does (else_resolved (scope_at call s) other) (placed call s)) >>= (λ done. Some (slot_leave (placed call s) done)))) (number_means s test)
        ∙ (elim (number_in call s test) as (λ o. (o >>= (λ n. cond (is_true n) (does (row_resolved (scope_at call s) chosen) (placed call s)) (does (else_resolved (scope_at call s) other) (placed call s)) >>= (λ done. Some (slot_leave (placed call s) done))))
        ≡ option_map (placed call) (o >>= (λ n. cond (is_true n) (row_after call chosen s) (else_after call other s) >>= (λ done. Some (leave s done))))) [
          | None ↦ refl
          | Some n ↦ elim (is_true n) as (λ b. (cond b (does (row_resolved (scope_at call s) chosen) (placed call s)) (does (else_resolved (scope_at call s) other) (placed call s)) >>= (λ done. Some (slot_leave (placed call s) done)))
              ≡ option_map (placed call) (cond b (row_after call chosen s) (else_after call other s) >>= (λ done. Some (leave s done)))) [
                | true ↦ ap (λ o. o >>= (λ done. Some (slot_leave (placed call s) done))) (row_means chosen s) ∙ left_means s (row_after call chosen s)
                | false ↦ ap (λ o. o >>= (λ done. Some (slot_leave (placed call s) done))) (else_means other s) ∙ left_means s (else_after call other s)
              ]
        ])
    statement_means (For' idents stream shape body) s =
        for_means (λ scope. row_resolved scope body) (row_after call body) (λ s. row_means body s) (λ idents fields s. turn_adds (row_after call body) (λ s. row_grows call body s) idents fields s)
        idents (place_of stream.text (names call.groups)) (looked_up stream.text call.groups) s (found_behind stream.text [] call.groups)
    statement_means (Emit line args) s =
        ap (λ vs. all_of vs >>= (λ values. record_of values >>= (λ row. Some (slot_emitted row (placed call s))))) (exprs_mean s args)
        ∙ (elim (all_of (map (value_in call s) args)) as (λ o. (o >>= (λ values. record_of values >>= (λ row. Some (slot_emitted row (placed call s))))) ≡ option_map (placed call) (o >>= (λ values. record_of values >>= (λ row. Some (emitted row s))))) [
          | None ↦ refl
          | Some values ↦ elim (record_of values) as (λ o. (o >>= (λ row. Some (slot_emitted row (placed call s)))) ≡ option_map (placed call) (o >>= (λ row. Some (emitted row s)))) [ None ↦ refl | Some row ↦ refl ]
        ])
    statement_means (Give line value) s =
        ap (λ o. o >>= (λ n. Some (slot_gave n (placed call s)))) (number_means s value)
        ∙ (elim (number_in call s value) as (λ o. (o >>= (λ n. Some (slot_gave n (placed call s)))) ≡ option_map (placed call) (o >>= (λ n. Some (gave n s)))) [ None ↦ refl | Some n ↦ refl ])

    else_means : (other : Held-Statement-If-2) (s : State) → does (else_resolved (scope_at call s) other) (placed call s) ≡ option_map (placed call) (else_after call other s)
    else_means None' s = refl
    else_means (Some' shape row) s = row_means row s

    row_means : {n : _} (row : Row_of-Statement n) (s : State) → does (row_resolved (scope_at call s) row) (placed call s) ≡ option_map (placed call) (row_after call row s)
    row_means end_of-Statement s = refl
    row_means (more_of-Statement st sts) s =
        ap (λ o. o >>= does (row_resolved (scope_after (scope_at call s) st) sts)) (statement_means st s)
        ∙ (elim (after call st s) as (λ o. Adds s (added st) o → (option_map (placed call) o >>= does (row_resolved (scope_after (scope_at call s) st) sts)) ≡ option_map (placed call) (o >>= row_after call sts)) [
          | None ↦ λ a. refl
          | Some done ↦ λ a. ap (λ scope. does (row_resolved scope sts) (placed call done)) (scope_is s done st a) ∙ row_means sts done
        ] (after_adds call st s))

  -- a body with slots does what the body does
  pub body_means : (body : List Statement) (s : State) → does (all_resolved (scope_at call s) body) (placed call s) ≡ option_map (placed call) (all_after call body s)
  body_means [] s = refl
  body_means (st ∷ sts) s =
      ap (λ o. o >>= does (all_resolved (scope_after (scope_at call s) st) sts)) (statement_means st s)
      ∙ (elim (after call st s) as (λ o. Adds s (added st) o → (option_map (placed call) o >>= does (all_resolved (scope_after (scope_at call s) st) sts)) ≡ option_map (placed call) (o >>= all_after call sts)) [
        | None ↦ λ a. refl
        | Some done ↦ λ a. ap (λ scope. does (all_resolved scope sts) (placed call done)) (scope_is s done st a) ∙ body_means sts done
      ] (after_adds call st s))

-- A reduce that emits its key parameter first emits at its key alone.
use Rattle.std.proofs.Common.{◌≡◌, ℕ, nat_le, Bool, true, false, cond, ◌&&◌, List, [], ◌∷◌, ◌++◌, Option, None, Some, refl, sym, subst, length, map}
use Rattle.std.proofs.lemmas.Slice.Eq.{bytes_eq-Decides}
use Rattle.std.specs.List.{AllByRecursion, list_all}
use Rattle.std.specs.Str.{bytes_eq}
use Rattle.hal_base.specs.declared.record.Record.{Record}
use Rattle.hal_base.specs.declared.value.Value.{Value}
use Rattle.function_language.specs.declared.tree.Expr.{Expr, Int, Text, Round, Name, Call'}
use Rattle.program_tokens.specs.declared.token.Ident.{Ident}
use Rattle.function_language.specs.declared.tree.Statement.{Statement, Let, Set, If', For', Emit, Give, Row_of-Statement, end_of-Statement, more_of-Statement, Held-Statement-If-2, None', Some'}
use Rattle.operations.specs.Applied.{is_true}
use Rattle.function_meaning.specs.Expressions.{Named, looked_up, paired}
use Rattle.type_checker.specs.Flags.{all_emit_first, else_emits_first, emits_first, first_is}
use Rattle.function_meaning.specs.Optional.{◌>>=◌, all_of}
use Rattle.function_meaning.specs.Statements.{Call, State, after, all_after, else_after, emitted, gave, leave, number_in, record_of, replaced, row_after, turn, turns, value_in, with_variables}

both : (a b : Bool) → (a && b) ≡ true → (a ≡ true) × (b ≡ true)
both true b e = (refl, e)
both false b e = absurd (no e)
  where
    no : false ≡ true → ⊥
    no e = cc

all_append : {A : Type 0} (P : A → Type 0) (xs ys : List A) → AllByRecursion P xs → AllByRecursion P ys → AllByRecursion P (xs ++ ys)
all_append P [] ys p q = q
all_append P (x ∷ xs) ys p q = (p.0, all_append P xs ys p.1 q)

same_text : (a b : List ℕ) → bytes_eq a b ≡ true → bytes_eq b a ≡ true
same_text a b e = (bytes_eq-Decides b a).1 (sym ((bytes_eq-Decides a b).0 e))

-- each record has the key
abbrev pub AtKey : Value → List Record → Type 0
AtKey key rows = AllByRecursion (λ (row : Record). row.key ≡ key) rows

abbrev pub StaysAt : Value → Option State → Type 0
StaysAt key None = Unit {0}
StaysAt key (Some done) = AtKey key done.out

stays_then : (key : Value) (o : Option State) (k : State → Option State) → StaysAt key o → ((s : State) → AtKey key s.out → StaysAt key (k s)) → StaysAt key (o >>= k)
stays_then key None k a h = tt
stays_then key (Some s) k a h = h s a

left_at : (key : Value) (s : State) (o : Option State) → StaysAt key o → StaysAt key (o >>= (λ done. Some (leave s done)))
left_at key s None a = tt
left_at key s (Some done) a = a

turns_stay : (key : Value) (f : List Value → State → Option State) → ((fields : List Value) (s : State) → AtKey key s.out → StaysAt key (f fields s)) → (group : List (List Value)) (s : State) → AtKey key s.out → StaysAt key (turns f group s)
turns_stay key f h [] s a = a
turns_stay key f h (fields ∷ group) s a = stays_then key (f fields s) (turns f group) (h fields s a) (λ done b. turns_stay key f h group done b)

-- where the first of the values is the key, so is that of the record
record_at : (key : Value) (s : State) (o : Option (List Value)) → AtKey key s.out → StaysAt key ((o >>= (λ others. Some (key ∷ others))) >>= (λ values. record_of values >>= (λ row. Some (emitted row s))))
record_at key s None a = tt
record_at key s (Some others) a =
    elim (nat_le (length others) 7) as (λ b. StaysAt key (cond b (Some (record { key = key; fields = others })) None >>= (λ row. Some (emitted row s)))) [
      | true ↦ all_append (λ (row : Record). row.key ≡ key) s.out (record { key = key; fields = others } ∷ []) a (refl, tt)
      | false ↦ tt
    ]

module _ (round : Option ℕ) (name : List ℕ) (key : Value) (groups : Named (List (List Value))) where
  abbrev at : Call
  at = record { round = round; params = (name, key) ∷ []; groups = groups }

  emit_stays : (args : List Expr) (s : State) → first_is name args ≡ true → AtKey key s.out → StaysAt key (all_of (map (value_in at s) args) >>= (λ values. record_of values >>= (λ row. Some (emitted row s))))
  emit_stays [] s h a = tt
  emit_stays (Int line n ∷ args) s h a = absurd (no h)
    where
      no : false ≡ true → ⊥
      no e = cc
  emit_stays (Text line n ∷ args) s h a = absurd (no h)
    where
      no : false ≡ true → ⊥
      no e = cc
  emit_stays (Round line ∷ args) s h a = absurd (no h)
    where
      no : false ≡ true → ⊥
      no e = cc
  emit_stays (Call' ident shape row ∷ args) s h a = absurd (no h)
    where
      no : false ≡ true → ⊥
      no e = cc
  emit_stays (Name ident ∷ args) s h a =
      subst (λ b. StaysAt key (all_of (cond b (Some key) (looked_up ident.text s.variables) ∷ map (value_in at s) args) >>= (λ values. record_of values >>= (λ row. Some (emitted row s)))))
      (sym (same_text name ident.text h)) (record_at key s (all_of (map (value_in at s) args)) a)

  mutual
    after_stays : (st : Statement) (s : State) → emits_first name st ≡ true → AtKey key s.out → StaysAt key (after at st s)
    after_stays (Let ident value) s h a =
        elim (value_in at s value) as (λ o. StaysAt key (o >>= (λ v. Some (with_variables (s.variables ++ (ident.text, v) ∷ []) s)))) [ None ↦ tt | Some v ↦ a ]
    after_stays (Set ident value) s h a =
        elim (value_in at s value) as (λ o. StaysAt key (o >>= (λ v. replaced ident.text v s.variables >>= (λ variables. Some (with_variables variables s))))) [
          | None ↦ tt
          | Some v ↦ elim (replaced ident.text v s.variables) as (λ o. StaysAt key (o >>= (λ variables. Some (with_variables variables s)))) [ None ↦ tt | Some variables ↦ a ]
        ]
    after_stays (If' test shape chosen other) s h a =
        let each = both (all_emit_first name chosen) (else_emits_first name other) h in
        elim (number_in at s test) as (λ o. StaysAt key (o >>= (λ n. cond (is_true n) (row_after at chosen s) (else_after at other s) >>= (λ done. Some (leave s done))))) [
          | None ↦ tt
          | Some n ↦ elim (is_true n) as (λ b. StaysAt key (cond b (row_after at chosen s) (else_after at other s) >>= (λ done. Some (leave s done)))) [
            | true ↦ left_at key s (row_after at chosen s) (row_stays chosen s each.0 a)
            | false ↦ left_at key s (else_after at other s) (else_stays other s each.1 a)
          ]
        ]
    after_stays (For' idents stream shape body) s h a =
        elim (looked_up stream.text groups) as (λ o. StaysAt key (o >>= (λ group. turns (turn (row_after at body) idents) group s))) [
          | None ↦ tt
          | Some group ↦ turns_stay key (turn (row_after at body) idents) (λ fields s a.
              elim (paired (map (λ (ident : Ident). ident.text) idents) fields) as (λ o. StaysAt key (o >>= (λ inner. row_after at body (with_variables (s.variables ++ inner) s) >>= (λ done. Some (leave s done))))) [
                | None ↦ tt
                | Some inner ↦ left_at key s (row_after at body (with_variables (s.variables ++ inner) s)) (row_stays body (with_variables (s.variables ++ inner) s) h a)
              ]) group s a
        ]
    after_stays (Emit line args) s h a = emit_stays args s h a
    after_stays (Give line value) s h a =
        elim (number_in at s value) as (λ o. StaysAt key (o >>= (λ n. Some (gave n s)))) [ None ↦ tt | Some n ↦ a ]

    else_stays : (other : Held-Statement-If-2) (s : State) → else_emits_first name other ≡ true → AtKey key s.out → StaysAt key (else_after at other s)
    else_stays None' s h a = a
    else_stays (Some' shape row) s h a = row_stays row s h a

    row_stays : {n : _} (row : Row_of-Statement n) (s : State) → all_emit_first name row ≡ true → AtKey key s.out → StaysAt key (row_after at row s)
    row_stays end_of-Statement s h a = a
    row_stays (more_of-Statement st sts) s h a =
        let each = both (emits_first name st) (all_emit_first name sts) h in
        stays_then key (after at st s) (row_after at sts) (after_stays st s each.0 a) (λ done b. row_stays sts done each.1 b)

  -- a body
  pub body_stays : (body : List Statement) (s : State) → list_all (emits_first name) body ≡ true → AtKey key s.out → StaysAt key (all_after at body s)
  body_stays [] s h a = a
  body_stays (st ∷ sts) s h a =
      let each = both (emits_first name st) (list_all (emits_first name) sts) h in
      stays_then key (after at st s) (all_after at sts) (after_stays st s each.0 a) (λ done b. body_stays sts done each.1 b)

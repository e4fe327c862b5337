-- Where the word `round` does not stand, all rounds are the same.
use Rattle.std.proofs.Common.{◌≡◌, ℕ, Bool, true, false, cond, ◌||◌, List, [], ◌∷◌, ◌++◌, Option, None, Some, refl, ap, ap₂, ◌∙◌, map}
use Rattle.std.specs.List.{list_any}
use Rattle.hal_base.specs.declared.value.Value.{Value}
use Rattle.function_language.specs.declared.tree.Expr.{Expr, Int, Text, Round, Name, Call', Row_of-Expr, end_of-Expr, more_of-Expr}
use Rattle.program_tokens.specs.declared.token.Ident.{Ident}
use Rattle.function_language.specs.declared.tree.Statement.{Statement, Let, Set, If', For', Emit, Give, Row_of-Statement, end_of-Statement, more_of-Statement, Held-Statement-If-2, None', Some'}
use Rattle.operations.specs.Applied.{is_true}
use Rattle.function_meaning.specs.Expressions.{Named, args_values, as_number, called, looked_up, paired, value_of}
use Rattle.type_checker.specs.Flags.{any_has_round, any_uses_round, else_uses_round, has_round, uses_round}
use Rattle.function_meaning.specs.Optional.{◌>>=◌, all_of}
use Rattle.function_meaning.specs.Statements.{Call, State, after, all_after, else_after, emitted, gave, leave, number_in, record_of, replaced, row_after, turn, turns, value_in, with_variables}

neither : (a b : Bool) → (a || b) ≡ false → (a ≡ false) × (b ≡ false)
neither true b e = absurd (no e)
  where
    no : true ≡ false → ⊥
    no e = cc
neither false b e = (refl, e)

-- an expression
mutual
  value_same : (i i' : ℕ) (pairs : Named Value) (e : Expr) → has_round e ≡ false → value_of (Some i) pairs e ≡ value_of (Some i') pairs e
  value_same i i' pairs (Int line n) h = refl
  value_same i i' pairs (Text line text) h = refl
  value_same i i' pairs (Round line) h = cc
  value_same i i' pairs (Name ident) h = refl
  value_same i i' pairs (Call' ident shape args) h = ap (called ident.text) (args_same i i' pairs args h)

  args_same : (i i' : ℕ) (pairs : Named Value) {n : _} (args : Row_of-Expr n) → any_has_round args ≡ false → args_values (Some i) pairs args ≡ args_values (Some i') pairs args
  args_same i i' pairs end_of-Expr h = refl
  args_same i i' pairs (more_of-Expr arg args) h =
      let both = neither (has_round arg) (any_has_round args) h in
      ap₂ (λ v vs. v ∷ vs) (value_same i i' pairs arg both.0) (args_same i i' pairs args both.1)

-- functions of a state that are the same give the same behind the same
pub bound : {A B : Type 0} (o : Option A) (f g : A → Option B) → ((a : A) → f a ≡ g a) → (o >>= f) ≡ (o >>= g)
bound None f g h = refl
bound (Some a) f g h = h a

turns_same : {S : Type 0} (f g : List Value → S → Option S) → ((fields : List Value) (s : S) → f fields s ≡ g fields s) → (group : List (List Value)) (s : S) → turns f group s ≡ turns g group s
turns_same f g h [] s = refl
turns_same f g h (fields ∷ group) s = ap (λ o. o >>= turns f group) (h fields s) ∙ bound (g fields s) (turns f group) (turns g group) (turns_same f g h group)

turn_same : (f g : State → Option State) → ((s : State) → f s ≡ g s) → (idents : List Ident) (fields : List Value) (s : State) → turn f idents fields s ≡ turn g idents fields s
turn_same f g h idents fields s = bound (paired (map (λ (ident : Ident). ident.text) idents) fields) _ _ (λ inner. ap (λ o. o >>= (λ done. Some (leave s done))) (h (with_variables (s.variables ++ inner) s)))

module _ (params : Named Value) (groups : Named (List (List Value))) (i i' : ℕ) where
  abbrev in_round : ℕ → Call
  in_round i = record { round = Some i; params = params; groups = groups }

  in_same : (s : State) (e : Expr) → has_round e ≡ false → value_in (in_round i) s e ≡ value_in (in_round i') s e
  in_same s e h = value_same i i' (params ++ s.variables) e h

  number_same : (s : State) (e : Expr) → has_round e ≡ false → number_in (in_round i) s e ≡ number_in (in_round i') s e
  number_same s e h = ap (λ o. o >>= as_number) (in_same s e h)

  all_same : (s : State) (es : List Expr) → list_any has_round es ≡ false → map (value_in (in_round i) s) es ≡ map (value_in (in_round i') s) es
  all_same s [] h = refl
  all_same s (e ∷ es) h =
      let both = neither (has_round e) (list_any has_round es) h in
      ap₂ (λ v vs. v ∷ vs) (in_same s e both.0) (all_same s es both.1)

  -- a statement
  mutual
    after_same : (st : Statement) (s : State) → uses_round st ≡ false → after (in_round i) st s ≡ after (in_round i') st s
    after_same (Let ident value) s h = ap (λ o. o >>= (λ v. Some (with_variables (s.variables ++ (ident.text, v) ∷ []) s))) (in_same s value h)
    after_same (Set ident value) s h = ap (λ o. o >>= (λ v. replaced ident.text v s.variables >>= (λ variables. Some (with_variables variables s)))) (in_same s value h)
    after_same (If' test shape chosen other) s h =
        let both = neither (has_round test || any_uses_round chosen) (else_uses_round other) h in
        let first = neither (has_round test) (any_uses_round chosen) both.0 in
        ap₂ (λ o f. o >>= f) (number_same s test first.0) (ap₂ (λ a b n. cond (is_true n) a b >>= (λ done. Some (leave s done))) (row_same chosen s first.1) (else_same other s both.1))
    after_same (For' idents stream shape body) s h =
        bound (looked_up stream.text groups) _ _ (λ group. turns_same _ _ (λ fields s. turn_same (row_after (in_round i) body) (row_after (in_round i') body) (λ s. row_same body s h) idents fields s) group s)
    after_same (Emit line args) s h = ap (λ vs. all_of vs >>= (λ values. record_of values >>= (λ row. Some (emitted row s)))) (all_same s args h)
    after_same (Give line value) s h = ap (λ o. o >>= (λ n. Some (gave n s))) (number_same s value h)

    else_same : (other : Held-Statement-If-2) (s : State) → else_uses_round other ≡ false → else_after (in_round i) other s ≡ else_after (in_round i') other s
    else_same None' s h = refl
    else_same (Some' shape row) s h = row_same row s h

    row_same : {n : _} (row : Row_of-Statement n) (s : State) → any_uses_round row ≡ false → row_after (in_round i) row s ≡ row_after (in_round i') row s
    row_same end_of-Statement s h = refl
    row_same (more_of-Statement st sts) s h =
        let both = neither (uses_round st) (any_uses_round sts) h in
        ap (λ o. o >>= row_after (in_round i) sts) (after_same st s both.0) ∙ bound (after (in_round i') st s) _ _ (λ done. row_same sts done both.1)

  -- a body
  pub body_same : (body : List Statement) (s : State) → list_any uses_round body ≡ false → all_after (in_round i) body s ≡ all_after (in_round i') body s
  body_same [] s h = refl
  body_same (st ∷ sts) s h =
      let both = neither (uses_round st) (list_any uses_round sts) h in
      ap (λ o. o >>= all_after (in_round i) sts) (after_same st s both.0) ∙ bound (after (in_round i') st s) _ _ (λ done. body_same sts done both.1)

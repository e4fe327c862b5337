-- Bodies in which no fault is found do not stop.
use Rattle.std.proofs.Common.{◌≡◌, ℕ, ℤ, Bool, true, false, cond, List, [], ◌∷◌, ◌++◌, Option, None, Some, Ok, sym, ap, ap₂, ◌∙◌, subst, append_assoc, length, map}
use Rattle.std.proofs.lemmas.List.{append-nil}
use Rattle.hal_base.specs.declared.record.Record.{Record}
use Rattle.hal_base.specs.declared.value.Kind.{Kind}
use Rattle.hal_base.specs.declared.value.Kind.TheVariants as kind
use Rattle.hal_base.specs.declared.value.Value.{Value}
use Rattle.program_tokens.specs.declared.token.Ident.{Ident}
use Rattle.function_language.specs.declared.tree.Statement.{Statement, Let, Set, If', For', Emit, Give, Row_of-Statement, end_of-Statement, more_of-Statement, Held-Statement-If-2, None', Some'}
use Rattle.operations.specs.Applied.{is_true}
use Rattle.type_checker.specs.declared.scope.Known.{Known}
use Rattle.type_checker.specs.declared.scope.Setting.{Setting}
use Rattle.type_checker.specs.Checked.{Checked, fine}
use Rattle.type_checker.specs.Kinds.{is_of_kind, judged, kind_in}
use Rattle.type_checker.specs.Scopes.{is_taken, kind_to_set, known, stream_named, value_of_kind}
use Rattle.type_checker.specs.Statements as types
use Rattle.type_checker.specs.Statements.{emits, gives, has_fields, kinds_of, loop_names, loop_scope}
use Rattle.type_checker.proofs.Binding.{bind_ok, then_ok}
use Rattle.function_meaning.specs.Expressions.{Named}
use Rattle.function_meaning.specs.Optional.{◌>>=◌, all_of}
use Rattle.function_meaning.specs.Statements.{Call, State, after, all_after, else_after, emitted, gave, leave, record_of, replaced, row_after, turn, turns, value_in, with_variables}
use Rattle.function_meaning.proofs.RightKinds.{GroupHasKinds, HaveKinds}
use Rattle.function_meaning.proofs.RightStatements.{AreFixed, Bound, OutFits, OutOf, StreamsFit, among_variables, emit_right, fields_ok, free_ok, group_right, map_append, names_right, number_right, set_right, take_map, text_of, to_set, asked_right}
use Rattle.function_meaning.proofs.RightValues.{HasRound, IsA, kind_right, known_kinds, ok_same, value_kinds}

module _ (setting : Setting) (call : Call) (ps : List Known) (has : HasRound setting.has_round call.round) (streams : StreamsFit setting.streams call.groups)
    (params : value_kinds call.params ≡ known_kinds ps) (fixed : AreFixed ps) (few : OutFits setting.out) where
  -- the variables have values of their kinds, and what was emitted is of the kinds behind the arrow
  pub record Stands (vs : List Known) (s : State) : Type 0 where
    pub kinds : value_kinds s.variables ≡ known_kinds vs
    pub out : OutOf setting.out s.out

  -- a state is there, in which as many more variables stand as the scope has
  abbrev pub Behind : List Known → List Known → Option State → Type 0
  Behind vs scope None = ⊥
  Behind vs scope (Some done) = (more : List Known) × (scope ≡ ps ++ (vs ++ more)) × Stands (vs ++ more) done

  -- a state is there, in which the same variables stand
  abbrev Kept : List Known → Option State → Type 0
  Kept vs None = ⊥
  Kept vs (Some done) = Stands vs done

  fits : (vs : List Known) (s : State) → Stands vs s → value_kinds (call.params ++ s.variables) ≡ known_kinds (ps ++ vs)
  fits vs s stands = map_append _ call.params s.variables ∙ ap₂ (λ (xs ys : Named Kind). xs ++ ys) params stands.kinds ∙ sym (map_append _ ps vs)

  as_kept : (vs : List Known) (scope : List Known) (o : Option State) → ps ++ vs ≡ scope → Kept vs o → Behind vs scope o
  as_kept vs scope None e k = k
  as_kept vs scope (Some done) e k = ([], sym e ∙ ap (λ vs. ps ++ vs) (sym (append-nil vs)), subst (λ vs. Stands vs done) (sym (append-nil vs)) k)

  left_right : (vs extra scope : List Known) (s : State) (o : Option State) → Stands vs s → Behind (vs ++ extra) scope o → Kept vs (o >>= (λ done. Some (leave s done)))
  left_right vs extra scope s None stands b = b
  left_right vs extra scope s (Some done) stands b = record {
    kinds = take_map _ s.variables done.variables (known_kinds (extra ++ b.0))
        (b.2.kinds ∙ ap known_kinds (append_assoc vs extra b.0) ∙ map_append _ vs (extra ++ b.0) ∙ ap (λ ks. ks ++ known_kinds (extra ++ b.0)) (sym stands.kinds)) ∙ stands.kinds;
    out = b.2.out;
  }

  no_extra : (vs scope : List Known) (o : Option State) → Behind vs scope o → Behind (vs ++ []) scope o
  no_extra vs scope o b = subst (λ vs. Behind vs scope o) (sym (append-nil vs)) b

  block_right : (vs scope : List Known) (s : State) (o : Option State) → Stands vs s → Behind vs scope o → Kept vs (o >>= (λ done. Some (leave s done)))
  block_right vs scope s o stands b = left_right vs [] scope s o stands (no_extra vs scope o b)

  kept_then : (vs : List Known) (o : Option State) (k : State → Option State) → Kept vs o → ((done : State) → Stands vs done → Kept vs (k done)) → Kept vs (o >>= k)
  kept_then vs None k a h = a
  kept_then vs (Some done) k a h = h done a

  again : (vs more scope : List Known) (o : Option State) → Behind (vs ++ more) scope o → Behind vs scope o
  again vs more scope None b = b
  again vs more scope (Some done) b = (more ++ b.0, b.1 ∙ ap (λ vs. ps ++ vs) (append_assoc vs more b.0), subst (λ vs. Stands vs done) (append_assoc vs more b.0) b.2)

  -- what stands behind the next statements, where it stands behind the first
  behind_then : (vs middle scope : List Known) (o : Option State) (k : State → Option State) (next : List Known → Checked (List Known)) → Behind vs middle o → next middle ≡ Ok scope →
      ((more : List Known) (done : State) → Stands (vs ++ more) done → next (ps ++ (vs ++ more)) ≡ Ok scope → Behind (vs ++ more) scope (k done)) → Behind vs scope (o >>= k)
  behind_then vs middle scope None k next b e h = b
  behind_then vs middle scope (Some done) k next b e h = again vs b.0 scope (k done) (h b.0 done b.2 (ap next (sym b.1) ∙ e))

  turns_right : (vs : List Known) (kinds : List Kind) (f : List Value → State → Option State) → ((fields : List Value) (s : State) → HaveKinds kinds fields → Stands vs s → Kept vs (f fields s)) →
      (group : List (List Value)) (s : State) → GroupHasKinds kinds group → Stands vs s → Kept vs (turns f group s)
  turns_right vs kinds f h [] s all stands = stands
  turns_right vs kinds f h (fields ∷ group) s all stands = kept_then vs (f fields s) (turns f group) (h fields s all.0 stands) (λ done k. turns_right vs kinds f h group done all.1 k)

  -- what a block of a loop keeps, under its names
  turn_right : (vs more last : List Known) (idents : List Ident) (kinds : List Kind) (row : State → Option State) (b : Bound (map text_of idents) kinds more) →
      ((s : State) → Stands (vs ++ more) s → Behind (vs ++ more) last (row s)) → (fields : List Value) (s : State) → HaveKinds kinds fields → Stands vs s → Kept vs (turn row idents fields s)
  turn_right vs more last idents kinds row b h fields s all stands =
      let bound = b fields all in
      let inside = with_variables (s.variables ++ bound.0) s in
      let stand : Stands (vs ++ more) inside = record {
        kinds = map_append _ s.variables bound.0 ∙ ap₂ (λ (xs ys : Named Kind). xs ++ ys) stands.kinds bound.2 ∙ sym (map_append _ vs more);
        out = stands.out;
      } in
      subst (λ o. Kept vs (o >>= (λ inner. row (with_variables (s.variables ++ inner) s) >>= (λ done. Some (leave s done))))) (sym bound.1)
      (left_right vs more last s (row inside) stands (h inside stand))

  given_right : (vs : List Known) (s : State) (line : ℕ) (n : ℤ) → Stands vs s → Stands vs (gave n s)
  given_right vs s line n stands = record { kinds = stands.kinds; out = stands.out }

  mutual
    pub statement_right : (st : Statement) (vs scope : List Known) (s : State) → Stands vs s → types.after setting (ps ++ vs) st ≡ Ok scope → Behind vs scope (after call st s)
    statement_right (Let ident value) vs scope s stands e =
        let first = bind_ok (kind_in setting (ps ++ vs) value) _ scope e in
        let new = value_of_kind ident first.0 true in
        let added = free_ok (is_taken ident.text (ps ++ vs) setting.streams) _ scope _ first.2 in
        go (value_in call s value) first.0 (kind_right setting (ps ++ vs) call.round (call.params ++ s.variables) has (fits vs s stands) value first.0 first.1) (sym added ∙ append_assoc ps vs (new ∷ []))
      where
        go : (o : Option Value) (k : Kind) → IsA k o → scope ≡ ps ++ (vs ++ value_of_kind ident k true ∷ []) → Behind vs scope (o >>= (λ v. Some (with_variables (s.variables ++ (ident.text, v) ∷ []) s)))
        go None k is e = is
        go (Some v) k is e = (
          value_of_kind ident k true ∷ [],
          e,
          record {
            kinds = map_append _ s.variables ((ident.text, v) ∷ []) ∙ ap₂ (λ (xs : Named Kind) (k : Kind). xs ++ (ident.text, k) ∷ []) stands.kinds is ∙ sym (map_append _ vs (value_of_kind ident k true ∷ []));
            out = stands.out;
          },
        )
    statement_right (Set ident value) vs scope s stands e =
        let first = bind_ok (kind_to_set setting ident (known ident.text (ps ++ vs))) _ scope e in
        let second = then_ok (is_of_kind setting (ps ++ vs) first.0 value) _ scope first.2 in
        let variable = to_set setting ident first.0 (known ident.text (ps ++ vs)) first.1 in
        let among = among_variables ident.text ps vs variable.0 fixed variable.1 variable.2 in
        as_kept vs scope (after call (Set ident value) s) (ok_same second.2)
        (go (value_in call s value) first.0 (asked_right setting (ps ++ vs) call.round (call.params ++ s.variables) has (fits vs s stands) first.0 value second.1) variable.0 among variable.3)
      where
        go : (o : Option Value) (k : Kind) → IsA k o → (variable : Known) → known ident.text vs ≡ Some variable → variable.kind ≡ k → Kept vs (o >>= (λ v. replaced ident.text v s.variables >>= (λ variables. Some (with_variables variables s))))
        go None k is variable among same = is
        go (Some v) k is variable among same =
            let r = set_right ident.text v vs s.variables variable among (is ∙ sym same) stands.kinds in
            subst (λ o. Kept vs (o >>= (λ variables. Some (with_variables variables s)))) (sym r.1) (record { kinds = r.2; out = stands.out })
    statement_right (If' test shape chosen other) vs scope s stands e =
        let first = then_ok (is_of_kind setting (ps ++ vs) kind.Int test) _ scope e in
        let second = then_ok (types.row_after setting (ps ++ vs) chosen) _ scope first.2 in
        let third = then_ok (types.else_after setting (ps ++ vs) other) _ scope second.2 in
        let n = number_right setting (ps ++ vs) call.round (call.params ++ s.variables) has (fits vs s stands) test first.1 in
        as_kept vs scope (after call (If' test shape chosen other) s) (ok_same third.2)
        (subst (λ o. Kept vs (o >>= (λ n. cond (is_true n) (row_after call chosen s) (else_after call other s) >>= (λ done. Some (leave s done))))) (sym n.1)
        (go (is_true n.0) (block_right vs second.0 s (row_after call chosen s) stands (row_right chosen vs second.0 s stands second.1)) (block_right vs third.0 s (else_after call other s) stands (else_right other vs third.0 s stands third.1))))
      where
        go : (b : Bool) → Kept vs (row_after call chosen s >>= (λ done. Some (leave s done))) → Kept vs (else_after call other s >>= (λ done. Some (leave s done))) →
            Kept vs (cond b (row_after call chosen s) (else_after call other s) >>= (λ done. Some (leave s done)))
        go true p q = p
        go false p q = q
    statement_right (For' idents stream shape body) vs scope s stands e =
        let first = bind_ok (loop_scope setting (ps ++ vs) idents stream) _ scope e in
        let second = then_ok (types.row_after setting first.0 body) _ scope first.2 in
        let third = bind_ok (loop_names setting (ps ++ vs) idents (kinds_of (stream_named stream.text setting.streams))) _ first.0 first.1 in
        let fourth = then_ok (has_fields setting stream (length idents) (stream_named stream.text setting.streams)) _ first.0 third.2 in
        let fields = fields_ok setting stream (length idents) (stream_named stream.text setting.streams) (has_ok fourth.0 fourth.1) in
        let names = names_right setting (ps ++ vs) idents fields.0.kinds third.0 (ap (λ o. loop_names setting (ps ++ vs) idents (kinds_of o)) (sym fields.1) ∙ third.1) fields.2 in
        let group = group_right stream.text setting.streams call.groups fields.0 streams fields.1 in
        let inside : first.0 ≡ ps ++ (vs ++ names.0) = sym (ok_same fourth.2) ∙ names.1 ∙ append_assoc ps vs names.0 in
        let body_ok = ap (λ scope. types.row_after setting scope body) (sym inside) ∙ second.1 in
        as_kept vs scope (after call (For' idents stream shape body) s) (ok_same second.2)
        (subst (λ o. Kept vs (o >>= (λ group. turns (turn (row_after call body) idents) group s))) (sym group.1)
        (turns_right vs fields.0.kinds (turn (row_after call body) idents)
        (λ fs s' all stand. turn_right vs names.0 second.0 idents fields.0.kinds (row_after call body) names.3 (λ s'' stand'. row_right body (vs ++ names.0) second.0 s'' stand' body_ok) fs s' all stand)
        group.0 s group.2 stands))
      where
        has_ok : (u : Unit {0}) → has_fields setting stream (length idents) (stream_named stream.text setting.streams) ≡ Ok u → has_fields setting stream (length idents) (stream_named stream.text setting.streams) ≡ fine
        has_ok u e = e
    statement_right (Emit line args) vs scope s stands e =
        let first = then_ok (emits setting line setting.out (map (judged setting (ps ++ vs)) args)) _ scope e in
        let row = emit_right setting (ps ++ vs) call.round (call.params ++ s.variables) has (fits vs s stands) line args setting.out few first.1 in
        as_kept vs scope (after call (Emit line args) s) (ok_same first.2)
        (go (all_of (map (value_in call s) args)) row.0 row.1 (row.2 s.out stands.out))
      where
        go : (o : Option (List Value)) (row : Record) → (o >>= record_of) ≡ Some row → OutOf setting.out (s.out ++ row ∷ []) → Kept vs (o >>= (λ values. record_of values >>= (λ row. Some (emitted row s))))
        go None row e out = absurd (no e)
          where
            no : None ≡ Some row → ⊥
            no e = cc
        go (Some values) row e out = subst (λ o. Kept vs (o >>= (λ row. Some (emitted row s)))) (sym e) (record { kinds = stands.kinds; out = out })
    statement_right (Give line value) vs scope s stands e =
        let first = then_ok (gives setting line setting.out) _ scope e in
        let second = then_ok (is_of_kind setting (ps ++ vs) kind.Int value) _ scope first.2 in
        let n = number_right setting (ps ++ vs) call.round (call.params ++ s.variables) has (fits vs s stands) value second.1 in
        as_kept vs scope (after call (Give line value) s) (ok_same second.2)
        (subst (λ o. Kept vs (o >>= (λ n. Some (gave n s)))) (sym n.1) (given_right vs s line n.0 stands))

    else_right : (other : Held-Statement-If-2) (vs scope : List Known) (s : State) → Stands vs s → types.else_after setting (ps ++ vs) other ≡ Ok scope → Behind vs scope (else_after call other s)
    else_right None' vs scope s stands e = as_kept vs scope (Some s) (ok_same e) stands
    else_right (Some' shape row) vs scope s stands e = row_right row vs scope s stands e

    row_right : {n : _} (row : Row_of-Statement n) (vs scope : List Known) (s : State) → Stands vs s → types.row_after setting (ps ++ vs) row ≡ Ok scope → Behind vs scope (row_after call row s)
    row_right end_of-Statement vs scope s stands e = as_kept vs scope (Some s) (ok_same e) stands
    row_right (more_of-Statement st sts) vs scope s stands e =
        let first = bind_ok (types.after setting (ps ++ vs) st) _ scope e in
        behind_then vs first.0 scope (after call st s) (row_after call sts) (λ scope. types.row_after setting scope sts) (statement_right st vs first.0 s stands first.1) first.2
        (λ more done stand e. row_right sts (vs ++ more) scope done stand e)

  -- a body
  pub body_right : (body : List Statement) (vs scope : List Known) (s : State) → Stands vs s → types.all_after setting (ps ++ vs) body ≡ Ok scope → Behind vs scope (all_after call body s)
  body_right [] vs scope s stands e = as_kept vs scope (Some s) (ok_same e) stands
  body_right (st ∷ sts) vs scope s stands e =
      let first = bind_ok (types.after setting (ps ++ vs) st) _ scope e in
      behind_then vs first.0 scope (after call st s) (all_after call sts) (λ scope. types.all_after setting scope sts) (statement_right st vs first.0 s stands first.1) first.2
      (λ more done stand e. body_right sts (vs ++ more) scope done stand e)

-- Typed functions meet no wrong kind, and make what has the kinds that they name.
use Rattle.std.proofs.Common.{◌≡◌, ℕ, suc, Bool, true, false, cond, List, [], ◌∷◌, ◌++◌, Option, None, Some, option_map, Ok, Err, refl, sym, ap, ◌∙◌, subst, append_assoc, map}
use Rattle.std.proofs.lemmas.List.{length-map}
use Rattle.std.specs.List.{AllByRecursion}
use Rattle.hal_base.specs.declared.value.Kind.{Kind}
use Rattle.hal_base.specs.declared.value.Value.{Value}
use Rattle.hal_base.specs.Values.{kind_of}
use Rattle.function_language.specs.declared.tree.Function.{Function}
use Rattle.function_language.specs.declared.tree.Function.TheVariants.{Map, Reduce, Distance, Partition}
use Rattle.program_tokens.specs.declared.token.Ident.{Ident}
use Rattle.function_language.specs.declared.tree.Param.{Param}
use Rattle.function_language.specs.declared.tree.Statement.{Statement}
use Rattle.function_language.specs.declared.tree.Stream.{Stream}
use Rattle.type_checker.specs.declared.fault.TypeFault.{TypeFault}
use Rattle.type_checker.specs.declared.scope.Known.{Known}
use Rattle.type_checker.specs.declared.scope.KnownStream.{KnownStream}
use Rattle.type_checker.specs.declared.scope.Setting.{Setting}
use Rattle.type_checker.specs.Checked as results
use Rattle.type_checker.specs.Checked.{Checked, fine}
use Rattle.type_checker.specs.Functions.{functions_right, key_scope, name_free, name_of, params_scope, setting_of, streams_beside}
use Rattle.type_checker.specs.Functions as checked
use Rattle.type_checker.specs.Scopes.{declared, is_taken}
use Rattle.type_checker.specs.Statements as types
use Rattle.type_checker.specs.Statements.{loop_names}
use Rattle.type_checker.proofs.Binding.{bind_ok, then_ok}
use Rattle.function_meaning.specs.Expressions.{Named, paired}
use Rattle.function_meaning.specs.Functions.{key_named, ran}
use Rattle.function_meaning.specs.Optional.{◌>>=◌}
use Rattle.function_meaning.specs.NeverStops.{GoesRight}
use Rattle.function_meaning.specs.Statements.{Call, State, start}
use Rattle.function_meaning.proofs.RightBodies.{Behind, body_right}
use Rattle.function_meaning.proofs.RightKinds.{GroupsHaveKinds, KeepsKinds, RowHasKinds}
use Rattle.function_meaning.proofs.RightStatements.{AreFixed, OutFits, OutOf, StreamsFit, names_right, text_of}
use Rattle.function_meaning.proofs.RightValues.{HasRound, known_kinds, ok_same, value_kinds}

-- ---- parameters

abbrev name_in : Param → Ident
name_in param = param.name

abbrev kind_in : Param → Kind
kind_in param = param.kind

params_are : (setting : Setting) (scope : List Known) (params : List Param) → params_scope setting scope params ≡ loop_names setting scope (map name_in params) (map kind_in params)
params_are setting scope [] = refl
params_are setting scope (param ∷ params) = go (declared setting scope param.name param.kind false) (λ scope. params_are setting scope params)
  where
    go : (r : Checked (List Known)) → ((scope : List Known) → params_scope setting scope params ≡ loop_names setting scope (map name_in params) (map kind_in params)) →
        results.◌>>=◌ r (λ more. params_scope setting more params) ≡ results.◌>>=◌ r (λ more. loop_names setting more (map name_in params) (map kind_in params))
    go (Ok scope) h = h scope
    go (Err fault) h = refl

texts_are : (params : List Param) → map text_of (map name_in params) ≡ map (λ (param : Param). param.name.text) params
texts_are [] = refl
texts_are (param ∷ params) = ap (◌∷◌ param.name.text) (texts_are params)

-- ---- streams

abbrev as_known : Stream → KnownStream
as_known stream = record { name = stream.name.text; kinds = stream.kinds }

streams_are : (n : ℕ) (scope : List Known) (before : List KnownStream) (streams : List Stream) (known : List KnownStream) → streams_beside n scope before streams ≡ Ok known → known ≡ before ++ map as_known streams
streams_are n scope before [] known e = sym (ok_same e) ∙ sym (nothing before)
  where
    nothing : (xs : List KnownStream) → xs ++ [] ≡ xs
    nothing [] = refl
    nothing (x ∷ xs) = ap (◌∷◌ x) (nothing xs)
streams_are n scope before (stream ∷ streams) known e =
    streams_are n scope (before ++ as_known stream ∷ []) streams known (free (is_taken stream.name.text scope before) _ _ e) ∙ append_assoc before (as_known stream ∷ []) (map as_known streams)
  where
    free : (b : Bool) (x : Checked (List KnownStream)) (fault : TypeFault) → cond b (Err fault) x ≡ Ok known → x ≡ Ok known
    free true x fault e = absurd (no e)
      where
        no : Err fault ≡ Ok known → ⊥
        no e = cc
    free false x fault e = e

groups_fit : (streams : List Stream) (groups : List (List (List Value))) → GroupsHaveKinds streams groups → (pairs : Named (List (List Value))) × (paired (map (λ (stream : Stream). stream.name.text) streams) groups ≡ Some pairs) × StreamsFit (map as_known streams) pairs
groups_fit [] [] all = ([], refl, tt)
groups_fit [] (group ∷ groups) all = absurd all
groups_fit (stream ∷ streams) [] all = absurd all
groups_fit (stream ∷ streams) (group ∷ groups) all =
    let rest = groups_fit streams groups all.1 in
    ((stream.name.text, group) ∷ rest.0, ap (option_map (λ pairs. (stream.name.text, group) ∷ pairs)) rest.1, ((refl, all.0), rest.2))

-- ---- bodies

-- what is taken from the state behind a body
taken_right : {A : Type 0} (setting : Setting) (call : Call) (ps : List Known) (has : HasRound setting.has_round call.round) (streams : StreamsFit setting.streams call.groups)
    (params : value_kinds call.params ≡ known_kinds ps) (fixed : AreFixed ps) (few : OutFits setting.out) (P : A → Type 0) (f : State → A) (body : List Statement) (scope : List Known) →
    types.all_after setting ps body ≡ Ok scope → ((done : State) → OutOf setting.out done.out → P (f done)) → GoesRight P (ran call.round call.params call.groups body >>= (λ done. Some (f done)))
taken_right setting call ps has streams params fixed few P f body scope e h =
    go (ran call.round call.params call.groups body) (body_right setting call ps has streams params fixed few body [] scope start (record { kinds = refl; out = nothing setting.out }) (ap (λ ps. types.all_after setting ps body) (all_of_them ps) ∙ e))
  where
    all_of_them : (xs : List Known) → xs ++ [] ≡ xs
    all_of_them [] = refl
    all_of_them (x ∷ xs) = ap (◌∷◌ x) (all_of_them xs)

    nothing : (out : Option (List Kind)) → OutOf out []
    nothing None = tt
    nothing (Some kinds) = tt

    go : (o : Option State) → Behind setting call ps has streams params fixed few [] scope o → GoesRight P (o >>= (λ done. Some (f done)))
    go None b = b
    go (Some done) b = h done b.2.out

-- ---- functions

key_kinds : (param : Param) (key : Value) → kind_of key ≡ param.kind → value_kinds (key_named param key) ≡ known_kinds (key_scope param)
key_kinds param key e = ap (λ (k : Kind). (param.name.text, k) ∷ []) e

function_right : (n : ℕ) (f : Function) (scope : List Known) → checked.body_right n f ≡ Ok scope → KeepsKinds f
function_right n (Map name params arrow out body) scope e = λ few round row kinds.
    let setting = setting_of n true (Some out.kinds) [] in
    let first = bind_ok (params_scope setting [] params) _ scope e in
    let names = names_right setting [] (map name_in params) (map kind_in params) first.0 (sym (params_are setting [] params) ∙ first.1) (length-map params kind_in ∙ sym (length-map params name_in)) in
    let bound = names.3 (row.key ∷ row.fields) kinds in
    let call : Call = record { round = Some round; params = bound.0; groups = [] } in
    subst (λ o. GoesRight (AllByRecursion (RowHasKinds out.kinds)) (o >>= (λ values. ran (Some round) values [] body >>= (λ (done : State). Some done.out))))
    (sym bound.1 ∙ ap (λ ns. paired ns (row.key ∷ row.fields)) (texts_are params))
    (taken_right setting call first.0 tt tt (bound.2 ∙ ap known_kinds (sym names.1)) (subst AreFixed (sym names.1) names.2) few (AllByRecursion (RowHasKinds out.kinds)) (λ done. done.out) body scope first.2 (λ done all. all))
function_right n (Reduce name param streams arrow out body) scope e = λ few round key groups kind all.
    let first = bind_ok (streams_beside n (key_scope param) [] streams) _ scope e in
    let known = streams_are n (key_scope param) [] streams first.0 first.1 in
    let fit = groups_fit streams groups all in
    let setting = setting_of n true (Some out.kinds) (map as_known streams) in
    let call : Call = record { round = Some round; params = key_named param key; groups = fit.0 } in
    subst (λ o. GoesRight (AllByRecursion (RowHasKinds out.kinds)) (o >>= (λ known. ran (Some round) (key_named param key) known body >>= (λ (done : State). Some done.out)))) (sym fit.1)
    (taken_right setting call (key_scope param) tt fit.2 (key_kinds param key kind) (refl, tt) few (AllByRecursion (RowHasKinds out.kinds)) (λ done. done.out) body scope
    (ap (λ known. types.all_after (setting_of n true (Some out.kinds) known) (key_scope param) body) (sym known) ∙ first.2) (λ done all. all))
function_right n (Distance name param before after body) scope e = λ key old new kind olds news.
    let first = bind_ok (streams_beside n (key_scope param) [] (before ∷ after ∷ [])) _ scope e in
    let known = streams_are n (key_scope param) [] (before ∷ after ∷ []) first.0 first.1 in
    let setting = setting_of n false None (as_known before ∷ as_known after ∷ []) in
    let call : Call = record { round = None; params = key_named param key; groups = (before.name.text, old) ∷ (after.name.text, new) ∷ [] } in
    taken_right setting call (key_scope param) refl ((refl, olds), ((refl, news), tt)) (key_kinds param key kind) (refl, tt) tt (λ n. Unit {0}) _ body scope
    (ap (λ known. types.all_after (setting_of n false None known) (key_scope param) body) (sym known) ∙ first.2) (λ done all. tt)
function_right n (Partition name param body) scope e = λ parts round key kind.
    let setting = setting_of n true None [] in
    let call : Call = record { round = Some round; params = key_named param key; groups = [] } in
    taken_right setting call (key_scope param) tt tt (key_kinds param key kind) (refl, tt) tt (λ n. Unit {0}) _ body scope e (λ done all. tt)

-- typed functions keep kinds
pub typed_keep_kinds : (n : ℕ) (before : List (List ℕ)) (functions : List Function) → functions_right n before functions ≡ fine → AllByRecursion KeepsKinds functions
typed_keep_kinds n before [] e = tt
typed_keep_kinds n before (f ∷ functions) e =
    let first = then_ok (name_free n before (name_of f)) _ tt e in
    let second = then_ok (checked.body_right n f) _ tt first.2 in
    (function_right n f second.0 second.1, typed_keep_kinds (suc n) (before ++ (name_of f).text ∷ []) functions second.2)

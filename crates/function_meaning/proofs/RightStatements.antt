-- Statements in which no fault is found do not stop, and leave values of the kinds that the names have.
use Rattle.std.proofs.Common.{◌≡◌, ℕ, ◌==◌, ℤ, nat_le, Bool, true, false, cond, List, [], ◌∷◌, ◌++◌, Option, None, Some, option_map, Ok, Err, refl, sym, ap, ap₂, ◌∙◌, subst, append_assoc, arith, drop, get_or, length, map, take}
use Rattle.std.proofs.lemmas.List.{append-nil, length-map}
use Rattle.std.proofs.lemmas.Bool.{eqb-true, le-leb}
use Rattle.std.specs.List.{AllByRecursion}
use Rattle.std.specs.Str.{bytes_eq}
use Rattle.hal_base.specs.declared.record.Record.{Record}
use Rattle.hal_base.specs.declared.value.Kind.{Kind}
use Rattle.hal_base.specs.declared.value.Kind.TheVariants as kind
use Rattle.hal_base.specs.declared.value.Value.{Value}
use Rattle.hal_base.specs.declared.value.Value.TheVariants as value
use Rattle.hal_base.specs.Values.{kind_of}
use Rattle.function_language.specs.declared.tree.Expr.{Expr}
use Rattle.program_tokens.specs.declared.token.Ident.{Ident}
use Rattle.type_checker.specs.declared.fault.TypeFault.{TypeFault}
use Rattle.type_checker.specs.declared.scope.Known.{Known}
use Rattle.type_checker.specs.declared.scope.KnownStream.{KnownStream}
use Rattle.type_checker.specs.declared.scope.Setting.{Setting}
use Rattle.type_checker.specs.Checked.{Checked, fine}
use Rattle.type_checker.specs.Kinds.{is_of_kind, judged, kind_in, same_kind}
use Rattle.type_checker.specs.Scopes.{declared, is_taken, kind_to_set, known, stream_named, value_of_kind}
use Rattle.type_checker.specs.Statements.{each_emitted, emits, has_fields, loop_names}
use Rattle.type_checker.proofs.Binding.{bind_ok, then_ok}
use Rattle.function_meaning.specs.Expressions.{Named, as_number, looked_up, number_of, paired, value_of}
use Rattle.function_meaning.specs.Optional.{◌>>=◌, all_of}
use Rattle.function_meaning.specs.NeverStops.{MakeARecord}
use Rattle.function_meaning.specs.Statements.{record_of, replaced}
use Rattle.function_meaning.proofs.RightKinds.{GroupHasKinds, HaveKinds, RowHasKinds}
use Rattle.function_meaning.proofs.RightValues.{HasRound, IsA, kind_ok, kind_right, known_kinds, ok_same, one_kind, test_ok, value_kinds}

pub map_append : {A B : Type 0} (f : A → B) (xs ys : List A) → map f (xs ++ ys) ≡ map f xs ++ map f ys
map_append f [] ys = refl
map_append f (x ∷ xs) ys = ap (◌∷◌ (f x)) (map_append f xs ys)

pub all_both : {A : Type 0} (P : A → Type 0) (xs ys : List A) → AllByRecursion P xs → AllByRecursion P ys → AllByRecursion P (xs ++ ys)
all_both P [] ys p q = q
all_both P (x ∷ xs) ys p q = (p.0, all_both P xs ys p.1 q)

-- of a list that begins as another, as much as there is of that
pub take_map : {A B : Type 0} (f : A → B) (xs ys : List A) (more : List B) → map f ys ≡ map f xs ++ more → map f (take (length xs) ys) ≡ map f xs
take_map f [] ys more e = refl
take_map f (x ∷ xs) [] more e = cc
take_map f (x ∷ xs) (y ∷ ys) more e = ap₂ (λ b bs. b ∷ bs) (ap (λ bs. get_or bs 0 (f x)) e) (take_map f xs ys more (ap (drop 1) e))

-- ---- names

-- a name that is free is declared
pub free_ok : {A : Type 0} (b : Bool) (x y : A) (fault : TypeFault) → cond b (Err fault) (Ok x) ≡ Ok y → x ≡ y
free_ok true x y fault e = absurd (no e)
  where
    no : Err fault ≡ Ok y → ⊥
    no e = cc
free_ok false x y fault e = cc

pub to_set : (setting : Setting) (ident : Ident) (k : Kind) (o : Option Known) → kind_to_set setting ident o ≡ Ok k → (value : Known) × (o ≡ Some value) × (value.variable ≡ true) × (value.kind ≡ k)
to_set setting ident k None e = absurd (no e)
  where
    no : kind_to_set setting ident None ≡ Ok k → ⊥
    no e = cc
to_set setting ident k (Some value) e = let t = test_ok value.variable value.kind k _ e in (value, refl, t.0, t.1)

-- parameters are no variables
abbrev pub AreFixed : List Known → Type 0
AreFixed ps = AllByRecursion (λ (value : Known). value.variable ≡ false) ps

pub among_variables : (name : List ℕ) (ps vs : List Known) (value : Known) → AreFixed ps → known name (ps ++ vs) ≡ Some value → value.variable ≡ true → known name vs ≡ Some value
among_variables name [] vs value fixed e t = e
among_variables name (p ∷ ps) vs value fixed e t =
    elim (bytes_eq name p.name) as (λ b. cond b (Some p) (known name (ps ++ vs)) ≡ Some value → known name vs ≡ Some value) [
      | true ↦ λ e. absurd (no e)
      | false ↦ λ e. among_variables name ps vs value fixed.1 e t
    ] e
  where
    first : Some p ≡ Some value → p ≡ value
    first e = cc

    no : Some p ≡ Some value → ⊥
    no e = no_both (sym fixed.0 ∙ ap (λ (value : Known). value.variable) (first e) ∙ t)
      where
        no_both : false ≡ true → ⊥
        no_both e = cc

abbrev with_kind : List ℕ → Kind → List ℕ × Kind
with_kind name kind = (name, kind)

front_too : (pair : List ℕ × Value) (w : Known) (others : Named Value) (vs : List Known) → with_kind pair.0 (kind_of pair.1) ≡ with_kind w.name w.kind → value_kinds others ≡ known_kinds vs → value_kinds (pair ∷ others) ≡ known_kinds (w ∷ vs)
front_too pair w others vs e f = ap₂ (λ (p : List ℕ × Kind) (ps : Named Kind). p ∷ ps) e f

-- a variable that is set to a value of its kind
pub set_right : (name : List ℕ) (v : Value) (vs : List Known) (variables : Named Value) (value : Known) → known name vs ≡ Some value → kind_of v ≡ value.kind → value_kinds variables ≡ known_kinds vs →
    (others : Named Value) × (replaced name v variables ≡ Some others) × (value_kinds others ≡ known_kinds vs)
set_right name v [] variables value e k f = absurd (no e)
  where
    no : None ≡ Some value → ⊥
    no e = cc
set_right name v (w ∷ vs) [] value e k f = absurd (no f)
  where
    no : [] ≡ known_kinds (w ∷ vs) → ⊥
    no e = cc
set_right name v (w ∷ vs) (pair ∷ pairs) value e k f =
    let first : with_kind pair.0 (kind_of pair.1) ≡ with_kind w.name w.kind = ap (λ l. get_or l 0 (with_kind w.name w.kind)) f in
    let rest : value_kinds pairs ≡ known_kinds vs = ap (drop 1) f in
    let same_name : pair.0 ≡ w.name = ap (λ (p : List ℕ × Kind). p.0) first in
    elim (bytes_eq name pair.0) as (λ b. cond b (Some w) (known name vs) ≡ Some value →
    (others : Named Value) × (cond b (Some ((pair.0, v) ∷ pairs)) (option_map (λ others. pair ∷ others) (replaced name v pairs)) ≡ Some others) × (value_kinds others ≡ known_kinds (w ∷ vs))) [
      | true ↦ λ e. ((pair.0, v) ∷ pairs, refl, ap₂ (λ (p : List ℕ × Kind) ps. p ∷ ps) (ap₂ with_kind same_name (k ∙ ap (λ (value : Known). value.kind) (sym (some_known e)))) rest)
      | false ↦ λ e. let r = set_right name v vs pairs value e k rest in (pair ∷ r.0, ap (option_map (λ others. pair ∷ others)) r.1, front_too pair w r.0 vs first r.2)
    ] (ap (λ n. cond (bytes_eq name n) (Some w) (known name vs)) same_name ∙ e)
  where
    some_known : Some w ≡ Some value → w ≡ value
    some_known e = cc

-- ---- streams

-- the groups are those of the streams, by name and kinds
abbrev pub StreamsFit : List KnownStream → Named (List (List Value)) → Type 0
StreamsFit [] [] = Unit {0}
StreamsFit [] (group ∷ groups) = ⊥
StreamsFit (stream ∷ streams) [] = ⊥
StreamsFit (stream ∷ streams) (group ∷ groups) = ((stream.name ≡ group.0) × GroupHasKinds stream.kinds group.1) × StreamsFit streams groups

pub group_right : (name : List ℕ) (streams : List KnownStream) (groups : Named (List (List Value))) (stream : KnownStream) → StreamsFit streams groups → stream_named name streams ≡ Some stream →
    (group : List (List Value)) × (looked_up name groups ≡ Some group) × GroupHasKinds stream.kinds group
group_right name [] [] stream fit e = absurd (no e)
  where
    no : None ≡ Some stream → ⊥
    no e = cc
group_right name [] (group ∷ groups) stream fit e = absurd fit
group_right name (other ∷ streams) [] stream fit e = absurd fit
group_right name (other ∷ streams) (group ∷ groups) stream fit e =
    elim (bytes_eq name group.0) as (λ b. cond b (Some other) (stream_named name streams) ≡ Some stream → (found : List (List Value)) × (cond b (Some group.1) (looked_up name groups) ≡ Some found) × GroupHasKinds stream.kinds found) [
      | true ↦ λ e. (group.1, refl, subst (λ (stream : KnownStream). GroupHasKinds stream.kinds group.1) (one e) fit.0.1)
      | false ↦ λ e. group_right name streams groups stream fit.1 e
    ] (ap (λ n. cond (bytes_eq name n) (Some other) (stream_named name streams)) (sym fit.0.0) ∙ e)
  where
    one : Some other ≡ Some stream → other ≡ stream
    one e = cc

-- ---- the names of a loop

-- for fields of these kinds the names have values of the kinds that they are declared with
abbrev pub Bound : List (List ℕ) → List Kind → List Known → Type 0
Bound names kinds more = (fields : List Value) → HaveKinds kinds fields → (inner : Named Value) × (paired names fields ≡ Some inner) × (value_kinds inner ≡ known_kinds more)

abbrev pub text_of : Ident → List ℕ
text_of ident = ident.text

pub names_right : (setting : Setting) (scope : List Known) (idents : List Ident) (kinds : List Kind) (inside : List Known) → loop_names setting scope idents kinds ≡ Ok inside → length kinds ≡ length idents →
    (more : List Known) × (inside ≡ scope ++ more) × AreFixed more × Bound (map text_of idents) kinds more
names_right setting scope [] [] inside e n = ([], sym (append-nil scope ∙ ok_same e), tt, none)
  where
    none : Bound [] [] []
    none [] h = ([], refl, refl)
    none (v ∷ vs) h = absurd (no h)
      where
        no : map kind_of (v ∷ vs) ≡ [] → ⊥
        no e = cc
names_right setting scope [] (k ∷ kinds) inside e n = absurd (omega (arith, n))
names_right setting scope (ident ∷ idents) [] inside e n = absurd (omega (arith, n))
names_right setting scope (ident ∷ idents) (k ∷ kinds) inside e n =
    let first = bind_ok (declared setting scope ident k false) _ inside e in
    let added = free_ok (is_taken ident.text scope setting.streams) _ first.0 _ first.1 in
    let rest = names_right setting first.0 idents kinds inside first.2 (omega (arith, n)) in
    let new = value_of_kind ident k false in
    (new ∷ rest.0, rest.1 ∙ ap (λ scope. scope ++ rest.0) (sym added) ∙ append_assoc scope (new ∷ []) rest.0, (refl, rest.2), some rest.0 rest.3)
  where
    some : (more : List Known) → Bound (map text_of idents) kinds more → Bound (map text_of (ident ∷ idents)) (k ∷ kinds) (value_of_kind ident k false ∷ more)
    some more b [] h = absurd (no h)
      where
        no : [] ≡ k ∷ kinds → ⊥
        no e = cc
    some more b (v ∷ vs) h =
        let r = b vs (ap (drop 1) h) in
        ((ident.text, v) ∷ r.0, ap (option_map (λ pairs. (ident.text, v) ∷ pairs)) r.1, ap₂ (λ (k : Kind) ps. (ident.text, k) ∷ ps) (ap (λ l. get_or l 0 k) h) r.2)

-- a loop over a stream of as many fields as it has names
pub fields_ok : (setting : Setting) (ident : Ident) (count : ℕ) (o : Option KnownStream) → has_fields setting ident count o ≡ fine → (stream : KnownStream) × (o ≡ Some stream) × (length stream.kinds ≡ count)
fields_ok setting ident count None e = absurd (no e)
  where
    no : has_fields setting ident count None ≡ fine → ⊥
    no e = cc
fields_ok setting ident count (Some stream) e = (stream, refl, eqb-true (length stream.kinds) count (test_ok (length stream.kinds == count) tt tt _ e).0)

-- ---- what is emitted

-- the records that a function emitted are of the kinds behind its arrow
abbrev pub OutOf : Option (List Kind) → List Record → Type 0
OutOf None rows = Unit {0}
OutOf (Some kinds) rows = AllByRecursion (RowHasKinds kinds) rows

abbrev pub OutFits : Option (List Kind) → Type 0
OutFits None = Unit {0}
OutFits (Some kinds) = MakeARecord kinds

record_right : (kinds : List Kind) (vs : List Value) → MakeARecord kinds → HaveKinds kinds vs → (row : Record) × (record_of vs ≡ Some row) × RowHasKinds kinds row
record_right [] [] m h = absurd (omega (arith, m.0))
record_right (k ∷ kinds) [] m h = absurd (no h)
  where
    no : [] ≡ k ∷ kinds → ⊥
    no e = cc
record_right kinds (key ∷ fields) m h =
    let row : Record = record { key = key; fields = fields } in
    (row, ap (λ b. cond b (Some row) None) few, h)
  where
    few : nat_le (length fields) 7 ≡ true
    few = le-leb (length fields) 7 (omega (arith, m.1, ap length h, length-map (key ∷ fields) kind_of))

-- values of the kinds behind the arrow
module _ (setting : Setting) (scope : List Known) (round : Option ℕ) (pairs : Named Value) (has : HasRound setting.has_round round) (fits : value_kinds pairs ≡ known_kinds scope) where
  values_right : (args : List Expr) (kinds : List Kind) → each_emitted setting kinds (map (judged setting scope) args) ≡ fine → length kinds ≡ length args →
      (vs : List Value) × (all_of (map (value_of round pairs) args) ≡ Some vs) × HaveKinds kinds vs
  values_right [] [] e n = ([], refl, refl)
  values_right [] (k ∷ kinds) e n = absurd (omega (arith, n))
  values_right (arg ∷ args) [] e n = absurd (omega (arith, n))
  values_right (arg ∷ args) (k ∷ kinds) e n =
      let first = bind_ok (kind_in setting scope arg) _ tt e in
      let second = then_ok (cond (same_kind k first.0) fine (Err _)) _ tt first.2 in
      let rest = values_right args kinds second.2 (omega (arith, n)) in
      one_more (value_of round pairs arg) (kind_right setting scope round pairs has fits arg first.0 first.1) (one_kind k first.0 (test_ok (same_kind k first.0) tt second.0 _ second.1).0) rest
    where
      one_more : {got : Kind} (o : Option Value) → IsA got o → got ≡ k → ((vs : List Value) × (all_of (map (value_of round pairs) args) ≡ Some vs) × HaveKinds kinds vs) →
          (vs : List Value) × (all_of (o ∷ map (value_of round pairs) args) ≡ Some vs) × HaveKinds (k ∷ kinds) vs
      one_more None is e rest = absurd is
      one_more (Some v) is e rest = (v ∷ rest.0, ap (λ o. o >>= (λ others. Some (v ∷ others))) rest.1, ap₂ (λ (k : Kind) ks. k ∷ ks) (is ∙ e) rest.2)

  -- an `emit` adds a record of these kinds
  pub emit_right : (line : ℕ) (args : List Expr) (out : Option (List Kind)) → OutFits out → emits setting line out (map (judged setting scope) args) ≡ fine →
      (row : Record) × ((all_of (map (value_of round pairs) args) >>= record_of) ≡ Some row) × ((rows : List Record) → OutOf out rows → OutOf out (rows ++ row ∷ []))
  emit_right line args None few e = absurd (no e)
    where
      no : emits setting line None (map (judged setting scope) args) ≡ fine → ⊥
      no e = cc
  emit_right line args (Some kinds) few e =
      let t = test_ok' in
      let found = values_right args kinds t.1 (eqb-true (length kinds) (length (map (judged setting scope) args)) t.0 ∙ length-map args (judged setting scope)) in
      let row = record_right kinds found.0 few found.2 in
      (row.0, ap (λ o. o >>= record_of) found.1 ∙ row.1, λ rows all. all_both (RowHasKinds kinds) rows (row.0 ∷ []) all (row.2, tt))
    where
      chosen : (b : Bool) (x : Checked (Unit {0})) (fault : TypeFault) → cond b x (Err fault) ≡ fine → (b ≡ true) × (x ≡ fine)
      chosen true x fault e = (refl, e)
      chosen false x fault e = absurd (no e)
        where
          no : Err fault ≡ fine → ⊥
          no e = cc

      test_ok' : ((length kinds == length (map (judged setting scope) args)) ≡ true) × (each_emitted setting kinds (map (judged setting scope) args) ≡ fine)
      test_ok' = chosen (length kinds == length (map (judged setting scope) args)) (each_emitted setting kinds (map (judged setting scope) args)) _ e

  -- an expression whose kind is asked for
  pub asked_right : (want : Kind) (e : Expr) → is_of_kind setting scope want e ≡ fine → IsA want (value_of round pairs e)
  asked_right want e h =
      let first = bind_ok (kind_in setting scope e) _ tt h in
      subst (λ k. IsA k (value_of round pairs e)) (kind_ok setting want _ first.0 first.2) (kind_right setting scope round pairs has fits e first.0 first.1)

  pub number_right : (e : Expr) → is_of_kind setting scope kind.Int e ≡ fine → (n : ℤ) × (number_of round pairs e ≡ Some n)
  number_right e h = go (value_of round pairs e) (asked_right kind.Int e h)
    where
      go : (o : Option Value) → IsA kind.Int o → (n : ℤ) × ((o >>= as_number) ≡ Some n)
      go None is = absurd is
      go (Some (value.Int n)) is = (n, refl)
      go (Some (value.Text text)) is = absurd (no is)
        where
          no : kind.Text ≡ kind.Int → ⊥
          no e = cc

-- The names of variables behind statements.
use Rattle.std.proofs.Common.{◌≡◌, ℕ, true, false, cond, List, [], ◌∷◌, ◌++◌, Option, None, Some, option_map, refl, sym, ap, ap₂, ◌∙◌, append_assoc, drop, get_or, length, map, take}
use Rattle.std.proofs.lemmas.List.{append-nil}
use Rattle.std.specs.Str.{bytes_eq}
use Rattle.hal_base.specs.declared.value.Value.{Value}
use Rattle.program_tokens.specs.declared.token.Ident.{Ident}
use Rattle.function_language.specs.declared.tree.Statement.{Statement, Let, Set, If', For', Emit, Give, Row_of-Statement, end_of-Statement, more_of-Statement, Held-Statement-If-2, None', Some'}
use Rattle.operations.specs.Applied.{is_true}
use Rattle.function_meaning.specs.Expressions.{Named, looked_up, paired}
use Rattle.function_meaning.specs.Optional.{◌>>=◌, all_of}
use Rattle.function_meaning.specs.Statements.{Call, State, after, else_after, emitted, gave, leave, number_in, record_of, replaced, row_after, turn, turns, value_in, with_variables}
use Rattle.function_eval.proofs.SlotExpressions.{names, things}

-- the names of two lists of pairs
pub names_append : {A : Type 0} (xs ys : Named A) → names (xs ++ ys) ≡ names xs ++ names ys
names_append [] ys = refl
names_append (x ∷ xs) ys = ap (◌∷◌ x.0) (names_append xs ys)

pub things_append : {A : Type 0} (xs ys : Named A) → things (xs ++ ys) ≡ things xs ++ things ys
things_append [] ys = refl
things_append (x ∷ xs) ys = ap (◌∷◌ x.1) (things_append xs ys)

-- of pairs whose names begin with those of others, as many as there are of these
take_names : {A : Type 0} (xs ys : Named A) (more : List (List ℕ)) → names ys ≡ names xs ++ more → names (take (length xs) ys) ≡ names xs
take_names [] ys more e = refl
take_names (x ∷ xs) [] more e = cc
take_names (x ∷ xs) (y ∷ ys) more e = ap₂ (λ n ns. n ∷ ns) (ap (λ ns. get_or ns 0 []) e) (take_names xs ys more (ap (drop 1) e))

-- ---- what is added

-- the names behind are those before, and these
abbrev pub Adds : State → List (List ℕ) → Option State → Type 0
Adds s more None = Unit {0}
Adds s more (Some done) = names done.variables ≡ names s.variables ++ more

-- the names behind begin with those before
abbrev pub Grows : State → Option State → Type 0
Grows s None = Unit {0}
Grows s (Some done) = (more : List (List ℕ)) × (names done.variables ≡ names s.variables ++ more)

shifted : (s done : State) (more others : List (List ℕ)) (o : Option State) → names done.variables ≡ names s.variables ++ more → Adds done others o → Adds s (more ++ others) o
shifted s done more others None e a = tt
shifted s done more others (Some last) e a = a ∙ ap (λ ns. ns ++ others) e ∙ append_assoc (names s.variables) more others

adds_then : (s : State) (more others : List (List ℕ)) (o : Option State) (k : State → Option State) → Adds s more o → ((done : State) → Adds done others (k done)) → Adds s (more ++ others) (o >>= k)
adds_then s more others None k a h = tt
adds_then s more others (Some done) k a h = shifted s done more others (k done) a (h done)

grown : (s done : State) (more : List (List ℕ)) (o : Option State) → names done.variables ≡ names s.variables ++ more → Grows done o → Grows s o
grown s done more None e g = tt
grown s done more (Some last) e g = (more ++ g.0, g.1 ∙ ap (λ ns. ns ++ g.0) e ∙ append_assoc (names s.variables) more g.0)

grows_then : (s : State) (more : List (List ℕ)) (o : Option State) (k : State → Option State) → Adds s more o → ((done : State) → Grows done (k done)) → Grows s (o >>= k)
grows_then s more None k a h = tt
grows_then s more (Some done) k a h = grown s done more (k done) a (h done)

stays : (s : State) → Adds s [] (Some s)
stays s = sym (append-nil (names s.variables))

-- behind a block, the names are those before it
left : (s : State) (o : Option State) → Grows s o → Adds s [] (o >>= (λ done. Some (leave s done)))
left s None g = tt
left s (Some done) g = take_names s.variables done.variables g.0 g.1 ∙ sym (append-nil (names s.variables))

pub turn_adds : (body : State → Option State) (h : (s : State) → Grows s (body s)) (idents : List Ident) (fields : List Value) (s : State) → Adds s [] (turn body idents fields s)
turn_adds body h idents fields s =
    elim (paired (map (λ (ident : Ident). ident.text) idents) fields) as (λ o. Adds s [] (o >>= (λ inner. body (with_variables (s.variables ++ inner) s) >>= (λ done. Some (leave s done))))) [
      | None ↦ tt
      | Some inner ↦
          let inside = with_variables (s.variables ++ inner) s in
          left s (body inside) (grown s inside (names inner) (body inside) (names_append s.variables inner) (h inside))
    ]

turns_add : (f : List Value → State → Option State) (h : (fields : List Value) (s : State) → Adds s [] (f fields s)) (group : List (List Value)) (s : State) → Adds s [] (turns f group s)
turns_add f h [] s = stays s
turns_add f h (fields ∷ group) s = adds_then s [] [] (f fields s) (turns f group) (h fields s) (λ done. turns_add f h group done)

-- the names of variables of which one has another value
abbrev pub SameNames : Named Value → Option (Named Value) → Type 0
SameNames variables None = Unit {0}
SameNames variables (Some others) = names others ≡ names variables

with_front : (pair : List ℕ × Value) (pairs : Named Value) (o : Option (Named Value)) → SameNames pairs o → SameNames (pair ∷ pairs) (option_map (λ others. pair ∷ others) o)
with_front pair pairs None e = tt
with_front pair pairs (Some others) e = ap (◌∷◌ pair.0) e

replaced_names : (name : List ℕ) (v : Value) (variables : Named Value) → SameNames variables (replaced name v variables)
replaced_names name v [] = tt
replaced_names name v (pair ∷ pairs) =
    elim (bytes_eq name pair.0) as (λ b. SameNames (pair ∷ pairs) (cond b (Some ((pair.0, v) ∷ pairs)) (option_map (λ others. pair ∷ others) (replaced name v pairs)))) [
      | true ↦ refl
      | false ↦ with_front pair pairs (replaced name v pairs) (replaced_names name v pairs)
    ]

set_adds : (s : State) (o : Option (Named Value)) → SameNames s.variables o → Adds s [] (o >>= (λ variables. Some (with_variables variables s)))
set_adds s None e = tt
set_adds s (Some variables) e = e ∙ sym (append-nil (names s.variables))

-- the name that a statement adds to its block
abbrev pub added : Statement → List (List ℕ)
added (Let ident value) = ident.text ∷ []
added (Set ident value) = []
added (If' test shape chosen other) = []
added (For' idents stream shape body) = []
added (Emit line args) = []
added (Give line value) = []

-- the names behind a statement
mutual
  pub after_adds : (call : Call) (st : Statement) (s : State) → Adds s (added st) (after call st s)
  after_adds call (Let ident value) s =
      elim (value_in call s value) as (λ o. Adds s (ident.text ∷ []) (o >>= (λ v. Some (with_variables (s.variables ++ (ident.text, v) ∷ []) s)))) [
        | None ↦ tt
        | Some v ↦ names_append s.variables ((ident.text, v) ∷ [])
      ]
  after_adds call (Set ident value) s =
      elim (value_in call s value) as (λ o. Adds s [] (o >>= (λ v. replaced ident.text v s.variables >>= (λ variables. Some (with_variables variables s))))) [
        | None ↦ tt
        | Some v ↦ set_adds s (replaced ident.text v s.variables) (replaced_names ident.text v s.variables)
      ]
  after_adds call (If' test shape chosen other) s =
      elim (number_in call s test) as (λ o. Adds s [] (o >>= (λ n. cond (is_true n) (row_after call chosen s) (else_after call other s) >>= (λ done. Some (leave s done))))) [
        | None ↦ tt
        | Some n ↦ elim (is_true n) as (λ b. Adds s [] (cond b (row_after call chosen s) (else_after call other s) >>= (λ done. Some (leave s done)))) [
          | true ↦ left s (row_after call chosen s) (row_grows call chosen s)
          | false ↦ left s (else_after call other s) (else_grows call other s)
        ]
      ]
  after_adds call (For' idents stream shape body) s =
      elim (looked_up stream.text call.groups) as (λ o. Adds s [] (o >>= (λ group. turns (turn (row_after call body) idents) group s))) [
        | None ↦ tt
        | Some group ↦ turns_add (turn (row_after call body) idents) (turn_adds (row_after call body) (λ s. row_grows call body s) idents) group s
      ]
  after_adds call (Emit line args) s =
      elim (all_of (map (value_in call s) args)) as (λ o. Adds s [] (o >>= (λ values. record_of values >>= (λ row. Some (emitted row s))))) [
        | None ↦ tt
        | Some values ↦ elim (record_of values) as (λ o. Adds s [] (o >>= (λ row. Some (emitted row s)))) [ None ↦ tt | Some row ↦ stays s ]
      ]
  after_adds call (Give line value) s =
      elim (number_in call s value) as (λ o. Adds s [] (o >>= (λ n. Some (gave n s)))) [ None ↦ tt | Some n ↦ stays s ]

  else_grows : (call : Call) (other : Held-Statement-If-2) (s : State) → Grows s (else_after call other s)
  else_grows call None' s = ([], stays s)
  else_grows call (Some' shape row) s = row_grows call row s

  pub row_grows : (call : Call) {n : _} (row : Row_of-Statement n) (s : State) → Grows s (row_after call row s)
  row_grows call end_of-Statement s = ([], stays s)
  row_grows call (more_of-Statement st sts) s = grows_then s (added st) (after call st s) (row_after call sts) (after_adds call st s) (λ done. row_grows call sts done)

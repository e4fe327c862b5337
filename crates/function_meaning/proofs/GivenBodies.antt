-- Bodies keep values and emit values.
use Rattle.std.proofs.Common.{ℕ, zero, suc, nat_le, Bool, true, false, cond, List, [], ◌∷◌, ◌++◌, Option, None, Some, option_map, IfSome, FitsSigned, arith, length, map, take, w64}
use Rattle.std.specs.List.{AllByRecursion}
use Rattle.std.specs.Str.{bytes_eq}
use Rattle.hal_base.specs.declared.record.Record.{Record}
use Rattle.hal_base.specs.declared.value.Value.{Value}
use Rattle.hal_base.specs.Values.{IsValue, record_values}
use Rattle.program_tokens.specs.declared.token.Ident.{Ident}
use Rattle.function_language.specs.declared.tree.Statement.{Statement, Let, Set, If', For', Emit, Give, Row_of-Statement, end_of-Statement, more_of-Statement, Held-Statement-If-2, None', Some'}
use Rattle.operations.specs.Applied.{is_true}
use Rattle.function_meaning.specs.Expressions.{Named, looked_up, paired}
use Rattle.function_meaning.specs.Optional.{◌>>=◌, all_of}
use Rattle.function_meaning.specs.Statements.{Call, State, after, all_after, else_after, leave, number_in, record_of, replaced, row_after, start, turn, turns, value_in, with_variables}
use Rattle.function_meaning.proofs.GivenExpressions.{EachHas, IsRoundOf, all_there, looked_up_has, number_gives, paired_has, some_made, some_then, value_gives, values_give}
use Rattle.function_meaning.proofs.LiteralValues.{ValuesInElse, ValuesInRow, ValuesInStatement}

-- ---- lists

pub each_both : {A : Type 0} (P : A → Type 0) (xs ys : List A) → AllByRecursion P xs → AllByRecursion P ys → AllByRecursion P (xs ++ ys)
each_both P [] ys p q = q
each_both P (x ∷ xs) ys p q = (p.0, each_both P xs ys p.1 q)

each_taken : {A : Type 0} (P : A → Type 0) (n : ℕ) (xs : List A) → AllByRecursion P xs → AllByRecursion P (take n xs)
each_taken P zero xs all = tt
each_taken P (suc n) [] all = tt
each_taken P (suc n) (x ∷ xs) all = (all.0, each_taken P n xs all.1)

-- ---- records and variables

-- a record of values
abbrev pub HasValues : Record → Type 0
HasValues row = AllByRecursion IsValue (record_values row)

-- field lists of values
abbrev pub AreGroupValues : List (List Value) → Type 0
AreGroupValues group = AllByRecursion (AllByRecursion IsValue) group

record_has : (values : List Value) → AllByRecursion IsValue values → IfSome (record_of values) HasValues
record_has [] all = tt
record_has (key ∷ fields) all = elim (nat_le (length fields) 7) as (λ b. IfSome (cond b (Some (record { key = key; fields = fields })) None) HasValues) [ true ↦ all | false ↦ tt ]

replaced_has : (name : List ℕ) (v : Value) (pairs : Named Value) → IsValue v → EachHas IsValue pairs → IfSome (replaced name v pairs) (EachHas IsValue)
replaced_has name v [] f all = tt
replaced_has name v (pair ∷ pairs) f all =
    elim (bytes_eq name pair.0) as (λ b. IfSome (cond b (Some ((pair.0, v) ∷ pairs)) (option_map (λ others. pair ∷ others) (replaced name v pairs))) (EachHas IsValue)) [
      | true ↦ (f, all.1)
      | false ↦ some_made (EachHas IsValue) (replaced name v pairs) _ (replaced_has name v pairs f all.1) (λ others rest. (all.0, rest))
    ]

-- the variables are values, records of values were emitted, and a number of 64 bits was given
pub record HoldsValues (s : State) : Type 0 where
  pub variables : EachHas IsValue s.variables
  pub out : AllByRecursion HasValues s.out
  pub given : FitsSigned w64 s.given

pub start_holds : HoldsValues start
start_holds = record { variables = tt; out = tt; given = record { sfits = omega arith } }

with_holds : (variables : Named Value) (s : State) → EachHas IsValue variables → HoldsValues s → HoldsValues (with_variables variables s)
with_holds variables s all holds = record { variables = all; out = holds.out; given = holds.given }

leave_holds : (s done : State) → HoldsValues done → HoldsValues (leave s done)
leave_holds s done holds = with_holds (take (length s.variables) done.variables) done (each_taken _ (length s.variables) done.variables holds.variables) holds

left_holds : (s : State) (o : Option State) → IfSome o HoldsValues → IfSome (o >>= (λ done. Some (leave s done))) HoldsValues
left_holds s o h = some_then HoldsValues o _ h (λ done holds. leave_holds s done holds)

turns_hold : (f : List Value → State → Option State) → ((fields : List Value) (s : State) → AllByRecursion IsValue fields → HoldsValues s → IfSome (f fields s) HoldsValues) →
    (group : List (List Value)) (s : State) → AreGroupValues group → HoldsValues s → IfSome (turns f group s) HoldsValues
turns_hold f h [] s all holds = holds
turns_hold f h (fields ∷ group) s all holds = some_then HoldsValues (f fields s) (turns f group) (h fields s all.0 holds) (λ done more. turns_hold f h group done all.1 more)

turn_holds : (row : State → Option State) (idents : List Ident) → ((s : State) → HoldsValues s → IfSome (row s) HoldsValues) →
    (fields : List Value) (s : State) → AllByRecursion IsValue fields → HoldsValues s → IfSome (turn row idents fields s) HoldsValues
turn_holds row idents h fields s all holds =
    some_then HoldsValues (paired (map (λ (ident : Ident). ident.text) idents) fields) _ (paired_has IsValue (map (λ (ident : Ident). ident.text) idents) fields all)
    (λ inner each.
    let inside = with_variables (s.variables ++ inner) s in
    left_holds s (row inside) (h inside (with_holds (s.variables ++ inner) s (each_both _ s.variables inner holds.variables each) holds)))

module _ (call : Call) (is_round : IsRoundOf call.round) (params : EachHas IsValue call.params) (groups : EachHas AreGroupValues call.groups) where
  in_scope : (s : State) → HoldsValues s → EachHas IsValue (call.params ++ s.variables)
  in_scope s holds = each_both _ call.params s.variables params holds.variables

  mutual
    statement_holds : (st : Statement) (s : State) → ValuesInStatement st → HoldsValues s → IfSome (after call st s) HoldsValues
    statement_holds (Let ident value) s v holds =
        some_then HoldsValues (value_in call s value) _ (value_gives call.round (call.params ++ s.variables) is_round (in_scope s holds) value v)
        (λ x f. with_holds (s.variables ++ (ident.text, x) ∷ []) s (each_both _ s.variables ((ident.text, x) ∷ []) holds.variables (f, tt)) holds)
    statement_holds (Set ident value) s v holds =
        some_then HoldsValues (value_in call s value) _ (value_gives call.round (call.params ++ s.variables) is_round (in_scope s holds) value v)
        (λ x f. some_then HoldsValues (replaced ident.text x s.variables) _ (replaced_has ident.text x s.variables f holds.variables) (λ variables all. with_holds variables s all holds))
    statement_holds (If' test shape chosen other) s v holds =
        some_then HoldsValues (number_in call s test) _ (number_gives call.round (call.params ++ s.variables) is_round (in_scope s holds) test v.0)
        (λ n f. left_holds s (cond (is_true n) (row_after call chosen s) (else_after call other s)) (one_of (is_true n) (row_after call chosen s) (else_after call other s) (row_holds chosen s v.1 holds) (else_holds other s v.2 holds)))
      where
        one_of : (b : Bool) (x y : Option State) → IfSome x HoldsValues → IfSome y HoldsValues → IfSome (cond b x y) HoldsValues
        one_of true x y p q = p
        one_of false x y p q = q
    statement_holds (For' idents stream shape body) s v holds =
        some_then HoldsValues (looked_up stream.text call.groups) _ (looked_up_has AreGroupValues stream.text call.groups groups)
        (λ group all. turns_hold (turn (row_after call body) idents) (λ fields s each holds. turn_holds (row_after call body) idents (λ s holds. row_holds body s v holds) fields s each holds) group s all holds)
    statement_holds (Emit line args) s v holds =
        some_then HoldsValues (all_of (map (value_in call s) args)) _ (all_there IsValue (map (value_in call s) args) (values_give call.round (call.params ++ s.variables) is_round (in_scope s holds) args v))
        (λ values all. some_then HoldsValues (record_of values) _ (record_has values all) (λ row has. record { variables = holds.variables; out = each_both HasValues s.out (row ∷ []) holds.out (has, tt); given = holds.given }))
    statement_holds (Give line value) s v holds =
        some_then HoldsValues (number_in call s value) _ (number_gives call.round (call.params ++ s.variables) is_round (in_scope s holds) value v) (λ n f. record { variables = holds.variables; out = holds.out; given = f })

    else_holds : (other : Held-Statement-If-2) (s : State) → ValuesInElse other → HoldsValues s → IfSome (else_after call other s) HoldsValues
    else_holds None' s v holds = holds
    else_holds (Some' shape row) s v holds = row_holds row s v holds

    row_holds : {n : _} (row : Row_of-Statement n) (s : State) → ValuesInRow row → HoldsValues s → IfSome (row_after call row s) HoldsValues
    row_holds end_of-Statement s v holds = holds
    row_holds (more_of-Statement st sts) s v holds = some_then HoldsValues (after call st s) (row_after call sts) (statement_holds st s v.0 holds) (λ done more. row_holds sts done v.1 more)

  -- a body over values
  pub body_holds : (body : List Statement) (s : State) → AllByRecursion ValuesInStatement body → HoldsValues s → IfSome (all_after call body s) HoldsValues
  body_holds [] s v holds = holds
  body_holds (st ∷ sts) s v holds = some_then HoldsValues (after call st s) (all_after call sts) (statement_holds st s v.0 holds) (λ done more. body_holds sts done v.1 more)

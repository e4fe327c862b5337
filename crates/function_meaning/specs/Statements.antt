-- What statements do.
use Rattle.std.specs.Prelude.{ℕ, nat_le, ℤ, pos, cond, List, [], ◌∷◌, ◌++◌, Option, None, Some, option_map, length, map, take}
use Rattle.std.specs.Str.{bytes_eq}
use Rattle.hal_base.specs.declared.record.Record.{Record}
use Rattle.hal_base.specs.declared.value.Value.{Value}
use Rattle.function_language.specs.declared.tree.Expr.{Expr}
use Rattle.program_tokens.specs.declared.token.Ident.{Ident}
use Rattle.function_language.specs.declared.tree.Statement.{Statement, Let, Set, If', For', Emit, Give, Row_of-Statement, end_of-Statement, more_of-Statement, Held-Statement-If-2, None', Some'}
use Rattle.operations.specs.Applied.{is_true}
use Rattle.function_meaning.specs.Expressions.{Named, looked_up, number_of, paired, value_of}
use Rattle.function_meaning.specs.Optional.{◌>>=◌, all_of}

-- what stands still while a function runs: the round, if it has one, its parameters, and the group of each of its streams
pub record Call : Type 0 where
  pub round : Option ℕ
  pub params : Named Value
  pub groups : Named (List (List Value))

-- what a function has done so far: its variables, the records that it emitted, and the number that it gave last
pub record State : Type 0 where
  pub variables : Named Value
  pub out : List Record
  pub given : ℤ

-- before the first statement
abbrev pub start : State
start = record { variables = []; out = []; given = pos 0 }

-- with other variables
abbrev pub with_variables : Named Value → State → State
with_variables variables s = record { variables = variables; out = s.out; given = s.given }

-- an expression, where parameters come before variables
abbrev pub value_in : Call → State → Expr → Option Value
value_in call s expr = value_of call.round (call.params ++ s.variables) expr

-- an expression whose value is a number
abbrev pub number_in : Call → State → Expr → Option ℤ
number_in call s expr = number_of call.round (call.params ++ s.variables) expr

-- the first of this name has another value; parameters are not among them
abbrev pub replaced : List ℕ → Value → Named Value → Option (Named Value)
replaced name v [] = None
replaced name v (pair ∷ pairs) = cond (bytes_eq name pair.0) (Some ((pair.0, v) ∷ pairs)) (option_map (λ others. pair ∷ others) (replaced name v pairs))

-- the variables of a block are gone behind it
abbrev pub leave : State → State → State
leave before s = with_variables (take (length before.variables) s.variables) s

-- a record of 1 to 8 values, the key first
abbrev pub record_of : List Value → Option Record
record_of [] = None
record_of (key ∷ fields) = cond (nat_le (length fields) 7) (Some (record { key = key; fields = fields })) None

-- with one more record emitted
abbrev pub emitted : Record → State → State
emitted row s = record { variables = s.variables; out = s.out ++ row ∷ []; given = s.given }

-- with another number given
abbrev pub gave : ℤ → State → State
gave n s = record { variables = s.variables; out = s.out; given = n }

-- the body of a loop for one field list, whose fields have these names within it
abbrev pub turn : (State → Option State) → List Ident → List Value → State → Option State
turn body idents fields s = do
  inner ← paired (map (λ (ident : Ident). ident.text) idents) fields
  done ← body (with_variables (s.variables ++ inner) s)
  Some (leave s done)

-- one turn after another
abbrev pub turns : {S : Type 0} → (List Value → S → Option S) → List (List Value) → S → Option S
turns f [] s = Some s
turns f (fields ∷ group) s = do
  done ← f fields s
  turns f group done

-- what is done behind a statement; nothing where a name is not known, or a value is missing or of the wrong kind
abbrev mutual
  pub after : Call → Statement → State → Option State
  after call (Let ident value) s = do
    v ← value_in call s value
    Some (with_variables (s.variables ++ (ident.text, v) ∷ []) s)
  after call (Set ident value) s = do
    v ← value_in call s value
    variables ← replaced ident.text v s.variables
    Some (with_variables variables s)
  after call (If' test shape chosen other) s = do
    n ← number_in call s test
    done ← cond (is_true n) (row_after call chosen s) (else_after call other s)
    Some (leave s done)
  after call (For' idents stream shape body) s = do
    group ← looked_up stream.text call.groups
    turns (turn (row_after call body) idents) group s
  after call (Emit line args) s = do
    values ← all_of (map (value_in call s) args)
    row ← record_of values
    Some (emitted row s)
  after call (Give line value) s = do
    n ← number_in call s value
    Some (gave n s)

  -- behind the block of an `else`
  pub else_after : Call → Held-Statement-If-2 → State → Option State
  else_after call None' s = Some s
  else_after call (Some' shape other) s = row_after call other s

  -- behind the last statement of an inner block
  pub row_after : {n : _} → Call → Row_of-Statement n → State → Option State
  row_after call end_of-Statement s = Some s
  row_after call (more_of-Statement statement statements) s = do
    done ← after call statement s
    row_after call statements done

-- behind the last of some statements
abbrev pub all_after : Call → List Statement → State → Option State
all_after call [] s = Some s
all_after call (statement ∷ statements) s = do
  done ← after call statement s
  all_after call statements done

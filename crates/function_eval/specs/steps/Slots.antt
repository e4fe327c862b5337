-- What functions do that have slots in place of names.
use Rattle.std.specs.Prelude.{ℕ, ◌==◌, ℤ, pos, cond, List, [], ◌∷◌, ◌++◌, Option, None, Some, option_map, length, map, nat_lt, set, slice_get, take}
use Rattle.hal_base.specs.declared.record.Record.{Record}
use Rattle.hal_base.specs.declared.value.Value.{Value}
use Rattle.hal_base.specs.declared.value.Value.TheVariants as value
use Rattle.hal_base.specs.Parts.{default_part}
use Rattle.hal_base.specs.Values.{key_pieces, record_values}
use Rattle.operations.specs.Applied.{applied, at_least_zero, is_true}
use Rattle.function_eval.specs.declared.running.Running.{Running}
use Rattle.function_eval.specs.declared.resolved.ResolvedExpr as resolved_expr
use Rattle.function_eval.specs.declared.resolved.ResolvedExpr.{ResolvedExpr}
use Rattle.function_eval.specs.declared.resolved.ResolvedStatement as resolved_statement
use Rattle.function_eval.specs.declared.resolved.ResolvedStatement.{ResolvedStatement}
use Rattle.function_eval.specs.declared.resolved.ResolvedFunction.{ResolvedFunction}
use Rattle.function_eval.specs.declared.resolved.ResolvedFunction.TheVariants.{Map, Reduce, Distance, Partition}
use Rattle.function_meaning.specs.Expressions.{as_number, round_value}
use Rattle.function_meaning.specs.Optional.{◌>>=◌, all_of}
use Rattle.function_meaning.specs.Statements.{record_of, turns}

-- ---- what they do

-- an expression
abbrev mutual
  pub slot_value : Option ℕ → List Value → ResolvedExpr → Option Value
  slot_value round slots (resolved_expr.Int n) = Some (value.Int n)
  slot_value round slots (resolved_expr.Text text) = Some (value.Text text)
  slot_value round slots resolved_expr.Round = option_map round_value round
  slot_value round slots (resolved_expr.Slot place) = slice_get slots place
  slot_value round slots (resolved_expr.Call' operation shape args) = all_of (slot_values round slots args) >>= applied operation
  slot_value round slots resolved_expr.Unresolved = None

  -- each argument of a call
  pub slot_values : {n : _} → Option ℕ → List Value → resolved_expr.Row_of-ResolvedExpr n → List (Option Value)
  slot_values round slots resolved_expr.end_of-ResolvedExpr = []
  slot_values round slots (resolved_expr.more_of-ResolvedExpr arg args) = slot_value round slots arg ∷ slot_values round slots args

-- an expression whose value is a number
abbrev pub slot_number : Option ℕ → List Value → ResolvedExpr → Option ℤ
slot_number round slots expr = slot_value round slots expr >>= as_number

-- ---- statements; a frame is the round, if there is one, and the groups of the streams

-- the slots of a block are gone behind it
abbrev pub slot_leave : Running → Running → Running
slot_leave before s = record { slots = take (length before.slots) s.slots; out = s.out; given = s.given }

abbrev pub with_slots : List Value → Running → Running
with_slots slots s = record { slots = slots; out = s.out; given = s.given }

-- the body of a loop over lists of so many fields, for one of them
abbrev pub slot_turn : (Running → Option Running) → ℕ → List Value → Running → Option Running
slot_turn body count fields s = cond (length fields == count) (option_map (slot_leave s) (body (with_slots (s.slots ++ fields) s))) None

-- the slot at a place has another value
abbrev pub slot_set : ℕ → Value → List Value → Option (List Value)
slot_set place v slots = cond (nat_lt place (length slots)) (Some (set slots place v)) None

abbrev pub slot_emitted : Record → Running → Running
slot_emitted row s = record { slots = s.slots; out = s.out ++ row ∷ []; given = s.given }

abbrev pub slot_gave : ℤ → Running → Running
slot_gave n s = record { slots = s.slots; out = s.out; given = n }

-- what is done behind a statement
abbrev mutual
  pub slot_after : Option ℕ → List (List (List Value)) → ResolvedStatement → Running → Option Running
  slot_after round groups (resolved_statement.Let expr) s = do
    v ← slot_value round s.slots expr
    Some (with_slots (s.slots ++ v ∷ []) s)
  slot_after round groups (resolved_statement.Set place expr) s = do
    v ← slot_value round s.slots expr
    slots ← slot_set place v s.slots
    Some (with_slots slots s)
  slot_after round groups (resolved_statement.If' test shape chosen shape' other) s = do
    n ← slot_number round s.slots test
    done ← cond (is_true n) (slot_row_after round groups chosen s) (slot_row_after round groups other s)
    Some (slot_leave s done)
  slot_after round groups (resolved_statement.For' stream fields shape body) s = do
    group ← slice_get groups stream
    turns (slot_turn (slot_row_after round groups body) fields) group s
  slot_after round groups (resolved_statement.Emit args) s = do
    values ← all_of (map (slot_value round s.slots) args)
    row ← record_of values
    Some (slot_emitted row s)
  slot_after round groups (resolved_statement.Give expr) s = do
    n ← slot_number round s.slots expr
    Some (slot_gave n s)
  slot_after round groups resolved_statement.Unresolved s = None

  -- behind the last statement of an inner block
  pub slot_row_after : {n : _} → Option ℕ → List (List (List Value)) → resolved_statement.Row_of-ResolvedStatement n → Running → Option Running
  slot_row_after round groups resolved_statement.end_of-ResolvedStatement s = Some s
  slot_row_after round groups (resolved_statement.more_of-ResolvedStatement statement statements) s = do
    done ← slot_after round groups statement s
    slot_row_after round groups statements done

-- behind the last of some statements
abbrev pub slot_all_after : Option ℕ → List (List (List Value)) → List ResolvedStatement → Running → Option Running
slot_all_after round groups [] s = Some s
slot_all_after round groups (statement ∷ statements) s = do
  done ← slot_after round groups statement s
  slot_all_after round groups statements done

-- ---- functions

-- a body in a round, if there is one, over these groups and from these parameters on
abbrev pub slot_ran : Option ℕ → List (List (List Value)) → List Value → List ResolvedStatement → Option Running
slot_ran round groups params body = slot_all_after round groups body (record { slots = params; out = []; given = pos 0 })

abbrev pub out_of : Running → List Record
out_of done = done.out

abbrev pub given_of : Running → ℤ
given_of done = done.given

-- the records that a map emits for a record
abbrev pub slot_map : ℕ → ResolvedFunction → Record → Option (List Record)
slot_map round (Map params body) row = cond (length (record_values row) == params) (option_map out_of (slot_ran (Some round) [] (record_values row) body)) None
slot_map round (Reduce streams body) row = None
slot_map round (Distance body) row = None
slot_map round (Partition body) row = None

-- the records that a reduce emits for a key and its groups
abbrev pub slot_reduce : ℕ → ResolvedFunction → Value → List (List (List Value)) → Option (List Record)
slot_reduce round (Map params body) key groups = None
slot_reduce round (Reduce streams body) key groups = cond (length groups == streams) (option_map out_of (slot_ran (Some round) groups (key_pieces key) body)) None
slot_reduce round (Distance body) key groups = None
slot_reduce round (Partition body) key groups = None

-- the distance of two groups of a key
abbrev pub slot_distance : ResolvedFunction → Value → List (List Value) → List (List Value) → Option ℕ
slot_distance (Map params body) key old new = None
slot_distance (Reduce streams body) key old new = None
slot_distance (Distance body) key old new = option_map at_least_zero (option_map given_of (slot_ran None (old ∷ new ∷ []) (key_pieces key) body))
slot_distance (Partition body) key old new = None

-- the part of a key, of so many
abbrev pub slot_partition : ℕ → ℕ → ResolvedFunction → Value → Option ℕ
slot_partition parts round (Map params body) key = None
slot_partition parts round (Reduce streams body) key = None
slot_partition parts round (Distance body) key = None
slot_partition parts round (Partition body) key = option_map (λ n. default_part (value.Int n) parts) (option_map given_of (slot_ran (Some round) [] (key_pieces key) body))

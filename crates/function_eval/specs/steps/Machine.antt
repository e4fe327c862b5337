-- What the machine does that runs functions over slots.
use Rattle.std.specs.Prelude.{◌≡◌, ℕ, List, [], ◌∷◌, Option, None, Some, option_map, Result, Ok, Err, map, slice_get}
use Rattle.hal_base.specs.declared.record.Record.{Record}
use Rattle.hal_base.specs.declared.value.Value.{Value}
use Rattle.operations.specs.declared.operation.Operation.{Operation}
use Rattle.operations.specs.Applied.{applied}
use Rattle.function_eval.specs.declared.machine.Stop.{Stop}
use Rattle.function_eval.specs.declared.machine.Stop.TheVariants.{NoValue, Memory}
use Rattle.function_eval.specs.declared.running.Running.{Running}
use Rattle.function_eval.specs.declared.running.Streams.{Streams}
use Rattle.function_eval.specs.declared.running.Streams.TheVariants.{All, Two}
use Rattle.function_eval.specs.declared.resolved.ResolvedExpr.{ResolvedExpr}
use Rattle.function_eval.specs.declared.resolved.ResolvedStatement.{ResolvedStatement}
use Rattle.function_meaning.specs.Optional.{◌>>=◌, all_of}
use Rattle.function_eval.specs.steps.Slots.{out_of, slot_all_after, slot_leave, slot_turn, slot_value}
use Rattle.function_meaning.specs.Statements.{record_of, turns}

-- ---- how a step ends

-- this holds where the step stopped because something has no value
abbrev pub OnNoValue : Stop → Type 0 → Type 0
OnNoValue NoValue P = P
OnNoValue Memory P = Unit

-- the value that is found, or a stop because there is none
abbrev pub Gives : {A : Type 0} → Option A → Result A Stop → Type 0
Gives found (Ok a) = found ≡ Some a
Gives found (Err stop) = OnNoValue stop (found ≡ None)

-- the state that is found, or a stop because there is none
abbrev pub Ran : {S A : Type 0} → Option S → Result A Stop → S → Type 0
Ran found (Ok a) new = found ≡ Some new
Ran found (Err stop) new = OnNoValue stop (found ≡ None)

-- ---- streams

-- the groups of the streams
abbrev pub groups_of : Streams → List (List (List Value))
groups_of (All groups) = groups.now
groups_of (Two before after) = before.now ∷ after.now ∷ []

-- ---- expressions and statements by the lists of what they hold

-- an operation for these arguments
abbrev pub slot_call : Option ℕ → List Value → Operation → List ResolvedExpr → Option Value
slot_call round slots operation args = all_of (map (slot_value round slots) args) >>= applied operation

-- the record of these arguments
abbrev pub slot_record : Option ℕ → List Value → List ResolvedExpr → Option Record
slot_record round slots args = all_of (map (slot_value round slots) args) >>= record_of

-- behind a block
abbrev pub slot_block : Option ℕ → List (List (List Value)) → List ResolvedStatement → Running → Option Running
slot_block round groups body s = option_map (slot_leave s) (slot_all_after round groups body s)

-- the body of a loop for each of some lists of so many fields
abbrev pub slot_turns : Option ℕ → List (List (List Value)) → List ResolvedStatement → ℕ → List (List Value) → Running → Option Running
slot_turns round groups body count = turns (slot_turn (slot_all_after round groups body) count)

-- behind a loop
abbrev pub slot_for : Option ℕ → List (List (List Value)) → ℕ → ℕ → List ResolvedStatement → Running → Option Running
slot_for round groups stream count body s = do
  group ← slice_get groups stream
  slot_turns round groups body count group s

-- the records behind a body are those that are found, or it stopped because something has no value
abbrev pub Ended : {A : Type 0} → Option Running → Result A Stop → List Record → Type 0
Ended found (Ok a) rows = option_map out_of found ≡ Some rows
Ended found (Err stop) rows = OnNoValue stop (found ≡ None)

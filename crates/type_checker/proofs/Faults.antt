-- The first fault of a step is that of all the steps.
use Rattle.std.proofs.Common.{◌≡◌, ◌∙◌, ◌+◌, ◌<◌, ◌++◌, ◌∷◌, ℕ, ap, drop, get_or, length, suc, sym, List, [], Ok, Err}
use Rattle.std.proofs.lemmas.List.{at_drop_more}
use Rattle.function_language.specs.declared.tree.Function.{Function}
use Rattle.type_checker.specs.declared.fault.TypeFault.{TypeFault}
use Rattle.type_checker.specs.declared.fault.TypeFault.TheVariants.{DoubleName, EmitMismatch, Memory, StreamMismatch, UnknownName, WrongCount, WrongKind}
use Rattle.type_checker.specs.Checked.{Checked, ◌>>◌}
use Rattle.type_checker.specs.Functions.{body_right, functions_right, name_free, name_of}
use Rattle.type_checker.specs.steps.Checks.{FaultIs, function_right}

-- what makes the one the same fault as the other makes it
pub fault_through : {A B : Type 0} (found : Checked A) (other : Checked B) (fault : TypeFault) → (found ≡ Err fault → other ≡ Err fault) → FaultIs found fault → FaultIs other fault
fault_through found other Memory f e = tt
fault_through found other (WrongKind function line want got) f e = f e
fault_through found other (UnknownName function line) f e = f e
fault_through found other (WrongCount function line) f e = f e
fault_through found other (EmitMismatch function line) f e = f e
fault_through found other (DoubleName function line) f e = f e
fault_through found other (StreamMismatch function line) f e = f e

-- the fault of a step stays, whatever comes behind it
pub fault_by : {A B : Type 0} (found : Checked A) (more : Checked B) (fault : TypeFault) → FaultIs found fault → FaultIs (found >> more) fault
fault_by found more fault f = fault_through found (found >> more) fault (λ e. ap (λ o. o >> more) e) f

-- the fault of one of two steps is that of both, whatever comes behind them
of_two : {A B C D : Type 0} (first : Checked A) (second : Checked B) (c : C) (more : Checked D) (fault : TypeFault) → (first >> (second >> Ok c)) ≡ Err fault → (first >> (second >> more)) ≡ Err fault
of_two (Ok a) (Ok b) c more fault e = cc
of_two (Ok a) (Err other) c more fault e = cc
of_two (Err other) second c more fault e = cc

-- the fault of a function is that of all from it on
pub function_fault : (functions : List Function) (i : ℕ) (function : Function) (n : ℕ) (before : List (List ℕ)) (fault : TypeFault) → i < length functions → function ≡ get_or functions i function → functions_right n before (drop i functions) ≡ functions_right 0 [] functions → FaultIs (function_right n before function) fault → FaultIs (functions_right 0 [] functions) fault
function_fault functions i function n before fault l e all f =
    let more = drop (i + 1) functions in
    let names = before ++ (name_of function).text ∷ [] in
    let whole = at_drop_more (functions_right n before) functions i function l ∙ ap (λ function. functions_right n before (function ∷ more)) (sym e) in
    fault_through (function_right n before function) (functions_right 0 [] functions) fault
    (λ err. sym all ∙ whole ∙ of_two (name_free n before (name_of function)) (body_right n function) names (functions_right (suc n) names more) fault err)
    f

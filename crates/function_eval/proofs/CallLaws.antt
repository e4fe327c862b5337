-- What a body emits behind what was there.
use Rattle.std.proofs.Common.{◌≡◌, ℕ, pos, List, [], ◌++◌, append-nil, Option, None, Some, option_map, Result, Err, subst, sym, ap, ◌∙◌, length, take}
use Rattle.hal_base.specs.declared.record.Record.{Record}
use Rattle.hal_base.specs.declared.value.Value.{Value}
use Rattle.function_eval.specs.declared.running.Running.{Running}
use Rattle.function_eval.specs.declared.resolved.ResolvedStatement.{ResolvedStatement}
use Rattle.function_eval.specs.declared.machine.Stop.{Stop}
use Rattle.function_eval.specs.declared.machine.Stop.TheVariants.{NoValue}
use Rattle.function_eval.specs.steps.Machine.{Ended, OnNoValue}
use Rattle.function_meaning.specs.Optional.{or_none}
use Rattle.function_eval.specs.steps.Slots.{out_of, slot_all_after, slot_ran}
use Rattle.predefined_functions.specs.steps.Extended.{Extends}
use Rattle.predefined_functions.proofs.Extending.{extends_back}
use Rattle.function_eval.proofs.SlotOutputs.{all_behind, behind}

module _ (round : Option ℕ) (groups : List (List (List Value))) (slots : List Value) (body : List ResolvedStatement) (rows : List Record) where
  abbrev begun : List Record → Running
  begun out = record { slots = slots; out = out; given = pos 0 }

  behind_rows : slot_all_after round groups body (begun rows) ≡ option_map (behind rows) (slot_ran round groups slots body)
  behind_rows = ap (λ out. slot_all_after round groups body (begun out)) (sym (append-nil rows)) ∙ all_behind round groups rows body (begun [])

  -- what was there, and then what the body emits
  pub emitted_behind : (all : List Record) → option_map out_of (slot_all_after round groups body (begun rows)) ≡ Some all → all ≡ rows ++ or_none (option_map out_of (slot_ran round groups slots body))
  emitted_behind all e = go (slot_ran round groups slots body) (sym (ap (option_map out_of) behind_rows) ∙ e)
    where
      go : (o : Option Running) → option_map out_of (option_map (behind rows) o) ≡ Some all → all ≡ rows ++ or_none (option_map out_of o)
      go None e = absurd (no e)
        where
          no : None ≡ Some all → ⊥
          no e = cc
      go (Some done) e = cc

  -- a body that stops emits nothing
  nothing_behind_rows : slot_all_after round groups body (begun rows) ≡ None → rows ≡ rows ++ or_none (option_map out_of (slot_ran round groups slots body))
  nothing_behind_rows e = go (slot_ran round groups slots body) (sym behind_rows ∙ e)
    where
      go : (o : Option Running) → option_map (behind rows) o ≡ None → rows ≡ rows ++ or_none (option_map out_of o)
      go None e = sym (append-nil rows)
      go (Some done) e = absurd (no e)
        where
          no : Some (behind rows done) ≡ None → ⊥
          no e = cc

  -- a body that stops because something has no value leaves what was there
  pub stopped : (out all back : List Record) (r : Result (Unit {0}) Stop) (stop : Stop) → Ended (slot_all_after round groups body (begun out)) r all → r ≡ Err stop → stop ≡ NoValue → out ≡ rows → Extends out all → back ≡ take (length rows) all →
      back ≡ rows ++ or_none (option_map out_of (slot_ran round groups slots body))
  stopped out all back r stop ended e f same grown b =
      let none = subst (λ stop. OnNoValue stop (slot_all_after round groups body (begun out) ≡ None)) f (subst (λ r. Ended (slot_all_after round groups body (begun out)) r all) e ended) in
      extends_back rows all back (subst (λ out. Extends out all) same grown) b ∙ nothing_behind_rows (subst (λ out. slot_all_after round groups body (begun out) ≡ None) same none)

-- what was there comes back
pub came_back : (rows all back : List Record) → Extends rows all → back ≡ take (length rows) all → back ≡ rows
came_back rows all back g b = extends_back rows all back g b

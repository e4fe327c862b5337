use Rattle.std.proofs.Common.{◌≡◌, ◌++◌, drop, length, map, option_map}
use Rattle.function_meaning.specs.Optional.{all_of}
use Rattle.function_eval.specs.steps.Slots.{slot_value}
use Rattle.function_eval.proofs.machine.fields.Given as goal

abbrev pub invariant-args-2 : goal.invariant-args-2
invariant-args-2 l = record {
  so_far : option_map (λ others. l.fields ++ others) (all_of (map (slot_value l.frame.round l.slots) (drop l.arg-index l.args))) ≡ all_of (map (slot_value l.frame.round l.slots) l.args);
  as_many : length l.fields ≡ l.arg-index;
}

use Rattle.std.proofs.Common.{◌≡◌, drop}
use Rattle.predefined_functions.specs.steps.Extended.{Extends}
use Rattle.function_eval.specs.steps.Slots.{slot_all_after}
use Rattle.function_eval.specs.steps.Machine.{groups_of, slot_turns}
use Rattle.function_eval.proofs.machine.+run.Given as goal

abbrev pub invariant-run_all-statements : goal.invariant-run_all-statements
invariant-run_all-statements l = record {
  so_far : slot_all_after l.frame.round (groups_of l.frame.streams) (drop l.statement-index l.statements) l.running ≡ slot_all_after l.frame.round (groups_of l.frame.streams) l.statements l.initial.running;
  kept : Extends l.initial.running.out l.running.out;
}

abbrev pub invariant-run_turns-turns : goal.invariant-run_turns-turns
invariant-run_turns-turns l = record {
  so_far : slot_turns l.frame.round (groups_of l.frame.streams) l.body l.count (drop l.fields-index l.group) l.running ≡ slot_turns l.frame.round (groups_of l.frame.streams) l.body l.count l.group l.initial.running;
  kept : Extends l.initial.running.out l.running.out;
}

use Rattle.std.proofs.Common.{◌≡◌, ◌-◌, ◌++◌, length}
use Rattle.run_model.specs.Tasks.{last_outs}
use Rattle.loop_scheduler.specs.steps.Choosing.{holders_of}
use Rattle.loop_scheduler.proofs.Held.{parts_from}
use Rattle.loop_scheduler.proofs.favoured.part_holders.Given as goal

abbrev pub invariant-parts : goal.invariant-parts
invariant-parts l = record {
  all : l.sets ++ holders_of l.fn.view (parts_from l.fn.view.shape l.fn.round l.part (l.fn.view.shape.parts - l.part)) ≡ holders_of l.fn.view (last_outs l.fn.view.shape l.fn.round);
  few : length l.sets ≡ l.part;
}

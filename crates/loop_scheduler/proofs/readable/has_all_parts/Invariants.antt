use Rattle.node_names.specs.declared.name.Name.TheVariants.{Out}
use Rattle.run_model.specs.Needs.{is_up}
use Rattle.run_model.specs.Tasks.{last, last_outs}
use Rattle.loop_scheduler.proofs.Ranges.{Testing}
use Rattle.loop_scheduler.proofs.readable.has_all_parts.Given as goal

abbrev pub invariant-parts : goal.invariant-parts
invariant-parts l = Testing (is_up l.fn.view.copies l.fn.view.up) (Out l.fn.round (last l.fn.view.shape)) l.part l.part-end (last_outs l.fn.view.shape l.fn.round)

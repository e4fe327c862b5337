use Rattle.node_names.specs.declared.name.Name.TheVariants.{Spill}
use Rattle.run_model.specs.Needs.{is_up}
use Rattle.loop_scheduler.specs.steps.Reading.{spill_round, spills_read}
use Rattle.loop_scheduler.proofs.Ranges.{Testing}
use Rattle.loop_scheduler.proofs.readable.has_source.Given as goal

abbrev pub invariant-splits : goal.invariant-splits
invariant-splits l = Testing (is_up l.fn.view.copies l.fn.view.up) (Spill (spill_round l.fn.view.shape l.fn.round l.fn.step l.fn.source) l.fn.step l.fn.source) l.split l.split-end (spills_read l.fn.view.shape l.fn.round l.fn.step l.fn.source)

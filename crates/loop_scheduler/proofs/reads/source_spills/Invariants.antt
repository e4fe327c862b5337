use Rattle.node_names.specs.declared.name.Name.TheVariants.{Spill}
use Rattle.loop_scheduler.specs.steps.Reading.{spill_round, spills_read}
use Rattle.loop_scheduler.proofs.Ranges.{Coming}
use Rattle.loop_scheduler.proofs.reads.source_spills.Given as goal

abbrev pub invariant-splits : goal.invariant-splits
invariant-splits l = Coming (Spill (spill_round l.fn.shape l.fn.round l.fn.step l.fn.source) l.fn.step l.fn.source) l.files l.split l.split-end (spills_read l.fn.shape l.fn.round l.fn.step l.fn.source)

use Rattle.run_model.specs.Needs.{is_there}
use Rattle.loop_scheduler.proofs.Ranges.{Testing}
use Rattle.cache_rebuild.specs.steps.Files.{files_in, name_of}
use Rattle.cache_rebuild.proofs.starts.are_there.Given as goal

abbrev pub invariant-files : goal.invariant-files
invariant-files l = Testing (is_there l.fn.view.copies l.fn.view.up l.fn.node) (name_of l.fn.files) l.number l.number-end (files_in l.fn.files)

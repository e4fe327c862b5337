use Rattle.std.proofs.Common.{map}
use Rattle.loop_scheduler.proofs.Ranges.{from_on}
use Rattle.cache_rebuild.specs.steps.Asking.{gone}
use Rattle.cache_rebuild.specs.steps.Files.{files_in, name_of}
use Rattle.cache_rebuild.proofs.Asks.{Asking}
use Rattle.cache_rebuild.proofs.asked.Asked.add_files.Given as goal

abbrev pub invariant-files : goal.invariant-files
invariant-files l = Asking l.fn.self.names.keys l.self.names.keys (gone l.fn.view l.fn.node (map (name_of l.fn.files) (from_on l.number l.number-end))) (gone l.fn.view l.fn.node (files_in l.fn.files))

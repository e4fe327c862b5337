use Rattle.std.proofs.Common.{◌≡◌, ◌++◌}
use Rattle.loop_scheduler.specs.Reads.{files_of}
use Rattle.valid_copies.specs.Inputs.{names_in}
use Rattle.cluster_core.proofs.attempt.input_files.Given as goal

-- the lists so far, and those that are left, are all lists
abbrev pub invariant-lists : goal.invariant-lists
invariant-lists l = names_in l.inputs.items ++ l.names-iterator.rest.items ≡ files_of l.fn.shape l.fn.task

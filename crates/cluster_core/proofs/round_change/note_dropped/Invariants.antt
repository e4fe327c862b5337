use Rattle.std.proofs.Common.{◌≡◌, ◌++◌, drop}
use Rattle.cluster_core.specs.RoundChange.{lines_of}
use Rattle.cluster_core.proofs.round_change.note_dropped.Given as goal

abbrev pub invariant-running : goal.invariant-running
invariant-running l = l.journal ++ lines_of (drop l.attempt-index l.running) ≡ l.fn.journal ++ lines_of l.running

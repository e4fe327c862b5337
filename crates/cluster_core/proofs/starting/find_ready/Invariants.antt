use Rattle.std.proofs.Common.{◌≡◌, drop}
use Rattle.std.specs.List.{find}
use Rattle.cluster_core.specs.Starting.{can_start}
use Rattle.cluster_core.proofs.starting.find_ready.Given as goal

abbrev pub invariant-tasks : goal.invariant-tasks
invariant-tasks l = find (can_start l.fn.view l.fn.table l.fn.values l.fn.running) (drop l.task-index l.tasks) ≡ find (can_start l.fn.view l.fn.table l.fn.values l.fn.running) l.tasks

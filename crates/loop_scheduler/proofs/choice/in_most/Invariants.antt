use Rattle.std.proofs.Common.{◌≡◌, None}
use Rattle.replica_table.specs.Sets.{members, members_from}
use Rattle.loop_scheduler.specs.steps.Choosing.{sets_with}
use Rattle.loop_scheduler.proofs.Choices.{lead}
use Rattle.loop_scheduler.proofs.choice.in_most.Given as goal

abbrev pub invariant-nodes : goal.invariant-nodes
invariant-nodes l = lead (sets_with l.sets) l.best l.most (members_from l.node l.nodes.0) ≡ lead (sets_with l.sets) None 0 (members l.nodes.0)

use Rattle.run_model.specs.Tasks.{test_count}
use Rattle.cluster_core.proofs.Beginning.{begins_running, begins_standing}
use Rattle.cluster_core.proofs.cluster.Cluster.load.Goals as goal

pub invariant_of-result : goal.invariant_of-result
invariant_of-result g c = begins_running c.args.shape c.args.schedule c.in-Ok-in_first_round.state c.requires.can c.in-Ok-in_first_round.ensures.setup c.in-Ok-in_first_round.ensures.plain

pub returns-in-Ok-in_first_round-clause-running : goal.returns-in-Ok-in_first_round-clause-running
returns-in-Ok-in_first_round-clause-running g c = begins_running c.args.shape c.args.schedule c.in-Ok-in_first_round.state c.requires.can c.in-Ok-in_first_round.ensures.setup c.in-Ok-in_first_round.ensures.plain

pub returns-in-Ok-in_first_round-clause-stands : goal.returns-in-Ok-in_first_round-clause-stands
returns-in-Ok-in_first_round-clause-stands g c w over = begins_standing w c.args.shape c.in-Ok-in_first_round.state.kept c.in-Ok.table (test_count c.args.shape) (g.D.Disks.told c.fill.new.disks) c.requires.can.counted over.same_shape c.in-Ok-in_first_round.ensures.round c.in-Ok-in_first_round.ensures.table c.in-Ok-in_first_round.ensures.values (c.in-Ok.ensures.stands w over)

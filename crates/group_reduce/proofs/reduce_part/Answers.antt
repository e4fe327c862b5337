use Rattle.std.proofs.Common.{map}
use Rattle.group_reduce.proofs.Streams.{job_is}
use Rattle.group_reduce.proofs.reduce_part.Goals as goal

pub keys-init : goal.keys-init
keys-init g c = rw c.new-out.ensures (job_is ((g.F.Functions.meaning c.args.functions.now).reduce c.args.round c.args.step) (map g.S.SortedStream.rows c.args.streams.now))

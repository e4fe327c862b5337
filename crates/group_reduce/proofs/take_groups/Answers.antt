use Rattle.std.proofs.Common.{map}
use Rattle.plain_job.specs.Job.{fields_of}
use Rattle.group_reduce.specs.steps.Front.{front, rest}
use Rattle.hal_base.proofs.Passes.{pass_over}
use Rattle.group_reduce.proofs.take_groups.Goals as goal

pub streams-preserved : goal.streams-preserved
streams-preserved g c =
    let p = pass_over g.S.SortedStream.rows (rest c.args.key.now) (λ rows. map fields_of (front c.args.key.now rows)) (map g.S.SortedStream.rows c.args.streams.now) c.streams.streams c.streams.at c.index-streams-at.result c.take_group.new.stream c.streams-test.true c.streams.invariant.left c.index-streams-at.is c.in_ok-take_group.ensures.rest in
    let pushed = c.in_ok-push.ensures.ok in
    let taken = c.in_ok-take_group.ensures.group in
    let before = c.streams.invariant.groups in
    let more = p.1 in
    record { groups = cc; left = p.0 }

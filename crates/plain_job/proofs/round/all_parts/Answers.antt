use Rattle.plain_job.specs.Chain.{part_out}
use Rattle.plain_job.proofs.Tables.{part_more}
use Rattle.plain_job.proofs.round.all_parts.Goals as goal

pub parts-preserved : goal.parts-preserved
parts-preserved g c =
    let more = part_more (part_out (g.F.Functions.meaning c.args.functions.now) c.args.round c.args.step c.args.streams.now) c.parts.part in
    cc (more, c.in_ok-push.ensures.ok, c.in_ok-plain_part.ensures, c.parts.invariant)

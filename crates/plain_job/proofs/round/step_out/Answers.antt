use Rattle.std.proofs.Common.{◌≡◌, map}
use Rattle.std.proofs.lemmas.Result.{IfOk-weaker}
use Rattle.plain_job.specs.Chain.{numbers_from, part_out}
use Rattle.plain_job.proofs.round.step_out.Goals as goal

pub returns : goal.returns
returns g c =
    let made = part_out (g.F.Functions.meaning c.args.functions.now) c.args.inputs.now.round c.args.number in
    IfOk-weaker c.all_parts.result (λ out. out ≡ map (made c.in_ok-streams.streams) (numbers_from 0 c.args.parts)) _ (λ out e. rw (← c.in_ok-before.ensures, ← c.in_ok-streams.ensures) e) c.all_parts.ensures

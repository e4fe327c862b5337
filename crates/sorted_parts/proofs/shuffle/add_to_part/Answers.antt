use Rattle.std.proofs.Common.{arith}
use Rattle.std.proofs.lemmas.Result.{on_ok_weaker}
use Rattle.sorted_parts.proofs.Dealing.{dealt_nowhere, dealt_one}
use Rattle.sorted_parts.proofs.shuffle.add_to_part.Goals as goal

pub returns : goal.returns
returns g c =
    let one = dealt_one (g.F.Functions.meaning c.args.functions.now) c.args.round c.args.step c.in_ok-number.number c.args.parts.now c.args.row c.index-parts-at.result c.push.new.self (omega arith) c.in_ok-number.ensures c.index-parts-at.is in
    on_ok_weaker c.push.result one c.push.ensures.ok

pub returns-then-at-parts : goal.returns-then-at-parts
returns-then-at-parts g c = dealt_nowhere (g.F.Functions.meaning c.args.functions.now) c.args.round c.args.step c.in_ok-number.number c.args.parts.now c.args.row c.in_ok-number.ensures (omega arith)

use Rattle.std.proofs.Common.{◌≡◌, drop}
use Rattle.loop_program.specs.Limits.{few}
use Rattle.loop_program.proofs.limits.check_few.Given as goal

abbrev pub invariant-items : goal.invariant-items
invariant-items g l =
    let limited = g.T.Limited in
    few limited.line_of limited.within l.most l.items ≡ few limited.line_of limited.within l.left (drop l.item-index l.items)

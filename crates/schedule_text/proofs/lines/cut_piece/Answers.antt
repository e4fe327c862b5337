use Rattle.std.proofs.Common.{add-one}
use Rattle.hal_base.proofs.Cuts.{split_first, split_none, to_end}
use Rattle.schedule_text.proofs.lines.cut_piece.Goals as goal

pub returns-in-Some : goal.returns-in-Some
returns-in-Some c = rw (to_end, add-one) (split_first 32 c.args.line.now c.in-Some.at c.in-Some.ensures.0.high c.in-Some.ensures.0.before c.in-Some.ensures.1)

pub returns-in-None : goal.returns-in-None
returns-in-None c = split_none 32 c.args.line.now c.in-None.ensures

use Rattle.std.proofs.Common.{sym, add-one, arith, ◌<◌, length}
use Rattle.std.proofs.lemmas.Bool.{eqb-false}
use Rattle.hal_base.proofs.Cuts.{lines_first, lines_none, to_end}
use Rattle.schedule_text.proofs.lines.cut_line.Goals as goal

pub returns-in-Some-clause-some : goal.returns-in-Some-clause-some
returns-in-Some-clause-some c = rw (to_end, add-one) (lines_first c.args.text.now c.in-Some.at c.in-Some.ensures.0.high c.in-Some.ensures.0.before c.in-Some.ensures.1)

pub returns-in-None-clause-some : goal.returns-in-None-clause-some
returns-in-None-clause-some c =
    let n = eqb-false (length c.args.text.now) 0 (sym c.if-is_empty.ensures) in
    let l : 0 < length c.args.text.now = omega arith in
    lines_none c.args.text.now l c.in-None.ensures

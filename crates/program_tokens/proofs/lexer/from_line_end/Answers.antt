use Rattle.std.proofs.Common.{sym}
use Rattle.hal_base.proofs.Cuts.{to_end}
use Rattle.program_tokens.proofs.Scans.{comment_first, comment_none}
use Rattle.program_tokens.proofs.lexer.from_line_end.Goals as goal

pub returns-in-Some-clause-front : goal.returns-in-Some-clause-front
returns-in-Some-clause-front c = rw to_end (comment_first c.args.text.now c.in-Some.at c.in-Some.ensures.0.high c.in-Some.ensures.0.before c.in-Some.ensures.1).0

pub returns-in-Some-clause-lines : goal.returns-in-Some-clause-lines
returns-in-Some-clause-lines c = rw to_end (comment_first c.args.text.now c.in-Some.at c.in-Some.ensures.0.high c.in-Some.ensures.0.before c.in-Some.ensures.1).1

pub returns-in-None-clause-front : goal.returns-in-None-clause-front
returns-in-None-clause-front c = sym (comment_none c.args.text.now c.in-None.ensures).0

pub returns-in-None-clause-lines : goal.returns-in-None-clause-lines
returns-in-None-clause-lines c = sym (comment_none c.args.text.now c.in-None.ensures).1

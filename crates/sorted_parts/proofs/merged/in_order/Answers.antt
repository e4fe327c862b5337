use Rattle.std.proofs.Common.{◌∙◌, arith}
use Rattle.sorted_parts.proofs.Merging.{alone_sorted}
use Rattle.sorted_parts.proofs.merged.in_order.Goals as goal

pub returns-then-alone : goal.returns-then-alone
returns-then-alone c = c.in_ok-rows.ensures ∙ alone_sorted c.args.sections (omega (arith, c.len-alone.ensures, c.if-alone.true)) c.requires

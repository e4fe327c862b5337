use Rattle.std.proofs.Common.{nat_eq, arith}
use Rattle.std.proofs.lemmas.List.Splits.{length-slice_split}
use Rattle.hal_base.proofs.line.field_count.Goals as goal

pub returns : goal.returns
returns c = omega (arith, length-slice_split (λ b. nat_eq b 9) c.args.line.now)

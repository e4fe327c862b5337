use Rattle.std.proofs.Common.{◌≡◌, ◌≤◌, length}
use Rattle.plain_job.specs.Chain.{parts_from}
use Rattle.plain_job.proofs.round.round_out.Given as goal

abbrev pub invariant-steps : goal.invariant-steps
invariant-steps g l = (l.number ≡ l.step-index) × (length l.step-items ≤ 8) × (l.out ≡ parts_from (g.F.Functions.meaning l.functions) l.shape l.tables l.round l.state l.step-index)

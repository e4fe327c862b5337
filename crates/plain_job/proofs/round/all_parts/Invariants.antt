use Rattle.std.proofs.Common.{◌≡◌, map}
use Rattle.plain_job.specs.Chain.{numbers_from, part_out}
use Rattle.plain_job.proofs.round.all_parts.Given as goal

abbrev pub invariant-parts : goal.invariant-parts
invariant-parts g l = l.out ≡ map (part_out (g.F.Functions.meaning l.functions) l.round l.step l.streams) (numbers_from 0 l.part)

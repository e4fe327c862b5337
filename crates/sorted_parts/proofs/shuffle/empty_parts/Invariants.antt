use Rattle.std.proofs.Common.{◌≡◌, [], replicate}
use Rattle.sorted_parts.proofs.shuffle.empty_parts.Given as goal

abbrev pub invariant-parts : goal.invariant-parts
invariant-parts l = l.out.items ≡ replicate l._part []

use Rattle.std.proofs.Common.{◌≡◌, length, reverse}
use Rattle.sorted_parts.specs.steps.Dealt.{dealt}
use Rattle.sorted_parts.proofs.shuffle.deal_emitted.Given as goal

-- the records that are left, last first, make the parts what all records make of them
abbrev pub invariant-rows : goal.invariant-rows
invariant-rows g l =
    let means = g.F.Functions.meaning l.functions in
    dealt means l.round l.step 0 l.parts (reverse l.left.items) ≡ dealt means l.round l.step 0 l.initial.parts l.fn.emitted

abbrev pub decreases-rows : goal.decreases-rows
decreases-rows g l = length l.left.items

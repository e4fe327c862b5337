use Rattle.std.proofs.Common.{[], ◌∷◌, ap, reverse, arith}
use Rattle.std.proofs.lemmas.List.{nil_from_length}
use Rattle.sorted_parts.specs.steps.Dealt.{dealt}
use Rattle.sorted_parts.proofs.Dealing.{dealt_more, dealt_end, last_first}
use Rattle.sorted_parts.proofs.shuffle.deal_emitted.Goals as goal

pub rows-preserved : goal.rows-preserved
rows-preserved g c =
    let m = g.F.Functions.meaning c.args.functions.now in
    let whole = dealt m c.args.round c.args.step 0 c.args.parts.now c.args.emitted in
    let rest = c.pop.new.self.items in
    let turned = last_first c.rows.left.items rest c.in-Some.row c.in-Some.ensures.items in
    dealt_more m c.args.round c.args.step c.rows.parts c.add_to_part.new.parts whole (reverse c.rows.left.items) (c.in-Some.row ∷ []) (reverse rest) turned c.in_ok-add_to_part.ensures c.rows.invariant

pub returns-clause-dealt : goal.returns-clause-dealt
returns-clause-dealt g c =
    let m = g.F.Functions.meaning c.args.functions.now in
    let whole = dealt m c.args.round c.args.step 0 c.args.parts.now c.args.emitted in
    let none = nil_from_length c.rows.left.items (omega (arith, c.rows.left.ok, c.in_default.ensures.cases)) in
    dealt_end m c.args.round c.args.step c.rows.parts whole (reverse c.rows.left.items) (ap reverse none) c.rows.invariant

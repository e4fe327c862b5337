use Rattle.std.proofs.Common.{◌≡◌, List, arith, subst}
use Rattle.std.specs.List.{AllByRecursion}
use Rattle.std.proofs.lemmas.Result.{on_ok_weaker}
use Rattle.hal_base.specs.declared.record.Record.{Record}
use Rattle.sorted_parts.proofs.Dealing.{dealt_to_one}
use Rattle.sorted_parts.proofs.shuffle.deal_rows.Goals as goal

pub returns-then-branch : goal.returns-then-branch
returns-then-branch g c =
    let m = g.F.Functions.meaning c.args.functions.now in
    let all = subst (λ (rows : List Record). AllByRecursion (λ (row : Record). m.partition c.args.round c.args.step row.key ≡ 0) rows) c.as_slice.ensures (c.in_ok-are_in_first.ensures c.if-branch.true) in
    on_ok_weaker c.add_behind.result (λ added. dealt_to_one m c.args.round c.args.step c.args.parts.now c.args.rows c.index-parts-0.result c.add_behind.new.part (omega arith) all c.index-parts-0.is added) c.add_behind.ensures

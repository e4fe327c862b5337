use Rattle.std.proofs.Common.{◌≡◌, drop}
use Rattle.std.specs.List.{AllByRecursion}
use Rattle.hal_base.specs.declared.record.Record.{Record}
use Rattle.sorted_parts.proofs.shuffle.are_in_first.Given as goal

-- where all that are left belong to the first part, all do
abbrev pub invariant-rows : goal.invariant-rows
invariant-rows g l =
    let is_in = λ (row : Record). (g.F.Functions.meaning l.functions).partition l.round l.step row.key ≡ 0 in
    AllByRecursion is_in (drop l.row-index l.rows) → AllByRecursion is_in l.rows

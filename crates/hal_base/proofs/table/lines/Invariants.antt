use Rattle.std.proofs.Common.{◌≡◌, ◌++◌, drop}
use Rattle.hal_base.specs.Lines.{table_text}
use Rattle.hal_base.proofs.table.lines.Given as goal

abbrev pub invariant-rows : goal.invariant-rows
invariant-rows l = l.bytes.items ++ table_text (drop l.row-index l.row-items) ≡ table_text l.row-items

use Rattle.std.proofs.Common.{◌≡◌, ◌≤◌, ◌++◌, map, length}
use Rattle.std.specs.List.{AllByRecursion}
use Rattle.std.specs.Str.Lines.{strip_carriage_return}
use Rattle.hal_base.specs.Values.{IsRecordOf}
use Rattle.hal_base.specs.Lines.{line_of, lines_in}
use Rattle.hal_base.proofs.table.read_lines.Given as goal

abbrev pub invariant-lines : goal.invariant-lines
invariant-lines l = record {
  so_far : map strip_carriage_return (lines_in l.bytes) ≡ map line_of l.rows ++ map strip_carriage_return (lines_in l.left);
  records : AllByRecursion (IsRecordOf l.schema) l.rows;
  few : length l.rows ≤ 10000000;
}

abbrev pub decreases-lines : goal.decreases-lines
decreases-lines l = length l.left

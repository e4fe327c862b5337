use Rattle.std.proofs.Common.{◌≡◌, ◌++◌, map, take}
use Rattle.std.specs.List.{AllByRecursion}
use Rattle.std.specs.Option.{option_copied}
use Rattle.hal_base.specs.Values.{kind_of, IsValue}
use Rattle.hal_base.specs.Lines.{value_text}
use Rattle.hal_base.specs.steps.LineReading.{pieces_left}
use Rattle.hal_base.proofs.line.read_fields.Given as goal

abbrev pub invariant-fields : goal.invariant-fields
invariant-fields l = record {
  good : AllByRecursion IsValue l.fields;
  same_kinds : map kind_of l.fields ≡ take l.at l.kinds;
  spelling : map value_text l.fields ++ pieces_left (option_copied l.left) ≡ pieces_left (option_copied l.initial.left);
}

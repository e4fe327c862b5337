use Rattle.std.proofs.Common.{◌≡◌, ◌∷◌, ◌++◌, drop}
use Rattle.std.specs.List.{flat_map}
use Rattle.hal_base.specs.Lines.{value_text}
use Rattle.hal_base.proofs.line.append_line.Given as goal

abbrev pub invariant-fields : goal.invariant-fields
invariant-fields l = l.out.items ++ flat_map (λ v. 9 ∷ value_text v) (drop l.value-index l.value-items) ≡ l.initial.out.items ++ flat_map (λ v. 9 ∷ value_text v) l.value-items

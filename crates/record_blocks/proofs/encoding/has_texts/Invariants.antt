use Rattle.std.proofs.Common.{◌≡◌, take}
use Rattle.std.specs.List.{AllByRecursion}
use Rattle.hal_base.specs.declared.value.Kind.{Kind}
use Rattle.hal_base.specs.declared.value.Kind.TheVariants as kind
use Rattle.record_blocks.proofs.encoding.has_texts.Given as goal

abbrev pub invariant-kinds : goal.invariant-kinds
invariant-kinds l = AllByRecursion (λ (item : Kind). item ≡ kind.Int) (take l.kind-index l.kind-items)

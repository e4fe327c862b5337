use Rattle.std.proofs.Common.{◌≡◌, drop, map}
use Rattle.hal_base.specs.declared.value.Kind.TheVariants as kind
use Rattle.type_checker.specs.Kinds.{args_kind, judged}
use Rattle.type_checker.proofs.expression.+expression.Given as goal

abbrev pub invariant-kind_of_last-args-2 : goal.invariant-kind_of_last-args-2
invariant-kind_of_last-args-2 l = args_kind l.setting l.left l.before (map (judged l.setting l.scope) (drop l.arg-index l.args)) ≡ args_kind l.setting l.wants kind.Int (map (judged l.setting l.scope) l.args)

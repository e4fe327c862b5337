use Rattle.std.proofs.Common.{◌≡◌, drop, map}
use Rattle.type_checker.specs.Kinds.{judged}
use Rattle.type_checker.specs.Statements.{each_emitted}
use Rattle.type_checker.proofs.statement.check_fields.Given as goal

abbrev pub invariant-args-2 : goal.invariant-args-2
invariant-args-2 l = each_emitted l.setting l.left (map (judged l.setting l.scope) (drop l.arg-index l.args)) ≡ each_emitted l.setting l.kinds (map (judged l.setting l.scope) l.args)

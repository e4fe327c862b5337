use Rattle.std.proofs.Common.{◌≡◌, drop}
use Rattle.type_checker.specs.Statements.{loop_names}
use Rattle.type_checker.proofs.statement.declare_names.Given as goal

abbrev pub invariant-names : goal.invariant-names
invariant-names l = loop_names l.setting l.scope (drop l.name-index l.names) l.left ≡ loop_names l.setting l.initial.scope l.names l.kinds

use Rattle.std.proofs.Common.{◌≡◌, drop}
use Rattle.type_checker.specs.Functions.{params_scope}
use Rattle.type_checker.proofs.function.declare_params.Given as goal

abbrev pub invariant-params : goal.invariant-params
invariant-params l = params_scope l.setting l.scope (drop l.param-index l.params) ≡ params_scope l.setting l.initial.scope l.params

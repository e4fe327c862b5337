use Rattle.std.proofs.Common.{◌≡◌, [], drop}
use Rattle.type_checker.specs.Functions.{functions_right}
use Rattle.type_checker.proofs.function.check_functions.Given as goal

abbrev pub invariant-functions : goal.invariant-functions
invariant-functions l = record {
  counted : l.number ≡ l.function-index;
  right : functions_right l.number l.names (drop l.function-index l.functions) ≡ functions_right 0 [] l.functions;
}

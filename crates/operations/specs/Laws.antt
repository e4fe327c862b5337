-- A law of what operations give.
use Rattle.std.specs.Prelude.{List, IfSome}
use Rattle.std.specs.List.{AllByRecursion}
use Rattle.hal_base.specs.declared.value.Value.{Value}
use Rattle.hal_base.specs.Values.{IsValue}
use Rattle.operations.specs.declared.operation.Operation.{Operation}
use Rattle.operations.specs.Applied.{applied}

-- what an operation gives for values is a value
abbrev pub ValuesGiveValues : Type 0
ValuesGiveValues = (operation : Operation) (values : List Value) → AllByRecursion IsValue values → IfSome (applied operation values) IsValue

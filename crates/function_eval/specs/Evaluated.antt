-- What an evaluator is made of.
use Rattle.std.specs.Prelude.{ℕ, List}
use Rattle.function_language.specs.declared.tree.Function.{Function as Written}
use Rattle.type_checker.specs.declared.uses.Uses.{Uses}

-- the functions of a program, the places at which it uses them, and its number of parts
pub record Evaluated : Type 0 where
  pub functions : List Written
  pub uses : Uses
  pub parts : ℕ

-- these functions, uses and parts
abbrev pub evaluated : List Written → Uses → ℕ → Evaluated
evaluated functions uses parts = record { functions = functions; uses = uses; parts = parts }

-- The steps by which functions get slots, over lists.
use Rattle.std.specs.Prelude.{ℕ, ◌+◌, List, [], ◌∷◌, Option, None, Some, length, option_map, take}
use Rattle.function_language.specs.declared.tree.Statement.{Statement}
use Rattle.name_index.specs.Names.{place_of}
use Rattle.function_eval.specs.declared.resolved.ResolvedExpr.{ResolvedExpr}
use Rattle.function_eval.specs.declared.resolved.ResolvedStatement.{ResolvedStatement}
use Rattle.function_eval.specs.declared.resolved.ResolvedStatement.TheVariants as a_resolved_statement
use Rattle.function_eval.specs.steps.Resolved.{Scope, all_resolved, scope_after}

-- the slot of a variable: parameters come before it
abbrev pub variable_slot : List ℕ → Scope → Option ℕ
variable_slot name scope = option_map (λ place. length scope.params + place) (place_of name scope.variables)

-- a variable in this slot to be set
abbrev pub set_in : Option ℕ → ResolvedExpr → ResolvedStatement
set_in None expr = a_resolved_statement.Unresolved
set_in (Some slot) expr = a_resolved_statement.Set slot expr

-- the block of an `else`, if there is one
abbrev pub other_resolved : Scope → Option (List Statement) → List ResolvedStatement
other_resolved scope None = []
other_resolved scope (Some other) = all_resolved scope other

-- the scope behind the last of some statements
abbrev pub scope_behind : Scope → List Statement → Scope
scope_behind scope [] = scope
scope_behind scope (statement ∷ statements) = scope_behind (scope_after scope statement) statements

-- with no more than so many variables
abbrev pub cut_back : ℕ → Scope → Scope
cut_back count scope = record { params = scope.params; variables = take count scope.variables; streams = scope.streams }

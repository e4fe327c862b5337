-- How names become slots.
use Rattle.std.specs.Prelude.{ℕ, ◌+◌, List, [], ◌∷◌, ◌++◌, Option, None, Some, length, map}
use Rattle.function_language.specs.declared.tree.Expr as expr
use Rattle.function_language.specs.declared.tree.Expr.{Expr}
use Rattle.function_language.specs.declared.tree.Function.{Function}
use Rattle.function_language.specs.declared.tree.Function.TheVariants as a_function
use Rattle.program_tokens.specs.declared.token.Ident.{Ident}
use Rattle.function_language.specs.declared.tree.Param.{Param}
use Rattle.function_language.specs.declared.tree.Statement as statement
use Rattle.function_language.specs.declared.tree.Statement.{Statement}
use Rattle.function_language.specs.declared.tree.Stream.{Stream}
use Rattle.name_index.specs.Names.{place_of}
use Rattle.operations.specs.declared.operation.Operation.{Operation}
use Rattle.operations.specs.Operations.{operation_named}
use Rattle.function_eval.specs.declared.resolved.ResolvedExpr.{ResolvedExpr}
use Rattle.function_eval.specs.declared.resolved.ResolvedExpr.TheVariants as a_resolved_expr
use Rattle.function_eval.specs.declared.resolved.ResolvedStatement.{ResolvedStatement}
use Rattle.function_eval.specs.declared.resolved.ResolvedStatement.TheVariants as a_resolved_statement
use Rattle.function_eval.specs.declared.resolved.ResolvedFunction.{ResolvedFunction}
use Rattle.function_eval.specs.declared.resolved.ResolvedFunction.TheVariants.{Map, Reduce, Distance, Partition}

abbrev pub slot_of : Option ℕ → ResolvedExpr
slot_of None = a_resolved_expr.Unresolved
slot_of (Some place) = a_resolved_expr.Slot place

abbrev pub call_of : Option Operation → List ResolvedExpr → ResolvedExpr
call_of None args = a_resolved_expr.Unresolved
call_of (Some operation) args = a_resolved_expr.Call operation args

-- an expression under these names of slots
abbrev mutual
  pub resolved : List (List ℕ) → Expr → ResolvedExpr
  resolved names (expr.Int line n) = a_resolved_expr.Int n
  resolved names (expr.Text line text) = a_resolved_expr.Text text
  resolved names (expr.Round line) = a_resolved_expr.Round
  resolved names (expr.Name ident) = slot_of (place_of ident.text names)
  resolved names (expr.Call' ident shape args) = call_of (operation_named ident.text) (args_resolved names args)

  pub args_resolved : {n : _} → List (List ℕ) → expr.Row_of-Expr n → List ResolvedExpr
  args_resolved names expr.end_of-Expr = []
  args_resolved names (expr.more_of-Expr arg args) = resolved names arg ∷ args_resolved names args

-- the names of slots: parameters, and then variables; and the names of the streams
pub record Scope : Type 0 where
  pub params : List (List ℕ)
  pub variables : List (List ℕ)
  pub streams : List (List ℕ)

abbrev pub slots_in : Scope → List (List ℕ)
slots_in scope = scope.params ++ scope.variables

abbrev pub with_names : List (List ℕ) → Scope → Scope
with_names names scope = record { params = scope.params; variables = scope.variables ++ names; streams = scope.streams }

abbrev pub ident_text : Ident → List ℕ
ident_text ident = ident.text

-- a variable to be set: parameters are not
abbrev pub set_of : ℕ → Option ℕ → ResolvedExpr → ResolvedStatement
set_of params None expr = a_resolved_statement.Unresolved
set_of params (Some place) expr = a_resolved_statement.Set (params + place) expr

abbrev pub for_of : Option ℕ → ℕ → List ResolvedStatement → ResolvedStatement
for_of None fields body = a_resolved_statement.Unresolved
for_of (Some stream) fields body = a_resolved_statement.For stream fields body

-- the scope behind a statement
abbrev pub scope_after : Scope → Statement → Scope
scope_after scope (statement.Let ident value) = with_names (ident.text ∷ []) scope
scope_after scope (statement.Set ident value) = scope
scope_after scope (statement.If' test shape chosen other) = scope
scope_after scope (statement.For' idents stream shape body) = scope
scope_after scope (statement.Emit line args) = scope
scope_after scope (statement.Give line value) = scope

-- a statement
abbrev mutual
  pub statement_resolved : Scope → Statement → ResolvedStatement
  statement_resolved scope (statement.Let ident value) = a_resolved_statement.Let (resolved (slots_in scope) value)
  statement_resolved scope (statement.Set ident value) = set_of (length scope.params) (place_of ident.text scope.variables) (resolved (slots_in scope) value)
  statement_resolved scope (statement.If' test shape chosen other) = a_resolved_statement.If (resolved (slots_in scope) test) (row_resolved scope chosen) (else_resolved scope other)
  statement_resolved scope (statement.For' idents stream shape body) = for_of (place_of stream.text scope.streams) (length idents) (row_resolved (with_names (map ident_text idents) scope) body)
  statement_resolved scope (statement.Emit line args) = a_resolved_statement.Emit (map (resolved (slots_in scope)) args)
  statement_resolved scope (statement.Give line value) = a_resolved_statement.Give (resolved (slots_in scope) value)

  pub else_resolved : Scope → statement.Held-Statement-If-2 → List ResolvedStatement
  else_resolved scope statement.None' = []
  else_resolved scope (statement.Some' shape other) = row_resolved scope other

  pub row_resolved : {n : _} → Scope → statement.Row_of-Statement n → List ResolvedStatement
  row_resolved scope statement.end_of-Statement = []
  row_resolved scope (statement.more_of-Statement statement statements) = statement_resolved scope statement ∷ row_resolved (scope_after scope statement) statements

-- statements, one after another
abbrev pub all_resolved : Scope → List Statement → List ResolvedStatement
all_resolved scope [] = []
all_resolved scope (statement ∷ statements) = statement_resolved scope statement ∷ all_resolved (scope_after scope statement) statements

abbrev pub param_text : Param → List ℕ
param_text param = param.name.text

abbrev pub stream_text : Stream → List ℕ
stream_text stream = stream.name.text

abbrev pub scope_of : List (List ℕ) → List (List ℕ) → Scope
scope_of params streams = record { params = params; variables = []; streams = streams }

-- a function
abbrev pub function_resolved : Function → ResolvedFunction
function_resolved (a_function.Map name params arrow out body) = Map (length params) (all_resolved (scope_of (map param_text params) []) body)
function_resolved (a_function.Reduce name key streams arrow out body) = Reduce (length streams) (all_resolved (scope_of (param_text key ∷ []) (map stream_text streams)) body)
function_resolved (a_function.Distance name key before after body) = Distance (all_resolved (scope_of (param_text key ∷ []) (stream_text before ∷ stream_text after ∷ [])) body)
function_resolved (a_function.Partition name key body) = Partition (all_resolved (scope_of (param_text key ∷ []) []) body)

-- Names have their slots, and trees get them as lists do.
use Rattle.std.proofs.Common.{List, None, Option, Some, [], ap, ap₂, arith, length, map, refl, sym, ℕ, ◌+◌, ◌≤◌, ◌≡◌, ◌∙◌, ◌∷◌, option_map}
use Rattle.std.proofs.Math.Seq.{take-length}
use Rattle.std.proofs.lemmas.List.{length-append, take-append-le}
use Rattle.function_language.specs.declared.tree.Expr.{Expr, Row_of-Expr, end_of-Expr, items-the_row-Expr, items_hidden-the_row-Expr-0, more_of-Expr}
use Rattle.function_language.specs.declared.tree.Expr.TheBlock.{hidden-the_row-Expr-0}
use Rattle.function_language.specs.declared.tree.Expr.TheVariants as an_expr
use Rattle.program_tokens.specs.declared.token.Ident.{Ident}
use Rattle.function_language.specs.declared.tree.Statement.{Emit, For', Give, If', Let, Row_of-Statement, Set, Statement, end_of-Statement, items-the_row-Statement, items_hidden-the_row-Statement-0, more_of-Statement}
use Rattle.function_language.specs.declared.tree.Statement.TheBlock.{hidden-the_row-Statement-0}
use Rattle.function_language.specs.declared.tree.Statement.TheVariants as a_statement
use Rattle.name_index.specs.Names.{place_of}
use Rattle.name_index.proofs.Places.{place_in_back, place_in_front, place_moved}
use Rattle.operations.specs.Operations.{operation_named}
use Rattle.function_eval.specs.declared.resolved.ResolvedExpr.{ResolvedExpr}
use Rattle.function_eval.specs.declared.resolved.ResolvedStatement.{ResolvedStatement}
use Rattle.function_eval.specs.declared.resolved.ResolvedStatement.TheVariants as a_resolved_statement
use Rattle.function_eval.specs.steps.Resolved.{Scope, all_resolved, args_resolved, call_of, for_of, ident_text, row_resolved, scope_after, slots_in, resolved, statement_resolved, with_names}
use Rattle.function_eval.specs.steps.Resolving.{cut_back, other_resolved, scope_behind}

-- ---- slots

-- the slot of a parameter
pub slot_of_param : (name : List ℕ) (scope : Scope) (place : ℕ) → place_of name scope.params ≡ Some place → place_of name (slots_in scope) ≡ Some place
slot_of_param name scope place e = place_in_front 0 name scope.params scope.variables place e

-- the slot of a variable
pub slot_of_variable : (name : List ℕ) (scope : Scope) → place_of name scope.params ≡ None → place_of name (slots_in scope) ≡ option_map (λ place. length scope.params + place) (place_of name scope.variables)
slot_of_variable name scope e = place_in_back 0 name scope.params scope.variables e ∙ place_moved (length scope.params) 0 name scope.variables

-- ---- scopes

-- a statement takes no variable away
more_variables : (count : ℕ) (scope : Scope) (statement : Statement) → count ≤ length scope.variables → count ≤ length (scope_after scope statement).variables
more_variables count scope (Let ident value) l = omega (arith, length-append scope.variables (ident.text ∷ []))
more_variables count scope (Set ident value) l = l
more_variables count scope (If' test shape chosen other) l = l
more_variables count scope (For' idents stream shape body) l = l
more_variables count scope (Emit line args) l = l
more_variables count scope (Give line value) l = l

-- nor does it change one
cut_back_after : (count : ℕ) (scope : Scope) (statement : Statement) → count ≤ length scope.variables → cut_back count (scope_after scope statement) ≡ cut_back count scope
cut_back_after count scope (Let ident value) l = ap (λ variables. record { params = scope.params; variables = variables; streams = scope.streams }) (take-append-le count scope.variables (ident.text ∷ []) l)
cut_back_after count scope (Set ident value) l = refl
cut_back_after count scope (If' test shape chosen other) l = refl
cut_back_after count scope (For' idents stream shape body) l = refl
cut_back_after count scope (Emit line args) l = refl
cut_back_after count scope (Give line value) l = refl

-- nor do statements, one after another
cut_back_behind : (count : ℕ) (scope : Scope) (statements : List Statement) → count ≤ length scope.variables → cut_back count (scope_behind scope statements) ≡ cut_back count scope
cut_back_behind count scope [] l = refl
cut_back_behind count scope (statement ∷ statements) l = cut_back_behind count (scope_after scope statement) statements (more_variables count scope statement l) ∙ cut_back_after count scope statement l

-- with all its variables a scope is as it was
cut_at_end : (scope : Scope) → cut_back (length scope.variables) scope ≡ scope
cut_at_end scope = ap (λ variables. record { params = scope.params; variables = variables; streams = scope.streams }) (take-length scope.variables)

-- behind a block the scope is as it was
pub block_left : (scope : Scope) (statements : List Statement) → cut_back (length scope.variables) (scope_behind scope statements) ≡ scope
block_left scope statements = cut_back_behind (length scope.variables) scope statements (omega arith) ∙ cut_at_end scope

-- ---- rows and lists

-- the arguments of a row are as those of its list
args_of_row : (n : _) (names : List (List ℕ)) (row : Row_of-Expr n) → args_resolved names row ≡ map (resolved names) (items-the_row-Expr n row)
args_of_row n names end_of-Expr = refl
args_of_row n names (more_of-Expr arg args) = ap (◌∷◌ (resolved names arg)) (args_of_row _ names args)

-- a call of these arguments
pub call_resolved : (names : List (List ℕ)) (i : Ident) (args : List Expr) → resolved names (an_expr.Call i args) ≡ call_of (operation_named i.text) (map (resolved names) args)
call_resolved names i args = ap (call_of (operation_named i.text)) (args_of_row _ names (hidden-the_row-Expr-0 args) ∙ ap (map (resolved names)) (items_hidden-the_row-Expr-0 args))

-- the statements of a row are as those of its list
statements_of_row : (n : _) (scope : Scope) (row : Row_of-Statement n) → row_resolved scope row ≡ all_resolved scope (items-the_row-Statement n row)
statements_of_row n scope end_of-Statement = refl
statements_of_row n scope (more_of-Statement statement statements) = ap (◌∷◌ (statement_resolved scope statement)) (statements_of_row _ (scope_after scope statement) statements)

-- those of a list are as its row
block_resolved : (scope : Scope) (block : List Statement) → row_resolved scope (hidden-the_row-Statement-0 block) ≡ all_resolved scope block
block_resolved scope block = statements_of_row _ scope (hidden-the_row-Statement-0 block) ∙ ap (all_resolved scope) (items_hidden-the_row-Statement-0 block)

-- an `if` with these statements
pub if_resolved : (scope : Scope) (test : Expr) (chosen : List Statement) (other : Option (List Statement))
    → statement_resolved scope (a_statement.If test chosen other) ≡ a_resolved_statement.If (resolved (slots_in scope) test) (all_resolved scope chosen) (other_resolved scope other)
if_resolved scope test chosen None = ap (λ chosen. a_resolved_statement.If (resolved (slots_in scope) test) chosen []) (block_resolved scope chosen)
if_resolved scope test chosen (Some other) = ap₂ (a_resolved_statement.If (resolved (slots_in scope) test)) (block_resolved scope chosen) (block_resolved scope other)

-- what an `if` is made of
pub if_made : (scope : Scope) (statement : Statement) (test : Expr) (chosen : List Statement) (other : Option (List Statement)) (made : ResolvedExpr) (front back : List ResolvedStatement)
    → statement ≡ a_statement.If test chosen other → made ≡ resolved (slots_in scope) test → front ≡ all_resolved scope chosen → back ≡ other_resolved scope other → a_resolved_statement.If made front back ≡ statement_resolved scope statement
if_made scope statement test chosen other made front back is e f b =
    ap₂ (a_resolved_statement.If made) f b ∙ ap (λ made. a_resolved_statement.If made (all_resolved scope chosen) (other_resolved scope other)) e ∙ sym (ap (statement_resolved scope) is ∙ if_resolved scope test chosen other)

-- a `for` with these statements
pub for_resolved : (scope : Scope) (idents : List Ident) (stream : Ident) (body : List Statement)
    → statement_resolved scope (a_statement.For idents stream body) ≡ for_of (place_of stream.text scope.streams) (length idents) (all_resolved (with_names (map ident_text idents) scope) body)
for_resolved scope idents stream body = ap (for_of (place_of stream.text scope.streams) (length idents)) (block_resolved (with_names (map ident_text idents) scope) body)

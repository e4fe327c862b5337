-- Trees have their flags as lists have.
use Rattle.std.proofs.Common.{List, None, Option, Some, ap, ap₂, ◌&&◌, ◌||◌, ◌≡◌, ◌∙◌, refl, ℕ}
use Rattle.std.specs.List.{list_all, list_any}
use Rattle.function_language.specs.declared.tree.Expr.{Expr, Row_of-Expr, end_of-Expr, items-the_row-Expr, items_hidden-the_row-Expr-0, more_of-Expr}
use Rattle.function_language.specs.declared.tree.Expr.TheBlock.{hidden-the_row-Expr-0}
use Rattle.function_language.specs.declared.tree.Expr.TheVariants as an_expr
use Rattle.program_tokens.specs.declared.token.Ident.{Ident}
use Rattle.function_language.specs.declared.tree.Statement.{Row_of-Statement, Statement, end_of-Statement, items-the_row-Statement, items_hidden-the_row-Statement-0, more_of-Statement}
use Rattle.function_language.specs.declared.tree.Statement.TheBlock.{hidden-the_row-Statement-0}
use Rattle.function_language.specs.declared.tree.Statement.TheVariants as a_statement
use Rattle.type_checker.specs.Flags.{all_emit_first, any_has_round, any_uses_round, emits_first, has_round, uses_round}
use Rattle.type_checker.specs.steps.Flags.{other_emits_first, other_uses_round}

-- ---- `round`

-- it stands in a row as in its list
args_of_row : (n : _) (row : Row_of-Expr n) → any_has_round row ≡ list_any has_round (items-the_row-Expr n row)
args_of_row n end_of-Expr = refl
args_of_row n (more_of-Expr arg args) = ap (λ others. has_round arg || others) (args_of_row _ args)

-- in a call with these arguments
pub call_round : (i : Ident) (args : List Expr) → has_round (an_expr.Call i args) ≡ list_any has_round args
call_round i args = args_of_row _ (hidden-the_row-Expr-0 args) ∙ ap (list_any has_round) (items_hidden-the_row-Expr-0 args)

-- in the statements of a row as in those of its list
statements_of_row : (n : _) (row : Row_of-Statement n) → any_uses_round row ≡ list_any uses_round (items-the_row-Statement n row)
statements_of_row n end_of-Statement = refl
statements_of_row n (more_of-Statement statement statements) = ap (λ others. uses_round statement || others) (statements_of_row _ statements)

-- in those of a list as in its row
block_round : (block : List Statement) → any_uses_round (hidden-the_row-Statement-0 block) ≡ list_any uses_round block
block_round block = statements_of_row _ (hidden-the_row-Statement-0 block) ∙ ap (list_any uses_round) (items_hidden-the_row-Statement-0 block)

-- in an `if` with these statements
pub if_round : (test : Expr) (chosen : List Statement) (other : Option (List Statement)) → uses_round (a_statement.If test chosen other) ≡ has_round test || list_any uses_round chosen || other_uses_round other
if_round test chosen None = ap (λ first. has_round test || first || other_uses_round None) (block_round chosen)
if_round test chosen (Some other) = ap₂ (λ first second. has_round test || first || second) (block_round chosen) (block_round other)

-- in a `for` with these statements
pub for_round : (idents : List Ident) (stream : Ident) (body : List Statement) → uses_round (a_statement.For idents stream body) ≡ list_any uses_round body
for_round idents stream body = block_round body

-- ---- the first argument of each `emit`

-- in a row as in its list
emits_of_row : (n : _) (name : List ℕ) (row : Row_of-Statement n) → all_emit_first name row ≡ list_all (emits_first name) (items-the_row-Statement n row)
emits_of_row n name end_of-Statement = refl
emits_of_row n name (more_of-Statement statement statements) = ap (λ others. emits_first name statement && others) (emits_of_row _ name statements)

-- in a list as in its row
block_first : (name : List ℕ) (block : List Statement) → all_emit_first name (hidden-the_row-Statement-0 block) ≡ list_all (emits_first name) block
block_first name block = emits_of_row _ name (hidden-the_row-Statement-0 block) ∙ ap (list_all (emits_first name)) (items_hidden-the_row-Statement-0 block)

-- in an `if` with these statements
pub if_first : (name : List ℕ) (test : Expr) (chosen : List Statement) (other : Option (List Statement)) → emits_first name (a_statement.If test chosen other) ≡ list_all (emits_first name) chosen && other_emits_first name other
if_first name test chosen None = ap (λ first. first && other_emits_first name None) (block_first name chosen)
if_first name test chosen (Some other) = ap₂ (λ first second. first && second) (block_first name chosen) (block_first name other)

-- in a `for` with these statements
pub for_first : (name : List ℕ) (idents : List Ident) (stream : Ident) (body : List Statement) → emits_first name (a_statement.For idents stream body) ≡ list_all (emits_first name) body
for_first name idents stream body = block_first name body

-- What the check finds in the rows of a tree is what it finds in their lists.
use Rattle.std.proofs.Common.{◌≡◌, ◌∙◌, ap, ap₂, map, refl, sym, List, [], ◌∷◌, Option, None, Some, Ok, Err}
use Rattle.hal_base.specs.declared.value.Kind.{Kind}
use Rattle.hal_base.specs.declared.value.Kind.TheVariants as kind
use Rattle.function_language.specs.declared.tree.Expr.{Expr, Row_of-Expr, end_of-Expr, items-the_row-Expr, items_hidden-the_row-Expr-0, more_of-Expr}
use Rattle.function_language.specs.declared.tree.Expr.TheBlock.{hidden-the_row-Expr-0}
use Rattle.function_language.specs.declared.tree.Expr.TheVariants as an_expr
use Rattle.program_tokens.specs.declared.token.Ident.{Ident}
use Rattle.function_language.specs.declared.tree.Statement.{Row_of-Statement, Statement, end_of-Statement, items-the_row-Statement, items_hidden-the_row-Statement-0, more_of-Statement}
use Rattle.function_language.specs.declared.tree.Statement.TheBlock.{hidden-the_row-Statement-0}
use Rattle.function_language.specs.declared.tree.Statement.TheVariants as a_statement
use Rattle.operations.specs.declared.operation.Wanted.{Wanted}
use Rattle.type_checker.specs.declared.scope.Known.{Known}
use Rattle.type_checker.specs.declared.scope.Setting.{Setting}
use Rattle.type_checker.specs.Checked.{Checked, ◌>>=◌, ◌>>◌}
use Rattle.type_checker.specs.Kinds.{args_judged, args_kind, call_kind, is_of_kind, judged, kind_in}
use Rattle.type_checker.specs.Statements.{after, all_after, each_emitted, loop_scope, row_after}
use Rattle.type_checker.specs.steps.Checks.{for_after, if_after, other_within, within}

-- the arguments of a row are judged as those of its list
args_of_row : (n : _) (setting : Setting) (scope : List Known) (row : Row_of-Expr n) → args_judged setting scope row ≡ map (judged setting scope) (items-the_row-Expr n row)
args_of_row n setting scope end_of-Expr = refl
args_of_row n setting scope (more_of-Expr arg args) = ap (◌∷◌ (judged setting scope arg)) (args_of_row _ setting scope args)

-- the kind of a call is that of the list of its arguments
pub call_is : (setting : Setting) (scope : List Known) (ident : Ident) (args : List Expr) → kind_in setting scope (an_expr.Call ident args) ≡ call_kind setting ident (map (judged setting scope) args)
call_is setting scope ident args = ap (call_kind setting ident) (args_of_row _ setting scope (hidden-the_row-Expr-0 args) ∙ ap (map (judged setting scope)) (items_hidden-the_row-Expr-0 args))

-- where no argument is left, the kind is that of the one before
pub none_left : (setting : Setting) (wants : List Wanted) (before : Kind) → args_kind setting wants before [] ≡ Ok before
none_left setting [] before = refl
none_left setting (want ∷ wants) before = refl

-- where no argument is left, each is as it is wanted
pub none_emitted : (setting : Setting) (wants : List Kind) → each_emitted setting wants [] ≡ Ok tt
none_emitted setting [] = refl
none_emitted setting (want ∷ wants) = refl

-- what goes on the same finds the same
same_on : {A B : Type 0} (found : Checked A) (f g : A → Checked B) → ((a : A) → f a ≡ g a) → (found >>= f) ≡ (found >>= g)
same_on (Ok a) f g e = e a
same_on (Err fault) f g e = refl

-- the statements of a row are checked as those of its list
statements_of_row : (n : _) (setting : Setting) (scope : List Known) (row : Row_of-Statement n) → row_after setting scope row ≡ all_after setting scope (items-the_row-Statement n row)
statements_of_row n setting scope end_of-Statement = refl
statements_of_row n setting scope (more_of-Statement statement statements) =
    same_on (after setting scope statement) _ _ (λ more. statements_of_row _ setting more statements)

-- those of a block
block_is : (setting : Setting) (scope : List Known) (block : List Statement) → row_after setting scope (hidden-the_row-Statement-0 block) ≡ all_after setting scope block
block_is setting scope block = statements_of_row _ setting scope (hidden-the_row-Statement-0 block) ∙ ap (all_after setting scope) (items_hidden-the_row-Statement-0 block)

-- what goes on behind a scope that was kept goes on behind what was found
behind_kept : {A B : Type 0} (found : Checked A) (scope : List Known) (more : Checked B) → ((found >> Ok scope) >> more) ≡ (found >> more)
behind_kept (Ok a) scope more = refl
behind_kept (Err fault) scope more = refl

-- an `if` is checked as the lists of its blocks
pub if_is : (setting : Setting) (scope : List Known) (test : Expr) (chosen : List Statement) (other : Option (List Statement)) → after setting scope (a_statement.If test chosen other) ≡ if_after setting scope test chosen other
if_is setting scope test chosen None =
    ap (λ found. is_of_kind setting scope kind.Int test >> found) (ap (λ found. found >> Ok scope) (block_is setting scope chosen) ∙ sym (behind_kept (all_after setting scope chosen) scope (Ok scope)))
if_is setting scope test chosen (Some other) =
    ap (λ found. is_of_kind setting scope kind.Int test >> found)
    (ap₂ (λ found more. found >> (more >> Ok scope)) (block_is setting scope chosen) (block_is setting scope other)
    ∙ sym (behind_kept (all_after setting scope chosen) scope (all_after setting scope other >> Ok scope)))

-- behind the test of an `if`
pub if_tested : (setting : Setting) (scope : List Known) (statement : Statement) (test : Expr) (chosen : List Statement) (other : Option (List Statement)) → statement ≡ a_statement.If test chosen other → Ok tt ≡ is_of_kind setting scope kind.Int test → after setting scope statement ≡ (within setting scope chosen >> other_within setting scope other)
if_tested setting scope statement test chosen other is tested =
    ap (after setting scope) is ∙ if_is setting scope test chosen other ∙ ap (λ found. found >> (within setting scope chosen >> other_within setting scope other)) (sym tested)

-- what was kept is the scope
kept_is : {A : Type 0} (found : Checked A) (scope new : List Known) → (found >> Ok scope) ≡ Ok new → scope ≡ new
kept_is (Ok a) scope new e = cc
kept_is (Err fault) scope new e = cc

-- behind the first block of an `if`
pub if_chosen : (setting : Setting) (scope new : List Known) (statement : Statement) (test : Expr) (chosen : List Statement) (other : Option (List Statement)) → statement ≡ a_statement.If test chosen other → Ok tt ≡ is_of_kind setting scope kind.Int test → within setting scope chosen ≡ Ok new → after setting scope statement ≡ other_within setting new other
if_chosen setting scope new statement test chosen other is tested block =
    if_tested setting scope statement test chosen other is tested
    ∙ ap (λ found. found >> other_within setting scope other) block
    ∙ ap (λ scope. other_within setting scope other) (kept_is (all_after setting scope chosen) scope new block)

-- a `for` is checked as the list of its block
pub for_is : (setting : Setting) (scope : List Known) (idents : List Ident) (stream : Ident) (body : List Statement) → after setting scope (a_statement.For idents stream body) ≡ for_after setting scope idents stream body
for_is setting scope idents stream body = same_on (loop_scope setting scope idents stream) _ _ (λ inside. ap (λ found. found >> Ok scope) (block_is setting inside body))

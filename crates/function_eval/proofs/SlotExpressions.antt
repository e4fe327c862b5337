-- An expression with slots has the value of the expression with names.
use Rattle.std.proofs.Common.{◌≡◌, ℕ, suc, true, false, cond, List, [], ◌∷◌, ◌++◌, Option, None, Some, refl, sym, ap, ap₂, ◌∙◌, append_assoc, length, map, slice_get}
use Rattle.std.specs.Str.{bytes_eq}
use Rattle.hal_base.specs.declared.value.Value.{Value}
use Rattle.function_language.specs.declared.tree.Expr.{Expr, Int, Text, Round, Name, Call', Row_of-Expr, end_of-Expr, more_of-Expr}
use Rattle.name_index.specs.Names.{place_behind}
use Rattle.operations.specs.declared.operation.Operation.{Operation}
use Rattle.operations.specs.Applied.{applied}
use Rattle.operations.specs.Operations.{operation_named}
use Rattle.function_eval.specs.declared.resolved.ResolvedExpr as resolved_expr
use Rattle.function_eval.specs.declared.resolved.ResolvedExpr.{ResolvedExpr, items-the_row-ResolvedExpr, items_hidden-the_row-ResolvedExpr-0}
use Rattle.function_eval.specs.declared.resolved.ResolvedExpr.TheBlock.{hidden-the_row-ResolvedExpr-0}
use Rattle.function_eval.specs.declared.resolved.ResolvedExpr.TheVariants as a_resolved_expr
use Rattle.function_meaning.specs.Expressions.{Named, args_values, looked_up, value_of}
use Rattle.function_meaning.specs.Optional.{◌>>=◌, all_of}
use Rattle.function_eval.specs.steps.Resolved.{args_resolved, call_of, slot_of, resolved}
use Rattle.function_eval.specs.steps.Slots.{slot_value, slot_values}

-- the names of pairs
abbrev pub names : {A : Type 0} → Named A → List (List ℕ)
names pairs = map (λ pair. pair.0) pairs

-- what they have
abbrev pub things : {A : Type 0} → Named A → List A
things pairs = map (λ pair. pair.1) pairs

-- ---- rows and lists

slot_values_of_row : (round : Option ℕ) (slots : List Value) (n : _) (row : resolved_expr.Row_of-ResolvedExpr n) → slot_values round slots row ≡ map (slot_value round slots) (items-the_row-ResolvedExpr n row)
slot_values_of_row round slots n resolved_expr.end_of-ResolvedExpr = refl
slot_values_of_row round slots n (resolved_expr.more_of-ResolvedExpr arg args) = ap (◌∷◌ (slot_value round slots arg)) (slot_values_of_row round slots _ args)

-- a call of these arguments
pub call_value : (round : Option ℕ) (slots : List Value) (operation : Operation) (args : List ResolvedExpr) → slot_value round slots (a_resolved_expr.Call operation args) ≡ (all_of (map (slot_value round slots) args) >>= applied operation)
call_value round slots operation args =
    ap (λ values. all_of values >>= applied operation) (
    slot_values_of_row round slots _ (hidden-the_row-ResolvedExpr-0 args)
    ∙ ap (map (slot_value round slots)) (items_hidden-the_row-ResolvedExpr-0 args))

-- ---- places

-- the item behind a list
pub behind_list : {A : Type 0} (before : List A) (a : A) (after : List A) → slice_get (before ++ a ∷ after) (length before) ≡ Some a
behind_list [] a after = refl
behind_list (b ∷ before) a after = behind_list before a after

pub one_more : {A : Type 0} (before : List A) (a : A) → length (before ++ a ∷ []) ≡ suc (length before)
one_more [] a = refl
one_more (b ∷ before) a = ap suc (one_more before a)

-- the slot of a name has what the name has
name_behind : (round : Option ℕ) (name : List ℕ) (before : List Value) (pairs : Named Value) →
    slot_value round (before ++ things pairs) (slot_of (place_behind (length before) name (names pairs))) ≡ looked_up name pairs
name_behind round name before [] = refl
name_behind round name before (pair ∷ pairs) =
    elim (bytes_eq name pair.0) as (λ b. slot_value round (before ++ pair.1 ∷ things pairs) (slot_of (cond b (Some (length before)) (place_behind (suc (length before)) name (names pairs)))) ≡ cond b (Some pair.1) (looked_up name pairs)) [
      | true ↦ behind_list before pair.1 (things pairs)
      | false ↦
          ap₂ (λ slots n. slot_value round slots (slot_of (place_behind n name (names pairs)))) (sym (append_assoc before (pair.1 ∷ []) (things pairs))) (sym (one_more before pair.1))
          ∙ name_behind round name (before ++ pair.1 ∷ []) pairs
    ]

-- ---- expressions

call_means : (round : Option ℕ) (slots : List Value) (operation : Option Operation) (args : List ResolvedExpr) (values : List (Option Value)) → map (slot_value round slots) args ≡ values →
    slot_value round slots (call_of operation args) ≡ (operation >>= λ op. all_of values >>= applied op)
call_means round slots None args values e = refl
call_means round slots (Some operation) args values e = call_value round slots operation args ∙ ap (λ values. all_of values >>= applied operation) e

-- an expression with slots has the value of the expression with names
mutual
  pub resolved_value : (round : Option ℕ) (pairs : Named Value) (e : Expr) → slot_value round (things pairs) (resolved (names pairs) e) ≡ value_of round pairs e
  resolved_value round pairs (Int line n) = refl
  resolved_value round pairs (Text line text) = refl
  resolved_value round pairs (Round line) = refl
  resolved_value round pairs (Name ident) = name_behind round ident.text [] pairs
  resolved_value round pairs (Call' ident shape args) = call_means round (things pairs) (operation_named ident.text) (args_resolved (names pairs) args) (args_values round pairs args) (args_resolved_values round pairs args)

  args_resolved_values : (round : Option ℕ) (pairs : Named Value) {n : _} (args : Row_of-Expr n) → map (slot_value round (things pairs)) (args_resolved (names pairs) args) ≡ args_values round pairs args
  args_resolved_values round pairs end_of-Expr = refl
  args_resolved_values round pairs (more_of-Expr arg args) = ap₂ (λ v vs. v ∷ vs) (resolved_value round pairs arg) (args_resolved_values round pairs args)

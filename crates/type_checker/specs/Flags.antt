-- Which functions use the round, and which reduces keep the key.
use Rattle.std.specs.Prelude.{ℕ, Bool, true, false, ◌||◌, ◌&&◌, List, [], ◌∷◌}
use Rattle.std.specs.List.{list_all, list_any}
use Rattle.std.specs.Str.{bytes_eq}
use Rattle.function_language.specs.declared.tree.Expr.{Expr, Int, Text, Round, Name, Call', Row_of-Expr, end_of-Expr, more_of-Expr}
use Rattle.function_language.specs.declared.tree.Function.{Function}
use Rattle.function_language.specs.declared.tree.Function.TheVariants.{Map, Reduce, Distance, Partition}
use Rattle.function_language.specs.declared.tree.Statement.{Statement, Let, Set, If', For', Emit, Give, Row_of-Statement, end_of-Statement, more_of-Statement, Held-Statement-If-2, None', Some'}

-- `round` stands in an expression
abbrev mutual
  pub has_round : Expr → Bool
  has_round (Int line n) = false
  has_round (Text line text) = false
  has_round (Round line) = true
  has_round (Name ident) = false
  has_round (Call' ident shape args) = any_has_round args

  -- in one of the arguments of a call
  pub any_has_round : {n : _} → Row_of-Expr n → Bool
  any_has_round end_of-Expr = false
  any_has_round (more_of-Expr arg args) = has_round arg || any_has_round args

-- `round` stands in a statement
abbrev mutual
  pub uses_round : Statement → Bool
  uses_round (Let ident value) = has_round value
  uses_round (Set ident value) = has_round value
  uses_round (If' test shape chosen other) = has_round test || any_uses_round chosen || else_uses_round other
  uses_round (For' idents stream shape body) = any_uses_round body
  uses_round (Emit line args) = list_any has_round args
  uses_round (Give line value) = has_round value

  -- in the block of an `else`
  pub else_uses_round : Held-Statement-If-2 → Bool
  else_uses_round None' = false
  else_uses_round (Some' shape other) = any_uses_round other

  -- in one of the statements of an inner block
  pub any_uses_round : {n : _} → Row_of-Statement n → Bool
  any_uses_round end_of-Statement = false
  any_uses_round (more_of-Statement statement statements) = uses_round statement || any_uses_round statements

-- the expression is this name
abbrev pub is_name : List ℕ → Expr → Bool
is_name name (Int line n) = false
is_name name (Text line text) = false
is_name name (Round line) = false
is_name name (Name ident) = bytes_eq name ident.text
is_name name (Call' ident shape args) = false

-- the first argument is this name
abbrev pub first_is : List ℕ → List Expr → Bool
first_is name [] = false
first_is name (arg ∷ args) = is_name name arg

-- the first argument of each `emit` in a statement is this name
abbrev mutual
  pub emits_first : List ℕ → Statement → Bool
  emits_first name (Let ident value) = true
  emits_first name (Set ident value) = true
  emits_first name (If' test shape chosen other) = all_emit_first name chosen && else_emits_first name other
  emits_first name (For' idents stream shape body) = all_emit_first name body
  emits_first name (Emit line args) = first_is name args
  emits_first name (Give line value) = true

  -- in the block of an `else`
  pub else_emits_first : List ℕ → Held-Statement-If-2 → Bool
  else_emits_first name None' = true
  else_emits_first name (Some' shape other) = all_emit_first name other

  -- in the statements of an inner block
  pub all_emit_first : {n : _} → List ℕ → Row_of-Statement n → Bool
  all_emit_first name end_of-Statement = true
  all_emit_first name (more_of-Statement statement statements) = emits_first name statement && all_emit_first name statements

-- `round` stands in the body of a function
abbrev pub function_uses_round : Function → Bool
function_uses_round (Map name params arrow out body) = list_any uses_round body
function_uses_round (Reduce name key streams arrow out body) = list_any uses_round body
function_uses_round (Distance name key before after body) = list_any uses_round body
function_uses_round (Partition name key body) = list_any uses_round body

-- a reduce that emits its key parameter first, wherever it emits
abbrev pub keeps_its_key : Function → Bool
keeps_its_key (Map name params arrow out body) = false
keeps_its_key (Reduce name key streams arrow out body) = list_all (emits_first key.name.text) body
keeps_its_key (Distance name key before after body) = false
keeps_its_key (Partition name key body) = false

-- What is in scope behind a statement, or its first fault.
use Rattle.std.specs.Prelude.{ℕ, ◌==◌, true, false, cond, List, [], ◌∷◌, Option, None, Some, Ok, Err, drop, length, map}
use Rattle.hal_base.specs.declared.value.Kind.{Kind}
use Rattle.hal_base.specs.declared.value.Kind.TheVariants as kind
use Rattle.program_tokens.specs.declared.token.Ident.{Ident}
use Rattle.function_language.specs.declared.tree.Statement.{Statement, Let, Set, If', For', Emit, Give, Row_of-Statement, end_of-Statement, more_of-Statement, Held-Statement-If-2, None', Some'}
use Rattle.type_checker.specs.declared.fault.TypeFault.TheVariants.{EmitMismatch, StreamMismatch}
use Rattle.type_checker.specs.declared.scope.Known.{Known}
use Rattle.type_checker.specs.declared.scope.KnownStream.{KnownStream}
use Rattle.type_checker.specs.declared.scope.Setting.{Setting}
use Rattle.type_checker.specs.Checked.{Checked, fine, ◌>>=◌, ◌>>◌}
use Rattle.type_checker.specs.Kinds.{Judged, is_of_kind, judged, kind_in, same_kind}
use Rattle.type_checker.specs.Scopes.{declared, kind_to_set, known, stream_named}

-- the first of some kinds
abbrev pub first_kind : List Kind → Kind
first_kind [] = kind.Int
first_kind (first ∷ others) = first

-- the scope with the names of a loop, which are of these kinds as far as there are any
abbrev pub loop_names : Setting → List Known → List Ident → List Kind → Checked (List Known)
loop_names setting scope [] kinds = Ok scope
loop_names setting scope (ident ∷ idents) kinds = do
  more ← declared setting scope ident (first_kind kinds) false
  loop_names setting more idents (drop 1 kinds)

-- the kinds of the fields of a stream, if there is one
abbrev pub kinds_of : Option KnownStream → List Kind
kinds_of None = []
kinds_of (Some stream) = stream.kinds

-- a stream with so many fields
abbrev pub has_fields : Setting → Ident → ℕ → Option KnownStream → Checked (Unit {0})
has_fields setting ident count None = Err (StreamMismatch setting.function ident.line)
has_fields setting ident count (Some stream) = cond (length stream.kinds == count) fine (Err (StreamMismatch setting.function ident.line))

-- the scope within a loop: its names come first in the text, and then its stream
abbrev pub loop_scope : Setting → List Known → List Ident → Ident → Checked (List Known)
loop_scope setting scope idents stream = do
  inside ← loop_names setting scope idents (kinds_of (stream_named stream.text setting.streams))
  has_fields setting stream (length idents) (stream_named stream.text setting.streams)
  Ok inside

-- the arguments are of these kinds, as far as both go
abbrev pub each_emitted : Setting → List Kind → List Judged → Checked (Unit {0})
each_emitted setting [] args = fine
each_emitted setting (want ∷ wants) [] = fine
each_emitted setting (want ∷ wants) (arg ∷ args) = do
  got ← arg.1
  cond (same_kind want got) fine (Err (EmitMismatch setting.function arg.0))
  each_emitted setting wants args

-- a record of these kinds may be emitted
abbrev pub emits : Setting → ℕ → Option (List Kind) → List Judged → Checked (Unit {0})
emits setting line None args = Err (EmitMismatch setting.function line)
emits setting line (Some kinds) args = cond (length kinds == length args) (each_emitted setting kinds args) (Err (EmitMismatch setting.function line))

-- a number may be given
abbrev pub gives : Setting → ℕ → Option (List Kind) → Checked (Unit {0})
gives setting line None = fine
gives setting line (Some kinds) = Err (EmitMismatch setting.function line)

-- the scope behind a statement
abbrev mutual
  pub after : Setting → List Known → Statement → Checked (List Known)
  after setting scope (Let ident value) = do
    kind ← kind_in setting scope value
    declared setting scope ident kind true
  after setting scope (Set ident value) = do
    kind ← kind_to_set setting ident (known ident.text scope)
    is_of_kind setting scope kind value
    Ok scope
  after setting scope (If' test shape chosen other) = do
    is_of_kind setting scope kind.Int test
    row_after setting scope chosen
    else_after setting scope other
    Ok scope
  after setting scope (For' idents stream shape body) = do
    inside ← loop_scope setting scope idents stream
    row_after setting inside body
    Ok scope
  after setting scope (Emit line args) = do
    emits setting line setting.out (map (judged setting scope) args)
    Ok scope
  after setting scope (Give line value) = do
    gives setting line setting.out
    is_of_kind setting scope kind.Int value
    Ok scope

  -- behind the block of an `else`
  pub else_after : Setting → List Known → Held-Statement-If-2 → Checked (List Known)
  else_after setting scope None' = Ok scope
  else_after setting scope (Some' shape other) = row_after setting scope other

  -- behind the last statement of an inner block
  pub row_after : {n : _} → Setting → List Known → Row_of-Statement n → Checked (List Known)
  row_after setting scope end_of-Statement = Ok scope
  row_after setting scope (more_of-Statement statement statements) = do
    more ← after setting scope statement
    row_after setting more statements

-- behind the last of some statements
abbrev pub all_after : Setting → List Known → List Statement → Checked (List Known)
all_after setting scope [] = Ok scope
all_after setting scope (statement ∷ statements) = do
  more ← after setting scope statement
  all_after setting more statements

-- What the steps of the check find.
use Rattle.std.specs.Prelude.{◌≡◌, ℕ, true, false, Option, None, Some, List, [], ◌∷◌, ◌++◌, Result, Ok, Err, cond}
use Rattle.hal_base.specs.declared.value.Kind.TheVariants as kind
use Rattle.function_language.specs.declared.tree.Expr.{Expr}
use Rattle.function_language.specs.declared.tree.Function.{Function}
use Rattle.program_tokens.specs.declared.token.Ident.{Ident}
use Rattle.function_language.specs.declared.tree.Param.{Param}
use Rattle.function_language.specs.declared.tree.Row.{Row}
use Rattle.function_language.specs.declared.tree.Statement.{Statement}
use Rattle.function_language.specs.declared.tree.Stream.{Stream}
use Rattle.type_checker.specs.declared.fault.TypeFault.{TypeFault}
use Rattle.type_checker.specs.declared.fault.TypeFault.TheVariants.{DoubleName, EmitMismatch, Memory, StreamMismatch, UnknownName, WrongCount, WrongKind}
use Rattle.type_checker.specs.declared.scope.Known.{Known}
use Rattle.type_checker.specs.declared.scope.KnownStream.{KnownStream}
use Rattle.type_checker.specs.declared.scope.Setting.{Setting}
use Rattle.type_checker.specs.Checked.{Checked, fine, ◌>>=◌, ◌>>◌}
use Rattle.type_checker.specs.Functions.{body_right, key_scope, name_free, name_of, params_scope, setting_of, streams_beside}
use Rattle.type_checker.specs.Kinds.{is_of_kind}
use Rattle.type_checker.specs.Scopes.{is_taken}
use Rattle.type_checker.specs.Statements.{all_after, loop_scope}

-- this fault is the one that is found, or memory ran out
abbrev pub FaultIs : {A : Type 0} → Checked A → TypeFault → Type 0
FaultIs found Memory = Unit {0}
FaultIs found (WrongKind function line want got) = found ≡ Err (WrongKind function line want got)
FaultIs found (UnknownName function line) = found ≡ Err (UnknownName function line)
FaultIs found (WrongCount function line) = found ≡ Err (WrongCount function line)
FaultIs found (EmitMismatch function line) = found ≡ Err (EmitMismatch function line)
FaultIs found (DoubleName function line) = found ≡ Err (DoubleName function line)
FaultIs found (StreamMismatch function line) = found ≡ Err (StreamMismatch function line)

-- an answer is what is found, unless memory ran out
abbrev pub Tells : {A : Type 0} → Checked A → Result A TypeFault → Type 0
Tells found (Ok a) = found ≡ Ok a
Tells found (Err fault) = FaultIs found fault

-- a call left what is found, unless memory ran out
abbrev pub Leaves : {A B : Type 0} → Checked A → Result B TypeFault → A → Type 0
Leaves found (Ok b) left = found ≡ Ok left
Leaves found (Err fault) left = FaultIs found fault

-- a call found no fault where there is none, unless memory ran out
abbrev pub Passes : {A : Type 0} → Checked A → Result (Unit {0}) TypeFault → Type 0
Passes found result = Tells (found >> fine) result

-- the same scope behind an inner block
abbrev pub within : Setting → List Known → List Statement → Checked (List Known)
within setting scope statements = do
  all_after setting scope statements
  Ok scope

-- the same scope behind the block of an `else`
abbrev pub other_within : Setting → List Known → Option (List Statement) → Checked (List Known)
other_within setting scope None = Ok scope
other_within setting scope (Some other) = within setting scope other

-- an `if`, by the lists of its blocks
abbrev pub if_after : Setting → List Known → Expr → List Statement → Option (List Statement) → Checked (List Known)
if_after setting scope test chosen other = do
  is_of_kind setting scope kind.Int test
  within setting scope chosen
  other_within setting scope other

-- a `for`, by the list of its block
abbrev pub for_after : Setting → List Known → List Ident → Ident → List Statement → Checked (List Known)
for_after setting scope idents stream body = do
  inside ← loop_scope setting scope idents stream
  all_after setting inside body
  Ok scope

-- one stream more beside this scope, behind those that there are
abbrev pub stream_beside : ℕ → List Known → List KnownStream → Stream → Checked (List KnownStream)
stream_beside function scope before stream = cond (is_taken stream.name.text scope before) (Err (DoubleName function stream.name.line)) (Ok (before ++ record { name = stream.name.text; kinds = stream.kinds } ∷ []))

-- the names behind a function of this number, where functions of these names stand before it
abbrev pub function_right : ℕ → List (List ℕ) → Function → Checked (List (List ℕ))
function_right n before function = do
  name_free n before (name_of function)
  body_right n function
  Ok (before ++ (name_of function).text ∷ [])

-- the body of a map
abbrev pub map_right : ℕ → List Param → Row → List Statement → Checked (List Known)
map_right n params out body = do
  scope ← params_scope (setting_of n true (Some out.kinds) []) [] params
  all_after (setting_of n true (Some out.kinds) []) scope body

-- the body of a reduce
abbrev pub reduce_right : ℕ → Param → List Stream → Row → List Statement → Checked (List Known)
reduce_right n key streams out body = do
  known ← streams_beside n (key_scope key) [] streams
  all_after (setting_of n true (Some out.kinds) known) (key_scope key) body

-- the body of a distance
abbrev pub distance_right : ℕ → Param → Stream → Stream → List Statement → Checked (List Known)
distance_right n key before after body = do
  known ← streams_beside n (key_scope key) [] (before ∷ after ∷ [])
  all_after (setting_of n false None known) (key_scope key) body

-- the body of a partition
abbrev pub partition_right : ℕ → Param → List Statement → Checked (List Known)
partition_right n key body = all_after (setting_of n true None []) (key_scope key) body

-- When functions are right, and their first fault.
use Rattle.std.specs.Prelude.{◌≡◌, ℕ, suc, Bool, true, false, cond, ◌||◌, List, [], ◌∷◌, ◌++◌, Option, None, Some, Ok, Err, codes}
use Rattle.std.specs.List.{list_any}
use Rattle.std.specs.Str.{bytes_eq}
use Rattle.hal_base.specs.declared.value.Kind.{Kind}
use Rattle.function_language.specs.declared.tree.Function.{Function}
use Rattle.function_language.specs.declared.tree.Function.TheVariants.{Map, Reduce, Distance, Partition}
use Rattle.program_tokens.specs.declared.token.Ident.{Ident}
use Rattle.function_language.specs.declared.tree.Param.{Param}
use Rattle.function_language.specs.declared.tree.Stream.{Stream}
use Rattle.type_checker.specs.declared.fault.TypeFault.{TypeFault}
use Rattle.type_checker.specs.declared.fault.TypeFault.TheVariants.{DoubleName, EmitMismatch, Memory, StreamMismatch, UnknownName, WrongCount, WrongKind}
use Rattle.type_checker.specs.declared.scope.Known.{Known}
use Rattle.type_checker.specs.declared.scope.KnownStream.{KnownStream}
use Rattle.type_checker.specs.declared.scope.Setting.{Setting}
use Rattle.type_checker.specs.Checked.{Checked, fine, ◌>>=◌, ◌>>◌}
use Rattle.type_checker.specs.Scopes.{declared, is_taken, value_of_kind}
use Rattle.type_checker.specs.Statements.{all_after}

-- a function of this number, which has the round or not, emits records of these kinds or gives a number, and has these streams
abbrev pub setting_of : ℕ → Bool → Option (List Kind) → List KnownStream → Setting
setting_of function has_round out streams = record { function = function; has_round = has_round; out = out; streams = streams }

-- the scope of the parameters, behind those that are in it
abbrev pub params_scope : Setting → List Known → List Param → Checked (List Known)
params_scope setting scope [] = Ok scope
params_scope setting scope (param ∷ params) = do
  more ← declared setting scope param.name param.kind false
  params_scope setting more params

-- the streams beside this scope, behind those that there are
abbrev pub streams_beside : ℕ → List Known → List KnownStream → List Stream → Checked (List KnownStream)
streams_beside function scope before [] = Ok before
streams_beside function scope before (stream ∷ streams) =
    cond (is_taken stream.name.text scope before) (Err (DoubleName function stream.name.line)) (streams_beside function scope (before ++ record { name = stream.name.text; kinds = stream.kinds } ∷ []) streams)

-- the scope of a key alone
abbrev pub key_scope : Param → List Known
key_scope key = value_of_kind key.name key.kind false ∷ []

-- the function of this number, apart from its name: its parameters, its streams and its body
abbrev pub body_right : ℕ → Function → Checked (List Known)
body_right n (Map name params arrow out body) = do
  scope ← params_scope (setting_of n true (Some out.kinds) []) [] params
  all_after (setting_of n true (Some out.kinds) []) scope body
body_right n (Reduce name key streams arrow out body) = do
  known ← streams_beside n (key_scope key) [] streams
  all_after (setting_of n true (Some out.kinds) known) (key_scope key) body
body_right n (Distance name key before after body) = do
  known ← streams_beside n (key_scope key) [] (before ∷ after ∷ [])
  all_after (setting_of n false None known) (key_scope key) body
body_right n (Partition name key body) = all_after (setting_of n true None []) (key_scope key) body

-- the name of a function
abbrev pub name_of : Function → Ident
name_of (Map name params arrow out body) = name
name_of (Reduce name key streams arrow out body) = name
name_of (Distance name key before after body) = name
name_of (Partition name key body) = name

-- a predefined function has this name
abbrev pub is_predefined : List ℕ → Bool
is_predefined name = bytes_eq name (codes "same") || bytes_eq name (codes "least") || bytes_eq name (codes "every") || bytes_eq name (codes "hop")

-- the name of a function is free, where functions of these names stand before it
abbrev pub name_free : ℕ → List (List ℕ) → Ident → Checked (Unit {0})
name_free n before ident = cond (is_predefined ident.text || list_any (bytes_eq ident.text) before) (Err (DoubleName n ident.line)) fine

-- the functions from this number on, where functions of these names stand before them
abbrev pub functions_right : ℕ → List (List ℕ) → List Function → Checked (Unit {0})
functions_right n before [] = fine
functions_right n before (function ∷ functions) = do
  name_free n before (name_of function)
  body_right n function
  functions_right (suc n) (before ++ (name_of function).text ∷ []) functions

-- no fault is in the functions
abbrev pub AreTyped : List Function → Type 0
AreTyped functions = functions_right 0 [] functions ≡ fine

-- this fault is the first in the functions
abbrev pub HaveTypeFault : List Function → TypeFault → Type 0
HaveTypeFault functions Memory = Unit {0}
HaveTypeFault functions (WrongKind function line want got) = functions_right 0 [] functions ≡ Err (WrongKind function line want got)
HaveTypeFault functions (UnknownName function line) = functions_right 0 [] functions ≡ Err (UnknownName function line)
HaveTypeFault functions (WrongCount function line) = functions_right 0 [] functions ≡ Err (WrongCount function line)
HaveTypeFault functions (EmitMismatch function line) = functions_right 0 [] functions ≡ Err (EmitMismatch function line)
HaveTypeFault functions (DoubleName function line) = functions_right 0 [] functions ≡ Err (DoubleName function line)
HaveTypeFault functions (StreamMismatch function line) = functions_right 0 [] functions ≡ Err (StreamMismatch function line)

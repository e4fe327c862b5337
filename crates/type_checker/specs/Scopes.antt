-- What is in scope within a function.
use Rattle.std.specs.Prelude.{ℕ, Bool, cond, ◌||◌, List, [], ◌∷◌, ◌++◌, Option, None, Some, is_some, Ok, Err}
use Rattle.hal_base.specs.declared.value.Kind.{Kind}
use Rattle.name_index.specs.Names.{named}
use Rattle.program_tokens.specs.declared.token.Ident.{Ident}
use Rattle.type_checker.specs.declared.fault.TypeFault.TheVariants.{DoubleName, UnknownName}
use Rattle.type_checker.specs.declared.scope.Known.{Known}
use Rattle.type_checker.specs.declared.scope.KnownStream.{KnownStream}
use Rattle.type_checker.specs.declared.scope.Setting.{Setting}
use Rattle.type_checker.specs.Checked.{Checked}

-- the name of a parameter or a variable
abbrev pub known_name : Known → List ℕ
known_name value = value.name

-- the name of a stream
abbrev pub stream_name : KnownStream → List ℕ
stream_name stream = stream.name

-- the first parameter or variable of this name
abbrev pub known : List ℕ → List Known → Option Known
known name values = named known_name name values

-- the first stream of this name
abbrev pub stream_named : List ℕ → List KnownStream → Option KnownStream
stream_named name streams = named stream_name name streams

-- a parameter, a variable or a stream has this name
abbrev pub is_taken : List ℕ → List Known → List KnownStream → Bool
is_taken name values streams = is_some (known name values) || is_some (stream_named name streams)

-- a parameter or a variable
abbrev pub value_of_kind : Ident → Kind → Bool → Known
value_of_kind ident kind variable = record { name = ident.text; kind = kind; variable = variable }

-- the scope with one more value, whose name must be free
abbrev pub declared : Setting → List Known → Ident → Kind → Bool → Checked (List Known)
declared setting scope ident kind variable =
    cond (is_taken ident.text scope setting.streams) (Err (DoubleName setting.function ident.line)) (Ok (scope ++ value_of_kind ident kind variable ∷ []))

-- the kind of a value in scope
abbrev pub kind_found : Setting → Ident → Option Known → Checked Kind
kind_found setting ident None = Err (UnknownName setting.function ident.line)
kind_found setting ident (Some value) = Ok value.kind

-- the kind of a variable of a `let` in scope
abbrev pub kind_to_set : Setting → Ident → Option Known → Checked Kind
kind_to_set setting ident None = Err (UnknownName setting.function ident.line)
kind_to_set setting ident (Some value) = cond value.variable (Ok value.kind) (Err (UnknownName setting.function ident.line))

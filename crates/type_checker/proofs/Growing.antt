-- A scope only grows, until its block is left.
use Rattle.std.proofs.Common.{◌≡◌, ◌∙◌, ap, cond, refl, subst, sym, Bool, true, false, List, [], ◌∷◌, ◌++◌, Ok, Err, append_assoc, append-nil, drop, length, map, take}
use Rattle.hal_base.specs.declared.value.Kind.{Kind}
use Rattle.hal_base.specs.declared.value.Kind.TheVariants as kind
use Rattle.program_tokens.specs.declared.token.Ident.{Ident}
use Rattle.function_language.specs.declared.tree.Statement.{Statement, Let, Set, If', For', Emit, Give}
use Rattle.type_checker.specs.declared.fault.TypeFault.{TypeFault}
use Rattle.type_checker.specs.declared.fault.TypeFault.TheVariants.{DoubleName}
use Rattle.type_checker.specs.declared.scope.Known.{Known}
use Rattle.type_checker.specs.declared.scope.Setting.{Setting}
use Rattle.type_checker.specs.Checked.{Checked, ◌>>=◌, ◌>>◌}
use Rattle.type_checker.specs.Kinds.{is_of_kind, judged, kind_in}
use Rattle.type_checker.specs.Scopes.{declared, is_taken, kind_to_set, known, stream_named, value_of_kind}
use Rattle.type_checker.specs.Statements.{after, all_after, else_after, emits, first_kind, gives, has_fields, kinds_of, loop_names, loop_scope, row_after}

-- values were added
abbrev Grown : List Known → List Known → Type 0
Grown old new = (more : List Known) × (new ≡ old ++ more)

-- what is found, if there is no fault, is this scope with values added
abbrev Grows : List Known → Checked (List Known) → Type 0
Grows scope (Ok new) = Grown scope new
Grows scope (Err fault) = Unit {0}

same : (scope : List Known) → Grown scope scope
same scope = ([], sym (append-nil scope))

twice : (old new newer : List Known) → Grown old new → Grown new newer → Grown old newer
twice old new newer a b = (a.0 ++ b.0, b.1 ∙ ap (λ l. l ++ b.0) a.1 ∙ append_assoc old a.0 b.0)

-- behind a scope that grew
grows_from : (old new : List Known) (found : Checked (List Known)) → Grown old new → Grows new found → Grows old found
grows_from old new (Ok newer) a b = twice old new newer a b
grows_from old new (Err fault) a b = tt

-- behind whatever is found first
behind : {A : Type 0} (scope : List Known) (found : Checked A) (on : A → Checked (List Known)) → ((a : A) → Grows scope (on a)) → Grows scope (found >>= on)
behind scope (Ok a) on g = g a
behind scope (Err fault) on g = tt

-- the same, where it is not used
beside : {A : Type 0} (scope : List Known) (found : Checked A) (more : Checked (List Known)) → Grows scope more → Grows scope (found >> more)
beside scope (Ok a) more g = g
beside scope (Err fault) more g = tt

-- behind a scope that grows
onward : (scope : List Known) (found : Checked (List Known)) (on : List Known → Checked (List Known)) → Grows scope found → ((new : List Known) → Grows new (on new)) → Grows scope (found >>= on)
onward scope (Ok new) on a g = grows_from scope new (on new) a (g new)
onward scope (Err fault) on a g = tt

unless_refused : (scope more : List Known) (fault : TypeFault) (refused : Bool) → Grows scope (cond refused (Err fault) (Ok (scope ++ more)))
unless_refused scope more fault true = tt
unless_refused scope more fault false = (more, refl)

declared_grows : (setting : Setting) (scope : List Known) (ident : Ident) (kind : Kind) (variable : Bool) → Grows scope (declared setting scope ident kind variable)
declared_grows setting scope ident kind variable = unless_refused scope (value_of_kind ident kind variable ∷ []) (DoubleName setting.function ident.line) (is_taken ident.text scope setting.streams)

after_grows : (setting : Setting) (scope : List Known) (statement : Statement) → Grows scope (after setting scope statement)
after_grows setting scope (Let ident value) = behind scope (kind_in setting scope value) _ (λ kind. declared_grows setting scope ident kind true)
after_grows setting scope (Set ident value) = behind scope (kind_to_set setting ident (known ident.text scope)) _ (λ kind. beside scope (is_of_kind setting scope kind value) _ (same scope))
after_grows setting scope (If' test shape chosen other) =
    beside scope (is_of_kind setting scope kind.Int test) _ (beside scope (row_after setting scope chosen) _ (beside scope (else_after setting scope other) _ (same scope)))
after_grows setting scope (For' idents stream shape body) = behind scope (loop_scope setting scope idents stream) _ (λ inside. beside scope (row_after setting inside body) _ (same scope))
after_grows setting scope (Emit line args) = beside scope (emits setting line setting.out (map (judged setting scope) args)) _ (same scope)
after_grows setting scope (Give line value) = beside scope (gives setting line setting.out) _ (beside scope (is_of_kind setting scope kind.Int value) _ (same scope))

all_grow : (setting : Setting) (scope : List Known) (statements : List Statement) → Grows scope (all_after setting scope statements)
all_grow setting scope [] = same scope
all_grow setting scope (statement ∷ statements) = onward scope (after setting scope statement) _ (after_grows setting scope statement) (λ more. all_grow setting more statements)

names_grow : (setting : Setting) (scope : List Known) (idents : List Ident) (kinds : List Kind) → Grows scope (loop_names setting scope idents kinds)
names_grow setting scope [] kinds = same scope
names_grow setting scope (ident ∷ idents) kinds =
    onward scope (declared setting scope ident (first_kind kinds) false) _ (declared_grows setting scope ident (first_kind kinds) false) (λ more. names_grow setting more idents (drop 1 kinds))

loop_grows : (setting : Setting) (scope : List Known) (idents : List Ident) (stream : Ident) → Grows scope (loop_scope setting scope idents stream)
loop_grows setting scope idents stream =
    onward scope (loop_names setting scope idents (kinds_of (stream_named stream.text setting.streams))) _ (names_grow setting scope idents (kinds_of (stream_named stream.text setting.streams)))
    (λ inside. beside inside (has_fields setting stream (length idents) (stream_named stream.text setting.streams)) _ (same inside))

take_front : (xs ys : List Known) → take (length xs) (xs ++ ys) ≡ xs
take_front [] ys = refl
take_front (x ∷ xs) ys = ap (λ l. x ∷ l) (take_front xs ys)

-- what was there comes back
back : (old new : List Known) → Grown old new → take (length old) new ≡ old
back old new a = ap (λ l. take (length old) l) a.1 ∙ take_front old a.0

-- a block that is left leaves the scope as it was
pub block_left : (setting : Setting) (scope inside : List Known) (statements : List Statement) → all_after setting scope statements ≡ Ok inside → take (length scope) inside ≡ scope
block_left setting scope inside statements e = back scope inside (subst (Grows scope) e (all_grow setting scope statements))

-- and so does a loop
pub loop_left : (setting : Setting) (scope inside behind : List Known) (idents : List Ident) (stream : Ident) (statements : List Statement) → loop_scope setting scope idents stream ≡ Ok inside → all_after setting inside statements ≡ Ok behind → take (length scope) behind ≡ scope
loop_left setting scope inside behind idents stream statements enter e =
    back scope behind (twice scope inside behind (subst (Grows scope) enter (loop_grows setting scope idents stream)) (subst (Grows inside) e (all_grow setting inside statements)))

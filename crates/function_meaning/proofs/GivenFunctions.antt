-- Functions give values for values.
use Rattle.std.proofs.Common.{ℕ, ◌≤◌, ℤ, pos, negsuc, List, [], ◌∷◌, Option, None, Some, IfSome, FitsSigned, arith, map, w64}
use Rattle.std.specs.List.{AllByRecursion}
use Rattle.hal_base.specs.declared.record.Record.{Record}
use Rattle.hal_base.specs.declared.value.Value.{Value}
use Rattle.hal_base.specs.Values.{IsValue}
use Rattle.function_language.specs.declared.tree.Function.{Function}
use Rattle.function_language.specs.declared.tree.Function.TheVariants.{Map, Reduce, Distance, Partition}
use Rattle.function_language.specs.declared.tree.Param.{Param}
use Rattle.function_language.specs.declared.tree.Statement.{Statement}
use Rattle.function_language.specs.declared.tree.Stream.{Stream}
use Rattle.operations.specs.Applied.{at_least_zero}
use Rattle.function_meaning.specs.Expressions.{Named, paired}
use Rattle.function_meaning.specs.Functions.{distance_gives, key_named, map_emits, ran, reduce_emits}
use Rattle.function_meaning.specs.Statements.{start}
use Rattle.function_meaning.proofs.GivenBodies.{AreGroupValues, HasValues, HoldsValues, body_holds, start_holds}
use Rattle.function_meaning.proofs.GivenExpressions.{EachHas, IsRoundOf, paired_has, some_then}
use Rattle.function_meaning.proofs.LiteralValues.{ValuesInFunction, ValuesInStatement}

-- of values a function makes values, in any round that a program may have
abbrev pub KeepsValues : Function → Type 0
KeepsValues (Map name params arrow out body) = (round : ℕ) (row : Record) → round ≤ 10000 → HasValues row → IfSome (map_emits round (Map name params arrow out body) row) (AllByRecursion HasValues)
KeepsValues (Reduce name param streams arrow out body) =
    (round : ℕ) (key : Value) (groups : List (List (List Value))) → round ≤ 10000 → IsValue key → AllByRecursion AreGroupValues groups
    → IfSome (reduce_emits round (Reduce name param streams arrow out body) key groups) (AllByRecursion HasValues)
KeepsValues (Distance name param before after body) =
    (key : Value) (old new : List (List Value)) → IsValue key → AreGroupValues old → AreGroupValues new
    → IfSome (distance_gives (Distance name param before after body) key old new) (λ distance. distance ≤ 9223372036854775807)
KeepsValues (Partition name param body) = Unit {0}

ran_holds : (round : Option ℕ) (params : Named Value) (groups : Named (List (List Value))) (body : List Statement) → IsRoundOf round → EachHas IsValue params → EachHas AreGroupValues groups → AllByRecursion ValuesInStatement body →
    IfSome (ran round params groups body) HoldsValues
ran_holds round params groups body few ps gs v = body_holds (record { round = round; params = params; groups = groups }) few ps gs body start v start_holds

distance_fits : (n : ℤ) → FitsSigned w64 n → at_least_zero n ≤ 9223372036854775807
distance_fits (pos n) f = let l = f.sfits in omega arith
distance_fits (negsuc n) f = omega arith

pub keeps_values : (f : Function) → ValuesInFunction f → KeepsValues f
keeps_values (Map name params arrow out body) v = λ round row few has.
    let names = map (λ (param : Param). param.name.text) params in
    some_then (AllByRecursion HasValues) (paired names (row.key ∷ row.fields)) _ (paired_has IsValue names (row.key ∷ row.fields) has)
    (λ values all. some_then (AllByRecursion HasValues) (ran (Some round) values [] body) _ (ran_holds (Some round) values [] body few all tt v) (λ done holds. holds.out))
keeps_values (Reduce name param streams arrow out body) v = λ round key groups few is all.
    let names = map (λ (stream : Stream). stream.name.text) streams in
    some_then (AllByRecursion HasValues) (paired names groups) _ (paired_has AreGroupValues names groups all)
    (λ known each. some_then (AllByRecursion HasValues) (ran (Some round) (key_named param key) known body) _ (ran_holds (Some round) (key_named param key) known body few (is, tt) each v) (λ done holds. holds.out))
keeps_values (Distance name param before after body) v = λ key old new is olds news.
    let groups : Named (List (List Value)) = (before.name.text, old) ∷ (after.name.text, new) ∷ [] in
    some_then (λ distance. distance ≤ 9223372036854775807) (ran None (key_named param key) groups body) _ (ran_holds None (key_named param key) groups body tt (is, tt) (olds, (news, tt)) v) (λ done holds. distance_fits done.given holds.given)
keeps_values (Partition name param body) v = tt

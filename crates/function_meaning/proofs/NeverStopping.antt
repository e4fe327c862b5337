-- Typed functions never stop, and give values for values.
use Rattle.std.proofs.Common.{List, [], ◌∷◌, Option, None, Some, IfSome}
use Rattle.std.specs.List.{AllByRecursion}
use Rattle.hal_base.specs.declared.record.Record.{Record}
use Rattle.hal_base.specs.declared.value.Kind.{Kind}
use Rattle.hal_base.specs.declared.value.Value.{Value}
use Rattle.plain_job.specs.Fit.{IsGroupOf}
use Rattle.function_language.specs.declared.tree.Function.{Function}
use Rattle.function_language.specs.declared.tree.Function.TheVariants.{Map, Reduce, Distance, Partition}
use Rattle.function_language.specs.declared.tree.Stream.{Stream}
use Rattle.function_meaning.specs.Functions.{distance_gives, map_emits, reduce_emits}
use Rattle.function_meaning.specs.NeverStops.{AreGroupsOf, GoesRight, IsOfKinds, NeverStops, TypedFunctionsNeverStop}
use Rattle.function_meaning.proofs.GivenBodies.{AreGroupValues, HasValues}
use Rattle.function_meaning.proofs.GivenFunctions.{KeepsValues, keeps_values}
use Rattle.function_meaning.proofs.LiteralValues.{ValuesInFunction, literals_are_values}
use Rattle.function_meaning.proofs.RightFunctions.{typed_keep_kinds}
use Rattle.function_meaning.proofs.RightKinds.{GroupHasKinds, GroupsHaveKinds, KeepsKinds, RowHasKinds}

-- what is there holds both
both_right : {A : Type 0} {P Q R : A → Type 0} (o : Option A) → GoesRight P o → IfSome o Q → ((a : A) → P a → Q a → R a) → GoesRight R o
both_right None p q h = p
both_right (Some a) p q h = h a p q

rows_of_both : (kinds : List Kind) (rows : List Record) → AllByRecursion (RowHasKinds kinds) rows → AllByRecursion HasValues rows → AllByRecursion (IsOfKinds kinds) rows
rows_of_both kinds [] p q = tt
rows_of_both kinds (row ∷ rows) p q = (record { good = q.0; same_kinds = p.0 }, rows_of_both kinds rows p.1 q.1)

group_kinds : (kinds : List Kind) (group : List (List Value)) → IsGroupOf kinds group → GroupHasKinds kinds group
group_kinds kinds [] all = tt
group_kinds kinds (fields ∷ group) all = (all.0.same_kinds, group_kinds kinds group all.1)

group_values : (kinds : List Kind) (group : List (List Value)) → IsGroupOf kinds group → AreGroupValues group
group_values kinds [] all = tt
group_values kinds (fields ∷ group) all = (all.0.good, group_values kinds group all.1)

groups_kinds : (streams : List Stream) (groups : List (List (List Value))) → AreGroupsOf streams groups → GroupsHaveKinds streams groups
groups_kinds [] [] all = tt
groups_kinds [] (group ∷ groups) all = all
groups_kinds (stream ∷ streams) [] all = all
groups_kinds (stream ∷ streams) (group ∷ groups) all = (group_kinds stream.kinds group all.0, groups_kinds streams groups all.1)

groups_values : (streams : List Stream) (groups : List (List (List Value))) → AreGroupsOf streams groups → AllByRecursion AreGroupValues groups
groups_values [] [] all = tt
groups_values [] (group ∷ groups) all = absurd all
groups_values (stream ∷ streams) [] all = tt
groups_values (stream ∷ streams) (group ∷ groups) all = (group_values stream.kinds group all.0, groups_values streams groups all.1)

never_stops : (f : Function) → KeepsKinds f → KeepsValues f → NeverStops f
never_stops (Map name params arrow out body) kinds values = λ few round row is_round is.
    both_right (map_emits round (Map name params arrow out body) row) (kinds few round row is.same_kinds) (values round row is_round is.good) (λ rows p q. rows_of_both out.kinds rows p q)
never_stops (Reduce name param streams arrow out body) kinds values = λ few round key groups is_round is all.
    both_right (reduce_emits round (Reduce name param streams arrow out body) key groups)
    (kinds few round key groups is.same_kind (groups_kinds streams groups all)) (values round key groups is_round is.good (groups_values streams groups all))
    (λ rows p q. rows_of_both out.kinds rows p q)
never_stops (Distance name param before after body) kinds values = λ key old new is olds news.
    both_right (distance_gives (Distance name param before after body) key old new)
    (kinds key old new is.same_kind (group_kinds before.kinds old olds) (group_kinds after.kinds new news)) (values key old new is.good (group_values before.kinds old olds) (group_values after.kinds new news))
    (λ distance p q. q)
never_stops (Partition name param body) kinds values = λ parts round key is_round is. kinds parts round key is.same_kind

each_never_stops : (functions : List Function) → AllByRecursion KeepsKinds functions → AllByRecursion ValuesInFunction functions → AllByRecursion NeverStops functions
each_never_stops [] p q = tt
each_never_stops (f ∷ functions) p q = (never_stops f p.0 (keeps_values f q.0), each_never_stops functions p.1 q.1)

pub typed_functions_never_stop : TypedFunctionsNeverStop
typed_functions_never_stop functions typed spelled = each_never_stops functions (typed_keep_kinds 0 [] functions typed) (literals_are_values functions spelled)

-- The least key of sorted streams, and the keys with their groups without it.
use Rattle.std.proofs.Common.{◌≡◌, Bool, true, false, cond, ◌||◌, List, [], ◌∷◌, ◌++◌, Option, None, Some, refl, sym, ap, ◌∙◌, map}
use Rattle.std.specs.declared.cmp.Ordering.{Ordering}
use Rattle.std.specs.declared.cmp.Ordering.TheVariants.{Less, Equal, Greater}
use Rattle.std.specs.Ordering.{is_eq, is_gt, is_le, ordering_reverse, ordering_then, eq_by_cmp}
use Rattle.std.specs.Cmp.Lexicographic.{slice_cmp}
use Rattle.std.specs.List.{AllByRecursion, list_any, filter, flat_map}
use Rattle.std.proofs.lemmas.Cmp.{tied_itself, alike_right, upto}
use Rattle.std.proofs.lemmas.List.Folds.{list_any-append, flat_map-map}
use Rattle.hal_base.specs.declared.value.Value.{Value}
use Rattle.hal_base.specs.declared.record.Record.{Record}
use Rattle.hal_base.specs.Order.{value_cmp, record_cmp}
use Rattle.hal_base.specs.Laws.{value_cmp_total, value_cmp_exact}
use Rattle.hal_base.specs.Sorted.{Ascending}
use Rattle.hal_base.specs.Sorted.{sorted, distinct}
use Rattle.plain_job.specs.Job.{has_key, key_of, fields_of, group, keys, job}
use Rattle.plain_job.proofs.Keys.{all_keys, all_kept}
use Rattle.group_reduce.specs.steps.Front.{front, rest, least_key_of}
use Rattle.group_reduce.specs.Groups.{groups_of, keyed_groups}
use Rattle.group_reduce.specs.declared.KeyGroups.{KeyGroups}
use Rattle.hal_base.proofs.Strict.{or_split, sorted_same, all_distinct, strict_distinct, any_distinct, same_strict}

-- no key of the rows is below k
abbrev pub From : Value → List Record → Type 0
From k rows = AllByRecursion (λ (row : Record). is_gt (value_cmp k row.key) ≡ false) rows

abbrev Above : Value → List Record → Type 0
Above k rows = AllByRecursion (λ (row : Record). value_cmp k row.key ≡ Less) rows

keys_of_order : (v s : Ordering) → is_gt (ordering_then v s) ≡ false → is_gt v ≡ false
keys_of_order Less s e = refl
keys_of_order Equal s e = refl
keys_of_order Greater s e = e

from_first : (k : Value) (row : Record) (rows : List Record) → is_gt (value_cmp k row.key) ≡ false → AllByRecursion (λ y. is_gt (record_cmp row y) ≡ false) rows → From k rows
from_first k row [] e a = tt
from_first k row (y ∷ ys) e a =
    (upto value_cmp_total k row.key y.key e (keys_of_order (value_cmp row.key y.key) (slice_cmp value_cmp row.fields y.fields) a.0), from_first k row ys e a.1)

abbrev NotBelow : Value → Option Value → Type 0
NotBelow k None = Unit {0}
NotBelow k (Some b) = is_gt (value_cmp k b) ≡ false

itself : (k : Value) → is_gt (value_cmp k k) ≡ false
itself k = rw (tied_itself value_cmp_total k)

some_same : (k : Value) (best : Option Value) → best ≡ Some k → NotBelow k best
some_same k best e = rw e (itself k)

-- of b and the key of row, the lesser_key is not below k: so neither is
both : (k b r : Value) → is_gt (value_cmp k (cond (is_le (value_cmp b r)) b r)) ≡ false → (is_gt (value_cmp k b) ≡ false) × (is_gt (value_cmp k r) ≡ false)
both k b r =
    elim (value_cmp b r) as (λ o. value_cmp b r ≡ o → is_gt (value_cmp k (cond (is_le o) b r)) ≡ false → (is_gt (value_cmp k b) ≡ false) × (is_gt (value_cmp k r) ≡ false)) [
      | Less ↦ λ e h. (h, upto value_cmp_total k b r h (rw e))
      | Equal ↦ λ e h. (h, upto value_cmp_total k b r h (rw e))
      | Greater ↦ λ e h. let f : is_gt (value_cmp r b) ≡ false = ap is_gt (value_cmp_total.antisymm r b) ∙ ap (λ o. is_gt (ordering_reverse o)) e in (upto value_cmp_total k r b h f, h)
    ] refl

pub least_is_least : (k : Value) (best : Option Value) (streams : List (List Record)) → AllByRecursion (Ascending record_cmp) streams → least_key_of best streams ≡ Some k → NotBelow k best × AllByRecursion (From k) streams
least_is_least k best [] a e = (some_same k best e, tt)
least_is_least k best ([] ∷ streams) a e = let h = least_is_least k best streams a.1 e in (h.0, (tt, h.1))
least_is_least k None ((row ∷ rows) ∷ streams) a e =
    let h = least_is_least k (Some row.key) streams a.1 e in (tt, ((h.0, from_first k row rows h.0 a.0.0), h.1))
least_is_least k (Some b) ((row ∷ rows) ∷ streams) a e =
    let h = least_is_least k (Some (cond (is_le (value_cmp b row.key)) b row.key)) streams a.1 e in
    let p = both k b row.key h.0 in (p.0, ((p.1, from_first k row rows p.1 a.0.0), h.1))

abbrev pub is_best : Value → Option Value → Bool
is_best k None = false
is_best k (Some b) = eq_by_cmp value_cmp k b

weaker : (a b c : Bool) → (a || c) ≡ true → (a || (b || c)) ≡ true
weaker true b c h = refl
weaker false true c h = refl
weaker false false c h = h

later : (a b : Bool) → b ≡ true → (a || b) ≡ true
later true b h = refl
later false b h = h

one_of : (k b r : Value) (c rs ss : Bool) → (eq_by_cmp value_cmp k (cond c b r) || ss) ≡ true → (eq_by_cmp value_cmp k b || (eq_by_cmp value_cmp k r || (rs || ss))) ≡ true
one_of k b r true rs ss h = weaker (eq_by_cmp value_cmp k b) (eq_by_cmp value_cmp k r) (rs || ss) (weaker (eq_by_cmp value_cmp k b) rs ss h)
one_of k b r false rs ss h = later (eq_by_cmp value_cmp k b) _ (weaker (eq_by_cmp value_cmp k r) rs ss h)

pub least_stands : (k : Value) (best : Option Value) (streams : List (List Record)) → least_key_of best streams ≡ Some k → (is_best k best || list_any (eq_by_cmp value_cmp k) (all_keys streams)) ≡ true
least_stands k best [] e = rw (e, tied_itself value_cmp_total k)
least_stands k best ([] ∷ streams) e = least_stands k best streams e
least_stands k None ((row ∷ rows) ∷ streams) e =
    rw list_any-append (or_split (eq_by_cmp value_cmp k row.key) _ _ ∙ weaker (eq_by_cmp value_cmp k row.key) (list_any (eq_by_cmp value_cmp k) (map key_of rows)) (list_any (eq_by_cmp value_cmp k) (all_keys streams)) (least_stands k (Some row.key) streams e))
least_stands k (Some b) ((row ∷ rows) ∷ streams) e =
    rw list_any-append (ap (λ x. eq_by_cmp value_cmp k b || x) (or_split (eq_by_cmp value_cmp k row.key) _ _) ∙ one_of k b row.key (is_le (value_cmp b row.key)) (list_any (eq_by_cmp value_cmp k) (map key_of rows)) (list_any (eq_by_cmp value_cmp k) (all_keys streams)) (least_stands k (Some (cond (is_le (value_cmp b row.key)) b row.key)) streams e))

-- below x, and x not above y: below y
below : (k x y : Value) → value_cmp k x ≡ Less → is_gt (value_cmp x y) ≡ false → value_cmp k y ≡ Less
below k x y e h =
    elim (value_cmp x y) as (λ o. value_cmp x y ≡ o → is_gt o ≡ false → value_cmp k y ≡ Less) [
      | Less ↦ λ f _. value_cmp_total.trans k x y e f
      | Equal ↦ λ f _. sym (alike_right value_cmp_total x y k f) ∙ e
      | Greater ↦ λ f g. cc
    ] refl h

above_all : (k : Value) (row : Record) (rows : List Record) → value_cmp k row.key ≡ Less → AllByRecursion (λ y. is_gt (record_cmp row y) ≡ false) rows → Above k rows
above_all k row [] e a = tt
above_all k row (y ∷ ys) e a =
    (below k row.key y.key e (keys_of_order (value_cmp row.key y.key) (slice_cmp value_cmp row.fields y.fields) a.0), above_all k row ys e a.1)

none_with_key : (k : Value) (rows : List Record) → Above k rows → filter (has_key k) rows ≡ []
none_with_key k [] a = refl
none_with_key k (row ∷ rows) a = rw (a.0, none_with_key k rows a.1)

filter_front : (k : Value) (rows : List Record) → Ascending record_cmp rows → From k rows → filter (has_key k) rows ≡ front k rows
filter_front k [] a f = refl
filter_front k (row ∷ rows) a f =
    elim (value_cmp k row.key) as (λ o. value_cmp k row.key ≡ o → cond (is_eq o) (row ∷ filter (has_key k) rows) (filter (has_key k) rows) ≡ cond (is_eq o) (row ∷ front k rows) []) [
      | Less ↦ λ e. none_with_key k rows (above_all k row rows e a.0)
      | Equal ↦ λ e. ap (λ ys. row ∷ ys) (filter_front k rows a.1 f.1)
      | Greater ↦ λ e. let c : is_gt Greater ≡ false = ap is_gt (sym e) ∙ f.0 in cc
    ] refl

differ : true ≡ false → ⊥
differ c = cc

rest_above : (k : Value) (rows : List Record) → Ascending record_cmp rows → From k rows → Above k (rest k rows)
rest_above k [] a f = tt
rest_above k (row ∷ rows) a f =
    elim (value_cmp k row.key) as (λ o. value_cmp k row.key ≡ o → Above k (cond (is_eq o) (rest k rows) (row ∷ rows))) [
      | Less ↦ λ e. (e, above_all k row rows e a.0)
      | Equal ↦ λ e. rest_above k rows a.1 f.1
      | Greater ↦ λ e. let c : is_gt Greater ≡ false = ap is_gt (sym e) ∙ f.0 in absurd (differ c)
    ] refl

filter_rest : (k q : Value) (rows : List Record) → value_cmp k q ≡ Less → filter (has_key q) rows ≡ filter (has_key q) (rest k rows)
filter_rest k q [] h = refl
filter_rest k q (row ∷ rows) h =
    elim (value_cmp k row.key) as (λ o. value_cmp k row.key ≡ o → filter (has_key q) (row ∷ rows) ≡ filter (has_key q) (cond (is_eq o) (rest k rows) (row ∷ rows))) [
      | Less ↦ λ e. refl
      | Equal ↦ λ e.
          let f : value_cmp q row.key ≡ Greater = ap (value_cmp q) (sym (value_cmp_exact k row.key e)) ∙ value_cmp_total.antisymm q k ∙ ap ordering_reverse h in
          ap (λ o. cond (is_eq o) (row ∷ filter (has_key q) rows) (filter (has_key q) rows)) f ∙ filter_rest k q rows h
      | Greater ↦ λ e. refl
    ] refl

any_rest : (k q : Value) (rows : List Record) → is_eq (value_cmp q k) ≡ false → list_any (eq_by_cmp value_cmp q) (map key_of rows) ≡ list_any (eq_by_cmp value_cmp q) (map key_of (rest k rows))
any_rest k q [] h = refl
any_rest k q (row ∷ rows) h =
    elim (value_cmp k row.key) as (λ o. value_cmp k row.key ≡ o → (eq_by_cmp value_cmp q row.key || list_any (eq_by_cmp value_cmp q) (map key_of rows)) ≡ list_any (eq_by_cmp value_cmp q) (map key_of (cond (is_eq o) (rest k rows) (row ∷ rows)))) [
      | Less ↦ λ e. refl
      | Equal ↦ λ e.
          let f : is_eq (value_cmp q row.key) ≡ false = ap (λ x. is_eq (value_cmp q x)) (sym (value_cmp_exact k row.key e)) ∙ h in
          ap (λ b. b || list_any (eq_by_cmp value_cmp q) (map key_of rows)) f ∙ any_rest k q rows h
      | Greater ↦ λ e. refl
    ] refl

any_rests : (k q : Value) (streams : List (List Record)) → is_eq (value_cmp q k) ≡ false → list_any (eq_by_cmp value_cmp q) (all_keys streams) ≡ list_any (eq_by_cmp value_cmp q) (all_keys (map (rest k) streams))
any_rests k q [] h = refl
any_rests k q (rows ∷ streams) h =
    list_any-append (eq_by_cmp value_cmp q) (map key_of rows) (all_keys streams)
    ∙ ap (λ b. b || list_any (eq_by_cmp value_cmp q) (all_keys streams)) (any_rest k q rows h)
    ∙ ap (λ b. list_any (eq_by_cmp value_cmp q) (map key_of (rest k rows)) || b) (any_rests k q streams h)
    ∙ sym (list_any-append (eq_by_cmp value_cmp q) (map key_of (rest k rows)) (all_keys (map (rest k) streams)))

-- what holds of each record's key holds of each key
above_joined : (k : Value) (rows : List Record) (ks : List Value) → Above k rows → AllByRecursion (λ q. value_cmp k q ≡ Less) ks → AllByRecursion (λ q. value_cmp k q ≡ Less) (map key_of rows ++ ks)
above_joined k [] ks a b = b
above_joined k (row ∷ rows) ks a b = (a.0, above_joined k rows ks a.1 b)

rests_above : (k : Value) (streams : List (List Record)) → AllByRecursion (Ascending record_cmp) streams → AllByRecursion (From k) streams → AllByRecursion (λ q. value_cmp k q ≡ Less) (all_keys (map (rest k) streams))
rests_above k [] a f = tt
rests_above k (rows ∷ streams) a f = above_joined k (rest k rows) (all_keys (map (rest k) streams)) (rest_above k rows a.0 f.0) (rests_above k streams a.1 f.1)

keys_first : (k : Value) (streams : List (List Record)) → list_any (eq_by_cmp value_cmp k) (all_keys streams) ≡ true → (q : Value) → list_any (eq_by_cmp value_cmp q) (all_keys streams) ≡ (eq_by_cmp value_cmp q k || list_any (eq_by_cmp value_cmp q) (all_keys (map (rest k) streams)))
keys_first k streams stands q =
    elim (value_cmp q k) as (λ o. value_cmp q k ≡ o → list_any (eq_by_cmp value_cmp q) (all_keys streams) ≡ (is_eq o || list_any (eq_by_cmp value_cmp q) (all_keys (map (rest k) streams)))) [
      | Less ↦ λ e. any_rests k q streams (ap is_eq e)
      | Equal ↦ λ e. ap (λ x. list_any (eq_by_cmp value_cmp x) (all_keys streams)) (value_cmp_exact q k e) ∙ stands
      | Greater ↦ λ e. any_rests k q streams (ap is_eq e)
    ] refl

keys_peel : (k : Value) (streams : List (List Record)) → AllByRecursion (Ascending record_cmp) streams → AllByRecursion (From k) streams → list_any (eq_by_cmp value_cmp k) (all_keys streams) ≡ true → keys streams ≡ k ∷ keys (map (rest k) streams)
keys_peel k streams a f stands =
    same_strict value_cmp_total value_cmp_exact (keys streams) (k ∷ keys (map (rest k) streams)) (strict_distinct value_cmp_total (all_keys streams))
    (all_distinct value_cmp_total (λ q. value_cmp k q ≡ Less) (all_keys (map (rest k) streams)) (rests_above k streams a f), strict_distinct value_cmp_total (all_keys (map (rest k) streams)))
    (λ q. any_distinct value_cmp_total q (all_keys streams) ∙ keys_first k streams stands q ∙ ap (λ b. eq_by_cmp value_cmp q k || b) (sym (any_distinct value_cmp_total q (all_keys (map (rest k) streams)))))

fields_above : (k : Value) (row : Record) (rows : List Record) → value_cmp k row.key ≡ Equal → AllByRecursion (λ y. is_gt (record_cmp row y) ≡ false) rows → AllByRecursion (λ fields. is_gt (slice_cmp value_cmp row.fields fields) ≡ false) (map fields_of (front k rows))
fields_above k row [] e a = tt
fields_above k row (y ∷ ys) e a =
    elim (value_cmp k y.key) as (λ o. value_cmp k y.key ≡ o → AllByRecursion (λ fields. is_gt (slice_cmp value_cmp row.fields fields) ≡ false) (map fields_of (cond (is_eq o) (y ∷ front k ys) []))) [
      | Less ↦ λ f. tt
      | Equal ↦ λ f.
          let same : value_cmp row.key y.key ≡ Equal = sym (value_cmp_total.congr k row.key y.key e) ∙ f in
          (sym (ap (λ v. is_gt (ordering_then v (slice_cmp value_cmp row.fields y.fields))) same) ∙ a.0, fields_above k row ys e a.1)
      | Greater ↦ λ f. tt
    ] refl

ascending_fields : (k : Value) (rows : List Record) → Ascending record_cmp rows → Ascending (slice_cmp value_cmp) (map fields_of (front k rows))
ascending_fields k [] a = tt
ascending_fields k (row ∷ rows) a =
    elim (value_cmp k row.key) as (λ o. value_cmp k row.key ≡ o → Ascending (slice_cmp value_cmp) (map fields_of (cond (is_eq o) (row ∷ front k rows) []))) [
      | Less ↦ λ e. tt
      | Equal ↦ λ e. (fields_above k row rows e a.0, ascending_fields k rows a.1)
      | Greater ↦ λ e. tt
    ] refl

group_front : (k : Value) (rows : List Record) → Ascending record_cmp rows → From k rows → group rows k ≡ map fields_of (front k rows)
group_front k rows a f =
    ap (λ xs. sorted (slice_cmp value_cmp) (map fields_of xs)) (filter_front k rows a f)
    ∙ sorted_same (slice_cmp value_cmp) (map fields_of (front k rows)) (ascending_fields k rows a)

groups_front : (k : Value) (streams : List (List Record)) → AllByRecursion (Ascending record_cmp) streams → AllByRecursion (From k) streams → map (λ rows. group rows k) streams ≡ map (λ rows. map fields_of (front k rows)) streams
groups_front k [] a f = refl
groups_front k (rows ∷ streams) a f = let h = group_front k rows a.0 f.0 in let t = groups_front k streams a.1 f.1 in cc

groups_rest : (k q : Value) (streams : List (List Record)) → value_cmp k q ≡ Less → map (λ rows. group rows q) streams ≡ map (λ rows. group rows q) (map (rest k) streams)
groups_rest k q [] h = refl
groups_rest k q (rows ∷ streams) h =
    let e : group rows q ≡ group (rest k rows) q = ap (λ xs. sorted (slice_cmp value_cmp) (map fields_of xs)) (filter_rest k q rows h) in
    let t = groups_rest k q streams h in cc

map_alike : {B : Type 0} (P : Value → Type 0) (g h : Value → B) → ((q : Value) → P q → g q ≡ h q) → (qs : List Value) → AllByRecursion P qs → map g qs ≡ map h qs
map_alike P g h same [] a = refl
map_alike P g h same (q ∷ qs) a = let e = same q a.0 in let t = map_alike P g h same qs a.1 in cc

abbrev made : Value → List (List (List Value)) → KeyGroups
made key groups = record { key = key; groups = groups }

pub keyed_step : (k : Value) (streams : List (List Record)) → AllByRecursion (Ascending record_cmp) streams → least_key_of None streams ≡ Some k → keyed_groups streams ≡ record { key = k; groups = map (λ rows. map fields_of (front k rows)) streams } ∷ keyed_groups (map (rest k) streams)
keyed_step k streams a e =
    let f = (least_is_least k None streams a e).1 in
    let left : List Value = keys (map (rest k) streams) in
    let others : map (groups_of streams) left ≡ keyed_groups (map (rest k) streams) =
    map_alike (λ q. value_cmp k q ≡ Less) (groups_of streams) (groups_of (map (rest k) streams)) (λ q p. ap (made q) (groups_rest k q streams p)) left (all_distinct value_cmp_total (λ q. value_cmp k q ≡ Less) (all_keys (map (rest k) streams)) (rests_above k streams a f))
    in
    ap (map (groups_of streams)) (keys_peel k streams a f (least_stands k None streams e))
    ∙ ap (λ gs. made k gs ∷ map (groups_of streams) left) (groups_front k streams a f)
    ∙ ap (λ ys. made k (map (λ rows. map fields_of (front k rows)) streams) ∷ ys) others

no_keys : (best : Option Value) (streams : List (List Record)) → least_key_of best streams ≡ None → (best ≡ None) × (all_keys streams ≡ [])
no_keys best [] e = (e, refl)
no_keys best ([] ∷ streams) e = no_keys best streams e
no_keys None ((row ∷ rows) ∷ streams) e = let h = no_keys (Some row.key) streams e in let c = h.0 in cc
no_keys (Some b) ((row ∷ rows) ∷ streams) e = let h = no_keys (Some (cond (is_le (value_cmp b row.key)) b row.key)) streams e in let c = h.0 in cc

pub keyed_done : (streams : List (List Record)) → least_key_of None streams ≡ None → keyed_groups streams ≡ []
keyed_done streams e = ap (λ ks. map (groups_of streams) (distinct value_cmp ks)) (no_keys None streams e).1

pub job_is : (reduce : Value → List (List (List Value)) → List Record) (streams : List (List Record)) → flat_map (λ (next : KeyGroups). reduce next.key next.groups) (keyed_groups streams) ≡ job reduce (λ _. true) streams
job_is reduce streams =
    let emitted : Value → List Record = λ k. reduce k (map (λ rows. group rows k) streams) in
    flat_map-map (λ (next : KeyGroups). reduce next.key next.groups) (groups_of streams) (keys streams)
    ∙ ap (flat_map emitted) (sym (all_kept (keys streams)))

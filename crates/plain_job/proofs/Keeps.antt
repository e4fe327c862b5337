-- Sorting each stream changes no job.
use Rattle.std.proofs.Common.{◌≡◌, ℕ, ◌+◌, Bool, true, false, cond, ◌||◌, List, [], ◌∷◌, refl, sym, ap, ◌∙◌, map, arith}
use Rattle.std.specs.Ordering.{is_gt, eq_by_cmp}
use Rattle.std.specs.Cmp.Lexicographic.{slice_cmp}
use Rattle.std.specs.List.{AllByRecursion, list_any, filter, flat_map}
use Rattle.std.proofs.lemmas.Cmp.{lists_total}
use Rattle.std.proofs.lemmas.List.Folds.{list_any-append}
use Rattle.hal_base.specs.declared.value.Value.{Value}
use Rattle.hal_base.specs.declared.record.Record.{Record}
use Rattle.hal_base.specs.Order.{value_cmp, record_cmp}
use Rattle.hal_base.specs.Laws.{value_cmp_total, value_cmp_exact, fields_exact}
use Rattle.hal_base.specs.Sorted.{placed, sorted}
use Rattle.plain_job.specs.Job.{has_key, key_of, fields_of, group, keys}
use Rattle.hal_base.proofs.Strict.{or_swap, strict_distinct, any_distinct, same_strict}
use Rattle.plain_job.proofs.Keys.{all_keys, flat_alike}
use Rattle.hal_base.proofs.Sorts.{times, one, times_sorted, ascending_sorted, same_ascending}
use Rattle.plain_job.specs.Laws.{SortingKeepsTheJob}

any_placed : (p : Value → Bool) (x : Record) (xs : List Record) → list_any p (map key_of (placed record_cmp x xs)) ≡ (p x.key || list_any p (map key_of xs))
any_placed p x [] = refl
any_placed p x (y ∷ ys) =
    elim (is_gt (record_cmp x y)) as (λ b. list_any p (map key_of (cond b (y ∷ placed record_cmp x ys) (x ∷ y ∷ ys))) ≡ (p x.key || (p y.key || list_any p (map key_of ys)))) [
      | true ↦ ap (λ b. p y.key || b) (any_placed p x ys) ∙ or_swap (p y.key) (p x.key) (list_any p (map key_of ys))
      | false ↦ refl
    ]

any_sorted : (p : Value → Bool) (xs : List Record) → list_any p (map key_of (sorted record_cmp xs)) ≡ list_any p (map key_of xs)
any_sorted p [] = refl
any_sorted p (x ∷ xs) = any_placed p x (sorted record_cmp xs) ∙ ap (λ b. p x.key || b) (any_sorted p xs)

any_streams : (p : Value → Bool) (streams : List (List Record)) → list_any p (all_keys (map (sorted record_cmp) streams)) ≡ list_any p (all_keys streams)
any_streams p [] = refl
any_streams p (rows ∷ streams) =
    list_any-append p (map key_of (sorted record_cmp rows)) (all_keys (map (sorted record_cmp) streams))
    ∙ ap (λ b. b || list_any p (all_keys (map (sorted record_cmp) streams))) (any_sorted p rows)
    ∙ ap (λ b. list_any p (map key_of rows) || b) (any_streams p streams)
    ∙ sym (list_any-append p (map key_of rows) (all_keys streams))

keys_sorted : (streams : List (List Record)) → keys (map (sorted record_cmp) streams) ≡ keys streams
keys_sorted streams =
    same_strict value_cmp_total value_cmp_exact (keys (map (sorted record_cmp) streams)) (keys streams) (strict_distinct value_cmp_total (all_keys (map (sorted record_cmp) streams))) (strict_distinct value_cmp_total (all_keys streams))
    (λ q. any_distinct value_cmp_total q (all_keys (map (sorted record_cmp) streams)) ∙ any_streams (eq_by_cmp value_cmp q) streams ∙ sym (any_distinct value_cmp_total q (all_keys streams)))

-- how often a field list stands under a key
abbrev under : List Value → Value → List Record → ℕ
under q k rows = times (lists_total value_cmp_total) q (map fields_of (filter (has_key k) rows))

abbrev weight : List Value → Value → Record → ℕ
weight q k row = cond (has_key k row) (one (eq_by_cmp (slice_cmp value_cmp) q row.fields)) 0

under_cons : (q : List Value) (k : Value) (x : Record) (xs : List Record) → under q k (x ∷ xs) ≡ weight q k x + under q k xs
under_cons q k x xs =
    elim (has_key k x) as (λ b. times (lists_total value_cmp_total) q (map fields_of (cond b (x ∷ filter (has_key k) xs) (filter (has_key k) xs))) ≡ cond b (one (eq_by_cmp (slice_cmp value_cmp) q x.fields)) 0 + under q k xs) [
      | true ↦ refl
      | false ↦ omega arith
    ]

under_placed : (q : List Value) (k : Value) (x : Record) (xs : List Record) → under q k (placed record_cmp x xs) ≡ weight q k x + under q k xs
under_placed q k x [] = under_cons q k x []
under_placed q k x (y ∷ ys) =
    elim (is_gt (record_cmp x y)) as (λ b. under q k (cond b (y ∷ placed record_cmp x ys) (x ∷ y ∷ ys)) ≡ weight q k x + under q k (y ∷ ys)) [
      | true ↦ omega (arith, under_cons q k y (placed record_cmp x ys), under_placed q k x ys, under_cons q k y ys)
      | false ↦ under_cons q k x (y ∷ ys)
    ]

under_sorted : (q : List Value) (k : Value) (xs : List Record) → under q k (sorted record_cmp xs) ≡ under q k xs
under_sorted q k [] = refl
under_sorted q k (x ∷ xs) = omega (arith, under_placed q k x (sorted record_cmp xs), under_sorted q k xs, under_cons q k x xs)

group_sorted : (k : Value) (rows : List Record) → group (sorted record_cmp rows) k ≡ group rows k
group_sorted k rows =
    let o = lists_total value_cmp_total in
    let a : List (List Value) = map fields_of (filter (has_key k) (sorted record_cmp rows)) in
    let b : List (List Value) = map fields_of (filter (has_key k) rows) in
    same_ascending o fields_exact (group (sorted record_cmp rows) k) (group rows k) (ascending_sorted o a) (ascending_sorted o b)
    (λ q. times_sorted o q a ∙ under_sorted q k rows ∙ sym (times_sorted o q b))

groups_sorted : (k : Value) (streams : List (List Record)) → map (λ rows. group rows k) (map (sorted record_cmp) streams) ≡ map (λ rows. group rows k) streams
groups_sorted k [] = refl
groups_sorted k (rows ∷ streams) = let e = group_sorted k rows in let t = groups_sorted k streams in cc

nothing : (ks : List Value) → AllByRecursion (λ _. Unit {0}) ks
nothing [] = tt
nothing (k ∷ ks) = (tt, nothing ks)

pub keeps : SortingKeepsTheJob
keeps reduce chosen streams =
    let g : Value → List Record = λ k. reduce k (map (λ rows. group rows k) (map (sorted record_cmp) streams)) in
    let h : Value → List Record = λ k. reduce k (map (λ rows. group rows k) streams) in
    ap (λ ks. flat_map g (filter chosen ks)) (keys_sorted streams)
    ∙ flat_alike (λ _. Unit {0}) g h (λ k _. ap (reduce k) (groups_sorted k streams)) (filter chosen (keys streams)) (nothing (filter chosen (keys streams)))

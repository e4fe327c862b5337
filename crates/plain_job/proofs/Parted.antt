use Rattle.std.proofs.Common.{◌≡◌, Bool, true, false, cond, ◌&&◌, ◌||◌, List, [], ◌∷◌, refl, sym, ap, ◌∙◌, map}
use Rattle.std.specs.declared.cmp.Ordering.TheVariants.{Less, Equal, Greater}
use Rattle.std.specs.Ordering.{is_eq, eq_by_cmp}
use Rattle.std.specs.Cmp.Lexicographic.{slice_cmp}
use Rattle.std.specs.List.{AllByRecursion, list_any, filter, flat_map}
use Rattle.std.proofs.lemmas.List.Folds.{list_any-append}
use Rattle.hal_base.specs.declared.value.Value.{Value}
use Rattle.hal_base.specs.declared.record.Record.{Record}
use Rattle.hal_base.specs.Order.{value_cmp}
use Rattle.hal_base.specs.Laws.{value_cmp_total, value_cmp_exact}
use Rattle.hal_base.specs.Sorted.{sorted}
use Rattle.plain_job.specs.Job.{has_key, key_of, fields_of, group, keys}
use Rattle.hal_base.proofs.Strict.{Strict, strict_distinct, any_distinct, same_strict}
use Rattle.plain_job.proofs.Keys.{all_keys, flat_alike, all_kept}
use Rattle.plain_job.specs.Laws.{part, PartsMakeTheJob}

all_filter : (P : Value → Type 0) (c : Value → Bool) (ks : List Value) → AllByRecursion P ks → AllByRecursion P (filter c ks)
all_filter P c [] a = tt
all_filter P c (k ∷ ks) a = elim (c k) as (λ b. AllByRecursion P (cond b (k ∷ filter c ks) (filter c ks))) [ true ↦ (a.0, all_filter P c ks a.1) | false ↦ all_filter P c ks a.1 ]

strict_filter : (c : Value → Bool) (ks : List Value) → Strict value_cmp_total ks → Strict value_cmp_total (filter c ks)
strict_filter c [] s = tt
strict_filter c (k ∷ ks) s = elim (c k) as (λ b. Strict value_cmp_total (cond b (k ∷ filter c ks) (filter c ks))) [ true ↦ (all_filter (λ q. value_cmp k q ≡ Less) c ks s.0, strict_filter c ks s.1) | false ↦ strict_filter c ks s.1 ]

chosen_all : (c : Value → Bool) (ks : List Value) → AllByRecursion (λ k. c k ≡ true) (filter c ks)
chosen_all c [] = tt
chosen_all c (k ∷ ks) = elim (c k) as (λ b. c k ≡ b → AllByRecursion (λ q. c q ≡ true) (cond b (k ∷ filter c ks) (filter c ks))) [ true ↦ λ e. (e, chosen_all c ks) | false ↦ λ e. chosen_all c ks ] refl

and_or : (c a b : Bool) → ((c && a) || (c && b)) ≡ (c && (a || b))
and_or true a b = refl
and_or false a b = refl

-- q is found among the kept exactly where it is kept and found
one_kept : (q k : Value) (c : Value → Bool) (found : Bool) (rest : Bool) → rest ≡ (c q && found) → (b : Bool) → c k ≡ b → cond b (eq_by_cmp value_cmp q k || rest) rest ≡ (c q && (eq_by_cmp value_cmp q k || found))
one_kept q k c found rest h true e =
    elim (value_cmp q k) as (λ o. value_cmp q k ≡ o → (is_eq o || rest) ≡ (c q && (is_eq o || found))) [
      | Less ↦ λ f. h
      | Equal ↦ λ f. rw (value_cmp_exact q k f, e)
      | Greater ↦ λ f. h
    ] refl
one_kept q k c found rest h false e =
    elim (value_cmp q k) as (λ o. value_cmp q k ≡ o → rest ≡ (c q && (is_eq o || found))) [
      | Less ↦ λ f. h
      | Equal ↦ λ f. let g : c q ≡ false = ap c (value_cmp_exact q k f) ∙ e in h ∙ rw g
      | Greater ↦ λ f. h
    ] refl

none : (b : Bool) → false ≡ (b && false)
none true = refl
none false = refl

pushed : (q k : Value) (ks ls : List Value) (b : Bool) → list_any (eq_by_cmp value_cmp q) (cond b (k ∷ ks) ls) ≡ cond b (eq_by_cmp value_cmp q k || list_any (eq_by_cmp value_cmp q) ks) (list_any (eq_by_cmp value_cmp q) ls)
pushed q k ks ls true = refl
pushed q k ks ls false = refl

any_filter : (q : Value) (c : Value → Bool) (ks : List Value) → list_any (eq_by_cmp value_cmp q) (filter c ks) ≡ (c q && list_any (eq_by_cmp value_cmp q) ks)
any_filter q c [] = none (c q)
any_filter q c (k ∷ ks) = pushed q k (filter c ks) (filter c ks) (c k) ∙ one_kept q k c (list_any (eq_by_cmp value_cmp q) ks) (list_any (eq_by_cmp value_cmp q) (filter c ks)) (any_filter q c ks) (c k) refl

part_keys : (c : Value → Bool) (rows : List Record) → map key_of (part c rows) ≡ filter c (map key_of rows)
part_keys c [] = refl
part_keys c (row ∷ rows) =
    elim (c row.key) as (λ b. map key_of (cond b (row ∷ part c rows) (part c rows)) ≡ cond b (row.key ∷ filter c (map key_of rows)) (filter c (map key_of rows))) [ true ↦ ap (λ ks. row.key ∷ ks) (part_keys c rows) | false ↦ part_keys c rows ]

any_parts : (q : Value) (c : Value → Bool) (streams : List (List Record)) → list_any (eq_by_cmp value_cmp q) (all_keys (map (part c) streams)) ≡ (c q && list_any (eq_by_cmp value_cmp q) (all_keys streams))
any_parts q c [] = none (c q)
any_parts q c (rows ∷ streams) =
    list_any-append (eq_by_cmp value_cmp q) (map key_of (part c rows)) (all_keys (map (part c) streams))
    ∙ ap (λ ks. list_any (eq_by_cmp value_cmp q) ks || list_any (eq_by_cmp value_cmp q) (all_keys (map (part c) streams))) (part_keys c rows)
    ∙ ap (λ b. b || list_any (eq_by_cmp value_cmp q) (all_keys (map (part c) streams))) (any_filter q c (map key_of rows))
    ∙ ap (λ b. (c q && list_any (eq_by_cmp value_cmp q) (map key_of rows)) || b) (any_parts q c streams)
    ∙ and_or (c q) _ _
    ∙ ap (λ b. c q && b) (sym (list_any-append (eq_by_cmp value_cmp q) (map key_of rows) (all_keys streams)))

keys_parts : (c : Value → Bool) (streams : List (List Record)) → filter c (keys streams) ≡ keys (map (part c) streams)
keys_parts c streams =
    same_strict value_cmp_total value_cmp_exact (filter c (keys streams)) (keys (map (part c) streams)) (strict_filter c (keys streams) (strict_distinct value_cmp_total (all_keys streams))) (strict_distinct value_cmp_total (all_keys (map (part c) streams)))
    (λ q. any_filter q c (keys streams) ∙ ap (λ b. c q && b) (any_distinct value_cmp_total q (all_keys streams)) ∙ sym (any_parts q c streams) ∙ sym (any_distinct value_cmp_total q (all_keys (map (part c) streams))))

-- of a chosen key the part has all records
same_rows : (k : Value) (c : Value → Bool) (rows : List Record) → c k ≡ true → filter (has_key k) rows ≡ filter (has_key k) (part c rows)
same_rows k c [] h = refl
same_rows k c (row ∷ rows) h =
    elim (c row.key) as (λ b. c row.key ≡ b → filter (has_key k) (row ∷ rows) ≡ filter (has_key k) (cond b (row ∷ part c rows) (part c rows))) [
      | true ↦ λ e. ap (λ ys. cond (has_key k row) (row ∷ ys) ys) (same_rows k c rows h)
      | false ↦ λ e. elim (value_cmp k row.key) as (λ o. value_cmp k row.key ≡ o → cond (is_eq o) (row ∷ filter (has_key k) rows) (filter (has_key k) rows) ≡ filter (has_key k) (part c rows)) [
        | Less ↦ λ f. same_rows k c rows h
        | Equal ↦ λ f. let g : true ≡ false = sym h ∙ ap c (value_cmp_exact k row.key f) ∙ e in cc
        | Greater ↦ λ f. same_rows k c rows h
      ] refl
    ] refl

same_groups : (k : Value) (c : Value → Bool) (streams : List (List Record)) → c k ≡ true → map (λ rows. group rows k) streams ≡ map (λ rows. group rows k) (map (part c) streams)
same_groups k c [] h = refl
same_groups k c (rows ∷ streams) h =
    let e : group rows k ≡ group (part c rows) k = ap (λ ys. sorted (slice_cmp value_cmp) (map fields_of ys)) (same_rows k c rows h) in
    let t = same_groups k c streams h in cc

pub parts : PartsMakeTheJob
parts reduce c streams =
    flat_alike (λ k. c k ≡ true) (λ k. reduce k (map (λ rows. group rows k) streams)) (λ k. reduce k (map (λ rows. group rows k) (map (part c) streams))) (λ k h. ap (reduce k) (same_groups k c streams h)) (filter c (keys streams)) (chosen_all c (keys streams))
    ∙ ap (λ ks. flat_map (λ k. reduce k (map (λ rows. group rows k) (map (part c) streams))) ks) (keys_parts c streams ∙ sym (all_kept (keys (map (part c) streams))))

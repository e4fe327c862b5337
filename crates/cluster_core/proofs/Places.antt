-- Items by their places.
use Rattle.std.proofs.Common.{◌≡◌, ◌<◌, ℕ, zero, suc, ◌+◌, ◌-◌, ◌||◌, ◌&&◌, Bool, true, false, cond, min, nat_lt, List, [], ◌∷◌, ◌++◌, Option, None, Some, length, lt-ltb, take, drop, get_or, map, refl, sym, ap, ◌∙◌, arith}
use Rattle.std.specs.List.{filter, find, list_any, list_all, range_with_len}
use Rattle.node_names.specs.declared.name.Name.{Name}
use Rattle.node_names.specs.declared.name.Name.TheVariants.{Out}
use Rattle.node_names.specs.declared.task.Task.{Task}
use Rattle.replica_table.specs.Copies.{Copy, Replicas, nodes_with, up_holders}
use Rattle.replica_table.specs.Sets.{among}
use Rattle.run_model.specs.Acts.{failures_of, lowest_node, with_failure}
use Rattle.run_model.specs.Needs.{is_up}
use Rattle.run_model.specs.State.{bare}
use Rattle.run_model.specs.Tasks.{is_task}
use Rattle.run_model.specs.declared.attempt.Attempt.{Attempt}
use Rattle.run_model.specs.declared.attempt.Failed.{Failed}
use Rattle.std.proofs.Math.Seq.{get_or-append_seam, set-append_seam}
use Rattle.std.proofs.Math.ListN.{set}
use Rattle.run_laws.proofs.Members.{task_itself}
use Rattle.run_model.proofs.Bare.{bare_nodes}
use Rattle.cluster_core.specs.Running.{IsFirst, lowest_of}

module _ {A : Type 0} where
  split_at : (xs : List A) (at : ℕ) (d : A) → at < length xs → xs ≡ take at xs ++ get_or xs at d ∷ drop (suc at) xs
  split_at [] at d l = absurd (omega arith)
  split_at (y ∷ ys) zero d l = refl
  split_at (y ∷ ys) (suc at) d l = ap (λ zs. y ∷ zs) (split_at ys at d (omega arith))

  length_take : (xs : List A) (at : ℕ) → at < length xs → at ≡ length (take at xs)
  length_take [] at l = absurd (omega arith)
  length_take (y ∷ ys) zero l = refl
  length_take (y ∷ ys) (suc at) l = ap suc (length_take ys at (omega arith))

  -- the item at a place passes, and none before it
  pub first_here : (test : A → Bool) (xs : List A) (at : ℕ) (d : A) → at < length xs → list_any test (take at xs) ≡ false → test (get_or xs at d) ≡ true → IsFirst test xs at
  first_here test xs at d l none passes = record {
    item = get_or xs at d;
    before = take at xs;
    behind = drop (suc at) xs;
    split = split_at xs at d l;
    place = length_take xs at l;
    none_before = none;
    passes = passes;
  }

  find_later : (test : A → Bool) (before behind : List A) (x : A) → list_any test before ≡ false → test x ≡ true → find test (before ++ x ∷ behind) ≡ Some x
  find_later test [] behind x n p = rw p refl
  find_later test (y ∷ before) behind x n p = elim (test y) as (λ b. (b || list_any test before) ≡ false → cond b (Some y) (find test (before ++ x ∷ behind)) ≡ Some x) [
    | true ↦ λ n. cc
    | false ↦ λ n. find_later test before behind x n p
  ] n

  pub first_found : (test : A → Bool) (xs : List A) (at : ℕ) (it : IsFirst test xs at) → find test xs ≡ Some it.item
  first_found test xs at it = rw it.split (find_later test it.before it.behind it.item it.none_before it.passes)

  pub none_found : (test : A → Bool) (xs : List A) → list_any test xs ≡ false → find test xs ≡ None
  none_found test [] n = refl
  none_found test (y ∷ ys) n = elim (test y) as (λ b. (b || list_any test ys) ≡ false → cond b (Some y) (find test ys) ≡ None) [
    | true ↦ λ n. cc
    | false ↦ λ n. none_found test ys n
  ] n

-- ---- nodes

-- the lesser of a node and the lowest that runs one of these attempts
abbrev pub with_lowest : ℕ → List Attempt → Option ℕ
with_lowest n [] = Some n
with_lowest n (a ∷ running) = Some (min n (lowest_node a running))

pub lowest_begun : (a : Attempt) (running : List Attempt) → lowest_of (a ∷ running) ≡ with_lowest a.node running
lowest_begun a [] = refl
lowest_begun a (b ∷ running) = refl

pub lowest_more : (n : ℕ) (a : Attempt) (running : List Attempt) → with_lowest n (a ∷ running) ≡ with_lowest (min n a.node) running
lowest_more n a [] = refl
lowest_more n a (b ∷ running) = ap (λ m. Some m) (min_assoc n a.node (lowest_node b running))
  where
    min_assoc : (x y z : ℕ) → min x (min y z) ≡ min (min x y) z
    min_assoc x y z = omega arith

-- ---- failures

-- one more failure of a task: the count of the first of its line is one more, or it has its first line
pub failure_counted : (task : Task) (before behind : List Failed) (f : Failed) → list_any (λ (g : Failed). is_task task g.task) before ≡ false → is_task task f.task ≡ true → with_failure task (before ++ f ∷ behind) ≡ before ++ record { task = f.task; count = f.count + 1 } ∷ behind
failure_counted task [] behind f n p = rw p refl
failure_counted task (g ∷ before) behind f n p = elim (is_task task g.task) as (λ b. (b || list_any (λ (h : Failed). is_task task h.task) before) ≡ false → cond b (record { task = g.task; count = g.count + 1 } ∷ (before ++ f ∷ behind)) (g ∷ with_failure task (before ++ f ∷ behind)) ≡ g ∷ (before ++ record { task = f.task; count = f.count + 1 } ∷ behind)) [
  | true ↦ λ n. cc
  | false ↦ λ n. ap (λ fs. g ∷ fs) (failure_counted task before behind f n p)
] n

pub failures_there : (task : Task) (before behind : List Failed) (f : Failed) → list_any (λ (g : Failed). is_task task g.task) before ≡ false → is_task task f.task ≡ true → failures_of task (before ++ f ∷ behind) ≡ f.count
failures_there task [] behind f n p = rw p refl
failures_there task (g ∷ before) behind f n p = elim (is_task task g.task) as (λ b. (b || list_any (λ (h : Failed). is_task task h.task) before) ≡ false → cond b g.count (failures_of task (before ++ f ∷ behind)) ≡ f.count) [
  | true ↦ λ n. cc
  | false ↦ λ n. failures_there task before behind f n p
] n

pub failure_begun : (task : Task) (failures : List Failed) → list_any (λ (g : Failed). is_task task g.task) failures ≡ false → with_failure task failures ≡ failures ++ record { task = task; count = 1 } ∷ []
failure_begun task [] n = refl
failure_begun task (g ∷ failures) n = elim (is_task task g.task) as (λ b. (b || list_any (λ (h : Failed). is_task task h.task) failures) ≡ false → cond b (record { task = g.task; count = g.count + 1 } ∷ failures) (g ∷ with_failure task failures) ≡ g ∷ (failures ++ record { task = task; count = 1 } ∷ [])) [
  | true ↦ λ n. cc
  | false ↦ λ n. ap (λ fs. g ∷ fs) (failure_begun task failures n)
] n

got_there : (before behind : List Failed) (f d : Failed) → get_or (before ++ f ∷ behind) (length before) d ≡ f
got_there before behind f d = get_or-append_seam before f behind d

got : (test : Failed → Bool) (failures : List Failed) (at : ℕ) (d : Failed) (it : IsFirst test failures at) → get_or failures at d ≡ it.item
got test failures at d it = rw (it.split, it.place) (got_there it.before it.behind it.item d)

-- the item at the place has the count of the task's failures
pub there_is : (task : Task) (failures : List Failed) (at : ℕ) (d : Failed) (it : IsFirst (λ (f : Failed). is_task task f.task) failures at) → d ≡ get_or failures at d → failures_of task failures ≡ d.count
there_is task failures at d it e =
    let same : d ≡ it.item = e ∙ got (λ (f : Failed). is_task task f.task) failures at d it in
    ap (failures_of task) it.split ∙ failures_there task it.before it.behind it.item it.none_before it.passes ∙ ap (λ (f : Failed). f.count) (sym same)

set_there : (before behind : List Failed) (f g : Failed) → set (before ++ f ∷ behind) (length before) g ≡ before ++ g ∷ behind
set_there before behind f g = set-append_seam before f behind g

pub counted_there : (task : Task) (failures : List Failed) (at : ℕ) (d : Failed) (it : IsFirst (λ (f : Failed). is_task task f.task) failures at) → d ≡ get_or failures at d → set failures at (record { task = d.task; count = d.count + 1 }) ≡ with_failure task failures
counted_there task failures at d it e =
    let same : d ≡ it.item = e ∙ got (λ (f : Failed). is_task task f.task) failures at d it in
    ap (λ fs. set fs at (record { task = d.task; count = d.count + 1 })) it.split
    ∙ ap (λ i. set (it.before ++ it.item ∷ it.behind) i (record { task = d.task; count = d.count + 1 })) it.place
    ∙ set_there it.before it.behind it.item (record { task = d.task; count = d.count + 1 })
    ∙ ap (λ (f : Failed). it.before ++ record { task = f.task; count = f.count + 1 } ∷ it.behind) same
    ∙ sym (failure_counted task it.before it.behind it.item it.none_before it.passes)
    ∙ ap (with_failure task) (sym it.split)

-- the count that is found there then
pub count_there : (task : Task) (failures : List Failed) (at : ℕ) (d default : Failed) (it : IsFirst (λ (f : Failed). is_task task f.task) failures at) → d ≡ get_or failures at d → (get_or (set failures at (record { task = d.task; count = d.count + 1 })) at default).count ≡ failures_of task (with_failure task failures)
count_there task failures at d default it e =
    let same : d ≡ it.item = e ∙ got (λ (f : Failed). is_task task f.task) failures at d it in
    let more : Failed → Failed = λ (f : Failed). record { task = f.task; count = f.count + 1 } in
    let now : set failures at (more d) ≡ it.before ++ more it.item ∷ it.behind =
    ap (λ fs. set fs at (more d)) it.split ∙ ap (λ i. set (it.before ++ it.item ∷ it.behind) i (more d)) it.place ∙ set_there it.before it.behind it.item (more d) ∙ ap (λ (f : Failed). it.before ++ more f ∷ it.behind) same in
    ap (λ (fs : List Failed). (get_or fs at default).count) now
    ∙ ap (λ i. (get_or (it.before ++ more it.item ∷ it.behind) i default).count) it.place
    ∙ ap (λ (f : Failed). f.count) (got_there it.before it.behind (more it.item) default)
    ∙ sym (failures_there task it.before it.behind (more it.item) it.none_before it.passes)
    ∙ ap (failures_of task) (sym (failure_counted task it.before it.behind it.item it.none_before it.passes) ∙ ap (with_failure task) (sym it.split))

pub one_of_none : (task : Task) (failures : List Failed) → list_any (λ (g : Failed). is_task task g.task) failures ≡ false → failures_of task (with_failure task failures) ≡ 1
one_of_none task failures n =
    ap (failures_of task) (failure_begun task failures n)
    ∙ failures_there task failures [] (record { task = task; count = 1 }) n (task_itself task)

-- ---- ranges

pub range_more : (k n : ℕ) → k < n → range_with_len k (n - k) ≡ k ∷ range_with_len (k + 1) (n - (k + 1))
range_more k n l = ap (range_with_len k) less
  where
    less : n - k ≡ suc (n - (k + 1))
    less = omega (arith, l)

-- ---- nodes that hold

pub up_is : (up : List ℕ) (name : Name) (copies : List Copy) → nat_lt 0 (length (up_holders name up copies)) ≡ is_up (bare copies) up name
up_is up name copies = some_pass (λ node. among node up) (nodes_with name copies) ∙ ap (list_any (λ node. among node up)) (sym (bare_nodes name copies))
  where
    some_lt : (n : ℕ) → nat_lt 0 (suc n) ≡ true
    some_lt n = lt-ltb 0 (suc n) (omega arith)

    some_pass : (test : ℕ → Bool) (ns : List ℕ) → nat_lt 0 (length (filter test ns)) ≡ list_any test ns
    some_pass test [] = refl
    some_pass test (n ∷ ns) = elim (test n) as (λ b. nat_lt 0 (length (cond b (n ∷ filter test ns) (filter test ns))) ≡ (b || list_any test ns)) [
      | true ↦ some_lt (length (filter test ns))
      | false ↦ some_pass test ns
    ]

-- so many parts of a step, from one on, lie on up nodes
abbrev pub all_outs : Replicas → ℕ → ℕ → ℕ → ℕ → Bool
all_outs table i j p n = list_all (is_up (bare table.copies) table.up) (map (Out i j) (range_with_len p n))

pub outs_more : (table : Replicas) (i j p n : ℕ) → p < n → all_outs table i j p (n - p) ≡ (is_up (bare table.copies) table.up (Out i j p) && all_outs table i j (p + 1) (n - (p + 1)))
outs_more table i j p n l = ap (λ ps. list_all (is_up (bare table.copies) table.up) (map (Out i j) ps)) (range_more p n l)

pub outs_fail : (table : Replicas) (i j p n : ℕ) → p < n → is_up (bare table.copies) table.up (Out i j p) ≡ false → all_outs table i j p (n - p) ≡ false
outs_fail table i j p n l e = outs_more table i j p n l ∙ ap (λ b. b && all_outs table i j (p + 1) (n - (p + 1))) e

pub outs_pass : (table : Replicas) (i j p n : ℕ) → p < n → is_up (bare table.copies) table.up (Out i j p) ≡ true → all_outs table i j p (n - p) ≡ all_outs table i j (p + 1) (n - (p + 1))
outs_pass table i j p n l e = outs_more table i j p n l ∙ ap (λ b. b && all_outs table i j (p + 1) (n - (p + 1))) e

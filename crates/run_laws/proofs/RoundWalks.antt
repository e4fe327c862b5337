-- The walk over the tasks of a round, and what these tasks read.
use Rattle.std.proofs.Common.{◌≡◌, inl, inr, ℕ, zero, suc, ◌+◌, ◌-◌, ◌≤◌, ◌<◌, Bool, true, false, ◌||◌, cond, List, [], ◌∷◌, ◌++◌, Option, None, Some, refl, sym, ap, subst, ◌∙◌, map, arith, length, nat_le}
use Rattle.std.specs.Prelude.{slice_get}
use Rattle.std.specs.List.{filter, flat_map, list_any, range_with_len}
use Rattle.std.specs.Option.{option_and_then}
use Rattle.std.proofs.lemmas.Bool.{false_from_ne_true}
use Rattle.std.proofs.lemmas.Grind.{flat_map-append}
use Rattle.std.proofs.lemmas.List.{append-nil}
use Rattle.hal_base.specs.Shapes.{IsWellFormed, ReadFrom, StepsReadFrom, nth, source_at, step_at}
use Rattle.hal_base.specs.declared.fields.Schema.{Schema}
use Rattle.hal_base.specs.declared.shape.Origin.TheVariants.{Prev, State}
use Rattle.hal_base.specs.declared.shape.Shape.{Shape}
use Rattle.hal_base.specs.declared.shape.Source.{Source}
use Rattle.hal_base.specs.declared.shape.Step.{Step}
use Rattle.node_names.specs.declared.task.Task.{Task}
use Rattle.node_names.specs.declared.task.Task.TheVariants.{Map, Reduce, Test}
use Rattle.run_model.specs.Lists.{IsIn, below}
use Rattle.run_model.specs.Needs.{View}
use Rattle.run_model.specs.Tasks.{count_in, is_cached, is_task, last, maps, reduces, source_count, source_numbers, split_count, splits, tasks_of_round, tasks_until, test_count, tests}
use Rattle.run_model.specs.Wanted.{Goal, IsWanted, asked_by, goals, is_asked, is_goal, looked_at, walk}
use Rattle.run_laws.specs.Rounds.{round_in}
use Rattle.run_laws.specs.WithoutLoss.{HasNoCaches}
use Rattle.run_laws.proofs.Members.{from_flat, from_map, in_either, is_listed, same_task, task_itself}
use Rattle.run_laws.proofs.NoRepeats.{Apart}
use Rattle.run_laws.proofs.Opening.{walk_in}

-- ---- walks

asked_wanted : (view : View) (goal : Goal) (ts : List Task) (t : Task) → IsIn t (walk view ts (goals view goal)).asked → IsWanted view goal t
asked_wanted view goal [] t i = is_goal t i
asked_wanted view goal (u ∷ ts) t i = elim (list_any (is_task u) (walk view ts (goals view goal)).asked) as (λ v. list_any (is_task u) (walk view ts (goals view goal)).asked ≡ v → IsIn t (looked_at view u (walk view ts (goals view goal)) v).asked → IsWanted view goal t) [
  | true ↦ λ e j. elim (in_either t (asked_by view u) (walk view ts (goals view goal)).asked j) [
    | inl x ↦ is_asked t u (asked_wanted view goal ts u (is_listed u (walk view ts (goals view goal)).asked e)) x
    | inr x ↦ asked_wanted view goal ts t x
  ]
  | false ↦ λ e j. asked_wanted view goal ts t j
] refl i

pub found_wanted : (view : View) (goal : Goal) (ts : List Task) (t : Task) → IsIn t (walk view ts (goals view goal)).found → IsWanted view goal t
found_wanted view goal [] t i = elim i [ ]
found_wanted view goal (u ∷ ts) t i = elim (list_any (is_task u) (walk view ts (goals view goal)).asked) as (λ v. list_any (is_task u) (walk view ts (goals view goal)).asked ≡ v → IsIn t (looked_at view u (walk view ts (goals view goal)) v).found → IsWanted view goal t) [
  | true ↦ λ e j. elim j [
    | inl x ↦ subst (IsWanted view goal) (sym x) (asked_wanted view goal ts u (is_listed u (walk view ts (goals view goal)).asked e))
    | inr x ↦ found_wanted view goal ts t x
  ]
  | false ↦ λ e j. found_wanted view goal ts t j
] refl i

-- tasks in front of which none is wanted are passed over
pub front_passed : (view : View) (goal : Goal) (xs ys : List Task) → ((t : Task) → IsIn t xs → IsWanted view goal t → ⊥) → (walk view (xs ++ ys) (goals view goal)).found ≡ (walk view ys (goals view goal)).found
front_passed view goal [] ys d = refl
front_passed view goal (x ∷ xs) ys d =
    let w = walk view (xs ++ ys) (goals view goal) in
    let no : list_any (is_task x) w.asked ≡ false = false_from_ne_true (list_any (is_task x) w.asked) (λ e. d x (inl refl) (asked_wanted view goal (xs ++ ys) x (is_listed x w.asked e))) in
    ap (λ v. (looked_at view x w v).found) no ∙ front_passed view goal xs ys (λ t i. d t (inr i))

pub filter_same : (test other : Task → Bool) (ts : List Task) → ((t : Task) → IsIn t ts → test t ≡ other t) → filter test ts ≡ filter other ts
filter_same test other [] h = refl
filter_same test other (t ∷ ts) h = ap (λ v. cond v (t ∷ filter test ts) (filter test ts)) (h t (inl refl)) ∙ ap (λ xs. cond (other t) (t ∷ xs) xs) (filter_same test other ts (λ u i. h u (inr i)))

-- what a walk finds is what of the tasks it has found
pub walk_filter : (view : View) (asked ts : List Task) → Apart ts → (walk view ts asked).found ≡ filter (λ t. list_any (is_task t) (walk view ts asked).found) ts
walk_filter view asked [] a = refl
walk_filter view asked (t ∷ ts) a =
    let w = walk view ts asked in
    let before : w.found ≡ filter (λ u. list_any (is_task u) w.found) ts = walk_filter view asked ts a.1 in
    elim (list_any (is_task t) w.asked) as (λ v. (looked_at view t w v).found ≡ filter (λ u. list_any (is_task u) (looked_at view t w v).found) (t ∷ ts)) [
      | true ↦ ap (λ xs. t ∷ xs) (before ∙ filter_same (λ u. list_any (is_task u) w.found) (λ u. is_task u t || list_any (is_task u) w.found) ts (λ u i. sym (ap (λ v. v || list_any (is_task u) w.found) (false_from_ne_true (is_task u t) (λ e. a.0 (subst (λ x. IsIn x ts) (same_task u t e) i))))))
          ∙ sym (ap (λ v. cond (v || list_any (is_task t) w.found) (t ∷ filter (λ u. is_task u t || list_any (is_task u) w.found) ts) (filter (λ u. is_task u t || list_any (is_task u) w.found) ts)) (task_itself t))
      | false ↦ before ∙ sym (ap (λ v. cond v (t ∷ filter (λ u. list_any (is_task u) w.found) ts) (filter (λ u. list_any (is_task u) w.found) ts)) (false_from_ne_true (list_any (is_task t) w.found) (λ e. a.0 (walk_in view ts asked t (is_listed t w.found e)))))
    ]

-- ---- rounds

range_end : (a n : ℕ) → range_with_len a (suc n) ≡ range_with_len a n ++ (a + n) ∷ []
range_end a zero = let e : a ≡ a + 0 = omega arith in ap (λ k. k ∷ []) e
range_end a (suc n) = let e : a + 1 + n ≡ a + suc n = omega arith in ap (λ xs. a ∷ xs) (range_end (a + 1) n ∙ ap (λ k. range_with_len (a + 1) n ++ k ∷ []) e)

pub until_end : (shape : Shape) (i : ℕ) → 1 ≤ i → tasks_until shape i ≡ tasks_until shape (i - 1) ++ tasks_of_round shape i
until_end shape zero l = absurd (omega arith)
until_end shape (suc n) l =
    let e : suc n - 1 ≡ n = omega arith in
    let e' : 1 + n ≡ suc n = omega arith in
    ap (flat_map (tasks_of_round shape)) (range_end 1 n) ∙ flat_map-append (tasks_of_round shape) (range_with_len 1 n) ((1 + n) ∷ [])
    ∙ ap (λ xs. tasks_until shape n ++ xs) (append-nil (tasks_of_round shape (1 + n)) ∙ ap (tasks_of_round shape) e')
    ∙ ap (λ k. tasks_until shape k ++ tasks_of_round shape (suc n)) (sym e)

-- ---- sources

-- source 1 of a step behind the first is the output before
prev_at : (tables : List Schema) (steps : List Step) → StepsReadFrom tables Prev steps → (n : ℕ) → n < length steps → (source : Source) × (option_and_then (λ (step : Step). nth step.sources 1) (slice_get steps n) ≡ Some source) × (source.from ≡ Prev)
prev_at tables [] f n l = absurd (omega arith)
prev_at tables (step ∷ steps) f zero l = first step.sources f.0
  where
    first : (sources : List Source) → ReadFrom tables Prev sources → (source : Source) × (nth sources 1 ≡ Some source) × (source.from ≡ Prev)
    first [] r = elim r [ ]
    first (source ∷ sources) r = (source, refl, r.0)
prev_at tables (step ∷ steps) f (suc n) l = prev_at tables steps f.1 n (omega arith)

pub prev_source : (shape : Shape) → IsWellFormed shape → (j : ℕ) → 1 ≤ j → suc j ≤ last shape → (source : Source) × (source_at shape (suc j) 1 ≡ Some source) × (source.from ≡ Prev)
prev_source shape w zero l u = absurd (omega arith)
prev_source shape w (suc j) l u = go shape.steps w.steps u
  where
    go : (steps : List Step) → StepsReadFrom shape.tables State steps → suc (suc j) ≤ length steps → (source : Source) × (option_and_then (λ (step : Step). nth step.sources 1) (nth steps (suc (suc j))) ≡ Some source) × (source.from ≡ Prev)
    go [] f u = absurd (omega arith)
    go (step ∷ steps) f u = prev_at shape.tables steps f.1 j (omega arith)

-- such a step has a source, and the source has a split for each part
pub prev_count : (shape : Shape) (i j : ℕ) (source : Source) → source_at shape j 1 ≡ Some source → source.from ≡ Prev → (1 ≤ source_count (step_at shape j)) × (count_in shape i (source_at shape j 1) ≡ shape.parts)
prev_count shape i j source e p = (some_sources (step_at shape j) e, ap (count_in shape i) e ∙ ap (split_count shape i) p)
  where
    some_sources : (o : Option Step) → option_and_then (λ (step : Step). nth step.sources 1) o ≡ Some source → 1 ≤ source_count o
    some_sources None x = absurd (none x)
      where
        none : None ≡ Some source → ⊥
        none h = cc
    some_sources (Some step) x = some step.sources x
      where
        some : (sources : List Source) → nth sources 1 ≡ Some source → 1 ≤ length sources
        some [] y = absurd (none y)
          where
            none : None ≡ Some source → ⊥
            none h = cc
        some (first ∷ sources) y = omega arith

pub not_cached : (shape : Shape) → HasNoCaches shape → (j s : ℕ) → is_cached (source_at shape j s) ≡ false
not_cached shape caches j s = go (source_at shape j s) refl
  where
    go : (o : Option Source) → source_at shape j s ≡ o → is_cached o ≡ false
    go None e = refl
    go (Some source) e = (caches.sources j s source e).0

-- ---- the round of a task

pub round_is : (shape : Shape) (i : ℕ) (t : Task) → IsIn t (tasks_of_round shape i) → round_in t ≡ i
round_is shape i t x = elim (in_either t (flat_map (λ j. maps shape i j ++ reduces shape i j) (range_with_len 1 (last shape))) (tests shape i) x) [
  | inl a ↦
      let j = from_flat (λ j. maps shape i j ++ reduces shape i j) t (range_with_len 1 (last shape)) a in
      elim (in_either t (maps shape i j.0) (reduces shape i j.0) j.2) [
        | inl b ↦
            let s = from_flat (λ s. map (Map i j.0 s) (splits shape i j.0 s)) t (source_numbers shape j.0) b in
            ap round_in (from_map (Map i j.0 s.0) t (splits shape i j.0 s.0) s.2).2
        | inr b ↦ ap round_in (from_map (Reduce i j.0) t (below shape.parts) b).2
      ]
  | inr b ↦ elim (nat_le 2 i) as (λ v. IsIn t (cond v (map (Test i) (below (test_count shape))) []) → round_in t ≡ i) [
    | true ↦ λ y. ap round_in (from_map (Test i) t (below (test_count shape)) y).2
    | false ↦ λ y. absurd y
  ] b
]

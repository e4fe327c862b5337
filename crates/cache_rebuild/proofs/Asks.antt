-- What is asked for, file by file.
use Rattle.std.proofs.Common.{◌≡◌, ◌⊎◌, inl, inr, ℕ, ◌+◌, ◌<◌, ◌≤◌, Bool, true, false, ◌||◌, not, cond, List, [], ◌∷◌, ◌++◌, Option, None, Some, refl, sym, ap, subst, ◌∙◌, map, arith, ◌==◌, nat_le}
use Rattle.std.specs.List.{filter, flat_map, list_any}
use Rattle.std.specs.Option.{option_map}
use Rattle.std.proofs.lemmas.Bool.{false_from_ne_true, false≢true, le-leb, leb-true, ne_eqb}
use Rattle.std.proofs.lemmas.List.Elements.{filter-append}
use Rattle.std.proofs.lemmas.List.Folds.{list_any-append}
use Rattle.node_names.specs.declared.name.Name.{Name}
use Rattle.node_names.specs.declared.name.Name.TheVariants.{Blk, Mic, Out, Ric, Roc, Spill}
use Rattle.node_names.specs.declared.task.Task.{Task}
use Rattle.node_names.specs.declared.task.Task.TheVariants.{Map, Reduce, Test}
use Rattle.replica_table.specs.Copies.{is_name}
use Rattle.replica_table.proofs.Names.{itself, same_by}
use Rattle.run_model.specs.Lists.{below}
use Rattle.run_model.specs.Needs.{View, is_up}
use Rattle.run_model.specs.Tasks.{is_task, last, last_outs, maker}
use Rattle.run_model.specs.Wanted.{listed, missing_parts}
use Rattle.run_laws.specs.Rounds.{round_in}
use Rattle.run_laws.proofs.Members.{or_true, same_task}
use Rattle.loop_scheduler.proofs.Ranges.{from_on, none_on, one_on}
use Rattle.cache_rebuild.specs.steps.Asking.{AsksMore, lost, makes_one, may_have}

-- ---- what a task makes among files

or_assoc : (a b c : Bool) → ((a || b) || c) ≡ (b || (a || c))
or_assoc true true c = refl
or_assoc true false c = refl
or_assoc false true c = refl
or_assoc false false c = refl

-- what a task makes stands in the first list or in the second
pub makes_append : (xs ys : List Name) (t : Task) → makes_one (xs ++ ys) t ≡ (makes_one xs t || makes_one ys t)
makes_append xs ys (Map i j s q) = list_any-append (is_name (Spill i j s q)) xs ys
makes_append xs ys (Reduce i j p) = list_any-append (is_name (Out i j p)) xs ys
makes_append xs ys (Test i p) = refl

-- nothing stands in no files
pub makes_none : (t : Task) → makes_one [] t ≡ false
makes_none (Map i j s q) = refl
makes_none (Reduce i j p) = refl
makes_none (Test i p) = refl

-- a task makes this file where it is the maker of it
made_one : (t : Task) (name : Name) → list_any (is_task t) (listed (maker name)) ≡ makes_one (name ∷ []) t
made_one (Map i j s q) (Spill i' j' s' q') = refl
made_one (Map i j s q) (Out i' j' p') = refl
made_one (Map i j s q) (Blk a b) = refl
made_one (Map i j s q) (Ric a b c) = refl
made_one (Map i j s q) (Mic a b) = refl
made_one (Map i j s q) (Roc a b) = refl
made_one (Reduce i j p) (Spill i' j' s' q') = refl
made_one (Reduce i j p) (Out i' j' p') = refl
made_one (Reduce i j p) (Blk a b) = refl
made_one (Reduce i j p) (Ric a b c) = refl
made_one (Reduce i j p) (Mic a b) = refl
made_one (Reduce i j p) (Roc a b) = refl
made_one (Test i p) (Spill i' j' s' q') = refl
made_one (Test i p) (Out i' j' p') = refl
made_one (Test i p) (Blk a b) = refl
made_one (Test i p) (Ric a b c) = refl
made_one (Test i p) (Mic a b) = refl
made_one (Test i p) (Roc a b) = refl

-- the makers of files are the tasks that make one of them
pub makers_make : (names : List Name) (t : Task) → list_any (is_task t) (flat_map (λ name. listed (maker name)) names) ≡ makes_one names t
makers_make [] t = sym (makes_none t)
makers_make (name ∷ names) t =
    list_any-append (is_task t) (listed (maker name)) (flat_map (λ name. listed (maker name)) names)
    ∙ (λ i. made_one t name i || makers_make names t i)
    ∙ sym (makes_append (name ∷ []) names t)

-- ---- files that are left

-- what is left and what is asked for make all, and what was asked for
abbrev pub Asking : List Name → List Name → List Name → List Name → Type 0
Asking old now left all = (t : Task) → (makes_one left t || makes_one now t) ≡ (makes_one all t || makes_one old t)

-- some of the files that were left are asked for
pub asking_more : (old now new xs rest left all : List Name) → left ≡ xs ++ rest → AsksMore now new xs → Asking old now left all → Asking old new rest all
asking_more old now new xs rest left all e more asking t =
    ap (λ v. makes_one rest t || v) (more t)
    ∙ sym (or_assoc (makes_one xs t) (makes_one rest t) (makes_one now t))
    ∙ ap (λ v. v || makes_one now t) (sym (makes_append xs rest t))
    ∙ ap (λ names. makes_one names t || makes_one now t) (sym e)
    ∙ asking t

-- once none is left, all are asked for
pub asking_done : (old now left all : List Name) → left ≡ [] → Asking old now left all → AsksMore old now all
asking_done old now left all e asking t = sym (ap (λ v. v || makes_one now t) (ap (λ names. makes_one names t) e ∙ makes_none t)) ∙ asking t

-- ---- one more file

name_turned : (a b : Name) → is_name a b ≡ is_name b a
name_turned a b = elim (is_name a b) as (λ v. is_name a b ≡ v → v ≡ is_name b a) [
  | true ↦ λ e. sym (subst (λ x. is_name x a ≡ true) (same_by a b e) (itself a))
  | false ↦ λ e. sym (false_from_ne_true (is_name b a) (λ f. false≢true (sym e ∙ subst (λ x. is_name x b ≡ true) (same_by b a f) (itself b))))
] refl

put_in : (a b x : Bool) → a ≡ b → cond a true x ≡ ((b || false) || x)
put_in a true x e = ap (λ v. cond v true x) e
put_in a false x e = ap (λ v. cond v true x) e

-- a file that is put in is asked for too
pub inserted : (old new : List Name) (name : Name) → ((q : Name) → list_any (is_name q) new ≡ cond (is_name name q) true (list_any (is_name q) old)) → AsksMore old new (name ∷ [])
inserted old new name h (Map i j s q) = h (Spill i j s q) ∙ put_in (is_name name (Spill i j s q)) (is_name (Spill i j s q) name) _ (name_turned name (Spill i j s q))
inserted old new name h (Reduce i j p) = h (Out i j p) ∙ put_in (is_name name (Out i j p)) (is_name (Out i j p) name) _ (name_turned name (Out i j p))
inserted old new name h (Test i p) = refl

-- a file that no task makes adds nothing
pub unmade : (old : List Name) (name : Name) → None ≡ option_map round_in (maker name) → AsksMore old old (name ∷ [])
unmade old name e t = ap (λ v. v || makes_one old t) (sym (sym (made_one t name) ∙ ap (λ o. list_any (is_task t) (listed o)) (no_maker (maker name) e)))
  where
    no_maker : (o : Option Task) → None ≡ option_map round_in o → o ≡ None
    no_maker None e = refl
    no_maker (Some u) e = absurd (unlike e)
      where
        unlike : None ≡ Some (round_in u) → ⊥
        unlike h = cc

-- ---- rounds

-- a file is made in the round of its maker
round_of_made : (name : Name) (round : ℕ) (t : Task) → Some round ≡ option_map round_in (maker name) → makes_one (name ∷ []) t ≡ true → round_in t ≡ round
round_of_made name round t e m = go (maker name) e (made_one t name ∙ m)
  where
    go : (o : Option Task) → Some round ≡ option_map round_in o → list_any (is_task t) (listed o) ≡ true → round_in t ≡ round
    go None e x = absurd (unlike e)
      where
        unlike : Some round ≡ None → ⊥
        unlike h = cc
    go (Some u) e x = ap round_in (same_task t u (either (or_true (is_task t u) false x))) ∙ sym (same e)
      where
        either : (is_task t u ≡ true) ⊎ (false ≡ true) → is_task t u ≡ true
        either (inl a) = a
        either (inr b) = absurd (false≢true b)

        same : Some round ≡ Some (round_in u) → round ≡ round_in u
        same h = cc

-- the bounds of rounds hold once a file and its round are counted
pub rounds_kept : (old new : List Name) (name : Name) (round : ℕ) (may may' : ℕ → Bool) → AsksMore old new (name ∷ []) → Some round ≡ option_map round_in (maker name) → ((t : Task) → makes_one old t ≡ true → may (round_in t) ≡ true) → ((i : ℕ) → may i ≡ true → may' i ≡ true) → may' round ≡ true → (t : Task) → makes_one new t ≡ true → may' (round_in t) ≡ true
rounds_kept old new name round may may' more made kept weaker r t m = elim (or_true (makes_one (name ∷ []) t) (makes_one old t) (sym (more t) ∙ m)) [
  | inl a ↦ ap may' (round_of_made name round t made a) ∙ r
  | inr b ↦ weaker (round_in t) (kept t b)
]

-- files of the first round may be asked for too
pub first_more : (first : Bool) (lowest i : ℕ) → may_have first lowest i ≡ true → may_have true lowest i ≡ true
first_more first lowest i = elim (i == 1) as (λ v. cond v first (nat_le lowest i) ≡ true → cond v true (nat_le lowest i) ≡ true) [ true ↦ λ e. refl | false ↦ λ e. e ]

-- and those of a lower round
pub lower_more : (first : Bool) (lowest round i : ℕ) → round < lowest → may_have first lowest i ≡ true → may_have first round i ≡ true
lower_more first lowest round i l = elim (i == 1) as (λ v. cond v first (nat_le lowest i) ≡ true → cond v first (nat_le round i) ≡ true) [ true ↦ λ e. e | false ↦ λ e. le-leb round i (let h = leb-true lowest i e in omega arith) ]

-- a round that is counted may have files: the first
pub first_there : (lowest : ℕ) → may_have true lowest 1 ≡ true
first_there lowest = refl

-- or a later one
pub later_there : (first : Bool) (lowest round : ℕ) → (round ≡ 1 → ⊥) → lowest ≤ round → may_have first lowest round ≡ true
later_there first lowest round d l = ap (λ v. cond v first (nat_le lowest round)) (ne_eqb round 1 d) ∙ le-leb lowest round l

-- no file of a round between is asked for
pub none_below : (first : Bool) (lowest round i : ℕ) → round ≤ lowest → i < round → 1 < i → may_have first lowest i ≡ true → ⊥
none_below first lowest round i l u s m = let e : nat_le lowest i ≡ true = sym (ap (λ v. cond v first (nat_le lowest i)) (ne_eqb i 1 (λ same. omega arith))) ∙ m in let h = leb-true lowest i e in omega arith

-- ---- files by their numbers

-- of files by number, the next one is left and those behind it
pub left_more : (test : Name → Bool) (f : ℕ → Name) (n end : ℕ) → n < end → filter test (map f (from_on n end)) ≡ filter test (f n ∷ []) ++ filter test (map f (from_on (n + 1) end))
left_more test f n end l = ap (λ ns. filter test (map f ns)) (one_on n end l) ∙ filter-append test (f n ∷ []) (map f (from_on (n + 1) end))

-- or none is
pub left_done : (test : Name → Bool) (f : ℕ → Name) (n end : ℕ) → end ≤ n → filter test (map f (from_on n end)) ≡ []
left_done test f n end l = ap (λ ns. filter test (map f ns)) (none_on n end l)

-- of files by input, those of the next one are left and those behind them
pub flat_more : (test : Name → Bool) (f : ℕ → List Name) (n end : ℕ) → n < end → filter test (flat_map f (from_on n end)) ≡ filter test (f n) ++ filter test (flat_map f (from_on (n + 1) end))
flat_more test f n end l = ap (λ ns. filter test (flat_map f ns)) (one_on n end l) ∙ filter-append test (f n) (flat_map f (from_on (n + 1) end))

-- or none are
pub flat_done : (test : Name → Bool) (f : ℕ → List Name) (n end : ℕ) → end ≤ n → filter test (flat_map f (from_on n end)) ≡ []
flat_done test f n end l = ap (λ ns. filter test (flat_map f ns)) (none_on n end l)

-- ---- the goal

parts_make : (test : Name → Bool) (i j : ℕ) (ns : List ℕ) (t : Task) → makes_one (filter test (map (Out i j) ns)) t ≡ list_any (is_task t) (map (Reduce i j) (filter (λ p. test (Out i j p)) ns))
parts_make test i j [] t = makes_none t
parts_make test i j (p ∷ ns) t = elim (test (Out i j p)) as (λ v. makes_one (cond v (Out i j p ∷ filter test (map (Out i j) ns)) (filter test (map (Out i j) ns))) t ≡ list_any (is_task t) (map (Reduce i j) (cond v (p ∷ filter (λ p. test (Out i j p)) ns) (filter (λ p. test (Out i j p)) ns)))) [
  | true ↦
      makes_append (Out i j p ∷ []) (filter test (map (Out i j) ns)) t
      ∙ (λ k. sym (made_one t (Out i j p)) k || parts_make test i j ns t k)
      ∙ sym (list_any-append (is_task t) (Reduce i j p ∷ []) (map (Reduce i j) (filter (λ p. test (Out i j p)) ns)))
  | false ↦ parts_make test i j ns t
]

-- what makes the lost parts of a round is what the goal lacks
pub parts_asked : (view : View) (i : ℕ) (names : List Name) → AsksMore [] names (lost view (last_outs view.shape i)) → (t : Task) → makes_one names t ≡ list_any (is_task t) (missing_parts view i)
parts_asked view i names more t =
    more t ∙ ap (λ v. makes_one (lost view (last_outs view.shape i)) t || v) (makes_none t) ∙ or_none (makes_one (lost view (last_outs view.shape i)) t)
    ∙ parts_make (λ name. not (is_up view.copies view.up name)) i (last view.shape) (below view.shape.parts) t
  where
    or_none : (v : Bool) → (v || false) ≡ v
    or_none true = refl
    or_none false = refl

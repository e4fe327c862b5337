-- The walk over the tasks, step by step and round by round.
use Rattle.std.proofs.Common.{◌≡◌, inl, inr, ℕ, zero, suc, ◌+◌, ◌-◌, ◌≤◌, ◌<◌, Bool, true, false, ◌||◌, ◌&&◌, not, cond, List, [], ◌∷◌, ◌++◌, refl, sym, ap, subst, ◌∙◌, map, arith, reverse, ◌==◌, nat_le}
use Rattle.std.specs.List.{filter, list_any}
use Rattle.std.proofs.lemmas.Bool.{le-leb, ne_eqb}
use Rattle.std.proofs.lemmas.List.{reverse-append}
use Rattle.std.proofs.lemmas.List.Folds.{list_any-append}
use Rattle.node_names.specs.declared.name.Name.{Name}
use Rattle.node_names.specs.declared.task.Task.{Task}
use Rattle.node_names.specs.declared.task.Task.TheVariants.{Map, Reduce, Test}
use Rattle.replica_table.specs.Sets.{among}
use Rattle.run_model.specs.Lists.{IsIn, below}
use Rattle.run_model.specs.Needs.{View}
use Rattle.run_model.specs.Tasks.{IsTask, is_task, tasks_of_round, tasks_until, test_count}
use Rattle.run_model.specs.Wanted.{Goal, Walked, asked_by, goals, looked_at, missing_of, missing_parts, unknown_tests, walk, wanted}
use Rattle.run_laws.specs.Rounds.{round_in}
use Rattle.run_laws.proofs.Listing.{tasks_are}
use Rattle.run_laws.proofs.Members.{in_left, in_range, in_right}
use Rattle.run_laws.proofs.Numbers.{is_among}
use Rattle.run_laws.proofs.RoundWalks.{round_is, until_end}
use Rattle.loop_scheduler.proofs.Choices.{among_where}
use Rattle.cache_rebuild.specs.declared.walk.Walk.{Walk}
use Rattle.cache_rebuild.specs.steps.Asking.{AsksMore, is_asked_for, makes_one}
use Rattle.cache_rebuild.specs.steps.Walking.{Comes, walk_on}
use Rattle.cache_rebuild.proofs.Asks.{makers_make}

-- ---- walks

walk_parts : (view : View) (xs ys : List Task) (w : Walked) → walk_on view (xs ++ ys) w ≡ walk_on view xs (walk_on view ys w)
walk_parts view [] ys w = refl
walk_parts view (x ∷ xs) ys w = ap (λ (v : Walked). looked_at view x v (list_any (is_task x) v.asked)) (walk_parts view xs ys w)

walk_is : (view : View) (ts asked : List Task) → walk_on view ts (record { asked = asked; found = [] }) ≡ walk view ts asked
walk_is view [] asked = refl
walk_is view (t ∷ ts) asked = ap (λ (v : Walked). looked_at view t v (list_any (is_task t) v.asked)) (walk_is view ts asked)

-- tasks that no one asks for are passed over
walk_past : (view : View) (ts : List Task) (w : Walked) → ((t : Task) → IsIn t ts → list_any (is_task t) w.asked ≡ false) → walk_on view ts w ≡ w
walk_past view [] w h = refl
walk_past view (t ∷ ts) w h =
    ap (λ (v : Walked). looked_at view t v (list_any (is_task t) v.asked)) (walk_past view ts w (λ u i. h u (inr i)))
    ∙ ap (looked_at view t w) (h t (inl refl))

module _ (view : View) (goal : Goal) (all : List Task) where
  -- tasks of which none is asked for need no look
  pub skipped : (xs ys : List Task) (walk : Walk) → ((t : Task) → IsIn t ys → is_asked_for goal walk.asked.names.keys t ≡ false) → Comes view goal (xs ++ ys) all walk → Comes view goal xs all walk
  skipped xs ys walk h c = record {
    w = c.w;
    whole = ap (λ (v : Walked). v.found) (sym (walk_parts view xs ys c.w ∙ ap (walk_on view xs) (walk_past view ys c.w (λ t i. c.asked t (in_right t xs ys i) ∙ h t i)))) ∙ c.whole;
    found = c.found;
    asked = λ t i. c.asked t (in_left t xs ys i);
  }

  -- a task that is asked for is found, and what it misses is asked for
  pub taken : (left : List Task) (t : Task) (old new : Walk) → is_asked_for goal old.asked.names.keys t ≡ true → new.found.items ≡ old.found.items ++ t ∷ [] → AsksMore old.asked.names.keys new.asked.names.keys (missing_of view t) → Comes view goal (left ++ t ∷ []) all old → Comes view goal left all new
  taken left t old new e found more c = record {
    w = looked_at view t c.w true;
    whole =
        ap (λ (v : Walked). v.found) (sym (walk_parts view left (t ∷ []) c.w ∙ ap (λ v. walk_on view left (looked_at view t c.w v)) (c.asked t (in_right t left (t ∷ []) (inl refl)) ∙ e)))
        ∙ c.whole;
    found = ap (λ ts. t ∷ ts) c.found ∙ sym (reverse-append old.found.items (t ∷ [])) ∙ sym (ap reverse found);
    asked = λ u i.
        list_any-append (is_task u) (asked_by view t) c.w.asked
        ∙ (λ k. makers_make (missing_of view t) u k || c.asked u (in_left u left (t ∷ []) i) k)
        ∙ joined u;
  }
    where
      joined : (u : Task) → (makes_one (missing_of view t) u || is_asked_for goal old.asked.names.keys u) ≡ is_asked_for goal new.asked.names.keys u
      joined (Map i j s q) = sym (more (Map i j s q))
      joined (Reduce i j p) = sym (more (Reduce i j p))
      joined (Test i p) = refl

  -- rounds of which nothing is asked for need no look
  pub skip_rounds : (k m : ℕ) (walk : Walk) → m + k < goal.round → ((t : Task) → m < round_in t → round_in t < m + k + 1 → makes_one walk.asked.names.keys t ≡ false) → Comes view goal (tasks_until view.shape (m + k)) all walk → Comes view goal (tasks_until view.shape m) all walk
  skip_rounds zero m walk l h c = let e : m + 0 ≡ m = omega arith in subst (λ n. Comes view goal (tasks_until view.shape n) all walk) e c
  skip_rounds (suc k) m walk l h c =
      let e : m + suc k - 1 ≡ m + k = omega arith in
      let end = until_end view.shape (m + suc k) (omega arith) ∙ ap (λ n. tasks_until view.shape n ++ tasks_of_round view.shape (m + suc k)) e in
      skip_rounds k m walk (omega arith) (λ t a b. h t a (omega arith))
      (skipped (tasks_until view.shape (m + k)) (tasks_of_round view.shape (m + suc k)) walk (λ t i. none t (round_is view.shape (m + suc k) t i))
      (subst (λ ts. Comes view goal ts all walk) end c))
    where
      none : (t : Task) → round_in t ≡ m + suc k → is_asked_for goal walk.asked.names.keys t ≡ false
      none (Map i j s q) r = h (Map i j s q) (omega arith) (omega arith)
      none (Reduce i j p) r = h (Reduce i j p) (omega arith) (omega arith)
      none (Test i p) r = ap (λ v. v && not (among p goal.known)) (ne_eqb i goal.round (λ same. omega arith))

  -- with no task left all is found
  pub all_found : (walk : Walk) → Comes view goal [] all walk → reverse walk.found.items ≡ all
  all_found walk c = sym c.found ∙ c.whole

-- ---- the begin

or_none : (v : Bool) → (v || false) ≡ v
or_none true = refl
or_none false = refl

no_map : (round i j s q : ℕ) (ns : List ℕ) → list_any (is_task (Map i j s q)) (map (Test round) ns) ≡ false
no_map round i j s q [] = refl
no_map round i j s q (n ∷ ns) = no_map round i j s q ns

no_reduce : (round i j p : ℕ) (ns : List ℕ) → list_any (is_task (Reduce i j p)) (map (Test round) ns) ≡ false
no_reduce round i j p [] = refl
no_reduce round i j p (n ∷ ns) = no_reduce round i j p ns

a_test : (round i p : ℕ) (ns : List ℕ) → list_any (is_task (Test i p)) (map (Test round) ns) ≡ (i == round && among p ns)
a_test round i p [] = never (i == round)
  where
    never : (v : Bool) → false ≡ (v && false)
    never true = refl
    never false = refl
a_test round i p (n ∷ ns) = ap (λ v. (i == round && p == n) || v) (a_test round i p ns) ∙ both (i == round) (p == n) (among p ns)
  where
    both : (a b c : Bool) → ((a && b) || (a && c)) ≡ (a && (b || c))
    both true b c = refl
    both false b c = refl

module _ (view : View) (goal : Goal) where
  abbrev unknown : List ℕ
  unknown = filter (λ p. not (among p goal.known)) (below (test_count view.shape))

  -- the tests of a goal are those that are asked for
  asked_first : (names : List Name) (t : Task) → IsTask view.shape t → round_in t ≤ goal.round → (makes_one names t || list_any (is_task t) (unknown_tests view goal)) ≡ is_asked_for goal names t
  asked_first names (Map i j s q) k l = ap (λ v. makes_one names (Map i j s q) || v) (elim (nat_le 2 goal.round) as (λ v. list_any (is_task (Map i j s q)) (cond v (map (Test goal.round) unknown) []) ≡ false) [ true ↦ no_map goal.round i j s q unknown | false ↦ refl ]) ∙ or_none (makes_one names (Map i j s q))
  asked_first names (Reduce i j p) k l = ap (λ v. makes_one names (Reduce i j p) || v) (elim (nat_le 2 goal.round) as (λ v. list_any (is_task (Reduce i j p)) (cond v (map (Test goal.round) unknown) []) ≡ false) [ true ↦ no_reduce goal.round i j p unknown | false ↦ refl ]) ∙ or_none (makes_one names (Reduce i j p))
  asked_first names (Test i p) k l =
      ap (λ v. list_any (is_task (Test i p)) (cond v (map (Test goal.round) unknown) [])) (le-leb 2 goal.round (let h = k.0 in omega arith))
      ∙ a_test goal.round i p unknown
      ∙ ap (λ v. i == goal.round && v) (among_where (λ p. not (among p goal.known)) p (below (test_count view.shape)) (is_among p (below (test_count view.shape)) (in_range 0 (test_count view.shape) p (omega arith) (let h = k.1 in omega arith))))

  -- the walk begins with all tasks left
  pub begun : (start : Walk) → start.found.items ≡ [] → ((t : Task) → makes_one start.asked.names.keys t ≡ list_any (is_task t) (missing_parts view goal.round)) → Comes view goal (tasks_until view.shape goal.round) (wanted view goal) start
  begun start none asks = record {
    w = record { asked = goals view goal; found = [] };
    whole = ap (λ (v : Walked). v.found) (walk_is view (tasks_until view.shape goal.round) (goals view goal));
    found = sym (ap reverse none);
    asked = λ t i.
        let k = (tasks_are view.shape goal.round t).0 i in
        list_any-append (is_task t) (missing_parts view goal.round) (unknown_tests view goal)
        ∙ ap (λ v. v || list_any (is_task t) (unknown_tests view goal)) (sym (asks t))
        ∙ asked_first start.asked.names.keys t k.0 k.1;
  }

-- one task that is not asked for
pub alone : (goal : Goal) (names : List Name) (t : Task) → is_asked_for goal names t ≡ false → (u : Task) → IsIn u (t ∷ []) → is_asked_for goal names u ≡ false
alone goal names t e u (inl is) = ap (is_asked_for goal names) is ∙ e
alone goal names t e u (inr i) = elim i [ ]

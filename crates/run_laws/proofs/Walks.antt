-- The walk from the last task to the first finds the wanted tasks, where each task asks for earlier ones alone.
use Rattle.std.proofs.Common.{◌≡◌, ◌⊎◌, inl, inr, true, false, List, [], ◌∷◌, refl, sym, subst, ◌∙◌}
use Rattle.std.specs.List.{list_any}
use Rattle.std.proofs.lemmas.Bool.{false≢true}
use Rattle.node_names.specs.declared.task.Task.{Task}
use Rattle.run_model.specs.Lists.{IsIn}
use Rattle.run_model.specs.Needs.{View}
use Rattle.run_model.specs.Tasks.{is_task}
use Rattle.run_model.specs.Wanted.{Goal, IsWanted, Walked, asked_by, goals, is_asked, is_goal, looked_at, walk, wanted}
use Rattle.run_laws.specs.Wanting.{TheWantedAreLeast}
use Rattle.run_laws.proofs.Members.{in_either, in_left, in_right, is_listed, listed_is}

-- each of these tasks asks only for tasks that stand before it
abbrev pub AsksEarlier : View → (Task → Type 0) → List Task → Type 0
AsksEarlier view Before [] = Unit {0}
AsksEarlier view Before (t ∷ ts) = ((a : Task) → IsIn a (asked_by view t) → Before a) × AsksEarlier view (λ a. Before a ⊎ (a ≡ t)) ts

-- what a walk over the tasks from here on has found
pub record Finds (view : View) (goal : Goal) (Before : Task → Type 0) (w : Walked) : Type 0 where
  pub goals_asked : (t : Task) → IsIn t (goals view goal) → IsIn t w.asked
  pub closed : (t by : Task) → IsIn by w.found → IsIn t (asked_by view by) → IsIn t w.asked
  pub found_or_before : (t : Task) → IsIn t w.asked → IsIn t w.found ⊎ Before t
  pub sound_asked : (t : Task) → IsIn t w.asked → IsWanted view goal t
  pub sound_found : (t : Task) → IsIn t w.found → IsWanted view goal t

module _ (view : View) (goal : Goal) where
  -- a task that no one asks for is passed over
  passed_over : (Before : Task → Type 0) (t : Task) (w : Walked) → (list_any (is_task t) w.asked ≡ false) → Finds view goal (λ a. Before a ⊎ (a ≡ t)) w → Finds view goal Before w
  passed_over Before t w e f = record {
    goals_asked = f.goals_asked;
    closed = f.closed;
    found_or_before = λ u i. elim (f.found_or_before u i) [
      | inl found ↦ inl found
      | inr before ↦ elim before [ inl b ↦ inr b | inr is ↦ absurd (false≢true (sym e ∙ listed_is t w.asked (subst (λ v. IsIn v w.asked) is i))) ]
    ];
    sound_asked = f.sound_asked;
    sound_found = f.sound_found;
  }

  -- one that is asked for is found, and what it asks for stands before it
  taken : (Before : Task → Type 0) (t : Task) (w : Walked) → ((a : Task) → IsIn a (asked_by view t) → Before a) → (list_any (is_task t) w.asked ≡ true) → Finds view goal (λ a. Before a ⊎ (a ≡ t)) w → Finds view goal Before (looked_at view t w true)
  taken Before t w earlier e f = record {
    goals_asked = λ u i. in_right u (asked_by view t) w.asked (f.goals_asked u i);
    closed = λ u by i j. elim i [
      | inl is ↦ in_left u (asked_by view t) w.asked (subst (λ v. IsIn u (asked_by view v)) is j)
      | inr more ↦ in_right u (asked_by view t) w.asked (f.closed u by more j)
    ];
    found_or_before = λ u i. elim (in_either u (asked_by view t) w.asked i) [
      | inl a ↦ inr (earlier u a)
      | inr b ↦ elim (f.found_or_before u b) [
        | inl found ↦ inl (inr found)
        | inr before ↦ elim before [ inl c ↦ inr c | inr is ↦ inl (inl is) ]
      ]
    ];
    sound_asked = λ u i. elim (in_either u (asked_by view t) w.asked i) [
      | inl a ↦ is_asked u t is_wanted a
      | inr b ↦ f.sound_asked u b
    ];
    sound_found = λ u i. elim i [
      | inl is ↦ subst (IsWanted view goal) (sym is) is_wanted
      | inr more ↦ f.sound_found u more
    ];
  }
    where
      is_wanted : IsWanted view goal t
      is_wanted = f.sound_asked t (is_listed t w.asked e)

  pub walk_finds : (Before : Task → Type 0) (ts : List Task) → AsksEarlier view Before ts → ((t : Task) → IsIn t (goals view goal) → Before t ⊎ IsIn t ts) → Finds view goal Before (walk view ts (goals view goal))
  walk_finds Before [] earlier known = record {
    goals_asked = λ t i. i;
    closed = λ t by i j. elim i [ ];
    found_or_before = λ t i. elim (known t i) [ inl b ↦ inr b | inr nothing ↦ absurd nothing ];
    sound_asked = λ t i. is_goal t i;
    sound_found = λ t i. elim i [ ];
  }
  walk_finds Before (t ∷ ts) earlier known =
      let w = walk view ts (goals view goal) in
      let f = walk_finds (λ a. Before a ⊎ (a ≡ t)) ts earlier.1 (λ u i. elim (known u i) [ inl b ↦ inl (inl b) | inr m ↦ elim m [ inl is ↦ inl (inr is) | inr more ↦ inr more ] ]) in
      elim (list_any (is_task t) w.asked) as (λ b. list_any (is_task t) w.asked ≡ b → Finds view goal Before (looked_at view t w b)) [
        | true ↦ λ e. taken Before t w earlier.0 e f
        | false ↦ λ e. passed_over Before t w e f
      ] refl

  -- where nothing stands before the first task, the walk finds all that is wanted
  pub all_found : (w : Walked) → Finds view goal (λ a. ⊥) w → (t : Task) → IsWanted view goal t → IsIn t w.found
  all_found w f _ (is_goal t i) = elim (f.found_or_before t (f.goals_asked t i)) [ inl found ↦ found | inr nothing ↦ absurd nothing ]
  all_found w f _ (is_asked t by wanted i) = elim (f.found_or_before t (f.closed t by (all_found w f by wanted) i)) [ inl found ↦ found | inr nothing ↦ absurd nothing ]

pub wanted_are_least : TheWantedAreLeast
wanted_are_least view goal set closed _ (is_goal t i) = closed.has_goals t i
wanted_are_least view goal set closed _ (is_asked t by wanted i) = closed.has_asked t by (wanted_are_least view goal set closed by wanted) i

-- Items by their places, and the lowest node that runs an attempt.
use Rattle.std.specs.Prelude.{◌≡◌, ℕ, ◌==◌, Bool, true, false, List, [], ◌∷◌, ◌++◌, Option, None, Some, length}
use Rattle.std.specs.List.{list_any}
use Rattle.run_model.specs.Acts as acts
use Rattle.run_model.specs.declared.attempt.Attempt.{Attempt}

-- the first item that passes the test is the one at this place
pub record IsFirst {A : Type 0} (test : A → Bool) (items : List A) (at : ℕ) : Type 0 where
  pub item : A
  pub before : List A
  pub behind : List A
  pub split : items ≡ before ++ item ∷ behind
  pub place : at ≡ length before
  pub none_before : list_any test before ≡ false
  pub passes : test item ≡ true

-- the lowest node that runs an attempt
abbrev pub lowest_of : List Attempt → Option ℕ
lowest_of [] = None
lowest_of (a ∷ running) = Some (acts.lowest_node a running)

-- the place of an attempt, which is the oldest on the lowest node that runs one
pub record IsOldest (running : List Attempt) (at : ℕ) : Type 0 where
  pub node : ℕ
  pub lowest : lowest_of running ≡ Some node
  pub first : IsFirst (λ (a : Attempt). node == a.node) running at

-- What comes after a round.
use Rattle.std.specs.Prelude.{◌≡◌, ℕ, ◌<◌, ◌≤◌, Bool, true, false, Option, None, Some}
use Rattle.fixpoint_test.specs.declared.decision.Next.{Next}
use Rattle.fixpoint_test.specs.declared.decision.Next.TheVariants.{Again, Fixpoint, Close, Limit}

-- a distance is given exactly from the second round on
abbrev pub IsGiven : ℕ → Option ℕ → Type 0
IsGiven round None = round ≡ 1
IsGiven round (Some far) = 2 ≤ round

-- a distance is given, and below the threshold
abbrev pub IsNear : Option ℕ → ℕ → Type 0
IsNear None threshold = ⊥
IsNear (Some far) threshold = far < threshold

-- no distance is given that is below the threshold
abbrev pub IsFar : Option ℕ → ℕ → Type 0
IsFar None threshold = Unit {0}
IsFar (Some far) threshold = threshold ≤ far

-- near the round before the program ends, exactly or not; else it ends in the last round that it may have, and only there
abbrev pub Decides : ℕ → Option ℕ → ℕ → Bool → ℕ → Next → Type 0
Decides round total threshold exact limit Fixpoint = (exact ≡ true) × IsNear total threshold
Decides round total threshold exact limit Close = (exact ≡ false) × IsNear total threshold
Decides round total threshold exact limit Limit = (round ≡ limit) × IsFar total threshold
Decides round total threshold exact limit Again = (round < limit) × IsFar total threshold

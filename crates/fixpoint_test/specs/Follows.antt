-- What the decision on a round tells of the chain.
use Rattle.std.specs.Prelude.{◌≡◌, ℕ, ◌+◌, ◌≤◌, List, Option, None, Some}
use Rattle.hal_base.specs.declared.record.Record.{Record}
use Rattle.hal_base.specs.declared.shape.Shape.{Shape}
use Rattle.hal_base.specs.Meaning.{Meaning}
use Rattle.plain_job.specs.declared.ending.End.TheVariants as end
use Rattle.plain_job.specs.Ends.{Ends, Reaches, round_distance}
use Rattle.fixpoint_test.specs.declared.decision.Next.{Next}
use Rattle.fixpoint_test.specs.declared.decision.Next.TheVariants.{Again, Fixpoint, Close, Limit}
use Rattle.fixpoint_test.specs.Decisions.{Decides}

-- the distance that is given in round i: none in the first, and then that of the round
abbrev pub IsDistanceOf : Meaning → Shape → List (List Record) → ℕ → Option ℕ → Type 0
IsDistanceOf m shape tables i None = i ≡ 1
IsDistanceOf m shape tables i (Some far) = (2 ≤ i) × (far ≡ round_distance m shape tables i)

-- what follows on round i: the chain comes to the next, or it ends in this one, and how
abbrev pub Follows : Meaning → Shape → List (List Record) → ℕ → Next → Type 0
Follows m shape tables i Again = Reaches m shape tables (i + 1)
Follows m shape tables i Fixpoint = Ends m shape tables i end.Fixpoint
Follows m shape tables i Close = Ends m shape tables i end.Close
Follows m shape tables i Limit = Ends m shape tables i end.Limit

-- the decision on a round that the chain comes to, by the distance of the round, tells what follows
abbrev pub DecisionsTellTheEnd : Type 0
DecisionsTellTheEnd =
    (m : Meaning) (shape : Shape) (tables : List (List Record)) (i : ℕ) (total : Option ℕ) (next : Next)
    → Reaches m shape tables i → IsDistanceOf m shape tables i total → Decides i total shape.threshold shape.exact shape.rounds next → Follows m shape tables i next

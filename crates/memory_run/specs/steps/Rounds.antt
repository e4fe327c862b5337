-- What the rounds of the chain in memory leave.
use Rattle.std.specs.Prelude.{◌≡◌, ℕ, ◌≤◌, List}
use Rattle.hal_base.specs.declared.record.Record.{Record}
use Rattle.hal_base.specs.declared.shape.Shape.{Shape}
use Rattle.hal_base.specs.Meaning.{Meaning}
use Rattle.plain_job.specs.Chain.{last_out}

-- the parts are those that the last step leaves in round i
pub record AreLeft (m : Meaning) (shape : Shape) (tables : List (List Record)) (i : ℕ) (parts : List (List Record)) : Type 0 where
  pub within : (1 ≤ i) × (i ≤ shape.rounds)
  pub parts_are : parts ≡ last_out m shape tables i

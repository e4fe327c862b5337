-- The rounds of a chain, one after another, up to its end.
use Rattle.std.proofs.Common.{ℕ, ◌+◌, ◌<◌, ◌≤◌, List, arith, below_more}
use Rattle.hal_base.specs.declared.record.Record.{Record}
use Rattle.hal_base.specs.declared.shape.Shape.{Shape}
use Rattle.hal_base.specs.Meaning.{Meaning}
use Rattle.plain_job.specs.Ends.{Reaches, round_distance}

module _ {m : Meaning} {shape : Shape} {tables : List (List Record)} where
  -- each chain comes to its first round
  pub first_reached : 1 ≤ shape.rounds → Reaches m shape tables 1
  first_reached h = record { within = (omega arith, h); not_before = λ k p q. absurd (omega arith) }

  -- a round that is not near the one before is followed by the next, if there may be one
  pub next_reached : (i : ℕ) → Reaches m shape tables i → (2 ≤ i → shape.threshold ≤ round_distance m shape tables i) → i < shape.rounds → Reaches m shape tables (i + 1)
  next_reached i r far l =
      record {
        within = (omega arith, omega arith);
        not_before = λ k p q. below_more (λ j. 2 ≤ j → shape.threshold ≤ round_distance m shape tables j) i (λ j o t. r.not_before j t o) far k q p;
      }

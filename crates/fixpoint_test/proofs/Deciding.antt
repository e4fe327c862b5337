-- Decisions tell what follows on a round.
use Rattle.std.proofs.Common.{◌≡◌, ℕ, ◌+◌, ◌<◌, ◌≤◌, List, None, Some, arith}
use Rattle.hal_base.specs.declared.record.Record.{Record}
use Rattle.hal_base.specs.declared.shape.Shape.{Shape}
use Rattle.hal_base.specs.Meaning.{Meaning}
use Rattle.plain_job.specs.Ends.{Reaches, round_distance}
use Rattle.plain_job.proofs.Reaching.{next_reached}
use Rattle.fixpoint_test.specs.declared.decision.Next.TheVariants.{Again, Fixpoint, Close, Limit}
use Rattle.fixpoint_test.specs.Follows.{DecisionsTellTheEnd}

pub decisions_tell : DecisionsTellTheEnd
decisions_tell m shape tables i None Again r d h = next_reached i r (λ l. absurd (omega arith)) h.0
decisions_tell m shape tables i None Fixpoint r d h = absurd h.1
decisions_tell m shape tables i None Close r d h = absurd h.1
decisions_tell m shape tables i None Limit r d h = record { reached = r; by = (h.0, λ l. absurd (omega arith)) }
decisions_tell m shape tables i (Some far) Again r d h = next_reached i r (λ l. omega (arith, h.1, d.1)) h.0
decisions_tell m shape tables i (Some far) Fixpoint r d h = record { reached = r; by = (h.0, d.0, omega (arith, h.1, d.1)) }
decisions_tell m shape tables i (Some far) Close r d h = record { reached = r; by = (h.0, d.0, omega (arith, h.1, d.1)) }
decisions_tell m shape tables i (Some far) Limit r d h = record { reached = r; by = (h.0, λ l. omega (arith, h.1, d.1)) }

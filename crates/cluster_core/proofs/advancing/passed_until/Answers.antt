use Rattle.std.proofs.Common.{◌<◌, ◌-◌, ◌+◌, ℕ, arith}
use Rattle.cluster_core.proofs.advancing.passed_until.Goals as goal

less : (n at : ℕ) → at < n → n - (at + 1) < n - at
less n at l = omega (arith, l)

pub events-smaller : goal.events-smaller
events-smaller c = less _ c.events.at c.events-test.true

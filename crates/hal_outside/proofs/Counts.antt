-- Counts over several calls.
use Rattle.std.proofs.Common.{ℕ, ◌≤◌, inl, inr, arith}
use Rattle.hal_outside.specs.Told.{Rose}

-- a count that rose in a later call rose since the first
pub rose_before : (first later now : ℕ) → first ≤ later → Rose later now → Rose first now
rose_before first later now l (inl r) = inl (omega arith)
rose_before first later now l (inr r) = inr r

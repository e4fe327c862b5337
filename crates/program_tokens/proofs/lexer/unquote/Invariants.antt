use Rattle.std.proofs.Common.{◌≡◌, ◌≤◌, ℕ, List, length}
use Rattle.program_tokens.specs.steps.Lexing.{cut_quoted}
use Rattle.program_tokens.proofs.lexer.unquote.Given as goal

abbrev pub invariant-bytes : goal.invariant-bytes
invariant-bytes l = ((all : List ℕ) → cut_quoted all l.text l.left ≡ cut_quoted all l.fn.text l.bytes) × (length l.left ≤ length l.bytes)

abbrev pub decreases-bytes : goal.decreases-bytes
decreases-bytes l = length l.left

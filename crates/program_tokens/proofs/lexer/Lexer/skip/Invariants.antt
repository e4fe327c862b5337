use Rattle.std.proofs.Common.{◌≡◌, ◌+◌, ◌<◌, ◌^◌, length}
use Rattle.program_tokens.specs.Tokens.{from_token, line_ends}
use Rattle.program_tokens.proofs.lexer.Lexer.skip.Given as goal

abbrev pub invariant-bytes : goal.invariant-bytes
invariant-bytes l = (from_token l.left ≡ from_token l.initial.left) × (l.line + line_ends l.left ≡ l.initial.line + line_ends l.initial.left) × (l.line + length l.left < 2 ^ 64)

abbrev pub decreases-bytes : goal.decreases-bytes
decreases-bytes l = length l.left

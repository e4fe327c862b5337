use Rattle.std.proofs.Common.{◌≡◌, ◌≤◌, ◌-◌, ◌++◌, length, take, drop}
use Rattle.program_tokens.specs.steps.Lexing.{word_front, word_rest}
use Rattle.program_tokens.proofs.lexer.word_length.Given as goal

abbrev pub invariant-bytes : goal.invariant-bytes
invariant-bytes l = (l.at ≤ length l.text) × (take l.at l.text ++ word_front (drop l.at l.text) ≡ word_front l.text) × (word_rest (drop l.at l.text) ≡ word_rest l.text)

abbrev pub decreases-bytes : goal.decreases-bytes
decreases-bytes l = length l.text - l.at

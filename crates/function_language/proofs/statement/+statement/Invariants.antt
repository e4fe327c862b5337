use Rattle.std.proofs.Common.{◌+◌, ◌*◌, length}
use Rattle.function_language.specs.steps.Reading as reading
use Rattle.program_tokens.proofs.Turns.{Blocking}
use Rattle.function_language.proofs.statement.+statement.Given as goal

abbrev pub decreases-block : goal.decreases-block
decreases-block l = 5 * l.depth

abbrev pub decreases-if_statement : goal.decreases-if_statement
decreases-if_statement l = 5 * l.depth + 2

abbrev pub decreases-other : goal.decreases-other
decreases-other l = 5 * l.depth + 1

abbrev pub decreases-for_statement : goal.decreases-for_statement
decreases-for_statement l = 5 * l.depth + 1

abbrev pub decreases-statement : goal.decreases-statement
decreases-statement l = 5 * l.depth + 3

abbrev pub decreases-statements : goal.decreases-statements
decreases-statements l = 5 * l.depth + 4

abbrev pub invariant-statements-statements : goal.invariant-statements-statements
invariant-statements-statements l =
    let item = reading.statement_of (reading.expr l.depth) (reading.block l.depth) in
    Blocking item (reading.statements item l.initial.tokens) l.found l.tokens

abbrev pub decreases-statements-statements : goal.decreases-statements-statements
decreases-statements-statements l = length l.tokens

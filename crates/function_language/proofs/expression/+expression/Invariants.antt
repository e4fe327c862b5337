use Rattle.std.proofs.Common.{◌+◌, ◌*◌, length}
use Rattle.program_tokens.specs.steps.Parsers.{separated}
use Rattle.program_tokens.proofs.Turns.{Separating}
use Rattle.function_language.specs.steps.Reading as reading
use Rattle.function_language.proofs.expression.+expression.Given as goal

abbrev pub decreases-call : goal.decreases-call
decreases-call l = 5 * l.depth

abbrev pub decreases-named : goal.decreases-named
decreases-named l = 5 * l.depth + 1

abbrev pub decreases-expr : goal.decreases-expr
decreases-expr l = 5 * l.depth + 2

abbrev pub decreases-some_arguments : goal.decreases-some_arguments
decreases-some_arguments l = 5 * l.depth + 3

abbrev pub decreases-arguments : goal.decreases-arguments
decreases-arguments l = 5 * l.depth + 4

abbrev pub invariant-some_arguments-args-2 : goal.invariant-some_arguments-args-2
invariant-some_arguments-args-2 l = Separating (reading.expr l.depth) (separated (reading.expr l.depth) l.initial.tokens) l.args l.tokens

abbrev pub decreases-some_arguments-args-2 : goal.decreases-some_arguments-args-2
decreases-some_arguments-args-2 l = length l.tokens

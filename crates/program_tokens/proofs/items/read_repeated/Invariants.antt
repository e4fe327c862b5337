use Rattle.std.proofs.Common.{length}
use Rattle.program_tokens.specs.steps.Parsers as parsers
use Rattle.program_tokens.proofs.Turns.{Going}
use Rattle.program_tokens.proofs.items.read_repeated.Given as goal

abbrev pub invariant-items : goal.invariant-items
invariant-items g l = Going g.T.Repeated.begun_by g.T.Item.reader (parsers.repeated g.T.Repeated.begun_by g.T.Item.reader l.fn.found l.initial.tokens) l.all l.tokens

abbrev pub decreases-items : goal.decreases-items
decreases-items g l = length l.tokens

use Rattle.std.proofs.Common.{length}
use Rattle.program_tokens.specs.steps.Parsers as parsers
use Rattle.program_tokens.proofs.Turns.{Separating}
use Rattle.program_tokens.proofs.items.separated.Given as goal

abbrev pub invariant-items : goal.invariant-items
invariant-items g l = Separating g.T.Item.reader (parsers.separated g.T.Item.reader l.initial.tokens) l.found l.tokens

abbrev pub decreases-items : goal.decreases-items
decreases-items g l = length l.tokens

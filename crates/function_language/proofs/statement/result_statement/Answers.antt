use Rattle.std.proofs.Common.{true, Ok, ap, ◌∙◌, subst}
use Rattle.program_tokens.specs.steps.Parsers.{Reads}
use Rattle.function_language.specs.steps.Reading as reading
use Rattle.function_language.specs.steps.Reading.{result_statement}
use Rattle.program_tokens.proofs.Turns.{reads_on}
use Rattle.function_language.proofs.statement.result_statement.Goals as goal

pub returns-then-branch : goal.returns-then-branch
unfolding result_statement
returns-then-branch c =
    reads_on _ true c.eat.new.tokens _ _ _ (c.in_ok-eat.ensures ∙ ap (λ found. Ok (found, c.eat.new.tokens)) c.if-branch.true)
    (subst (λ line. Reads (reading.emit_statement (reading.expr c.args.depth) line c.eat.new.tokens) c.emit_statement.result c.emit_statement.new.tokens) c.line-line.ensures c.emit_statement.ensures)

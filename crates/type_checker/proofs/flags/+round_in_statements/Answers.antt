use Rattle.std.proofs.Common.{◌∙◌, ap, arith, sym}
use Rattle.std.specs.List.{list_any}
use Rattle.type_checker.specs.Flags.{uses_round}
use Rattle.type_checker.proofs.FlagsLaws.{for_round, if_round}
use Rattle.type_checker.proofs.flags.+round_in_statements.Goals as goal

pub statement_uses_round-returns-then-any_uses_round : goal.statement_uses_round-returns-then-any_uses_round
statement_uses_round-returns-then-any_uses_round t c =
    let e = ap uses_round c.in-If.is ∙ if_round c.in-If.test c.in-If.yes c.in-If.no in
    grind arith

pub statement_uses_round-returns-else-any_uses_round : goal.statement_uses_round-returns-else-any_uses_round
statement_uses_round-returns-else-any_uses_round t c =
    let e = ap uses_round c.in-If.is ∙ if_round c.in-If.test c.in-If.yes c.in-If.no in
    grind arith

pub statement_uses_round-returns-in-For : goal.statement_uses_round-returns-in-For
statement_uses_round-returns-in-For t c = c.any_uses_round-in-For.ensures ∙ ap (list_any uses_round) c.as_slice-in-For.ensures ∙ sym (ap uses_round c.in-For.is ∙ for_round c.in-For.names c.in-For.stream c.in-For.body)

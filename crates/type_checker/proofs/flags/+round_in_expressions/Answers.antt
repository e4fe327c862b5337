use Rattle.std.proofs.Common.{◌∙◌, ap, sym}
use Rattle.std.specs.List.{list_any}
use Rattle.type_checker.specs.Flags.{has_round}
use Rattle.type_checker.proofs.FlagsLaws.{call_round}
use Rattle.type_checker.proofs.flags.+round_in_expressions.Goals as goal

pub expr_has_round-returns-in-Call : goal.expr_has_round-returns-in-Call
expr_has_round-returns-in-Call t c = c.any_has_round.ensures ∙ ap (list_any has_round) c.as_slice.ensures ∙ sym (ap has_round c.in-Call.is ∙ call_round c.in-Call.name c.in-Call.args)

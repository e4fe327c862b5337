use Rattle.std.proofs.Common.{◌∙◌, ap, arith, sym}
use Rattle.std.specs.List.{list_all}
use Rattle.type_checker.specs.Flags.{emits_first}
use Rattle.type_checker.proofs.FlagsLaws.{for_first, if_first}
use Rattle.type_checker.proofs.flags.+first_in_statements.Goals as goal

pub emits_name_first-returns-then-all_emit_first : goal.emits_name_first-returns-then-all_emit_first
emits_name_first-returns-then-all_emit_first t c =
    let e = ap (emits_first c.args.name.now) c.in-If.is ∙ if_first c.args.name.now c.in-If.test c.in-If.yes c.in-If.no in
    grind arith

pub emits_name_first-returns-else-all_emit_first : goal.emits_name_first-returns-else-all_emit_first
emits_name_first-returns-else-all_emit_first t c =
    let e = ap (emits_first c.args.name.now) c.in-If.is ∙ if_first c.args.name.now c.in-If.test c.in-If.yes c.in-If.no in
    grind arith

pub emits_name_first-returns-in-For : goal.emits_name_first-returns-in-For
emits_name_first-returns-in-For t c =
    let name = c.args.name.now in
    c.all_emit_first-in-For.ensures ∙ ap (list_all (emits_first name)) c.as_slice-in-For.ensures ∙ sym (ap (emits_first name) c.in-For.is ∙ for_first name c.in-For.names c.in-For.stream c.in-For.body)

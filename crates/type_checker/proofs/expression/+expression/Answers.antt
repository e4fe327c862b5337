use Rattle.std.proofs.Common.{◌∙◌, ap, map, sym}
use Rattle.std.proofs.lemmas.List.{at_drop_all}
use Rattle.type_checker.specs.Kinds.{args_kind, call_kind, judged, kind_in}
use Rattle.type_checker.proofs.Rows.{call_is, none_left}
use Rattle.type_checker.proofs.expression.+expression.Goals as goal

pub kind_of-returns-in-Call : goal.kind_of-returns-in-Call
kind_of-returns-in-Call t c =
    let setting = c.args.setting.now in
    let scope = c.args.scope.now in
    c.kind_of_call.ensures
    ∙ ap (λ args. call_kind setting c.in-Call.name (map (judged setting scope) args)) c.as_slice.ensures
    ∙ sym (ap (kind_in setting scope) c.in-Call.is ∙ call_is setting scope c.in-Call.name c.in-Call.args)

pub kind_of_last-returns : goal.kind_of_last-returns
kind_of_last-returns t c =
    let setting = c.args.setting.now in
    let left = c.args-2.left.now in
    sym (none_left setting left c.args-2.before)
    ∙ sym (at_drop_all (λ args. args_kind setting left c.args-2.before (map (judged setting c.args.scope.now) args)) c.args.args.now c.args-2.arg-index c.args-2-test.false)
    ∙ c.args-2.invariant

use Rattle.std.proofs.Common.{◌∙◌, map, sym}
use Rattle.std.proofs.lemmas.List.{at_drop_all}
use Rattle.type_checker.specs.Kinds.{judged}
use Rattle.type_checker.specs.Statements.{each_emitted}
use Rattle.type_checker.proofs.Rows.{none_emitted}
use Rattle.type_checker.proofs.statement.check_fields.Goals as goal

pub returns : goal.returns
returns c =
    let setting = c.args.setting.now in
    let left = c.args-2.left.now in
    sym (none_emitted setting left)
    ∙ sym (at_drop_all (λ args. each_emitted setting left (map (judged setting c.args.scope.now) args)) c.args.args.now c.args-2.arg-index c.args-2-test.false)
    ∙ c.args-2.invariant

use Rattle.std.proofs.Common.{◌≡◌, ◌∙◌, Ok, ap, ap₂, subst, sym, take}
use Rattle.std.proofs.lemmas.Result.{err_from_is_err_and}
use Rattle.type_checker.specs.Checked.{◌>>=◌, ◌>>◌}
use Rattle.type_checker.specs.Statements.{after, all_after}
use Rattle.type_checker.specs.steps.Checks.{FaultIs, Leaves, for_after, other_within, within}
use Rattle.type_checker.proofs.Faults.{fault_by}
use Rattle.type_checker.proofs.Growing.{block_left, loop_left}
use Rattle.type_checker.proofs.Rows.{for_is, if_chosen, if_tested}
use Rattle.type_checker.proofs.statement.+statement.Goals as goal

pub check_block-returns : goal.check_block-returns
check_block-returns t c =
    let scope = c.args.scope.now in
    let inside = c.check_statements.new.scope in
    ap (λ found. found >> Ok scope) c.in_ok-check_statements.ensures
    ∙ sym (ap Ok (c.truncate.ensures ∙ ap (λ n. take n inside) c.len-before.ensures ∙ block_left c.args.setting.now scope inside c.args.block.now c.in_ok-check_statements.ensures))

pub check_for-returns : goal.check_for-returns
check_for-returns t c =
    let setting = c.args.setting.now in
    let scope = c.args.scope.now in
    let inside = c.enter_loop.new.scope in
    let behind = c.check_statements.new.scope in
    ap (λ found. found >>= λ inside. all_after setting inside c.args.body.now >> Ok scope) c.in_ok-enter_loop.ensures
    ∙ ap (λ found. found >> Ok scope) c.in_ok-check_statements.ensures
    ∙ sym (ap Ok (c.truncate.ensures ∙ ap (λ n. take n behind) c.len-before.ensures ∙ loop_left setting scope inside behind c.args.names.now c.args.stream.now c.args.body.now c.in_ok-enter_loop.ensures c.in_ok-check_statements.ensures))

pub check_statement-returns-in-For : goal.check_statement-returns-in-For
check_statement-returns-in-For t c =
    let setting = c.args.setting.now in
    let scope = c.args.scope.now in
    subst (λ found. Leaves found c.check_for.result c.check_for.new.scope)
    (ap₂ (λ names body. for_after setting scope names c.in-For.stream body) c.as_slice-in-For.ensures c.as_slice-in-For-2.ensures
    ∙ sym (ap (after setting scope) c.in-For.is ∙ for_is setting scope c.in-For.names c.in-For.stream c.in-For.body))
    c.check_for.ensures

pub check_statement-returns-in_err-check_block-in-If : goal.check_statement-returns-in_err-check_block-in-If
check_statement-returns-in_err-check_block-in-If t c =
    let setting = c.args.setting.now in
    let scope = c.args.scope.now in
    let fault = c.in_err-check_block-in-If.field-0.0 in
    let r = err_from_is_err_and c.from_residual-in_err-check_block-in-If.result c.from_residual-in_err-check_block-in-If.ensures.1 in
    let first = subst (λ block. FaultIs (within setting scope block) fault) c.as_slice.ensures c.in_err-check_block-in-If.ensures in
    rw (r.1, r.2)
    (subst (λ found. FaultIs found fault) (sym (if_tested setting scope c.args.statement.now c.in-If.test c.in-If.yes c.in-If.no c.in-If.is c.in_ok-expect_kind-in-If.ensures))
    (fault_by (within setting scope c.in-If.yes) (other_within setting scope c.in-If.no) fault first))

pub check_statement-returns-in-Some : goal.check_statement-returns-in-Some
check_statement-returns-in-Some t c =
    let setting = c.args.setting.now in
    let scope = c.args.scope.now in
    let inside = c.check_block.new.scope in
    let block = subst (λ block. within setting scope block ≡ Ok inside) c.as_slice.ensures c.in_ok-check_block-in-If.ensures in
    subst (λ found. Leaves found c.check_block-in-Some.result c.check_block-in-Some.new.scope)
    (ap (within setting inside) c.as_slice-in-Some.ensures
    ∙ sym (if_chosen setting scope inside c.args.statement.now c.in-If.test c.in-If.yes c.in-If.no c.in-If.is c.in_ok-expect_kind-in-If.ensures block ∙ ap (other_within setting inside) c.in-Some.is))
    c.check_block-in-Some.ensures

pub check_statement-returns-in-None : goal.check_statement-returns-in-None
check_statement-returns-in-None t c =
    let setting = c.args.setting.now in
    let scope = c.args.scope.now in
    let block = subst (λ block. within setting scope block ≡ Ok c.check_block.new.scope) c.as_slice.ensures c.in_ok-check_block-in-If.ensures in
    if_chosen setting scope c.check_block.new.scope c.args.statement.now c.in-If.test c.in-If.yes c.in-If.no c.in-If.is c.in_ok-expect_kind-in-If.ensures block
    ∙ ap (other_within setting c.check_block.new.scope) c.in-None.is

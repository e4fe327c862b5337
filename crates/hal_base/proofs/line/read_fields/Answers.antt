use Rattle.std.proofs.Common.{sym, ap, ◌∙◌, ◌++◌, map, arith}
use Rattle.std.specs.Option.{option_copied}
use Rattle.std.proofs.lemmas.Result.{err_from_is_err_and}
use Rattle.hal_base.specs.Lines.{value_text}
use Rattle.hal_base.specs.steps.LineReading.{pieces_left}
use Rattle.hal_base.proofs.ReadingLaws.{field_fault, kinds_split, read_so_far}
use Rattle.hal_base.proofs.line.read_fields.Goals as goal

pub returns-in_err-read_value-clause-fault : goal.returns-in_err-read_value-clause-fault
returns-in_err-read_value-clause-fault c =
    let r = err_from_is_err_and c.from_residual.result c.from_residual.ensures.1 in
    let vs = c.fields.fields in
    let here = ap (λ left. pieces_left (option_copied left)) c.in-Some.is ∙ c.cut_piece.ensures in
    let pieces = sym c.fields.invariant.spelling ∙ ap (λ ps. map value_text vs ++ ps) here in
    let kinds = kinds_split vs c.args.kinds.now c.fields.at _ c.fields-test.true c.fields.invariant.same_kinds in
    let place = read_so_far vs c.args.kinds.now c.fields.at (omega arith) c.fields.invariant.same_kinds in
    rw (r.1, r.2) (field_fault vs _ _ c.args.kinds.now _ _ _ _ c.in_err-read_value.field-0.0 c.fields.invariant.good kinds pieces place c.in_err-read_value.ensures.fault)

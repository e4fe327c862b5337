use Rattle.std.proofs.Common.{◌∷◌, append_assoc, arith}
use Rattle.hal_base.specs.declared.value.Value.{Value}
use Rattle.hal_base.proofs.LineLaws.{line_parts, whole}
use Rattle.hal_base.specs.Lines.{value_text}
use Rattle.hal_base.proofs.line.append_line.Goals as goal

pub returns : goal.returns
returns c =
    let f = λ (v : Value). 9 ∷ value_text v in
    let parts = line_parts c.args.row.now.key c.args.row.now.fields in
    let fields = c.as_slice-value-items.ensures.value in
    let all = whole f c.fields.out.items c.append_value.new.out.items c.as_slice-value-items.result.now c.fields.value-index (omega arith) c.fields.invariant in
    rw (c.in_ok-push.ensures.items, parts, all, c.in_ok-append_value.ensures, fields) (simp append_assoc)

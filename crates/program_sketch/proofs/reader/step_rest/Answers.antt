use Rattle.std.proofs.Common.{Err, Ok, ap, codes, ◌∙◌}
use Rattle.program_tokens.specs.steps.Front.{sees}
use Rattle.program_tokens.specs.steps.Parsers.{and_then, expect, repeated}
use Rattle.program_tokens.proofs.Turns.{reads_refused}
use Rattle.program_sketch.specs.steps.Reading as reading
use Rattle.program_sketch.proofs.StepHalves.{behind_brace, behind_partition, behind_reduce, inputs_first}
use Rattle.program_sketch.proofs.reader.step_rest.Goals as goal

pub returns-in_err-inputs : goal.returns-in_err-inputs
returns-in_err-inputs c =
    reads_refused (repeated (sees (codes "table")) reading.input c.new.result c.ident_line.new.tokens) _ c.from_residual-in_err-inputs.result c.read_repeated.new.tokens c.in_err-inputs.field-0.0
    c.from_residual-in_err-inputs.ensures.1 c.in_err-inputs.ensures
    (inputs_first c.args.line c.args.tokens.now c.ident_line.new.tokens c.in_ok-map.map c.new.result (Err c.read_repeated.new.tokens) c.in_ok-map.ensures c.new.ensures)

pub returns-in_err-reduce : goal.returns-in_err-reduce
returns-in_err-reduce c =
    let line = c.args.line in
    let map = c.in_ok-map.map in
    let inputs = c.in_ok-inputs.inputs in
    let passed = inputs_first line c.args.tokens.now c.ident_line.new.tokens map c.new.result (Ok (inputs, c.read_repeated.new.tokens)) c.in_ok-map.ensures c.new.ensures c.in_ok-inputs.ensures in
    reads_refused (reading.ident_line (codes "reduce") c.read_repeated.new.tokens) _ c.from_residual-in_err-reduce.result c.ident_line-2.new.tokens c.in_err-reduce.field-0.0
    c.from_residual-in_err-reduce.ensures.1 c.in_err-reduce.ensures
    (λ e. passed ∙ ap (λ o. and_then o (behind_reduce line map inputs)) e)

pub returns-in_err-partition : goal.returns-in_err-partition
returns-in_err-partition c =
    let line = c.args.line in
    let map = c.in_ok-map.map in
    let inputs = c.in_ok-inputs.inputs in
    let passed = inputs_first line c.args.tokens.now c.ident_line.new.tokens map c.new.result (Ok (inputs, c.read_repeated.new.tokens)) c.in_ok-map.ensures c.new.ensures c.in_ok-inputs.ensures in
    reads_refused (reading.partition c.ident_line-2.new.tokens) _ c.from_residual-in_err-partition.result c.partition.new.tokens c.in_err-partition.field-0.0
    c.from_residual-in_err-partition.ensures.1 c.in_err-partition.ensures
    (λ e. passed ∙ ap (λ o. and_then o (behind_reduce line map inputs)) c.in_ok-reduce.ensures ∙ ap (λ o. and_then o (behind_partition line map inputs c.in_ok-reduce.reduce)) e)

pub returns-in_err-expect : goal.returns-in_err-expect
returns-in_err-expect c =
    let line = c.args.line in
    let map = c.in_ok-map.map in
    let inputs = c.in_ok-inputs.inputs in
    let reduce = c.in_ok-reduce.reduce in
    let passed = inputs_first line c.args.tokens.now c.ident_line.new.tokens map c.new.result (Ok (inputs, c.read_repeated.new.tokens)) c.in_ok-map.ensures c.new.ensures c.in_ok-inputs.ensures in
    reads_refused (expect (codes "}") c.partition.new.tokens) _ c.from_residual-in_err-expect.result c.expect.new.tokens c.in_err-expect.field-0.0
    c.from_residual-in_err-expect.ensures.1 c.in_err-expect.ensures
    (λ e. passed ∙ ap (λ o. and_then o (behind_reduce line map inputs)) c.in_ok-reduce.ensures ∙ ap (λ o. and_then o (behind_partition line map inputs reduce)) c.in_ok-partition.ensures
    ∙ ap (λ o. and_then o (behind_brace line map inputs reduce c.in_ok-partition.partition)) e)

pub returns : goal.returns
returns c =
    let line = c.args.line in
    let map = c.in_ok-map.map in
    let inputs = c.in_ok-inputs.inputs in
    let reduce = c.in_ok-reduce.reduce in
    let passed = inputs_first line c.args.tokens.now c.ident_line.new.tokens map c.new.result (Ok (inputs, c.read_repeated.new.tokens)) c.in_ok-map.ensures c.new.ensures c.in_ok-inputs.ensures in
    passed ∙ ap (λ o. and_then o (behind_reduce line map inputs)) c.in_ok-reduce.ensures ∙ ap (λ o. and_then o (behind_partition line map inputs reduce)) c.in_ok-partition.ensures
    ∙ ap (λ o. and_then o (behind_brace line map inputs reduce c.in_ok-partition.partition)) c.in_ok-expect.ensures

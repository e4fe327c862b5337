use Rattle.std.proofs.Common.{sym, ◌∙◌}
use Rattle.std.proofs.lemmas.Result.{err_from_is_err_and}
use Rattle.program_tokens.proofs.Ended.{refuses_at}
use Rattle.program_sketch.proofs.Programs.{whole_read, whole_refused, whole_unended}
use Rattle.program_sketch.proofs.parse.whole_program.Goals as goal

pub returns-in_err-sketch-clause-refused : goal.returns-in_err-sketch-clause-refused
returns-in_err-sketch-clause-refused c =
    let r = err_from_is_err_and c.from_residual-in_err-sketch.result c.from_residual-in_err-sketch.ensures.1 in
    rw (r.1, r.2) (whole_refused c.args.text.now c.in_ok-tokens.tokens c.program.new.tokens c.in_err-sketch.field-0.0 c.in_ok-tokens.ensures c.in_err-sketch.ensures)

pub returns-then-not-sees_end-clause-refused : goal.returns-then-not-sees_end-clause-refused
returns-then-not-sees_end-clause-refused c =
    refuses_at c.refused.result c.program.new.tokens (λ other. c.refused.ensures)
    (whole_unended c.args.text.now c.in_ok-tokens.tokens c.program.new.tokens c.in_ok-sketch.sketch c.in_ok-tokens.ensures c.in_ok-sketch.ensures (sym c.sees_end.ensures ∙ c.if-not-sees_end.true))

pub returns-clause-read : goal.returns-clause-read
returns-clause-read c = whole_read c.args.text.now c.in_ok-tokens.tokens c.program.new.tokens c.in_ok-sketch.sketch c.in_ok-tokens.ensures c.in_ok-sketch.ensures (sym c.sees_end.ensures ∙ c.if-not-sees_end.false)

use Rattle.std.proofs.Common.{sym, ◌∙◌}
use Rattle.std.proofs.lemmas.Result.{err_from_is_err_and}
use Rattle.function_language.proofs.Ended.{functions_refused, only_functions_read, only_functions_unended}
use Rattle.program_tokens.proofs.Ended.{refuses_at}
use Rattle.function_language.proofs.reading.read_functions.Goals as goal

pub returns-in_err-found-clause-refused : goal.returns-in_err-found-clause-refused
returns-in_err-found-clause-refused c =
    let r = err_from_is_err_and c.from_residual-in_err-found.result c.from_residual-in_err-found.ensures.1 in
    rw (r.1, r.2) (functions_refused c.args.text.now c.in_ok-tokens.tokens c.functions.new.tokens c.in_err-found.field-0.0 c.in_ok-tokens.ensures c.in_err-found.ensures)

pub returns-then-not-sees_end-clause-refused : goal.returns-then-not-sees_end-clause-refused
returns-then-not-sees_end-clause-refused c =
    refuses_at c.refused.result c.functions.new.tokens (λ other. c.refused.ensures)
    (only_functions_unended c.args.text.now c.in_ok-tokens.tokens c.functions.new.tokens c.in_ok-found.found c.in_ok-tokens.ensures c.in_ok-found.ensures (sym c.sees_end.ensures ∙ c.if-not-sees_end.true))

pub returns-clause-read : goal.returns-clause-read
returns-clause-read c = only_functions_read c.args.text.now c.in_ok-tokens.tokens c.functions.new.tokens c.in_ok-found.found c.in_ok-tokens.ensures c.in_ok-found.ensures (sym c.sees_end.ensures ∙ c.if-not-sees_end.false)

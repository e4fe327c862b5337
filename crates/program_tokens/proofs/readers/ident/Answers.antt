use Rattle.std.proofs.Common.{sym, ◌∙◌}
use Rattle.program_tokens.proofs.Fronts.{ident_is}
use Rattle.program_tokens.proofs.readers.ident.Goals as goal

pub returns : goal.returns
returns c = ident_is c.in_ok-lexeme.field-0 c.args.tokens.now c.take.new.self c.in-Plain.text c.in_ok-lexeme.ensures.taken c.in-Plain.is (sym c.sees_ident.ensures ∙ c.if-not-sees_ident.false)

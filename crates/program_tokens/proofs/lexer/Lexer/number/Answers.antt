use Rattle.std.proofs.Common.{◌≡◌, ◌∙◌, sym, FitsSigned, w64, rules, to_z, of_z}
use Rattle.std.proofs.lemmas.Int.{to_z-of_z}
use Rattle.program_tokens.proofs.Numbers.{number_again, number_none}
use Rattle.program_tokens.proofs.lexer.Lexer.number.Goals as goal

pub returns-in-Some-clause-taken : goal.returns-in-Some-clause-taken
returns-in-Some-clause-taken c =
    let fits : FitsSigned w64 c.in-Some.number = search rules in
    let same : to_z w64 (of_z w64 c.in-Some.number) ≡ c.in-Some.number = to_z-of_z w64 c.in-Some.number fits in
    rw (number_again _ c.in-Some.number fits (sym c.split_at.ensures.front ∙ c.in-Some.ensures.found), same, c.split_at.ensures.back)

pub returns-in-None-clause-taken : goal.returns-in-None-clause-taken
returns-in-None-clause-taken c = rw (number_none _ (λ n fits e. c.in-None.ensures.only n fits (c.split_at.ensures.front ∙ e)))

use Rattle.std.proofs.Common.{◌≡◌, ◌∙◌, rules, FitsSigned, w64, to_z, of_z}
use Rattle.std.proofs.lemmas.Int.{to_z-of_z}
use Rattle.schedule_text.proofs.Numbers.{fitting, unread}
use Rattle.schedule_text.proofs.words.number_of.Goals as goal

pub returns : goal.returns
returns c =
    let number = c.in_ok-number.number in
    let fits : FitsSigned w64 number = search rules in
    let same : to_z w64 (of_z w64 number) ≡ number = to_z-of_z w64 number fits in
    c.ok.ensures.value ∙ fitting _ number c.try_from.result fits c.in_ok-number.ensures.found (rw same at c.try_from.ensures)

pub returns-in_err-number : goal.returns-in_err-number
returns-in_err-number c = c.from_residual.ensures ∙ unread _ c.in_err-number.ensures.only

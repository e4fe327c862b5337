use Rattle.std.proofs.Common.{FitsSigned, ap, ◌∙◌, w64}
use Rattle.std.proofs.lemmas.Int.{to_z-of_z}
use Rattle.operations.specs.Applied.{number_in}
use Rattle.operations.proofs.Spellings.{read_is}
use Rattle.operations.proofs.texts.number_in.Goals as goal

pub returns : goal.returns
returns c =
    let fits : FitsSigned w64 c.unwrap_or.result = record { sfits = c.unwrap_or.type_inv } in
    let read = read_is c.as_slice.result.now c.read_number.result (rw (← c.unwrap_or.ensures) fits) c.read_number.ensures.found c.read_number.ensures.only in
    to_z-of_z w64 c.unwrap_or.result fits ∙ c.unwrap_or.ensures ∙ read ∙ ap number_in c.as_slice.ensures.value

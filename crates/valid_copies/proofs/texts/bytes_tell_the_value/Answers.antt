use Rattle.valid_copies.proofs.Steps.{text_is}
use Rattle.valid_copies.proofs.Telling.{text_only, value_told}
use Rattle.valid_copies.proofs.texts.bytes_tell_the_value.Goals as goal

pub returns-clause-value : goal.returns-clause-value
returns-clause-value c = value_told

pub returns-clause-text : goal.returns-clause-text
returns-clause-text c = text_is

pub returns-clause-only : goal.returns-clause-only
returns-clause-only c = text_only

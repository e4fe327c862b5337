use Rattle.program_tokens.proofs.Printing.{printed_is_read}
use Rattle.program_tokens.proofs.laws.what_is_printed_is_read.Goals as goal

pub returns : goal.returns
returns c = printed_is_read

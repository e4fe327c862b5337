use Rattle.function_printing.proofs.PrintingLaws.{print_is_read_again}
use Rattle.function_printing.proofs.laws.what_is_printed_is_read_again.Goals as goal

pub returns : goal.returns
returns c = print_is_read_again

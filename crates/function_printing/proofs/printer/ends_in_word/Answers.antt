use Rattle.std.proofs.Common.{sym, ◌∙◌, arith}
use Rattle.function_printing.proofs.PrintingBlanks.{ends_last}
use Rattle.function_printing.proofs.printer.ends_in_word.Goals as goal

pub returns-in-len1-up : goal.returns-in-len1-up
returns-in-len1-up c = c.is_of_word.ensures ∙ sym (ends_last c.args.bytes.now _ (omega arith))

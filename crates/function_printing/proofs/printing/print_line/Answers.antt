use Rattle.std.proofs.Common.{◌++◌, ◌∷◌, [], ◌∙◌, ap, false}
use Rattle.std.proofs.lemmas.Result.{on_ok_weaker}
use Rattle.function_printing.specs.steps.Printer.{Written}
use Rattle.function_language.specs.Spelled.{function_pieces}
use Rattle.function_printing.proofs.PrintingBlanks.{made, put_is_line}
use Rattle.function_printing.proofs.printing.print_line.Goals as goal

pub returns : goal.returns
returns c =
    on_ok_weaker c.end_line.result
    (λ ended. ended ∙ ap (λ (w : Written). made (w.0 ++ 10 ∷ []) false) c.in_ok-print_function.ensures ∙ put_is_line c.args.printer.now (function_pieces c.args.function.now) c.requires.front)
    c.end_line.ensures

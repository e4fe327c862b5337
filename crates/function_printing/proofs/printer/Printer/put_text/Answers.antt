use Rattle.std.proofs.Common.{ℕ, List, ◌∷◌, [], ◌++◌, ap₂, ap, ◌∙◌}
use Rattle.program_tokens.specs.Tokens.{escaped}
use Rattle.function_printing.specs.steps.Printer.{Written}
use Rattle.function_printing.proofs.PrintingBlanks.{quoted_put}
use Rattle.function_printing.proofs.printer.Printer.put_text.Goals as goal

pub returns : goal.returns
returns c =
    quoted_put c.args.self.now c.args.text.now c.append_lexeme.new.out.items
    (c.in_ok-append_lexeme.ensures ∙ ap₂ (λ (front text : List ℕ). front ++ (34 ∷ (escaped text ++ 34 ∷ []))) (ap (λ (written : Written). written.0) c.self.view_is) c.in_ok-copied.ensures)

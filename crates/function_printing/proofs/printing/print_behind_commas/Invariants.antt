use Rattle.std.proofs.Common.{◌≡◌, drop, map}
use Rattle.function_printing.specs.steps.Printer.{put_all}
use Rattle.program_tokens.specs.Pieces.{each_behind_comma}
use Rattle.function_printing.proofs.printing.print_behind_commas.Given as goal

abbrev pub invariant-items : goal.invariant-items
invariant-items g l =
    put_all l.printer (each_behind_comma (map g.T.Printed.pieces (drop l.item-index l.items))) ≡ put_all l.initial.printer (each_behind_comma (map g.T.Printed.pieces l.items))

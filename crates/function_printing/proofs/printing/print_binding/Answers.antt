use Rattle.function_printing.proofs.PrintingPlaces.{binding_places}
use Rattle.function_printing.proofs.printing.print_binding.Goals as goal

pub print_expr-requires : goal.print_expr-requires
print_expr-requires c = binding_places c.args.depth c.args.word.now c.args.name.now c.args.value.now c.requires

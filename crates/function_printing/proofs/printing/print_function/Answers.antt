use Rattle.std.proofs.Common.{◌++◌, ◌∷◌, ◌∙◌, ap, codes, map, subst, sym}
use Rattle.std.proofs.lemmas.Result.{on_ok_weaker}
use Rattle.program_tokens.specs.Pieces.{plain}
use Rattle.function_printing.specs.steps.Printer.{ArePlaces, put_all}
use Rattle.function_language.specs.Spelled.{function_pieces, param_pieces, stream_pieces}
use Rattle.program_tokens.specs.Pieces.{some_comma_separated}
use Rattle.function_printing.proofs.PrintingPlaces.{any_places, any_written}
use Rattle.function_printing.proofs.printing.print_function.Goals as goal

pub print_map-requires : goal.print_map-requires
print_map-requires c =
    any_places (codes "map") c.in-Map.name (some_comma_separated (map param_pieces c.in-Map.params)) c.in-Map.arrow 0 c.in-Map.out c.in-Map.body (subst ArePlaces (ap function_pieces c.in-Map.is) c.requires)

pub returns-in-Map : goal.returns-in-Map
returns-in-Map c =
    on_ok_weaker c.print_map.result
    (λ written. written ∙ any_written c.args.printer.now (codes "map") c.in-Map.name (some_comma_separated (map param_pieces c.in-Map.params)) 0 c.in-Map.arrow c.in-Map.out c.in-Map.body ∙ sym (ap (put_all c.args.printer.now) (ap function_pieces c.in-Map.is)))
    c.print_map.ensures

pub print_reduce-requires : goal.print_reduce-requires
print_reduce-requires c =
    any_places (codes "reduce") c.in-Reduce.name (param_pieces c.in-Reduce.key ++ plain (codes ";") ∷ some_comma_separated (map stream_pieces c.in-Reduce.streams)) c.in-Reduce.arrow 0 c.in-Reduce.out c.in-Reduce.body
    (subst ArePlaces (ap function_pieces c.in-Reduce.is) c.requires)

pub returns-in-Reduce : goal.returns-in-Reduce
returns-in-Reduce c =
    on_ok_weaker c.print_reduce.result
    (λ written. written
    ∙ any_written c.args.printer.now (codes "reduce") c.in-Reduce.name (param_pieces c.in-Reduce.key ++ plain (codes ";") ∷ some_comma_separated (map stream_pieces c.in-Reduce.streams)) 0 c.in-Reduce.arrow c.in-Reduce.out c.in-Reduce.body
    ∙ sym (ap (put_all c.args.printer.now) (ap function_pieces c.in-Reduce.is)))
    c.print_reduce.ensures

use Rattle.std.proofs.Common.{◌≡◌, List, arith, codes, map, subst, sym}
use Rattle.std.specs.Result.{OnOk}
use Rattle.program_tokens.specs.Pieces.{Piece}
use Rattle.function_printing.specs.steps.Printer.{put_all}
use Rattle.function_language.specs.Spelled.{param_pieces}
use Rattle.program_tokens.specs.Pieces.{comma_separated, some_comma_separated}
use Rattle.function_printing.proofs.PrintingPlaces.{emitting, emitting_body, head_places, put_both, some_are}
use Rattle.function_printing.proofs.printing.print_map.Goals as goal

pub print_out-requires : goal.print_out-requires
print_out-requires c = emitting_body (codes "map") c.args.name.now (some_comma_separated (map param_pieces c.args.params.now)) 0 c.args.out.now c.args.body.now c.requires

pub returns : goal.returns
returns c =
    let all = map param_pieces c.args.params.now in
    let some = some_are all (head_places (codes "map") c.args.name.now (some_comma_separated all) 0 c.args.out.now c.args.body.now c.requires) in
    let Written : List Piece → Type 0 = λ pieces. OnOk c.print_out.result (c.print_out.new.printer ≡ put_all c.args.printer.now (emitting (codes "map") c.args.name.now pieces 0 c.args.out.now c.args.body.now)) in
    let written : Written (comma_separated all) = grind (arith, put_both) in
    subst Written (sym some) written

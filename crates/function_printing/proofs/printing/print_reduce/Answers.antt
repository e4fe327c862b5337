use Rattle.std.proofs.Common.{◌≡◌, ◌++◌, ◌∷◌, List, arith, codes, map, subst, sym}
use Rattle.std.specs.Result.{OnOk}
use Rattle.program_tokens.specs.Pieces.{Piece, plain}
use Rattle.function_printing.specs.steps.Printer.{put_all}
use Rattle.function_language.specs.Spelled.{param_pieces, stream_pieces}
use Rattle.program_tokens.specs.Pieces.{IsPlace, comma_separated, some_comma_separated}
use Rattle.program_tokens.proofs.Places.{all_back}
use Rattle.function_printing.proofs.PrintingPlaces.{emitting, emitting_body, head_places, put_both, some_are}
use Rattle.function_printing.proofs.printing.print_reduce.Goals as goal

pub print_out-requires : goal.print_out-requires
print_out-requires c =
    emitting_body (codes "reduce") c.args.name.now (param_pieces c.args.key.now ++ plain (codes ";") ∷ some_comma_separated (map stream_pieces c.args.streams.now)) 0 c.args.out.now c.args.body.now c.requires

pub returns : goal.returns
returns c =
    let key = param_pieces c.args.key.now in
    let all = map stream_pieces c.args.streams.now in
    let head = head_places (codes "reduce") c.args.name.now (key ++ plain (codes ";") ∷ some_comma_separated all) 0 c.args.out.now c.args.body.now c.requires in
    let some = some_are all ((all_back IsPlace key (plain (codes ";") ∷ some_comma_separated all) head).1) in
    let Written : List Piece → Type 0 = λ pieces. OnOk c.print_out.result (c.print_out.new.printer ≡ put_all c.args.printer.now (emitting (codes "reduce") c.args.name.now (key ++ plain (codes ";") ∷ pieces) 0 c.args.out.now c.args.body.now)) in
    let written : Written (comma_separated all) = grind (arith, put_both) in
    subst Written (sym some) written

use Rattle.std.proofs.Common.{◌++◌, ◌∷◌, codes}
use Rattle.program_tokens.specs.Pieces.{plain}
use Rattle.function_language.specs.Spelled.{param_pieces, stream_pieces}
use Rattle.function_printing.proofs.PrintingPlaces.{headed_body}
use Rattle.function_printing.proofs.printing.print_distance.Goals as goal

pub print_block-requires : goal.print_block-requires
print_block-requires c =
    headed_body (codes "distance") c.args.name.now (param_pieces c.args.key.now ++ plain (codes ";") ∷ stream_pieces c.args.before.now ++ plain (codes ",") ∷ stream_pieces c.args.after.now) c.args.body.now c.as_slice.result.now c.as_slice.ensures c.requires

use Rattle.std.proofs.Common.{◌≡◌, List, [], sym, subst, arith}
use Rattle.std.proofs.lemmas.List.{append-nil, nil_from_length}
use Rattle.hal_base.specs.declared.record.Record.{Record}
use Rattle.record_blocks.specs.Pieces.{AreCut}
use Rattle.record_blocks.proofs.Cuts.{none_cut}
use Rattle.record_blocks.proofs.cutting.cut.Goals as goal

pub returns : goal.returns
returns c =
    let size = c.args.size in
    let none : c.pieces.left.now ≡ [] = nil_from_length c.pieces.left.now (omega (arith, c.pieces-test.false)) in
    let end : AreCut size c.pieces.left.now [] = subst (λ (rows : List Record). AreCut size rows []) (sym none) (none_cut size) in
    let all = subst (λ (pieces : List (List Record)). AreCut size c.as_slice-left.result.now pieces) (append-nil c.pieces.pieces) (c.pieces.invariant [] end) in
    subst (λ (rows : List Record). AreCut size rows c.pieces.pieces) c.as_slice-left.ensures all

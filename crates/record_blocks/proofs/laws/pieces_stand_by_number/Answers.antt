use Rattle.std.proofs.Common.{List, ap, ◌∙◌}
use Rattle.hal_base.specs.declared.record.Record.{Record}
use Rattle.record_blocks.specs.Pieces.{piece_at}
use Rattle.record_blocks.proofs.Cuts.{by_number}
use Rattle.record_blocks.proofs.laws.pieces_stand_by_number.Goals as goal

pub returns : goal.returns
returns c = λ size rows pieces l cut b. by_number size pieces l cut.sizes b ∙ ap (λ (all : List Record). piece_at size all b) cut.whole

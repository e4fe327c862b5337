use Rattle.std.proofs.Common.{List, subst}
use Rattle.hal_base.specs.declared.value.Kind.{Kind}
use Rattle.hal_base.specs.steps.LineReading.{AreRead, pieces_left}
use Rattle.std.specs.Option.{option_copied}
use Rattle.hal_base.proofs.ReadingLaws.{record_read}
use Rattle.hal_base.proofs.line.read_record.Goals as goal

pub returns-clause-found : goal.returns-clause-found
returns-clause-found c =
    record_read c.args.schema.now c.args.line.now c.cut_piece.result.0.now (pieces_left (option_copied c.cut_piece.result.1)) c.in_ok-key.key c.in_ok-fields.fields c.cut_piece.ensures c.in_ok-key.ensures.found
    (subst (λ (ks : List Kind). AreRead ks (pieces_left (option_copied c.cut_piece.result.1)) c.in_ok-fields.fields) c.as_slice.ensures.value c.in_ok-fields.ensures.found)

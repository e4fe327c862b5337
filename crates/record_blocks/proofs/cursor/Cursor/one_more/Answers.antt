use Rattle.std.proofs.Common.{◌≡◌, [], ◌∷◌, ◌++◌, length, get_or, sym, ap, ◌∙◌}
use Rattle.std.proofs.Math.Seq.{get_or-append_seam, set-append_seam}
use Rattle.hal_base.specs.declared.record.Record.{Record}
use Rattle.record_blocks.specs.steps.Decoders.{made}
use Rattle.record_blocks.proofs.Fronts.{row_behind}
use Rattle.record_blocks.proofs.cursor.Cursor.one_more.Goals as goal

pub returns : goal.returns
returns c =
    let rows = c.args.rows.now.items in
    let key = c.in_ok-key.key in
    let row = made key c.fields.new.fields in
    let pushed : c.push.new.self.items ≡ rows ++ made key c.new-fields.result ∷ [] = rw (sym c.in_ok-map_err.ensures.variant) at c.push.ensures.items in
    let at : c.len-at.result ≡ length rows = c.len-at.ensures ∙ c.args.rows.now.ok.0 in
    let there = ap (λ (it : Record). it.key) (c.index_mut.ensures.value ∙ ap (λ xs. get_or xs c.len-at.result c.index_mut.result.now) pushed ∙ ap (λ i. get_or (rows ++ made key c.new-fields.result ∷ []) i c.index_mut.result.now) at ∙ get_or-append_seam rows (made key c.new-fields.result) [] c.index_mut.result.now) in
    rw (pushed, there, at, set-append_seam rows (made key c.new-fields.result) [] row) (row_behind c.args.schema.now rows c.args.self.now c.value.new.self c.fields.new.self key c.fields.new.fields c.fields.result c.in_ok-key.ensures c.fields.ensures)

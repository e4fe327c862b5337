use Rattle.std.proofs.Common.{rules, sym, ◌∙◌}
use Rattle.record_blocks.specs.steps.Decoders as decoders
use Rattle.record_blocks.proofs.Fronts.{many_behind}
use Rattle.record_blocks.proofs.cursor.Cursor.rows.Goals as goal

pub rows-preserved : goal.rows-preserved
rows-preserved c =
    sym (many_behind (decoders.row c.args.schema.now) c.rows.left c.rows.rows.items c.one_more.new.rows.items c.rows.self c.one_more.new.self (search rules) c.in_ok-one_more.ensures) ∙ c.rows.invariant

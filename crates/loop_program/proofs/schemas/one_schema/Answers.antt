use Rattle.std.proofs.Common.{None, Some, ap, cond, sym, ◌∙◌}
use Rattle.loop_program.proofs.Collecting.{schema_of_all}
use Rattle.loop_program.proofs.schemas.one_schema.Goals as goal

pub returns-then-not-are_alike : goal.returns-then-not-are_alike
returns-then-not-are_alike c =
    let schema = schema_of_all c.args.sources.now c.first-item.result c.are_alike.result c.in-len1-up.len_at_least c.first-item.is c.are_alike.ensures in
    sym (schema ∙ ap (λ t. cond t (Some c.first-item.result.stream) None) c.if-not-are_alike.true)

pub returns : goal.returns
returns c =
    let schema = schema_of_all c.args.sources.now c.first-item.result c.are_alike.result c.in-len1-up.len_at_least c.first-item.is c.are_alike.ensures in
    ap Some c.in_ok-copy.ensures ∙ sym (schema ∙ ap (λ t. cond t (Some c.first-item.result.stream) None) c.if-not-are_alike.false)

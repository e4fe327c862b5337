use Rattle.std.proofs.Common.{rules}
use Rattle.std.proofs.lemmas.List.{append_assoc}
use Rattle.record_blocks.proofs.Fronts.{rows_of}
use Rattle.record_blocks.proofs.encoding.push_block.Goals as goal

pub returns-clause-pushed : goal.returns-clause-pushed
returns-clause-pushed c = search (rules, append_assoc)

pub returns-clause-fits : goal.returns-clause-fits
returns-clause-fits c = record { each = rows_of c.args.schema.now c.args.rows.now c.requires c.in_ok-push_rows.ensures.values; few = search rules }

use Rattle.std.proofs.Common.{ap, ◌∙◌}
use Rattle.std.specs.List.{flat_map}
use Rattle.node_names.specs.declared.task.Task.{Task}
use Rattle.run_model.specs.Wanted.{block_in, missing_of}
use Rattle.cache_rebuild.proofs.LeastBlocks.{reduce_misses_none, test_misses_none}
use Rattle.cache_rebuild.proofs.missing.missing_block.Goals as goal

pub returns-in-Reduce : goal.returns-in-Reduce
returns-in-Reduce c = ap (λ (task : Task). flat_map block_in (missing_of c.args.view.now task)) c.in-Reduce.is ∙ reduce_misses_none c.args.view.now c.in-Reduce.round c.in-Reduce.step c.in-Reduce.part

pub returns-in-Test : goal.returns-in-Test
returns-in-Test c = ap (λ (task : Task). flat_map block_in (missing_of c.args.view.now task)) c.in-Test.is ∙ test_misses_none c.args.view.now c.in-Test.round c.in-Test.part

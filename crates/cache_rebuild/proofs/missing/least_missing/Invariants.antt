use Rattle.std.proofs.Common.{◌≡◌, length}
use Rattle.std.specs.List.{flat_map}
use Rattle.std.specs.Option.{option_map}
use Rattle.node_names.specs.declared.task.Task.{Task}
use Rattle.run_model.specs.Lists.{IsIn}
use Rattle.run_model.specs.Tasks.{IsTask}
use Rattle.run_model.specs.Wanted.{block_in, first_missing_block, missing_of}
use Rattle.cache_rebuild.specs.Goals.{block_at, plain_goal}
use Rattle.cache_rebuild.specs.steps.Blocks.{least_on}
use Rattle.cache_rebuild.proofs.missing.least_missing.Given as goal

-- the first block of the tasks that are left and the one so far is the first of all
abbrev pub invariant-tasks : goal.invariant-tasks
invariant-tasks l = record {
  tasks : (t : Task) → IsIn t l.left.items → IsTask l.fn.view.shape t;
  least : least_on (flat_map (λ task. flat_map block_in (missing_of l.fn.view task)) l.left.items) (option_map block_at l.first) ≡ first_missing_block l.fn.view (plain_goal l.fn.goal);
}

abbrev pub decreases-tasks : goal.decreases-tasks
decreases-tasks l = length l.left.items

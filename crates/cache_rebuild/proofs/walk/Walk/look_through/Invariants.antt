use Rattle.std.proofs.Common.{◌-◌, List, ◌++◌, length}
use Rattle.node_names.specs.declared.task.Task.{Task}
use Rattle.run_model.specs.Lists.{IsIn}
use Rattle.run_model.specs.Tasks.{IsTask, tasks_until}
use Rattle.cache_rebuild.specs.Goals.{plain_goal}
use Rattle.cache_rebuild.specs.steps.Walking.{Comes}
use Rattle.cache_rebuild.proofs.walk.Walk.look_through.Given as goal

-- the tasks of the round that are left come behind those of the rounds before
abbrev pub invariant-tasks : goal.invariant-tasks
invariant-tasks l =
    let shape = l.fn.view.shape in
    let goal = plain_goal l.fn.goal in
    record {
      tasks : (t : Task) → IsIn t l.left.items → IsTask shape t;
      comes : (all : List Task) → Comes l.fn.view goal (tasks_until shape l.fn.round) all l.fn.self → Comes l.fn.view goal (tasks_until shape (l.fn.round - 1) ++ l.left.items) all l.self;
    }

abbrev pub decreases-tasks : goal.decreases-tasks
decreases-tasks l = length l.left.items

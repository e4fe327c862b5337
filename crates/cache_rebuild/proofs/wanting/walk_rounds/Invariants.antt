use Rattle.std.proofs.Common.{◌-◌, ◌≤◌}
use Rattle.run_model.specs.Tasks.{tasks_until}
use Rattle.run_model.specs.Wanted.{wanted}
use Rattle.cache_rebuild.specs.Goals.{plain_goal}
use Rattle.cache_rebuild.specs.steps.Walking.{Comes}
use Rattle.cache_rebuild.proofs.wanting.walk_rounds.Given as goal

-- the rounds below this one are left
abbrev pub invariant-rounds : goal.invariant-rounds
invariant-rounds l =
    let goal = plain_goal l.fn.goal in
    record {
      begun : 1 ≤ l.round;
      within : l.round ≤ l.fn.goal.round;
      comes : Comes l.fn.view goal (tasks_until l.fn.view.shape (l.round - 1)) (wanted l.fn.view goal) l.walk;
    }

abbrev pub decreases-rounds : goal.decreases-rounds
decreases-rounds l = l.round

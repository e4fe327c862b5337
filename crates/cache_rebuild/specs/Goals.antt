-- What the calls are asked for, and what they tell, as the machine has it.
use Rattle.std.specs.Prelude.{ℕ}
use Rattle.node_names.specs.declared.name.Name.{Name}
use Rattle.node_names.specs.declared.name.Name.TheVariants.{Blk}
use Rattle.replica_table.specs.Sets.{members}
use Rattle.run_model.specs.Wanted.{Goal as Plain}
use Rattle.cache_rebuild.specs.declared.goal.Goal.{Goal}

-- the goal as the machine has it: the round, and the tests that are known
abbrev pub plain_goal : Goal → Plain
plain_goal goal = record { round = goal.round; known = members goal.known.0 }

-- the block of a table and a number
abbrev pub block_at : ℕ × ℕ → Name
block_at place = Blk place.0 place.1

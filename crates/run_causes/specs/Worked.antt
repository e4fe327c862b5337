-- What the definitions give for small schedules, as it was worked out by hand.
use Rattle.std.specs.Prelude.{◌≡◌, true, false, [], ◌∷◌}
use Rattle.schedule_text.specs.declared.schedule.Event.TheVariants.{Back, Busy, Done, Fail, Lose, Round, Wipe}
use Rattle.run_model.specs.Lists.{number_of}
use Rattle.run_model.specs.Programs.{one_job, setup}
use Rattle.run_causes.specs.Causes.{block_nodes}
use Rattle.run_causes.specs.Fates.{fates, is_fail, is_node_up, is_whole, lost_nodes}

-- nodes that go, come back and are wiped; the copies of a block on three of four nodes
pub record WorkedFates : Type 0 where
  -- a node that came back is up, and was not wiped where it was up
  pub back_again : fates (Lose 0 ∷ Back 0 ∷ Wipe 0 ∷ []) ≡ record { down = []; wiped = [] }
  -- a node that is lost twice is down once; it is wiped once more, and comes back
  pub lost_twice : fates (Lose 1 ∷ Lose 1 ∷ Wipe 1 ∷ Round 2 ∷ Wipe 1 ∷ Back 1 ∷ []) ≡ record { down = []; wiped = 1 ∷ 1 ∷ [] }
  -- what is done, fails or waits changes nothing
  pub others : fates (Done 0 ∷ Fail 1 ∷ Lose 2 ∷ Busy 2 ∷ Round 3 ∷ Lose 0 ∷ []) ≡ record { down = 0 ∷ 2 ∷ []; wiped = [] }
  pub up : is_node_up 3 (fates (Lose 2 ∷ [])) 1 ≡ true
  pub down : is_node_up 3 (fates (Lose 2 ∷ [])) 2 ≡ false
  pub not_there : is_node_up 3 (fates (Lose 2 ∷ [])) 3 ≡ false
  pub fails : number_of is_fail (Fail 0 ∷ Done 0 ∷ Fail 0 ∷ Lose 0 ∷ []) ≡ 2
  pub lost : lost_nodes (Lose 2 ∷ Back 2 ∷ Lose 0 ∷ Wipe 1 ∷ Lose 2 ∷ []) ≡ 2 ∷ 0 ∷ []
  pub copies : block_nodes (setup one_job 4 3 []) 0 2 ≡ 2 ∷ 3 ∷ 0 ∷ []
  -- node 2 was wiped, and node 0 is down: the copy on node 3 is left
  pub one_left : number_of (is_whole (fates (Lose 2 ∷ Wipe 2 ∷ Back 2 ∷ Lose 0 ∷ []))) (block_nodes (setup one_job 4 3 []) 0 2) ≡ 1

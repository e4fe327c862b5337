-- That a cluster does not stand still while work is wanted.
use Rattle.std.specs.Prelude.{◌≡◌, ◌⊎◌, ◌≤◌, false, [], None, Some}
use Rattle.hal_base.specs.Shapes.{IsWellFormed}
use Rattle.node_names.specs.declared.name.Name.{Name}
use Rattle.run_model.specs.Acts.{act}
use Rattle.run_model.specs.Advance.{is_decided}
use Rattle.run_model.specs.Needs.{idle_nodes, view_of}
use Rattle.run_model.specs.Plans.{BlockLost, NoNode, refuses}
use Rattle.run_model.specs.Start.{first_ready, goal_of, start}
use Rattle.run_model.specs.State.{PlainCluster, Setup}
use Rattle.run_model.specs.Wanted.{first_missing_block}

-- where the events are spent, nothing runs, the round is not decided and no wanted task is ready, no node is up, or some
-- block that a wanted map needs is not there
abbrev pub NoStandstill : Type 0
NoStandstill =
    (setup : Setup) (c : PlainCluster)
    → IsWellFormed setup.shape → 1 ≤ setup.schedule.slots → 1 ≤ c.round
    → c.events ≡ [] → c.running ≡ [] → is_decided setup c ≡ false → first_ready setup c ≡ None
    → (c.up ≡ []) ⊎ ((block : Name) × (first_missing_block (view_of setup c) (goal_of c) ≡ Some block))

-- an act is refused with this cause: no node is up, or this block is not there
abbrev pub IsRefused : Setup → PlainCluster → Type 0
IsRefused setup c = (act setup c ≡ refuses c NoNode) ⊎ ((block : Name) × (act setup c ≡ refuses c (BlockLost block)))

-- a turn that comes to act with the events spent and nothing running is refused
abbrev pub ActRefuses : Type 0
ActRefuses =
    (setup : Setup) (c : PlainCluster)
    → IsWellFormed setup.shape → 1 ≤ setup.schedule.slots → 1 ≤ setup.schedule.nodes → 1 ≤ c.round
    → c.events ≡ [] → is_decided setup c ≡ false → (start setup c).running ≡ []
    → IsRefused setup (start setup c)

-- where no node is idle, no task is ready
abbrev pub NoneReady : Type 0
NoneReady = (setup : Setup) (c : PlainCluster) → idle_nodes setup c ≡ [] → first_ready setup c ≡ None

-- What a schedule alone tells: what becomes of its nodes, and how much of it loses nodes or lets attempts fail.
use Rattle.std.specs.Prelude.{ℕ, Bool, true, false, ◌&&◌, not, nat_lt, List, [], ◌∷◌, ◌++◌, if◌then◌else◌}
use Rattle.replica_table.specs.Sets.{among, but_one}
use Rattle.schedule_text.specs.declared.schedule.Event.{Event}
use Rattle.schedule_text.specs.declared.schedule.Event.TheVariants.{Back, Fail, Lose, Wipe}

-- the nodes that are down, the last one first, and those that were wiped while they were down, by the order of their wipes
pub record Fates : Type 0 where
  pub down : List ℕ
  pub wiped : List ℕ

-- what an event does: it takes a node down that is up, brings one up that is down, or wipes one that is down
abbrev pub with_event : Event → Fates → Fates
with_event (Lose n) f = if among n f.down then f else record f { down = n ∷ f.down }
with_event (Back n) f = record f { down = but_one n f.down }
with_event (Wipe n) f = if among n f.down then record f { wiped = f.wiped ++ n ∷ [] } else f
with_event _ f = f

-- what events do, one after another
abbrev pub fates_from : Fates → List Event → Fates
fates_from f [] = f
fates_from f (e ∷ events) = fates_from (with_event e f) events

-- what becomes of the nodes of a cluster by these events: all of them are up before
abbrev pub fates : List Event → Fates
fates events = fates_from (record { down = []; wiped = [] }) events

-- of so many nodes, this is one, and it is up
abbrev pub is_node_up : ℕ → Fates → ℕ → Bool
is_node_up nodes f n = nat_lt n nodes && not (among n f.down)

-- the node is up, and was never wiped
abbrev pub is_whole : Fates → ℕ → Bool
is_whole f n = not (among n f.down) && not (among n f.wiped)

-- an event that lets an attempt fail
abbrev pub is_fail : Event → Bool
is_fail (Fail n) = true
is_fail _ = false

-- the nodes that `lose` events name, each once
abbrev pub lost_nodes : List Event → List ℕ
lost_nodes [] = []
lost_nodes (Lose n ∷ events) = n ∷ but_one n (lost_nodes events)
lost_nodes (_ ∷ events) = lost_nodes events

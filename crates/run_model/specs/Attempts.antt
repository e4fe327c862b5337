-- An attempt that is done: what it writes, and its line.
use Rattle.std.specs.Prelude.{ℕ, ◌-◌, ◌==◌, ◌%◌, nat_lt, ◌&&◌, not, List, [], ◌∷◌, ◌++◌, map, length, take, if◌then◌else◌}
use Rattle.std.specs.List.{filter, flat_map}
use Rattle.std.specs.Ordering.{nat_cmp}
use Rattle.hal_base.specs.Shapes.{source_at}
use Rattle.hal_base.specs.Sorted.{joined}
use Rattle.hal_base.specs.declared.shape.Shape.{Shape}
use Rattle.node_names.specs.declared.name.Name.{Name}
use Rattle.node_names.specs.declared.name.Name.TheVariants.{Spill, Out, Roc}
use Rattle.node_names.specs.declared.task.Task.{Task}
use Rattle.node_names.specs.declared.task.Task.TheVariants.{Map, Reduce, Test}
use Rattle.replica_table.specs.Copies.{up_holders, with_copy}
use Rattle.replica_table.specs.Sets.{among}
use Rattle.counter_report.specs.declared.journal.Entry.{Entry}
use Rattle.counter_report.specs.declared.journal.Entry.TheVariants.{Commit, Starve}
use Rattle.run_model.specs.Lists.{below}
use Rattle.run_model.specs.Needs.{inputs}
use Rattle.run_model.specs.Plans.{Plan, gives, ◌>>=◌, do_all, Call, Wipe, Write, Read, Remove}
use Rattle.run_model.specs.Reading.{ReadSoFar, Reading, nothing_read, read_inputs, reading, starved}
use Rattle.run_model.specs.Sites.{kept_split}
use Rattle.run_model.specs.declared.attempt.Attempt.{Attempt}
use Rattle.run_model.specs.State.{Copy, PlainCluster, Setup, copy, noted}
use Rattle.run_model.specs.Tasks.{last}

-- ---- on the own node

-- the name of what a task makes, if it is a file
abbrev pub made_by : Task → List Name
made_by (Map i j s q) = Spill i j s q ∷ []
made_by (Reduce i j p) = Out i j p ∷ []
made_by (Test i p) = []

-- a reduce that took a cached source from its spills writes the cache; a test that took the old part itself does not
abbrev pub rebuilt : Task → List Name → List Name
rebuilt (Map i j s q) unread = []
rebuilt (Reduce i j p) unread = unread
rebuilt (Test i p) unread = []

-- a map with mapper input cache that read its block from another node keeps it
abbrev pub block_kept : Shape → Task → ℕ → List Name
block_kept shape (Map i j s q) remote = if nat_lt 0 remote then kept_split (source_at shape j s) q else []
block_kept shape (Reduce i j p) remote = []
block_kept shape (Test i p) remote = []

-- a reduce of the last step in the present round keeps its output, with the reducer output cache
abbrev pub output_kept : Shape → ℕ → Task → List Name
output_kept shape now (Map i j s q) = []
output_kept shape now (Reduce i j p) = if shape.reducer_output && (j == last shape) && (i == now) then Roc i p ∷ [] else []
output_kept shape now (Test i p) = []

-- what a done attempt writes on its node: its own name, its caches by source, its block, its output
abbrev pub own_writes : Setup → Task → Reading → List Name
own_writes setup task r = made_by task ++ rebuilt task r.unread ++ block_kept setup.shape task r.remote ++ output_kept setup.shape r.cluster.round task

-- what an attempt writes on its own node
abbrev pub own_calls : Setup → Attempt → Reading → List Call
own_calls setup a r = map (Write a.node) (own_writes setup a.task r)

-- the copies, once these calls are made
abbrev pub written : List Call → List Copy → List Copy
written [] copies = copies
written (Write node name ∷ calls) copies = written calls (with_copy (copy name node) copies)
written (Wipe node ∷ calls) copies = written calls copies
written (Read node name ∷ calls) copies = written calls copies
written (Remove node name ∷ calls) copies = written calls copies

-- ---- on further nodes

-- the nodes behind one, in cyclic order
abbrev pub nodes_behind : ℕ → ℕ → List ℕ
nodes_behind nodes node = filter (λ n. nat_lt node n) (below nodes) ++ below node

-- the next up nodes behind one that are not holders, until there are `copies` holders, or no such node is left
abbrev pub nodes_for : Setup → ℕ → List ℕ → List ℕ → List ℕ
nodes_for setup node up holders = take (setup.schedule.copies - length holders) (filter (λ n. among n up && not (among n holders)) (nodes_behind setup.schedule.nodes node))

-- the further nodes that get a last output of a round divisible by `keep`, until `copies` up nodes hold it
abbrev pub further_nodes : Setup → Task → ℕ → List ℕ → List Copy → List ℕ
further_nodes setup (Map i j s q) node up copies = []
further_nodes setup (Reduce i j p) node up copies = if (j == last setup.shape) && (i % setup.schedule.keep == 0) then nodes_for setup node up (up_holders (Out i j p) up copies) else []
further_nodes setup (Test i p) node up copies = []

-- the file of a name is written on each of these nodes
abbrev pub writes_to : List ℕ → Name → List Call
writes_to nodes name = map (λ n. Write n name) nodes

-- what an attempt writes on further nodes, once its own node holds it
abbrev pub further_calls : Setup → Attempt → Reading → List Call
further_calls setup a r = flat_map (writes_to (further_nodes setup a.task a.node r.cluster.up (written (own_calls setup a r) r.cluster.copies))) (made_by a.task)

-- ---- the end of an attempt

-- all that a done attempt writes
abbrev pub writes : Setup → Attempt → Reading → List Call
writes setup a r = own_calls setup a r ++ further_calls setup a r

-- a test's value is known from then on
abbrev pub with_known : Task → List ℕ → List ℕ
with_known (Map i j s q) known = known
with_known (Reduce i j p) known = known
with_known (Test i p) known = joined nat_cmp p known

-- the line of an attempt that is done, with how many files it read
abbrev pub commit_line : Attempt → Reading → Entry
commit_line a r = Commit a.task a.node r.local r.remote r.caches

-- the cluster with what the attempt made
abbrev pub committed : Attempt → Reading → List Copy → PlainCluster
committed a r copies = record r.cluster { copies = copies; known = with_known a.task r.cluster.known; journal = r.cluster.journal ++ commit_line a r ∷ [] }

-- the attempt commits, or is starved
abbrev pub commit : Setup → Attempt → ReadSoFar → Plan PlainCluster
commit setup a (starved c) = gives (noted (Starve a.task a.node ∷ []) c)
commit setup a (reading r) = do_all (writes setup a r) (gives (committed a r (written (writes setup a r) r.cluster.copies)))

-- an attempt that is done reads, writes and commits
abbrev pub attempt_done : Setup → Attempt → PlainCluster → Plan PlainCluster
attempt_done setup a c = read_inputs a.node (inputs setup.shape a.task) (reading (nothing_read c)) >>= commit setup a

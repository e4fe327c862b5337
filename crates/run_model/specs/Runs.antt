-- A run of the cluster: turns from the state after load until one finishes or refuses.
use Rattle.std.specs.Prelude.{ℕ, zero, suc, ◌+◌, ◌%◌, List, [], ◌∷◌, ◌++◌, Option, None, Some, ◌-◌, map, length, slice_get, slice_index}
use Rattle.node_names.specs.declared.name.Name.TheVariants.{Blk}
use Rattle.counter_report.specs.declared.journal.EndWord.{EndWord}
use Rattle.counter_report.specs.declared.journal.Entry.{Entry}
use Rattle.counter_report.specs.declared.journal.Entry.TheVariants as line
use Rattle.std.specs.List.{flat_map}
use Rattle.run_model.specs.Attempts.{written}
use Rattle.run_model.specs.Lists.{below}
use Rattle.run_model.specs.State.{Setup, PlainCluster}
use Rattle.run_model.specs.Plans.{Plan, gives, ◌>>=◌, do_all, Call, Wipe, Write, Done, Came, gave, refused}
use Rattle.run_model.specs.Turns.{Turned, acted, ends, turn}

-- ---- load

-- the node of copy k of a block
abbrev pub node_of : ℕ → ℕ → ℕ → ℕ → ℕ
node_of t b k nodes = (t + b + k) % nodes

-- the writes of the blocks, by table, block and copy
abbrev pub block_writes : Setup → List Call
block_writes setup =
    flat_map (λ t. flat_map (λ b. map (λ k. Write (node_of t b k setup.schedule.nodes) (Blk t b)) (below setup.schedule.copies)) (below (slice_index setup.shape.blocks t))) (below (length setup.shape.blocks))

-- the cluster after load: all nodes are up and not marked, and round 1 begins
abbrev pub loaded : Setup → PlainCluster
loaded setup = record {
  round = 1;
  up = below setup.schedule.nodes;
  marked = [];
  copies = written (block_writes setup) [];
  running = [];
  known = [];
  failures = [];
  events = setup.schedule.events;
  journal = line.Round 1 ∷ [];
}

-- load wipes each node and writes the blocks
abbrev pub load : Setup → Plan PlainCluster
load setup = do_all (map Wipe (below setup.schedule.nodes) ++ block_writes setup) (gives (loaded setup))

-- ---- turns

-- more turns, unless the run has ended
abbrev pub unless_ended : (PlainCluster → Plan Turned) → Turned → Plan Turned
unless_ended more (acted c) = more c
unless_ended more (ends c end) = gives (ends c end)

-- at most so many turns, until one finishes the run or it is refused, under a decision for each round
abbrev pub turns : ℕ → Setup → (ℕ → Option EndWord) → PlainCluster → Plan Turned
turns zero setup decisions c = gives (acted c)
turns (suc n) setup decisions c = turn setup (decisions c.round) c >>= unless_ended (turns n setup decisions)

-- the decision in a list of them, where it has one
abbrev pub decision_in : Option (Option EndWord) → Option EndWord
decision_in None = None
decision_in (Some end) = end

-- decisions in a list, one for each round; where there is none, the loop goes on
abbrev pub listed_decisions : List (Option EndWord) → ℕ → Option EndWord
listed_decisions decisions i = decision_in (slice_get decisions (i - 1))

-- a run of at most so many turns
abbrev pub run : ℕ → Setup → (ℕ → Option EndWord) → Plan Turned
run n setup decisions = load setup >>= turns n setup decisions

-- ---- what a run leaves

-- the last state
abbrev pub state_of : Turned → PlainCluster
state_of (acted c) = c
state_of (ends c end) = c

-- the cluster at the end of what was done
abbrev pub came_to : Came Turned → PlainCluster
came_to (gave turned) = state_of turned
came_to (refused c why) = c

-- the journal of a plan under marks
abbrev pub journal_of : Done Turned → List Entry
journal_of done = (came_to done.came).journal

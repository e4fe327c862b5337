-- What an attempt reads, and what is there of it.
use Rattle.std.specs.Prelude.{ℕ, ◌-◌, ◌==◌, nat_lt, Bool, true, false, ◌&&◌, ◌||◌, not, List, [], ◌∷◌, ◌++◌, Option, None, Some, map}
use Rattle.std.specs.List.{filter, flat_map, list_any}
use Rattle.hal_base.specs.Shapes.{source_at}
use Rattle.hal_base.specs.declared.shape.Shape.{Shape}
use Rattle.node_names.specs.declared.name.Name.{Name}
use Rattle.node_names.specs.declared.name.Name.TheVariants.{Blk, Spill, Out, Ric, Mic, Roc}
use Rattle.node_names.specs.declared.task.Task.{Task}
use Rattle.node_names.specs.declared.task.Task.TheVariants.{Map, Reduce, Test}
use Rattle.replica_table.specs.Copies.{nodes_with}
use Rattle.replica_table.specs.Sets.{among}
use Rattle.schedule_text.specs.declared.schedule.Event.{Event}
use Rattle.run_model.specs.Lists.{number_of}
use Rattle.run_model.specs.declared.attempt.Attempt.{Attempt}
use Rattle.run_model.specs.State.{Copy, PlainCluster, Setup, holds}
use Rattle.run_model.specs.Tasks.{is_cached, last, last_outs, source_numbers, spills, split}

-- what placement looks at: the shape, the copies, the nodes that are up, and those of them that are idle
pub record View : Type 0 where
  pub shape : Shape
  pub copies : List Copy
  pub up : List ℕ
  pub idle : List ℕ

-- one of the things that an attempt reads: files, in this order, and the cache that stands for them where the node holds it
pub record Input : Type 0 where
  pub cache : Option Name
  pub files : List Name

-- an input: the cache that may stand for its files, and the files
abbrev pub input : Option Name → List Name → Input
input cache files = record { cache = cache; files = files }

-- what a reduce reads of a source: the spills of this round; of a cached source its cache, or else the spills of round 1
abbrev pub reduce_input : Shape → ℕ → ℕ → ℕ → ℕ → Bool → Input
reduce_input shape i j p s false = input None (spills shape i j s)
reduce_input shape i j p s true = input (Some (Ric j s p)) (spills shape 1 j s)

-- what a test reads: the new parts, and then the old ones, of which one that is alone may be kept in a cache
abbrev pub test_inputs : Shape → ℕ → ℕ → Bool → List Input
test_inputs shape i p true = input None (Out i (last shape) p ∷ []) ∷ input (Some (Roc (i - 1) p)) (Out (i - 1) (last shape) p ∷ []) ∷ []
test_inputs shape i p false = input None (last_outs shape i ++ last_outs shape (i - 1)) ∷ []

-- what an attempt at a task reads, in order
abbrev pub inputs : Shape → Task → List Input
inputs shape (Map i j s q) = input None (split shape i j s q) ∷ []
inputs shape (Reduce i j p) = map (λ s. reduce_input shape i j p s (is_cached (source_at shape j s))) (source_numbers shape j)
inputs shape (Test i p) = test_inputs shape i p shape.reducer_output

-- the node holds the cache, if there is one
abbrev pub holds_cache : List Copy → ℕ → Option Name → Bool
holds_cache copies node None = false
holds_cache copies node (Some cache) = holds copies node cache

-- nothing where the test holds
abbrev pub unless : {A : Type 0} → Bool → List A → List A
unless true xs = []
unless false xs = xs

-- what a task needs at a node: the files of each input but for those that a cache on the node stands for
abbrev pub needs : Shape → List Copy → ℕ → Task → List Name
needs shape copies node task = flat_map (λ (it : Input). unless (holds_cache copies node it.cache) it.files) (inputs shape task)

-- some up node holds the name
abbrev pub is_up : List Copy → List ℕ → Name → Bool
is_up copies up name = list_any (λ node. among node up) (nodes_with name copies)

-- a need is there at a node: some up node holds it, and of a block, the node holds the block or its cache
abbrev pub is_there : List Copy → List ℕ → ℕ → Name → Bool
is_there copies up node (Blk t b) = is_up copies up (Blk t b) || holds copies node (Blk t b) || holds copies node (Mic t b)
is_there copies up node (Spill i j s q) = is_up copies up (Spill i j s q)
is_there copies up node (Out i j p) = is_up copies up (Out i j p)
is_there copies up node (Ric j s p) = is_up copies up (Ric j s p)
is_there copies up node (Mic t b) = is_up copies up (Mic t b)
is_there copies up node (Roc i p) = is_up copies up (Roc i p)

-- the needs of a task at a node that are not there
abbrev pub missing : View → ℕ → Task → List Name
missing view node task = filter (λ name. not (is_there view.copies view.up node name)) (needs view.shape view.copies node task)

-- ---- idle nodes

-- the nodes whose mark counts: when the events are spent, none does
abbrev pub busy_nodes : List Event → List ℕ → List ℕ
busy_nodes [] marked = []
busy_nodes (e ∷ events) marked = marked

-- how many attempts a node runs
abbrev pub load : PlainCluster → ℕ → ℕ
load c node = number_of (λ (a : Attempt). node == a.node) c.running

-- the up idle nodes: not marked busy, and with a slot free
abbrev pub idle_nodes : Setup → PlainCluster → List ℕ
idle_nodes setup c = filter (λ n. not (among n (busy_nodes c.events c.marked)) && nat_lt (load c n) setup.schedule.slots) c.up

-- what a cluster shows to the choice of tasks and nodes
abbrev pub view_of : Setup → PlainCluster → View
view_of setup c = record { shape = setup.shape; copies = c.copies; up = c.up; idle = idle_nodes setup c }

-- What an attempt that is done reads: file after file, from its own node first.
use Rattle.std.specs.Prelude.{ℕ, ◌+◌, ◌==◌, nat_le, Bool, true, false, ◌&&◌, not, List, [], ◌∷◌, ◌++◌, Option, None, Some, map, if◌then◌else◌}
use Rattle.std.specs.List.{filter, flat_map}
use Rattle.node_names.specs.declared.name.Name.{Name}
use Rattle.node_names.specs.declared.name.Name.TheVariants.{Blk, Spill, Out, Ric, Mic, Roc}
use Rattle.replica_table.specs.Copies.{but_file, up_holders}
use Rattle.counter_report.specs.declared.journal.Entry.{Entry}
use Rattle.counter_report.specs.declared.journal.Entry.TheVariants.{Struck}
use Rattle.run_model.specs.Lists.{number_of}
use Rattle.run_model.specs.Needs.{Input}
use Rattle.run_model.specs.Plans.{Plan, gives, refuses, asks, ◌>>=◌, Misses}
use Rattle.run_model.specs.State.{Copy, PlainCluster, holds, noted, with_copies}

-- ---- one file after another

-- a file on a node, which a read may try
pub record Try : Type 0 where
  pub node : ℕ
  pub name : Name

-- the file of a name on a node is tried
abbrev pub try_at : Name → ℕ → Try
try_at name node = record { node = node; name = name }

-- what reads left: the cluster, and which of the tries was answered
pub record Tried : Type 0 where
  pub cluster : PlainCluster
  pub answered : Option Try

-- the line tells of a miss
abbrev pub is_struck : Entry → Bool
is_struck (Struck name node) = true
is_struck _ = false

-- how many reads missed so far: each has its line
abbrev pub misses : PlainCluster → ℕ
misses c = number_of is_struck c.journal

-- a copy that missed is struck
abbrev pub strike : Try → PlainCluster → PlainCluster
strike it c = noted (Struck it.name it.node ∷ []) (with_copies (but_file it.name it.node c.copies) c)

-- goes on after a miss, unless it was the 1,000th of the run
abbrev pub unless_last : (PlainCluster → Plan Tried) → PlainCluster → Bool → Plan Tried
unless_last more c true = refuses c Misses
unless_last more c false = more c

-- what follows on a read that missed or did not
abbrev pub after_read : (PlainCluster → Plan Tried) → Try → PlainCluster → Bool → Plan Tried
after_read more it c true = unless_last more (strike it c) (nat_le 1000 (misses (strike it c)))
after_read more it c false = gives (record { cluster = c; answered = Some it })

-- tries one file after another until a read is answered; a copy that misses is struck
abbrev pub read_first : List Try → PlainCluster → Plan Tried
read_first [] c = gives (record { cluster = c; answered = None })
read_first (it ∷ tries) c = asks it.node it.name (after_read (read_first tries) it c)

-- ---- what is tried for a need

-- a file on the own node
abbrev pub own_try : List Copy → ℕ → Name → List Try
own_try copies own name = if holds copies own name then try_at name own ∷ [] else []

-- the cache that stands for a block
abbrev pub cache_of_block : Name → List Name
cache_of_block (Blk t b) = Mic t b ∷ []
cache_of_block (Spill i j s q) = []
cache_of_block (Out i j p) = []
cache_of_block (Ric j s p) = []
cache_of_block (Mic t b) = []
cache_of_block (Roc i p) = []

-- the file on the own node, and of a block its cache there
abbrev pub own_tries : List Copy → ℕ → Name → List Try
own_tries copies own name = flat_map (own_try copies own) (name ∷ cache_of_block name)

-- the other up holders, ascending
abbrev pub other_tries : PlainCluster → ℕ → Name → List Try
other_tries c own name = map (try_at name) (filter (λ node. not (node == own)) (up_holders name c.up c.copies))

-- the files that are tried for a need, in order: those of the own node, and then those of other nodes
abbrev pub tries_for : PlainCluster → ℕ → Name → List Try
tries_for c own name = own_tries c.copies own name ++ other_tries c own name

-- ---- all that an attempt reads

-- what an attempt has read so far: how many files from its own node, how many from others, how many of the first are caches,
-- and the caches that were not read though files were that they stand for
pub record Reading : Type 0 where
  pub cluster : PlainCluster
  pub local : ℕ
  pub remote : ℕ
  pub caches : ℕ
  pub unread : List Name

-- what the reads of an attempt came to: all of them are answered, or a need had no copy left
pub data ReadSoFar : Type 0 where
  reading : Reading → ReadSoFar
  starved : PlainCluster → ReadSoFar

-- the file is a cache
abbrev pub is_cache : Name → Bool
is_cache (Blk t b) = false
is_cache (Spill i j s q) = false
is_cache (Out i j p) = false
is_cache (Ric j s p) = true
is_cache (Mic t b) = true
is_cache (Roc i p) = true

-- a file more was read
abbrev pub counted : ℕ → Try → PlainCluster → Reading → Reading
counted own it c r = record {
  cluster = c;
  local = if it.node == own then r.local + 1 else r.local;
  remote = if it.node == own then r.remote else r.remote + 1;
  caches = if it.node == own && is_cache it.name then r.caches + 1 else r.caches;
  unread = r.unread;
}

-- once a need was tried: the file that answered is counted, or the attempt is starved
abbrev pub after_tries : ℕ → Reading → PlainCluster → Option Try → ReadSoFar
after_tries own r c None = starved c
after_tries own r c (Some it) = reading (counted own it c r)

-- reads a need; where it has no copy left, the attempt is starved
abbrev pub read_need : ℕ → Name → Reading → Plan ReadSoFar
read_need own name r = read_first (tries_for r.cluster own name) r.cluster >>= (λ tried. gives (after_tries own r tried.cluster tried.answered))

-- reads files in order, until the attempt is starved
abbrev pub read_files : ℕ → List Name → ReadSoFar → Plan ReadSoFar
read_files own [] so_far = gives so_far
read_files own (name ∷ names) (starved c) = gives (starved c)
read_files own (name ∷ names) (reading r) = read_need own name r >>= read_files own names

-- a cache that could not be read is noted
abbrev pub with_unread : Name → PlainCluster → Reading → Reading
with_unread cache c r = record r { cluster = c; unread = r.unread ++ cache ∷ [] }

-- what was tried of a cache: it was read, or the files are read that it stands for
abbrev pub after_cache : ℕ → Name → List Name → Reading → PlainCluster → Option Try → Plan ReadSoFar
after_cache own cache files r c None = read_files own files (reading (with_unread cache c r))
after_cache own cache files r c (Some it) = gives (reading (counted own it c r))

-- reads an input: its cache, where the node holds it, or else its files
abbrev pub read_input : ℕ → Option Name → List Name → Reading → Plan ReadSoFar
read_input own None files r = read_files own files (reading r)
read_input own (Some cache) files r = read_first (own_try r.cluster.copies own cache) r.cluster >>= (λ tried. after_cache own cache files r tried.cluster tried.answered)

-- reads inputs in order, until the attempt is starved
abbrev pub read_inputs : ℕ → List Input → ReadSoFar → Plan ReadSoFar
read_inputs own [] so_far = gives so_far
read_inputs own (it ∷ inputs) (starved c) = gives (starved c)
read_inputs own (it ∷ inputs) (reading r) = read_input own it.cache it.files r >>= read_inputs own inputs

-- an attempt that has read nothing yet
abbrev pub nothing_read : PlainCluster → Reading
nothing_read c = record { cluster = c; local = 0; remote = 0; caches = 0; unread = [] }

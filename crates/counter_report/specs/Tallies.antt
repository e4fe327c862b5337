-- What is counted in a journal.
use Rattle.std.specs.Prelude.{ℕ, ◌-◌, ◌^◌, cond, min, count_by, sum_by, Bool, true, false, List, [], ◌∷◌, Option, None, Some, unwrap_or}
use Rattle.std.specs.Option.{option_or}
use Rattle.node_names.specs.declared.task.Task.{Task}
use Rattle.node_names.specs.declared.task.Task.TheVariants.{Map, Reduce, Test}
use Rattle.counter_report.specs.declared.journal.EndWord.{EndWord}
use Rattle.counter_report.specs.declared.journal.EndWord.TheVariants as word
use Rattle.counter_report.specs.declared.journal.Entry.{Entry}
use Rattle.counter_report.specs.declared.journal.Entry.TheVariants.{Round, Commit, Starve, Fail, Kill, Dropped, Struck, Skip, End}
use Rattle.counter_report.specs.declared.report.End.{End as Ending}
use Rattle.counter_report.specs.declared.report.End.TheVariants.{Fixpoint, Close, Limit, Unended}
use Rattle.counter_report.specs.declared.report.Report.{Report}

-- a number that stops at the last value of 64 bits
abbrev pub capped : ℕ → ℕ
capped n = min n (2 ^ 64 - 1)

-- a task that maps a split
abbrev pub is_map : Task → Bool
is_map (Map round step source split) = true
is_map task = false

-- a task that reduces a part
abbrev pub is_reduce : Task → Bool
is_reduce (Reduce round step part) = true
is_reduce task = false

-- a task that compares a part with the round before
abbrev pub is_test : Task → Bool
is_test (Test round part) = true
is_test task = false

-- an attempt at such a task commits
abbrev pub commits : (Task → Bool) → Entry → Bool
commits such (Commit task node local remote caches) = such task
commits such entry = false

-- an attempt fails
abbrev pub fails : Entry → Bool
fails (Fail task node count) = true
fails entry = false

-- an attempt is gone with its node
abbrev pub kills : Entry → Bool
kills (Kill task node) = true
kills entry = false

-- an attempt is starved
abbrev pub starves : Entry → Bool
starves (Starve task node) = true
starves entry = false

-- an attempt is dropped
abbrev pub drops : Entry → Bool
drops (Dropped task node) = true
drops entry = false

-- an event is skipped
abbrev pub skips : Entry → Bool
skips (Skip word number) = true
skips entry = false

-- a copy is struck
abbrev pub strikes : Entry → Bool
strikes (Struck name node) = true
strikes entry = false

-- the files that an attempt read from its own node when it committed
abbrev pub local_of : Entry → ℕ
local_of (Commit task node local remote caches) = local
local_of entry = 0

-- those that it read from other nodes
abbrev pub remote_of : Entry → ℕ
remote_of (Commit task node local remote caches) = remote
remote_of entry = 0

-- the caches that an attempt at such a task read
abbrev pub caches_of : (Task → Bool) → Entry → ℕ
caches_of such (Commit task node local remote caches) = cond (such task) caches 0
caches_of such entry = 0

-- the end that an entry tells, with its round
abbrev pub told_end : Entry → Option (EndWord × ℕ)
told_end (End word round) = Some (word, round)
told_end entry = None

-- the round that an entry begins
abbrev pub begun : Entry → Option ℕ
begun (Round round) = Some round
begun entry = None

-- what the last entry tells of those that tell something
abbrev pub last_told : {X : Type 0} → (Entry → Option X) → List Entry → Option X
last_told told [] = None
last_told told (entry ∷ journal) = option_or (last_told told journal) (told entry)

-- how a run ended, by its last end
abbrev pub end_by : Option (EndWord × ℕ) → Ending
end_by None = Unended
end_by (Some (word.Fixpoint, round)) = Fixpoint
end_by (Some (word.Close, round)) = Close
end_by (Some (word.Limit, round)) = Limit

-- how many rounds a run had, by its last end, or else by the last round that began
abbrev pub rounds_by : Option (EndWord × ℕ) → Option ℕ → ℕ
rounds_by None round = unwrap_or round 0
rounds_by (Some (word, round)) last = round

-- the counts of a journal
abbrev pub tally : List Entry → Report
tally journal = record {
  rounds = rounds_by (last_told told_end journal) (last_told begun journal);
  end = end_by (last_told told_end journal);
  maps = capped (count_by (commits is_map) journal);
  reduces = capped (count_by (commits is_reduce) journal);
  tests = capped (count_by (commits is_test) journal);
  fails = capped (count_by fails journal);
  kills = capped (count_by kills journal);
  starved = capped (count_by starves journal);
  dropped = capped (count_by drops journal);
  skipped = capped (count_by skips journal);
  struck = capped (count_by strikes journal);
  local = capped (sum_by local_of journal);
  remote = capped (sum_by remote_of journal);
  ric = capped (sum_by (caches_of is_reduce) journal);
  mic = capped (sum_by (caches_of is_map) journal);
  roc = capped (sum_by (caches_of is_test) journal);
}

-- Parts of the last step that are read, one after another.
use Rattle.std.specs.Prelude.{◌≡◌, ℕ, List, Option, None, Some, IfSome, IsSome, map}
use Rattle.hal_base.specs.declared.record.Record.{Record}
use Rattle.hal_base.specs.declared.shape.Shape.{Shape}
use Rattle.hal_outside.specs.DiskTold.{DiskTold}
use Rattle.node_names.specs.declared.name.Name.{Name}
use Rattle.name_values.specs.Values.{World, list_of, value_of}
use Rattle.replica_table.specs.Copies.{Replicas}
use Rattle.run_model.specs.Advance.{Advanced, after_part, goes_on, part_tries, read_parts}
use Rattle.run_model.specs.Tasks.{last_outs}
use Rattle.run_model.specs.Plans.{Plan, gives, ◌>>=◌}
use Rattle.run_model.specs.Reading.{read_first}
use Rattle.run_model.specs.State.{PlainCluster}
use Rattle.valid_copies.specs.Calls.{Follows}
use Rattle.valid_copies.specs.Files.{Sees}
use Rattle.valid_copies.specs.Stands.{Stands}
use Rattle.valid_copies.specs.declared.fault.WorkFault.{WorkFault}
use Rattle.counter_report.specs.declared.journal.EndWord.{EndWord}
use Rattle.cluster_core.specs.Faults.{StoppedIn}
use Rattle.cluster_core.specs.Turns.{parts_read}

-- the plan to read a part, and what follows on that
abbrev pub part_plan : PlainCluster → Name → (PlainCluster → Plan Advanced) → Plan Advanced
part_plan c name more = read_first (part_tries c name) c >>= (λ tried. after_part more tried.cluster tried.answered)

-- what is left of it, once the part was read or had no copy
abbrev pub part_rest : {A : Type 0} → PlainCluster → (PlainCluster → Plan Advanced) → Option A → Plan Advanced
part_rest c more None = gives (goes_on c)
part_rest c more (Some rows) = more c

-- the calls of the plan to read a part led to what is left of it
abbrev pub PartFollows : {A : Type 0} → Replicas → Name → Option DiskTold → Option DiskTold → Option A → Type 0
PartFollows table name before after found = (c : PlainCluster) → Sees table c → (more : PlainCluster → Plan Advanced) → Follows (part_plan c name more) before after (part_rest c more found)

-- the plan to read a part was not brought to its end
abbrev pub PartStopped : Replicas → Name → Option DiskTold → Option DiskTold → WorkFault → Type 0
PartStopped table name before after fault = (c : PlainCluster) → Sees table c → (more : PlainCluster → Plan Advanced) → StoppedIn (part_plan c name more) before after fault

-- where the disks tell and show their damage and the copies are valid, the records are those of the name
abbrev pub IsValueOf : Shape → Replicas → Type 0 → Option DiskTold → Name → Option (List Record) → Type 0
IsValueOf shape table shows told name found = shows → IsSome told → (w : World) → w.shape ≡ shape → Stands w table.copies told → IfSome found (λ rows. rows ≡ list_of 0 (value_of w name))

-- and so are all parts
abbrev pub AreValuesOf : Shape → Replicas → Type 0 → Option DiskTold → List Name → Option (List (List Record)) → Type 0
AreValuesOf shape table shows told names found = shows → IsSome told → (w : World) → w.shape ≡ shape → Stands w table.copies told → IfSome found (λ parts. parts ≡ map (λ name. list_of 0 (value_of w name)) names)

-- the calls of the plan to read the parts of the last step led to its end
abbrev pub PartsFollow : Shape → Replicas → ℕ → Option DiskTold → Option DiskTold → Option (List (List Record)) → Type 0
PartsFollow shape table round before after parts = (c : PlainCluster) → Sees table c → (end : EndWord) → Follows (read_parts end (last_outs shape round) c) before after (gives (parts_read c parts end))

-- what stops them, as the plan says it
abbrev pub PartsStopped : Shape → Replicas → ℕ → Option DiskTold → Option DiskTold → WorkFault → Type 0
PartsStopped shape table round before after fault = (c : PlainCluster) → Sees table c → (end : EndWord) → StoppedIn (read_parts end (last_outs shape round) c) before after fault

-- The keys of streams, each with its groups.
use Rattle.std.specs.Prelude.{List, map}
use Rattle.hal_base.specs.declared.value.Value.{Value}
use Rattle.hal_base.specs.declared.record.Record.{Record}
use Rattle.plain_job.specs.Job.{group, keys}
use Rattle.group_reduce.specs.declared.KeyGroups.{KeyGroups}

-- a key and its group in each stream
abbrev pub groups_of : List (List Record) → Value → KeyGroups
groups_of streams key = record { key = key; groups = map (λ rows. group rows key) streams }

-- each key that stands in a stream, with its group in each stream, keys ascending
abbrev pub keyed_groups : List (List Record) → List KeyGroups
keyed_groups streams = map (groups_of streams) (keys streams)

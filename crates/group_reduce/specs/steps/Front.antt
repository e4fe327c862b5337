-- The records of one key at the front of a stream, and the least key of streams.
use Rattle.std.specs.Prelude.{Bool, false, cond, List, [], ◌∷◌, Option, None, Some}
use Rattle.std.specs.Ordering.{is_le}
use Rattle.hal_base.specs.declared.value.Value.{Value}
use Rattle.hal_base.specs.declared.record.Record.{Record}
use Rattle.hal_base.specs.Order.{value_cmp}
use Rattle.plain_job.specs.Job.{has_key}

-- whether the first record has key k
abbrev pub starts : Value → List Record → Bool
starts k [] = false
starts k (row ∷ rows) = has_key k row

-- the records with key k at the front
abbrev pub front : Value → List Record → List Record
front k [] = []
front k (row ∷ rows) = cond (has_key k row) (row ∷ front k rows) []

-- the records behind those
abbrev pub rest : Value → List Record → List Record
rest k [] = []
rest k (row ∷ rows) = cond (has_key k row) (rest k rows) (row ∷ rows)

-- the lesser of two keys, of which the second is the first record's
abbrev pub lesser_key : Option Value → List Record → Option Value
lesser_key best [] = best
lesser_key None (row ∷ rows) = Some row.key
lesser_key (Some k) (row ∷ rows) = Some (cond (is_le (value_cmp k row.key)) k row.key)

-- the least of a key and the first keys of the streams
abbrev pub least_key_of : Option Value → List (List Record) → Option Value
least_key_of best [] = best
least_key_of best (stream ∷ streams) = least_key_of (lesser_key best stream) streams

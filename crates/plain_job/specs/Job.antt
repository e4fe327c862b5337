-- One job over whole lists: streams, groups, keys, and what reduce emits.
use Rattle.std.specs.Prelude.{Bool, List, map}
use Rattle.std.specs.Ordering.{is_eq}
use Rattle.std.specs.Cmp.Lexicographic.{slice_cmp}
use Rattle.std.specs.List.{filter, flat_map}
use Rattle.hal_base.specs.declared.value.Value.{Value}
use Rattle.hal_base.specs.declared.record.Record.{Record}
use Rattle.hal_base.specs.Order.{value_cmp}
use Rattle.hal_base.specs.Sorted.{sorted, distinct}

-- what a map means for each record, one after another
abbrev pub stream : (Record → List Record) → List Record → List Record
stream means rows = flat_map means rows

-- whether a record has this key
abbrev pub has_key : Value → Record → Bool
has_key key row = is_eq (value_cmp key row.key)

-- the key of a record
abbrev pub key_of : Record → Value
key_of row = row.key

-- the field list of a record
abbrev pub fields_of : Record → List Value
fields_of row = row.fields

-- the field lists of the records with this key, in order, repeats kept
abbrev pub group : List Record → Value → List (List Value)
group rows key = sorted (slice_cmp value_cmp) (map fields_of (filter (has_key key) rows))

-- each key that stands in at least one stream, once, ascending
abbrev pub keys : List (List Record) → List Value
keys streams = distinct value_cmp (flat_map (map key_of) streams)

-- what reduce means at each chosen key and its groups, one group for each stream, keys ascending
abbrev pub job : (Value → List (List (List Value)) → List Record) → (Value → Bool) → List (List Record) → List Record
job reduce chosen streams = flat_map (λ key. reduce key (map (λ rows. group rows key) streams)) (filter chosen (keys streams))

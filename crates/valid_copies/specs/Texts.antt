-- The text of each name: that of its value, in the schema of its records.
use Rattle.std.specs.Prelude.{ℕ, List, ◌++◌, Option, map, length, codes, slice_get}
use Rattle.std.specs.List.{filter, flat_map}
use Rattle.std.specs.Option.{option_map}
use Rattle.std.specs.Ordering.{is_gt}
use Rattle.hal_base.specs.declared.value.Value.{Value}
use Rattle.hal_base.specs.declared.record.Record.{Record}
use Rattle.hal_base.specs.declared.fields.Schema.{Schema}
use Rattle.hal_base.specs.declared.shape.Shape.{Shape}
use Rattle.hal_base.specs.declared.shape.Source.{Source}
use Rattle.hal_base.specs.Order.{value_cmp}
use Rattle.hal_base.specs.Shapes.{out_schema, source_at}
use Rattle.hal_base.specs.Sorted.{distinct}
use Rattle.plain_job.specs.Job.{has_key, key_of}
use Rattle.record_blocks.specs.Blocks.{block_text, number_bytes, record_bytes, value_bytes}
use Rattle.partition_shuffle.specs.SpillTexts.{spill_text}
use Rattle.node_names.specs.declared.name.Name.{Name}
use Rattle.node_names.specs.declared.name.Name.TheVariants.{Blk, Spill, Out, Ric, Mic, Roc}
use Rattle.node_names.specs.declared.name.NameKind.{NameKind}
use Rattle.node_names.specs.declared.name.NameKind.TheVariants as kind
use Rattle.node_names.specs.Names.{kind_of}
use Rattle.name_values.specs.Values.{Held, Parts, Rows, World, last, value_of}

-- ---- caches

-- the records with smaller keys
abbrev pub rows_below : Value → List Record → List Record
rows_below key rows = filter (λ row. is_gt (value_cmp key row.key)) rows

-- the line of a key in the index: the key, how many bytes the records before its first take, and how many records it has
abbrev pub index_text : List Record → Value → List ℕ
index_text rows key = value_bytes key ++ (number_bytes (length (flat_map record_bytes (rows_below key rows))) ++ number_bytes (length (filter (has_key key) rows)))

-- the mark of a cache, the number of different keys, the index of each in order, and the block text of records in order
abbrev pub cache_text : Schema → List Record → List ℕ
cache_text schema rows = codes "HLC1" ++ (number_bytes (length (distinct value_cmp (map key_of rows))) ++ (flat_map (index_text rows) (distinct value_cmp (map key_of rows)) ++ block_text schema rows))

-- ---- names

-- the schema of the stream of a source
abbrev pub stream_schema : Shape → ℕ → ℕ → Option Schema
stream_schema shape j s = option_map (λ (source : Source). source.stream) (source_at shape j s)

-- the schema of the records of a name, where the shape has such a table, source or step
abbrev pub schema_of : Shape → Name → Option Schema
schema_of shape (Blk t b) = slice_get shape.tables t
schema_of shape (Spill i j s q) = stream_schema shape j s
schema_of shape (Out i j p) = out_schema shape j
schema_of shape (Ric j s p) = stream_schema shape j s
schema_of shape (Mic t b) = slice_get shape.tables t
schema_of shape (Roc i p) = out_schema shape (last shape)

-- the text of records in a file of this sort
abbrev pub rows_text : NameKind → Schema → List Record → List ℕ
rows_text kind.Blk schema rows = block_text schema rows
rows_text kind.Spill schema rows = block_text schema rows
rows_text kind.Out schema rows = block_text schema rows
rows_text kind.Ric schema rows = cache_text schema rows
rows_text kind.Mic schema rows = block_text schema rows
rows_text kind.Roc schema rows = cache_text schema rows

-- the text of what a file of this sort holds
abbrev pub held_text : NameKind → Held → Schema → List ℕ
held_text kind (Rows rows) schema = rows_text kind schema rows
held_text kind (Parts parts) schema = spill_text schema parts

-- the text of a name, where the shape has such a table, source or step
abbrev pub text_of : World → Name → Option (List ℕ)
text_of w name = option_map (held_text (kind_of name) (value_of w name)) (schema_of w.shape name)

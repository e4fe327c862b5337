-- The schemas of streams and outputs, from step to step in the order of the text.
use Rattle.std.specs.Prelude.{ℕ, nat_le, Bool, true, false, cond, ◌&&◌, List, [], ◌∷◌, length, map, Option, None, Some, Ok, slice_get}
use Rattle.std.specs.List.{list_all}
use Rattle.std.specs.Option.{option_and_then, option_map_or}
use Rattle.hal_base.specs.declared.fields.Schema.{Schema}
use Rattle.hal_base.specs.declared.shape.Origin.{Origin}
use Rattle.hal_base.specs.declared.shape.Origin.TheVariants.{State, Prev, Table}
use Rattle.hal_base.specs.declared.shape.Source.{Source}
use Rattle.hal_base.specs.declared.shape.Step.{Step}
use Rattle.hal_base.specs.declared.value.Kind.{Kind}
use Rattle.hal_base.specs.declared.value.Kind.TheVariants as kind
use Rattle.hal_base.specs.Shapes.{key_kind}
use Rattle.hal_base.specs.Values.{schema_kinds}
use Rattle.function_language.specs.declared.tree.Function.{Function as Written}
use Rattle.function_language.specs.declared.tree.Function.TheVariants.{Map, Reduce, Distance, Partition}
use Rattle.function_language.specs.declared.tree.Param.{Param}
use Rattle.function_language.specs.declared.tree.Stream.{Stream}
use Rattle.type_checker.specs.Kinds.{same_kind}
use Rattle.type_checker.specs.declared.uses.Use.{Use}
use Rattle.type_checker.specs.declared.uses.Use.TheVariants.{Same, Least, Every, Hop, Default, Function}
use Rattle.program_sketch.specs.declared.fault.ProgramFault.{ProgramFault}
use Rattle.program_sketch.specs.declared.fault.ProgramFault.TheVariants.{At}
use Rattle.program_sketch.specs.declared.fault.What.TheVariants.{Limit, SchemaMismatch}
use Rattle.program_sketch.specs.declared.sketch.TableSketch.{TableSketch}
use Rattle.loop_program.specs.declared.places.NamedSource.{NamedSource}
use Rattle.loop_program.specs.declared.places.NamedStep.{NamedStep}
use Rattle.type_checker.specs.Checked.{◌>>=◌, ◌>>◌}
use Rattle.loop_program.specs.Found.{Found, demand, or_wrong}

-- ---- kinds

-- whether two lists of kinds are one
abbrev pub same_kinds : List Kind → List Kind → Bool
same_kinds [] [] = true
same_kinds [] (kind ∷ kinds) = false
same_kinds (kind ∷ kinds) [] = false
same_kinds (a ∷ kinds) (b ∷ others) = same_kind a b && same_kinds kinds others

-- the schema of the records of these kinds, that of the key first; a record has at most 7 fields
abbrev pub schema_of : List Kind → Option Schema
schema_of [] = None
schema_of (key ∷ fields) = cond (nat_le (length fields) 7) (Some (record { key = key; fields = fields })) None

-- whether two schemas are one
abbrev pub same_schema : Schema → Schema → Bool
same_schema a b = same_kind a.key b.key && same_kinds a.fields b.fields

-- no schema fits here
abbrev pub mismatch : ℕ → ProgramFault
mismatch line = At line SchemaMismatch

-- ---- what functions make

-- the kind that a parameter takes
abbrev pub kind_taken : Param → Kind
kind_taken param = param.kind

-- the kinds of the parameters are those of the records of the schema
abbrev pub are_params : List Param → Schema → Bool
are_params params schema = same_kinds (map kind_taken params) (schema_kinds schema)

-- a map takes records whose kinds are those of its parameters
abbrev pub own_map_makes : Written → Schema → Option Schema
own_map_makes (Map name params arrow out body) schema = cond (are_params params schema) (schema_of out.kinds) None
own_map_makes (Reduce name key streams arrow out body) schema = None
own_map_makes (Distance name key before after body) schema = None
own_map_makes (Partition name key body) schema = None

-- the schema of what a map makes of records of this one; nothing where it does not take them
abbrev pub map_makes : List Written → Use → Schema → Option Schema
map_makes functions Same schema = Some schema
map_makes functions Least schema = None
map_makes functions Every schema = None
map_makes functions Hop schema = None
map_makes functions Default schema = None
map_makes functions (Function n) schema = option_and_then (λ function. own_map_makes function schema) (slice_get functions n)

-- a stream, whose key is of this kind, is of this schema
abbrev pub is_stream : Kind → Stream → Schema → Bool
is_stream key stream schema = same_kind key schema.key && same_kinds stream.kinds schema.fields

-- the streams, whose key is of this kind, are those of the sources
abbrev pub are_streams : Kind → List Stream → List Source → Bool
are_streams key [] [] = true
are_streams key [] (source ∷ sources) = false
are_streams key (stream ∷ streams) [] = false
are_streams key (stream ∷ streams) (source ∷ sources) = is_stream key stream source.stream && are_streams key streams sources

-- a reduce of the program's own takes the streams that it names
abbrev pub own_reduce_makes : Written → List Source → Option Schema
own_reduce_makes (Map name params arrow out body) sources = None
own_reduce_makes (Reduce name key streams arrow out body) sources = cond (are_streams key.kind streams sources) (schema_of out.kinds) None
own_reduce_makes (Distance name key before after body) sources = None
own_reduce_makes (Partition name key body) sources = None

-- the one schema of all streams
abbrev pub one_schema : List Source → Option Schema
one_schema [] = None
one_schema (first ∷ others) = cond (list_all (λ (source : Source). same_schema first.stream source.stream) others) (Some first.stream) None

-- from a number for each key, and one field for each key, to a number for each of those fields
abbrev pub hop_from : List Kind → List Kind → Option Schema
hop_from (kind.Int ∷ []) (target ∷ []) = Some (record { key = target; fields = kind.Int ∷ [] })
hop_from distances targets = None

-- of two streams, what hop makes of their fields
abbrev pub hop_makes : List Source → Option Schema
hop_makes (distances ∷ targets ∷ []) = hop_from distances.stream.fields targets.stream.fields
hop_makes sources = None

-- the schema of what a reduce makes of the streams of these sources; nothing where it does not take them
abbrev pub reduce_makes : List Written → Use → List Source → Option Schema
reduce_makes functions Same sources = None
reduce_makes functions Least sources = one_schema sources
reduce_makes functions Every sources = one_schema sources
reduce_makes functions Hop sources = hop_makes sources
reduce_makes functions Default sources = None
reduce_makes functions (Function n) sources = option_and_then (λ function. own_reduce_makes function sources) (slice_get functions n)

-- a partition of the program's own takes keys of the kind of its parameter
abbrev pub own_partition_takes : Written → Kind → Bool
own_partition_takes (Map name params arrow out body) found = false
own_partition_takes (Reduce name key streams arrow out body) found = false
own_partition_takes (Distance name key before after body) found = false
own_partition_takes (Partition name key body) found = same_kind key.kind found

-- a partition takes keys of this kind
abbrev pub partition_takes : List Written → Use → Kind → Bool
partition_takes functions Same found = false
partition_takes functions Least found = false
partition_takes functions Every found = false
partition_takes functions Hop found = false
partition_takes functions Default found = true
partition_takes functions (Function n) found = option_map_or (λ function. own_partition_takes function found) (slice_get functions n) false

-- a distance of the program's own takes groups of both its streams
abbrev pub own_distance_takes : Written → Schema → Bool
own_distance_takes (Map name params arrow out body) schema = false
own_distance_takes (Reduce name key streams arrow out body) schema = false
own_distance_takes (Distance name key before after body) schema = is_stream key.kind before schema && is_stream key.kind after schema
own_distance_takes (Partition name key body) schema = false

-- a distance takes the groups of records of this schema
abbrev pub distance_takes : List Written → Use → Schema → Bool
distance_takes functions Same schema = false
distance_takes functions Least schema = false
distance_takes functions Every schema = false
distance_takes functions Hop schema = false
distance_takes functions Default schema = true
distance_takes functions (Function n) schema = option_map_or (λ function. own_distance_takes function schema) (slice_get functions n) false

-- ---- steps

-- the schema of the records that a source takes: of the state, of the output before, or of a table
abbrev pub schema_read : List Schema → Schema → Schema → Origin → Option Schema
schema_read tables state before State = Some state
schema_read tables state before Prev = Some before
schema_read tables state before (Table n only) = slice_get tables n

-- the key of a stream is of the same kind as the key before, if there is one
abbrev pub suits : Option Kind → Kind → Bool
suits None found = true
suits (Some key) found = same_kind key found

-- a source without caches
abbrev pub source_of : Origin → Schema → Source
source_of from stream = record { from = from; stream = stream; reducer_input = false; mapper_input = false }

-- a source, behind a stream with a key of this kind, if there is one
abbrev pub source_typed : List Written → (Origin → Option Schema) → Option Kind → NamedSource → Found Source
source_typed functions takes key source = do
  schema ← or_wrong (takes source.from) source.map.line SchemaMismatch
  stream ← or_wrong (map_makes functions source.map.what schema) source.map.line SchemaMismatch
  demand (suits key stream.key) source.map.line SchemaMismatch
  Ok (source_of source.from stream)

-- sources, one behind the other
abbrev pub sources_typed : List Written → (Origin → Option Schema) → Option Kind → List NamedSource → Found (List Source)
sources_typed functions takes key [] = Ok []
sources_typed functions takes key (source ∷ sources) = do
  first ← source_typed functions takes key source
  others ← sources_typed functions takes (Some first.stream.key) sources
  Ok (first ∷ others)

-- a step: its sources, its reduce, its partition
abbrev pub step_typed : List Written → (Origin → Option Schema) → NamedStep → Found Step
step_typed functions takes step = do
  sources ← sources_typed functions takes None step.sources
  out ← or_wrong (reduce_makes functions step.reduce.what sources) step.reduce.line SchemaMismatch
  demand (partition_takes functions step.partition.what (key_kind sources)) step.partition.line SchemaMismatch
  Ok (record { sources = sources; out = out })

-- steps, one behind the other
abbrev pub steps_typed : List Written → List Schema → Schema → Schema → List NamedStep → Found (List Step)
steps_typed functions tables state before [] = Ok []
steps_typed functions tables state before (step ∷ steps) = do
  first ← step_typed functions (schema_read tables state before) step
  others ← steps_typed functions tables state first.out steps
  Ok (first ∷ others)

-- what the last step makes; of no step, what stood before
abbrev pub last_schema : Schema → List Step → Schema
last_schema before [] = before
last_schema before (step ∷ steps) = last_schema step.out steps

-- the line of the last step's reduce
abbrev pub last_line : ℕ → List NamedStep → ℕ
last_line line [] = line
last_line line (step ∷ steps) = last_line step.reduce.line steps

-- the schema of a table
abbrev pub table_schema : TableSketch → Found Schema
table_schema table = or_wrong (schema_of table.row.kinds) table.name.line Limit

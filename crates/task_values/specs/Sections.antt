-- What splits, spills and caches give: the streams of a step, part by part, and the parts of its output.
use Rattle.std.specs.Prelude.{◌≡◌, ℕ, ◌<◌, ◌≤◌, Bool, true, false, List, [], ◌∷◌, map}
use Rattle.std.specs.List.{flat_map}
use Rattle.hal_base.specs.declared.record.Record.{Record}
use Rattle.hal_base.specs.Order.{record_cmp}
use Rattle.hal_base.specs.Shapes.{source_at}
use Rattle.hal_base.specs.Sorted.{sorted}
use Rattle.plain_job.specs.Chain.{source_list, stream_of, together}
use Rattle.plain_job.specs.Job.{job}
use Rattle.plain_job.specs.Sections.{section, source_section}
use Rattle.node_names.specs.declared.name.Name.TheVariants.{Spill}
use Rattle.name_values.specs.Values.{Rows, World, cached_of, list_of, out_of, split_at, value_of}
use Rattle.run_model.specs.Tasks.{count_in, is_cached, last, source_numbers, spills, split, splits}
use Rattle.task_values.specs.Worlds.{HasBlocks, WorldFits}

-- ---- splits

-- the records of split q of source s of step j in round i
abbrev pub split_rows : World → ℕ → ℕ → ℕ → ℕ → List Record
split_rows w i j s q = split_at w i j (source_at w.shape j s) q

-- a split is the value of its file
abbrev pub SplitsAreTheirFiles : Type 0
SplitsAreTheirFiles = (w : World) (i j s q : ℕ) → q < count_in w.shape i (source_at w.shape j s) → map (value_of w) (split w.shape i j s q) ≡ Rows (split_rows w i j s q) ∷ []

-- the splits of a source, one after another, are what it reads
abbrev pub SplitsMakeTheSource : Type 0
SplitsMakeTheSource = (w : World) → HasBlocks w → (i j s : ℕ) → 1 ≤ i → together (map (split_rows w i j s) (splits w.shape i j s)) ≡ source_list w.means w.shape w.tables i j s

-- ---- spills

-- section p of a spill is that of what the map emits for its split
abbrev pub SpillsHaveSections : Type 0
SpillsHaveSections = (w : World) (i j s q p : ℕ) → p < w.shape.parts → list_of p (value_of w (Spill i j s q)) ≡ source_section w.means i j s p (split_rows w i j s q)

-- section p of all spills of source s of step j in round i, made one
abbrev pub merged : World → ℕ → ℕ → ℕ → ℕ → List Record
merged w i j s p = sorted record_cmp (flat_map (λ name. list_of p (value_of w name)) (spills w.shape i j s))

-- section p of the stream of source s of step j in round i
abbrev pub stream_section : World → ℕ → ℕ → ℕ → ℕ → List Record
stream_section w i j s p = section w.means i j p (stream_of w.means w.shape w.tables i j s)

-- the sections of the spills of a source, made one, are the section of its stream
abbrev pub SpillsMakeTheSection : Type 0
SpillsMakeTheSection = (w : World) → HasBlocks w → (i j s p : ℕ) → 1 ≤ i → p < w.shape.parts → merged w i j s p ≡ stream_section w i j s p

-- a part of a step that the shape has, in some round
pub record IsPart (w : World) (i j p : ℕ) : Type 0 where
  pub round : 1 ≤ i
  pub first : 1 ≤ j
  pub last_step : j ≤ last w.shape
  pub part : p < w.shape.parts

-- the job over what the spills of the round give is the part of the output
abbrev pub SpillsMakeTheOutput : Type 0
SpillsMakeTheOutput = (w : World) → HasBlocks w → (i j p : ℕ) → IsPart w i j p → job (w.means.reduce i j) (λ _. true) (map (λ s. merged w i j s p) (source_numbers w.shape j)) ≡ out_of w i j p

-- ---- caches

-- of a source with the reducer input cache the spills of round 1 make its cache, which is the section of its stream in each round
pub record CacheServes (w : World) (i j s p : ℕ) : Type 0 where
  pub made : merged w 1 j s p ≡ cached_of w j s p
  pub serves : cached_of w j s p ≡ stream_section w i j s p

-- the caches serve in each round
abbrev pub CachesServe : Type 0
CachesServe = (w : World) → WorldFits w → (i j s p : ℕ) → p < w.shape.parts → is_cached (source_at w.shape j s) ≡ true → CacheServes w i j s p

-- what a reduce takes of source s: its cache, or else what the spills of the round give
abbrev pub taken_of : World → ℕ → ℕ → ℕ → ℕ → Bool → List Record
taken_of w i j p s true = cached_of w j s p
taken_of w i j p s false = merged w i j s p

-- the job over the caches of the sources that have them, and over what the spills of the others give, is the part of the output
abbrev pub CachesMakeTheOutput : Type 0
CachesMakeTheOutput = (w : World) → WorldFits w → (i j p : ℕ) → IsPart w i j p → job (w.means.reduce i j) (λ _. true) (map (λ s. taken_of w i j p s (is_cached (source_at w.shape j s))) (source_numbers w.shape j)) ≡ out_of w i j p

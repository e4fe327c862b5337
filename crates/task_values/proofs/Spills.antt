-- Spills, caches, and sections of them.
use Rattle.std.proofs.Common.{◌≡◌, ℕ, zero, suc, ◌+◌, ◌<◌, ◌≤◌, true, false, List, [], ◌∷◌, ◌++◌, refl, sym, ap, ◌∙◌, map, length, arith, Option, None, Some}
use Rattle.std.specs.List.{flat_map, range_with_len}
use Rattle.hal_base.specs.declared.record.Record.{Record}
use Rattle.hal_base.specs.declared.shape.Origin.{Origin}
use Rattle.hal_base.specs.declared.shape.Origin.TheVariants.{State, Prev, Table}
use Rattle.hal_base.specs.declared.shape.Source.{Source}
use Rattle.hal_base.specs.declared.shape.Step.{Step}
use Rattle.hal_base.specs.Order.{record_cmp}
use Rattle.hal_base.specs.Shapes.{IsFixed, MayBeKept, source_at, step_at}
use Rattle.hal_base.specs.Sorted.{sorted}
use Rattle.plain_job.specs.Chain.{numbers_from, rows_read, source_list, source_rows, state_of, stream_of, together, parts_of}
use Rattle.plain_job.specs.Job.{job}
use Rattle.plain_job.specs.Sections.{section, source_section}
use Rattle.plain_job.proofs.ByNumbers.{out_is}
use Rattle.plain_job.proofs.Numbers.{at_number, map_below, map_twice}
use Rattle.plain_job.proofs.Schemas.{item_there}
use Rattle.plain_job.proofs.Sections.{sections_make_the_part, sections_serve_each_round, splits_make_the_section}
use Rattle.node_names.specs.declared.name.Name.{Name}
use Rattle.node_names.specs.declared.name.Name.TheVariants.{Spill}
use Rattle.name_values.specs.Values.{World, cached_of, list_of, out_of, value_of}
use Rattle.run_model.specs.Tasks.{is_cached, last, source_count, source_numbers, splits}
use Rattle.task_values.specs.Sections.{CachesMakeTheOutput, CachesServe, IsPart, SpillsHaveSections, SpillsMakeTheOutput, SpillsMakeTheSection, merged, split_rows, stream_section, taken_of}
use Rattle.task_values.specs.Worlds.{WorldFits}
use Rattle.task_values.proofs.Numbers.{range_is}
use Rattle.task_values.proofs.Splits.{splits_make}

-- ---- spills

pub spills_have : SpillsHaveSections
spills_have w i j s q p l =
    let f : ℕ → List Record = λ p. source_section w.means i j s p (split_rows w i j s q) in
    at_number f 0 w.shape.parts p l ∙ (let e : 0 + p ≡ p = omega arith in ap f e)

-- lists by number, one after another
pub by_number : (list : Name → List Record) (name : ℕ → Name) (f : ℕ → List Record) → ((q : ℕ) → list (name q) ≡ f q) → (qs : List ℕ) → flat_map list (map name qs) ≡ together (map f qs)
by_number list name f e [] = refl
by_number list name f e (q ∷ qs) = ap (λ xs. xs ++ flat_map list (map name qs)) (e q) ∙ ap (λ xs. f q ++ xs) (by_number list name f e qs)

pub spills_make_section : SpillsMakeTheSection
spills_make_section w h i j s p l b =
    let qs : List ℕ = splits w.shape i j s in
    let of_split : List Record → List Record = source_section w.means i j s p in
    ap (sorted record_cmp) (by_number (λ name. list_of p (value_of w name)) (Spill i j s) (λ q. of_split (split_rows w i j s q)) (λ q. spills_have w i j s q p b) qs ∙ ap together (sym (map_twice of_split (split_rows w i j s) qs)))
    ∙ splits_make_the_section w.means i j s p (map (split_rows w i j s) qs)
    ∙ ap of_split (splits_make w h i j s l)

-- ---- reduces

pub step_there : (w : World) (j : ℕ) → 1 ≤ j → j ≤ last w.shape → (step : Step) × (step_at w.shape j ≡ Some step)
step_there w zero l h = absurd (omega arith)
step_there w (suc k) l h = item_there w.shape.steps k (omega arith)

-- the job over the section of each stream is the part of the output
pub sections_make : (w : World) (i j p : ℕ) → IsPart w i j p → (f : ℕ → List Record) → ((s : ℕ) → 1 ≤ s → s < 1 + source_count (step_at w.shape j) → f s ≡ stream_section w i j s p) → job (w.means.reduce i j) (λ _. true) (map f (source_numbers w.shape j)) ≡ out_of w i j p
sections_make w i j p h f e =
    let there = step_there w j h.first h.last_step in
    let step : Step = there.0 in
    let count : source_count (step_at w.shape j) ≡ length step.sources = ap source_count there.1 in
    let all : List ℕ = numbers_from 1 (length step.sources) in
    let streams : ℕ → List Record = stream_of w.means w.shape w.tables i j in
    let same : (s : ℕ) → 1 ≤ s → s < 1 + length step.sources → f s ≡ section w.means i j p (streams s) = λ s o l. e s o (omega (arith, count)) in
    ap (λ n. job (w.means.reduce i j) (λ _. true) (map f (range_with_len 1 n))) count
    ∙ ap (λ ns. job (w.means.reduce i j) (λ _. true) (map f ns)) (range_is 1 (length step.sources))
    ∙ ap (job (w.means.reduce i j) (λ _. true)) (map_below f (λ s. section w.means i j p (streams s)) 1 (length step.sources) same ∙ sym (map_twice (section w.means i j p) streams all))
    ∙ sections_make_the_part w.means i j p (map streams all)
    ∙ sym (out_is w.means w.shape w.tables i j p step there.1 h.part)

pub spills_make_output : SpillsMakeTheOutput
spills_make_output w h i j p part = sections_make w i j p part (λ s. merged w i j s p) (λ s _ _. spills_make_section w h i j s p part.round part.part)

-- ---- caches

-- a source that is there, with the reducer input cache
has_cache : (o : Option Source) → is_cached o ≡ true → (source : Source) × (o ≡ Some source) × (source.reducer_input ≡ true)
has_cache None c = let never : ⊥ = cc in absurd never
has_cache (Some source) c = (source, refl, c)

-- a table that is read in every round is read in this one as in the first
fixed_rows : (tables : List (List Record)) (i : ℕ) (state state' before before' : List Record) (from : Origin) → IsFixed from → source_rows tables 1 state before from ≡ source_rows tables i state' before' from
fixed_rows tables i state state' before before' State h = absurd h
fixed_rows tables i state state' before before' Prev h = absurd h
fixed_rows tables i state state' before before' (Table t None) h = refl
fixed_rows tables i state state' before before' (Table t (Some only)) h = absurd h

fixed_list : (w : World) (i j s : ℕ) (source : Source) → source_at w.shape j s ≡ Some source → IsFixed source.from → source_list w.means w.shape w.tables 1 j s ≡ source_list w.means w.shape w.tables i j s
fixed_list w i zero s source e h = refl
fixed_list w i (suc k) s source e h =
    let rows : ℕ → Origin → List Record = λ n. source_rows w.tables n (state_of w.means w.shape w.tables n) (together (parts_of w.means w.shape w.tables n k)) in
    ap (rows_read (rows 1)) e
    ∙ fixed_rows w.tables i (state_of w.means w.shape w.tables 1) (state_of w.means w.shape w.tables i) (together (parts_of w.means w.shape w.tables 1 k)) (together (parts_of w.means w.shape w.tables i k)) source.from h
    ∙ ap (rows_read (rows i)) (sym e)

pub serves : (w : World) → WorldFits w → (i j s p : ℕ) → is_cached (source_at w.shape j s) ≡ true → cached_of w j s p ≡ stream_section w i j s p
serves w f i j s p c =
    let found = has_cache (source_at w.shape j s) c in
    let kept : MayBeKept found.0.from (w.means.map_uses_round j s) (w.means.partition_uses_round j) = f.functions.reducer_input j s found.0 found.1 found.2 in
    ap (source_section w.means 1 j s p) (fixed_list w i j s found.0 found.1 kept.fixed)
    ∙ sections_serve_each_round w.means f.rounds 1 i j s p (source_list w.means w.shape w.tables i j s) kept.map kept.partition

pub caches_serve : CachesServe
caches_serve w f i j s p b c = record { made = spills_make_section w f.blocks 1 j s p (omega arith) b; serves = serves w f i j s p c }

taken_is : (w : World) → WorldFits w → (i j p : ℕ) → IsPart w i j p → (s : ℕ) → taken_of w i j p s (is_cached (source_at w.shape j s)) ≡ stream_section w i j s p
taken_is w f i j p part s =
    elim (is_cached (source_at w.shape j s)) as (λ c. is_cached (source_at w.shape j s) ≡ c → taken_of w i j p s c ≡ stream_section w i j s p) [
      | true ↦ λ e. serves w f i j s p e
      | false ↦ λ e. spills_make_section w f.blocks i j s p part.round part.part
    ] refl

pub caches_make_output : CachesMakeTheOutput
caches_make_output w f i j p part = sections_make w i j p part (λ s. taken_of w i j p s (is_cached (source_at w.shape j s))) (λ s _ _. taken_is w f i j p part s)

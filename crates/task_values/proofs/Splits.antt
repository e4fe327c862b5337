-- Splits of sources.
use Rattle.std.proofs.Common.{◌≡◌, ℕ, zero, suc, ◌-◌, ◌<◌, ◌≤◌, ◌==◌, true, false, List, [], ◌∷◌, refl, sym, ap, ◌∙◌, map, length, arith, Option, None, Some}
use Rattle.std.proofs.lemmas.Bool.{eqb-true}
use Rattle.std.proofs.lemmas.List.{append-nil}
use Rattle.std.specs.List.{slice_index}
use Rattle.std.specs.Prelude.{if◌then◌else◌}
use Rattle.hal_base.specs.declared.record.Record.{Record}
use Rattle.hal_base.specs.declared.shape.Origin.{Origin}
use Rattle.hal_base.specs.declared.shape.Origin.TheVariants.{State, Prev, Table}
use Rattle.hal_base.specs.declared.shape.Shape.{Shape}
use Rattle.hal_base.specs.declared.shape.Source.{Source}
use Rattle.hal_base.specs.Meaning.{Meaning}
use Rattle.hal_base.specs.Shapes.{source_at, step_at}
use Rattle.plain_job.specs.Chain.{part_out, parts_by, parts_from, parts_of, rows_read, source_rows, state_of, streams, table_at, together}
use Rattle.plain_job.proofs.Numbers.{all_together, length_numbers}
use Rattle.node_names.specs.declared.name.Name.TheVariants.{Blk, Out}
use Rattle.name_values.specs.Values.{Rows, World, block_of, out_of, split_at, split_of, value_of}
use Rattle.run_model.specs.Lists.{below}
use Rattle.run_model.specs.Tasks as tasks
use Rattle.run_model.specs.Tasks.{count_in, last, split_count}
use Rattle.task_values.specs.Sections.{SplitsAreTheirFiles, SplitsMakeTheSource}
use Rattle.task_values.specs.Worlds.{HasBlocks}
use Rattle.task_values.proofs.Numbers.{blocks_make, range_is}

few_parts : (m : Meaning) (shape : Shape) (tables : List (List Record)) (i k : ℕ) (state : List Record) → length (parts_from m shape tables i state k) ≤ shape.parts
few_parts m shape tables i zero state = omega arith
few_parts m shape tables i (suc k) state =
    let before : List Record = together (parts_from m shape tables i state k) in
    elim (step_at shape (suc k)) as (λ o. length (parts_by m shape tables i (suc k) state before o) ≤ shape.parts) [
      | None ↦ omega arith
      | Some step ↦ omega (arith, length_numbers (part_out m i (suc k) (streams m i (suc k) (source_rows tables i state before) 1 step.sources)) 0 shape.parts)
    ]

-- the parts of an output, one after another
pub parts_all : (w : World) (i j : ℕ) → together (map (out_of w i j) (below w.shape.parts)) ≡ together (parts_of w.means w.shape w.tables i j)
parts_all w i j =
    ap (λ ps. together (map (out_of w i j) ps)) (range_is 0 w.shape.parts)
    ∙ all_together (parts_of w.means w.shape w.tables i j) w.shape.parts (few_parts w.means w.shape w.tables i j (state_of w.means w.shape w.tables i))

-- a round begins with what the last step left in the round before
pub before_is : (m : Meaning) (shape : Shape) (tables : List (List Record)) (i : ℕ) → 2 ≤ i → together (parts_of m shape tables (i - 1) (last shape)) ≡ state_of m shape tables i
before_is m shape tables zero l = absurd (omega arith)
before_is m shape tables (suc zero) l = absurd (omega arith)
before_is m shape tables (suc (suc n)) l = let e : suc (suc n) - 1 ≡ suc n = omega arith in ap (λ k. together (parts_of m shape tables k (last shape))) e

later : (i : ℕ) → 1 ≤ i → (i == 1) ≡ false → 2 ≤ i
later zero l e = absurd (omega arith)
later (suc zero) l e = let no : true ≡ false = e in let never : ⊥ = cc in absurd never
later (suc (suc i)) l e = omega arith

module _ (w : World) where
  -- ---- a split and its file

  pub origin_file : (i j : ℕ) (from : Origin) (q : ℕ) → q < split_count w.shape i from → value_of w (tasks.split_of w.shape i j from q) ≡ Rows (split_of w i j from q)
  origin_file i j State q l =
      elim (i == 1) as (λ b. value_of w (if b then Blk w.shape.start q else Out (i - 1) (last w.shape) q) ≡ Rows (if b then block_of w w.shape.start q else out_of w (i - 1) (length w.shape.steps) q)) [ true ↦ refl | false ↦ refl ]
  origin_file i j Prev q l = refl
  origin_file i j (Table t None) q l = refl
  origin_file i j (Table t (Some only)) q l =
      elim (i == only) as (λ b. q < (if b then slice_index w.shape.blocks t else 0) → Rows (block_of w t q) ≡ Rows (if b then block_of w t q else [])) [ true ↦ λ l. refl | false ↦ λ l. absurd (omega arith) ] l

  pub file_at : (i j : ℕ) (o : Option Source) (q : ℕ) → q < count_in w.shape i o → map (value_of w) (tasks.split_in w.shape i j o q) ≡ Rows (split_at w i j o q) ∷ []
  file_at i j None q l = absurd (omega arith)
  file_at i j (Some source) q l = ap (λ held. held ∷ []) (origin_file i j source.from q l)

  -- ---- all splits of a source

  blocks_of : HasBlocks w → (t : ℕ) → together (map (block_of w t) (below (slice_index w.shape.blocks t))) ≡ table_at w.tables t
  blocks_of h t = blocks_make w.block (table_at w.tables t) (slice_index w.shape.blocks t) (h t)

  state_made : HasBlocks w → (i j : ℕ) → 1 ≤ i → together (map (split_of w i j State) (below (split_count w.shape i State))) ≡ state_of w.means w.shape w.tables i
  state_made h i j l =
      elim (i == 1) as (λ b. (i == 1) ≡ b → together (map (λ q. if b then block_of w w.shape.start q else out_of w (i - 1) (length w.shape.steps) q) (below (if b then slice_index w.shape.blocks w.shape.start else w.shape.parts))) ≡ state_of w.means w.shape w.tables i) [
        | true ↦ λ e. let one : 1 ≡ i = sym (eqb-true i 1 e) in blocks_of h w.shape.start ∙ sym (append-nil (table_at w.tables w.shape.start)) ∙ ap (state_of w.means w.shape w.tables) one
        | false ↦ λ e. parts_all w (i - 1) (last w.shape) ∙ before_is w.means w.shape w.tables i (later i l e)
      ] refl

  origin_made : HasBlocks w → (i k : ℕ) → 1 ≤ i → (from : Origin) → together (map (split_of w i (suc k) from) (below (split_count w.shape i from))) ≡ source_rows w.tables i (state_of w.means w.shape w.tables i) (together (parts_of w.means w.shape w.tables i k)) from
  origin_made h i k l State = state_made h i (suc k) l
  origin_made h i k l Prev = let e : suc k - 1 ≡ k = omega arith in parts_all w i (suc k - 1) ∙ ap (λ n. together (parts_of w.means w.shape w.tables i n)) e
  origin_made h i k l (Table t None) = blocks_of h t
  origin_made h i k l (Table t (Some only)) =
      elim (i == only) as (λ b. together (map (λ q. if b then block_of w t q else []) (below (if b then slice_index w.shape.blocks t else 0))) ≡ (if b then table_at w.tables t else [])) [
        | true ↦ blocks_of h t
        | false ↦ refl
      ]

  source_made : HasBlocks w → (i k : ℕ) → 1 ≤ i → (o : Option Source) → together (map (split_at w i (suc k) o) (below (count_in w.shape i o))) ≡ rows_read (source_rows w.tables i (state_of w.means w.shape w.tables i) (together (parts_of w.means w.shape w.tables i k))) o
  source_made h i k l None = refl
  source_made h i k l (Some source) = origin_made h i k l source.from

pub files_are : SplitsAreTheirFiles
files_are w i j s q l = file_at w i j (source_at w.shape j s) q l

pub splits_make : SplitsMakeTheSource
splits_make w h i zero s l = refl
splits_make w h i (suc k) s l = source_made w h i k l (source_at w.shape (suc k) s)

-- What a map makes of its split.
use Rattle.std.proofs.Common.{◌≡◌, ◌⊎◌, inl, inr, ℕ, ◌<◌, Bool, true, false, List, [], ◌++◌, sym, ap, ◌∙◌, subst, arith, Option, None, Some}
use Rattle.std.proofs.lemmas.List.{append-nil}
use Rattle.std.specs.List.{flat_map}
use Rattle.std.specs.Prelude.{if◌then◌else◌, nat_lt}
use Rattle.hal_base.specs.declared.shape.Origin.{Origin}
use Rattle.hal_base.specs.declared.shape.Origin.TheVariants.{State, Prev, Table}
use Rattle.hal_base.specs.declared.shape.Source.{Source}
use Rattle.hal_base.specs.Shapes.{source_at}
use Rattle.sorted_parts.specs.Spills.{spilled}
use Rattle.node_names.specs.declared.name.Name.{Name}
use Rattle.node_names.specs.declared.task.Task.{Task}
use Rattle.node_names.specs.declared.task.Task.TheVariants.{Map}
use Rattle.name_values.specs.Values.{Parts, Rows, World, block_of, list_of, split_at, split_of, value_of}
use Rattle.run_model.specs.Attempts.{block_kept, made_by}
use Rattle.run_model.specs.Lists.{IsIn}
use Rattle.run_model.specs.Needs.{inputs}
use Rattle.run_model.specs.Sites.{kept_block, kept_split}
use Rattle.run_model.specs.Tasks as tasks
use Rattle.run_model.specs.Tasks.{count_in, split}
use Rattle.task_values.specs.Attempts.{names_of}
use Rattle.task_values.specs.Reads.{Answer, AreOfValues, all_lists, computed}
use Rattle.task_values.proofs.Answering.{files_same, list_in, lists_are}
use Rattle.task_values.proofs.Reading.{InputsRead}
use Rattle.task_values.proofs.Splits.{origin_file}

module _ (w : World) (i j s q : ℕ) where
  abbrev map_task : Task
  map_task = Map i j s q

  -- what is computed for a name is its value
  abbrev Right : List Answer → Name → Type 0
  Right answers name = computed w.means w.shape map_task answers name ≡ value_of w name

  split_lists : (o : Option Source) → q < count_in w.shape i o → flat_map (list_in w 0) (tasks.split_in w.shape i j o q) ≡ split_at w i j o q
  split_lists None l = absurd (omega arith)
  split_lists (Some source) l = ap (λ held. list_of 0 held ++ []) (origin_file w i j source.from q l) ∙ append-nil (split_of w i j source.from q)

  map_reads : (answers : List Answer) (names unread : List Name) → AreOfValues w 0 answers → names_of answers ≡ names → InputsRead (inputs w.shape map_task) names unread → all_lists answers ≡ flat_map (list_in w 0) (split w.shape i j s q)
  map_reads answers names unread a e h =
      let now : names ≡ h.now = h.names_are ∙ ap (λ xs. h.now ++ xs) h.more.0 ∙ append-nil h.now in
      lists_are w 0 answers names a e
      ∙ ap (flat_map (list_in w 0)) now
      ∙ elim h.this [
        | inl l ↦ absurd l
        | inr k ↦ files_same w 0 (split w.shape i j s q) h.now k.0
      ]

  kept_from : (answers : List Answer) (from : Origin) (has : Bool) (name : Name) → all_lists answers ≡ list_in w 0 (tasks.split_of w.shape i j from q) ++ [] → IsIn name (kept_block from has q) → Right answers name
  kept_from answers State has name e h = absurd h
  kept_from answers Prev has name e h = absurd h
  kept_from answers (Table t only) false name e h = absurd h
  kept_from answers (Table t only) true name e h =
      elim h [
        | inl same ↦ subst (Right answers) (sym same) (ap Rows (e ∙ append-nil (block_of w t q)))
        | inr l ↦ absurd l
      ]

  kept_in : (answers : List Answer) (o : Option Source) (name : Name) → all_lists answers ≡ flat_map (list_in w 0) (tasks.split_in w.shape i j o q) → IsIn name (kept_split o q) → Right answers name
  kept_in answers None name e h = absurd h
  kept_in answers (Some source) name e h = kept_from answers source.from source.mapper_input name e h

  pub map_right : q < count_in w.shape i (source_at w.shape j s) → (answers : List Answer) (names unread : List Name) (remote : ℕ) (name : Name) → AreOfValues w 0 answers → names_of answers ≡ names → InputsRead (inputs w.shape map_task) names unread → IsIn name (made_by map_task) ⊎ IsIn name (block_kept w.shape map_task remote) → Right answers name
  map_right l answers names unread remote name a e h k =
      let lists : all_lists answers ≡ flat_map (list_in w 0) (split w.shape i j s q) = map_reads answers names unread a e h in
      elim k [
        | inl m ↦ elim m [
          | inl same ↦ subst (Right answers) (sym same) (ap (λ rows. Parts (spilled w.means i j s rows w.shape.parts)) (lists ∙ split_lists (source_at w.shape j s) l))
          | inr never ↦ absurd never
        ]
        | inr m ↦
            elim (nat_lt 0 remote) as (λ b. IsIn name (if b then kept_split (source_at w.shape j s) q else []) → Right answers name) [
              | true ↦ λ m. kept_in answers (source_at w.shape j s) name lists m
              | false ↦ λ m. absurd m
            ] m
      ]

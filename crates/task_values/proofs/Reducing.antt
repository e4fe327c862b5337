-- What a reduce makes of what it read for each source.
use Rattle.std.proofs.Common.{◌≡◌, ◌⊎◌, inl, inr, ℕ, zero, suc, ◌+◌, ◌<◌, ◌≤◌, ◌==◌, Bool, true, false, ◌&&◌, List, [], ◌∷◌, ◌++◌, refl, sym, ap, ◌∙◌, subst, map, arith}
use Rattle.std.specs.Prelude.{if◌then◌else◌}
use Rattle.std.specs.List.{AllByRecursion, filter, flat_map, range_with_len}
use Rattle.std.proofs.lemmas.Bool.{eq-eqb, eqb-true, ne_eqb}
use Rattle.std.proofs.lemmas.List.{append-nil}
use Rattle.std.proofs.lemmas.List.Elements.{filter-append}
use Rattle.hal_base.specs.declared.record.Record.{Record}
use Rattle.hal_base.specs.declared.shape.Shape.{Shape}
use Rattle.hal_base.specs.Laws.{record_cmp_total}
use Rattle.hal_base.specs.Order.{record_cmp}
use Rattle.hal_base.specs.Shapes.{source_at, step_at}
use Rattle.hal_base.specs.Sorted.{sorted}
use Rattle.hal_base.proofs.Sorts.{ascending_sorted}
use Rattle.hal_base.proofs.Strict.{sorted_same}
use Rattle.plain_job.specs.Chain.{stream_of}
use Rattle.plain_job.specs.Job.{job}
use Rattle.plain_job.specs.Laws.{part as chosen_part}
use Rattle.plain_job.proofs.Keeps.{keeps}
use Rattle.plain_job.proofs.Lists.{all_both, all_weaker}
use Rattle.plain_job.proofs.Numbers.{map_twice}
use Rattle.node_names.specs.declared.name.Name.{Name}
use Rattle.node_names.specs.declared.name.Name.TheVariants.{Ric, Roc, Spill}
use Rattle.node_names.specs.declared.task.Task.{Task}
use Rattle.node_names.specs.declared.task.Task.TheVariants.{Reduce}
use Rattle.name_values.specs.Values.{Rows, World, cached_of, out_of, value_of}
use Rattle.run_model.specs.Attempts.{made_by, output_kept}
use Rattle.run_model.specs.Lists.{IsIn}
use Rattle.run_model.specs.Needs.{Input, inputs, reduce_input}
use Rattle.run_model.specs.Tasks.{is_cached, last, source_count, source_numbers, spills, splits}
use Rattle.task_values.specs.Attempts.{names_of}
use Rattle.task_values.specs.Reads.{Answer, AreOfValues, all_lists, computed, of_source, reduced, source_in}
use Rattle.task_values.specs.Sections.{IsPart, merged, stream_section}
use Rattle.task_values.specs.Worlds.{WorldFits}
use Rattle.task_values.proofs.Answering.{all_kept, files_same, list_in, lists_by, none_kept}
use Rattle.task_values.proofs.Reading.{FilesRead, InputRead, InputsRead, in_either}
use Rattle.task_values.proofs.Spills.{sections_make, serves, spills_make_section}

abbrev IsOf : ℕ → Name → Type 0
IsOf s name = source_in name ≡ s

abbrev IsPast : ℕ → Name → Type 0
IsPast s name = s ≤ source_in name

spills_of : (i j s : ℕ) (qs : List ℕ) (names : List Name) → FilesRead (map (Spill i j s) qs) names → AllByRecursion (IsOf s) names
spills_of i j s [] [] h = tt
spills_of i j s [] (name ∷ names) h = absurd h
spills_of i j s (q ∷ qs) [] h = absurd h
spills_of i j s (q ∷ qs) (name ∷ names) h = (elim h.0 [ inl e ↦ ap source_in e | inr l ↦ absurd l ], spills_of i j s qs names h.1)

past : (a s : ℕ) → a ≤ s → (a ≡ s → ⊥) → a + 1 ≤ s
past a s l other = omega arith

module _ (shape : Shape) (i j p : ℕ) where
  abbrev pub input_of : ℕ → Input
  input_of s = reduce_input shape i j p s (is_cached (source_at shape j s))

  input_is : (s : ℕ) (names unread : List Name) → InputRead (input_of s) names unread → AllByRecursion (IsOf s) names
  input_is s names unread h =
      elim (is_cached (source_at shape j s)) as (λ b. InputRead (reduce_input shape i j p s b) names unread → AllByRecursion (IsOf s) names) [
        | true ↦ λ k. elim k [ inl l ↦ subst (AllByRecursion (IsOf s)) (sym l.0) (refl, tt) | inr l ↦ spills_of 1 j s (splits shape 1 j s) names l.0 ]
        | false ↦ λ k. elim k [ inl l ↦ absurd l | inr l ↦ spills_of i j s (splits shape i j s) names l.0 ]
      ] h

  from_source : (a n : ℕ) (names unread : List Name) → InputsRead (map input_of (range_with_len a n)) names unread → AllByRecursion (IsPast a) names
  from_source a zero names unread h = subst (AllByRecursion (IsPast a)) (sym h.0) tt
  from_source a (suc n) names unread h =
      subst (AllByRecursion (IsPast a)) (sym h.names_are)
      (all_both (IsPast a) h.now h.later (all_weaker (IsOf a) (IsPast a) h.now (λ name e. omega arith) (input_is a h.now h.unread_now h.this)) (all_weaker (IsPast (a + 1)) (IsPast a) h.later (λ name e. omega arith) (from_source (a + 1) n h.later h.unread_later h.more)))

  abbrev is_of : ℕ → Name → Bool
  is_of s name = source_in name == s

  -- what was read for one source, among what was read for all
  pub read_for : (s a n : ℕ) (names unread : List Name) → InputsRead (map input_of (range_with_len a n)) names unread → a ≤ s → s < a + n → (u : List Name) × InputRead (input_of s) (filter (is_of s) names) u
  read_for s a zero names unread h l k = absurd (omega arith)
  read_for s a (suc n) names unread h l k =
      let split : filter (is_of s) names ≡ filter (is_of s) h.now ++ filter (is_of s) h.later = ap (filter (is_of s)) h.names_are ∙ filter-append (is_of s) h.now h.later in
      elim (a == s) as (λ b. (a == s) ≡ b → (u : List Name) × InputRead (input_of s) (filter (is_of s) names) u) [
        | true ↦ λ e.
            let same : a ≡ s = eqb-true a s e in
            let now : filter (is_of s) h.now ≡ h.now = all_kept (is_of s) h.now (all_weaker (IsOf a) (λ name. is_of s name ≡ true) h.now (λ name f. eq-eqb (source_in name) s (f ∙ same)) (input_is a h.now h.unread_now h.this)) in
            let later : filter (is_of s) h.later ≡ [] = none_kept (is_of s) h.later (all_weaker (IsPast (a + 1)) (λ name. is_of s name ≡ false) h.later (λ name f. ne_eqb (source_in name) s (λ g. absurd (omega arith))) (from_source (a + 1) n h.later h.unread_later h.more)) in
            let all : filter (is_of s) names ≡ h.now = split ∙ ap (λ xs. xs ++ filter (is_of s) h.later) now ∙ ap (λ xs. h.now ++ xs) later ∙ append-nil h.now in
            (h.unread_now, subst (λ xs. InputRead (input_of s) xs h.unread_now) (sym all) (subst (λ k. InputRead (input_of k) h.now h.unread_now) same h.this))
        | false ↦ λ e.
            let other : a ≡ s → ⊥ = λ f. (let g = eq-eqb a s f in let no : ⊥ = cc in no) in
            let now : filter (is_of s) h.now ≡ [] = none_kept (is_of s) h.now (all_weaker (IsOf a) (λ name. is_of s name ≡ false) h.now (λ name f. ne_eqb (source_in name) s (λ g. other (sym f ∙ g))) (input_is a h.now h.unread_now h.this)) in
            let rest = read_for s (a + 1) n h.later h.unread_later h.more (past a s l other) (omega arith) in
            let all : filter (is_of s) names ≡ filter (is_of s) h.later = split ∙ ap (λ xs. xs ++ filter (is_of s) h.later) now in
            (rest.0, subst (λ xs. InputRead (input_of s) xs rest.0) (sym all) rest.1)
      ] refl

  -- a cache that was not read is that of a cached source
  abbrev pub IsUnread : ℕ → ℕ → Name → Type 0
  IsUnread a n name = (s : ℕ) × (a ≤ s) × (s < a + n) × (is_cached (source_at shape j s) ≡ true) × (name ≡ Ric j s p)

  unread_here : (s : ℕ) (names unread : List Name) (name : Name) → InputRead (input_of s) names unread → IsIn name unread → (is_cached (source_at shape j s) ≡ true) × (name ≡ Ric j s p)
  unread_here s names unread name h k =
      elim (is_cached (source_at shape j s)) as (λ b. is_cached (source_at shape j s) ≡ b → InputRead (reduce_input shape i j p s b) names unread → (is_cached (source_at shape j s) ≡ true) × (name ≡ Ric j s p)) [
        | true ↦ λ e g. elim g [
          | inl l ↦ absurd (subst (IsIn name) l.1 k)
          | inr l ↦ let only : IsIn name (Ric j s p ∷ []) = subst (IsIn name) l.1 k in elim only [ inl same ↦ (e, same) | inr never ↦ absurd never ]
        ]
        | false ↦ λ e g. elim g [ inl l ↦ absurd l | inr l ↦ absurd (subst (IsIn name) l.1 k) ]
      ] refl h

  pub unread_is : (a n : ℕ) (names unread : List Name) (name : Name) → InputsRead (map input_of (range_with_len a n)) names unread → IsIn name unread → IsUnread a n name
  unread_is a zero names unread name h k = absurd (subst (IsIn name) h.1 k)
  unread_is a (suc n) names unread name h k =
      elim (in_either name h.unread_now h.unread_later (subst (IsIn name) h.unread_are k)) [
        | inl l ↦ let here = unread_here a h.now h.unread_now name h.this l in (a, omega arith, omega arith, here.0, here.1)
        | inr l ↦ let rest = unread_is (a + 1) n h.later h.unread_later name h.more l in (rest.0, omega (arith, rest.1), omega (arith, rest.2), rest.3, rest.4)
      ]

-- a cache of an output is one of the last step's
pub roc_in : (i p : ℕ) (name : Name) (has is_last is_now : Bool) → IsIn name (if has && is_last && is_now then Roc i p ∷ [] else []) → (is_last ≡ true) × (name ≡ Roc i p)
roc_in i p name true true true h = elim h [ inl e ↦ (refl, e) | inr l ↦ absurd l ]
roc_in i p name true true false h = absurd h
roc_in i p name true false is_now h = absurd h
roc_in i p name false is_last is_now h = absurd h

module _ (w : World) (f : WorldFits w) (i j p : ℕ) where
  abbrev reduce_task : Task
  reduce_task = Reduce i j p

  abbrev lists : List Name → List Record
  lists names = flat_map (list_in w p) names

  -- what is computed for a name is its value
  abbrev Right : List Answer → Name → Type 0
  Right answers name = computed w.means w.shape reduce_task answers name ≡ value_of w name

  -- the sections of spills, made one
  spills_read : (i' s : ℕ) (names : List Name) → FilesRead (spills w.shape i' j s) names → sorted record_cmp (lists names) ≡ merged w i' j s p
  spills_read i' s names h = ap (sorted record_cmp) (files_same w p (spills w.shape i' j s) names h)

  -- what was read for a source is the section of its stream
  section_read : IsPart w i j p → (s : ℕ) (names unread : List Name) → InputRead (input_of w.shape i j p s) names unread → sorted record_cmp (lists names) ≡ stream_section w i j s p
  section_read part s names unread h =
      elim (is_cached (source_at w.shape j s)) as (λ c. is_cached (source_at w.shape j s) ≡ c → InputRead (reduce_input w.shape i j p s c) names unread → sorted record_cmp (lists names) ≡ stream_section w i j s p) [
        | true ↦ λ e g.
            let fixed : cached_of w j s p ≡ stream_section w i j s p = serves w f i j s p e in
            elim g [
              | inl k ↦
                  ap (λ ns. sorted record_cmp (lists ns)) k.0
                  ∙ ap (sorted record_cmp) (append-nil (cached_of w j s p))
                  ∙ sorted_same record_cmp (cached_of w j s p) (ascending_sorted record_cmp_total (chosen_part (λ key. w.means.partition 1 j key == p) (stream_of w.means w.shape w.tables 1 j s)))
                  ∙ fixed
              | inr k ↦ spills_read 1 s names k.0 ∙ spills_make_section w f.blocks 1 j s p (omega arith) part.part ∙ fixed
            ]
        | false ↦ λ e g. elim g [ inl k ↦ absurd k | inr k ↦ spills_read i s names k.0 ∙ spills_make_section w f.blocks i j s p part.round part.part ]
      ] refl h

  module _ (answers : List Answer) (names unread : List Name) (a : AreOfValues w p answers) (e : names_of answers ≡ names) (h : InputsRead (inputs w.shape reduce_task) names unread) (part : IsPart w i j p) where
    source_read : (s : ℕ) → 1 ≤ s → s < 1 + source_count (step_at w.shape j) → sorted record_cmp (all_lists (of_source s answers)) ≡ stream_section w i j s p
    source_read s k g =
        let one = read_for w.shape i j p s 1 (source_count (step_at w.shape j)) names unread h k g in
        ap (sorted record_cmp) (lists_by w p (λ n. source_in n == s) answers names a e)
        ∙ section_read part s (filter (λ n. source_in n == s) names) one.0 one.1

    reduced_is : reduced w.means w.shape i j answers ≡ out_of w i j p
    reduced_is =
        let read : ℕ → List Record = λ s. all_lists (of_source s answers) in
        sym (keeps (w.means.reduce i j) (λ _. true) (map read (source_numbers w.shape j)))
        ∙ ap (job (w.means.reduce i j) (λ _. true)) (map_twice (sorted record_cmp) read (source_numbers w.shape j))
        ∙ sections_make w i j p part (λ s. sorted record_cmp (read s)) source_read

    cache_right : (name : Name) → IsIn name unread → Right answers name
    cache_right name o =
        let u = unread_is w.shape i j p 1 (source_count (step_at w.shape j)) names unread name h o in
        subst (Right answers) (sym u.4) (ap Rows (source_read u.0 u.1 u.2 ∙ sym (serves w f i j u.0 p u.3)))

    output_right : (now : ℕ) (name : Name) → IsIn name (output_kept w.shape now reduce_task) → Right answers name
    output_right now name o =
        let kept = roc_in i p name w.shape.reducer_output (j == last w.shape) (i == now) o in
        let step : j ≡ last w.shape = eqb-true j (last w.shape) kept.0 in
        subst (Right answers) (sym kept.1) (ap (λ rows. Rows (sorted record_cmp rows)) (reduced_is ∙ ap (λ k. out_of w i k p) step))

    pub reduce_right : (now : ℕ) (name : Name) → IsIn name (made_by reduce_task) ⊎ (IsIn name unread ⊎ IsIn name (output_kept w.shape now reduce_task)) → Right answers name
    reduce_right now name m =
        elim m [
          | inl n ↦ elim n [ inl same ↦ subst (Right answers) (sym same) (ap Rows reduced_is) | inr never ↦ absurd never ]
          | inr n ↦ elim n [ inl o ↦ cache_right name o | inr o ↦ output_right now name o ]
        ]

-- What a test finds from what it read.
use Rattle.std.proofs.Common.{◌≡◌, inl, inr, ℕ, ◌-◌, ◌≤◌, ◌==◌, Bool, true, false, not, List, [], ◌∷◌, ◌++◌, refl, sym, ap, ◌∙◌, map, arith}
use Rattle.std.specs.List.{AllByRecursion, filter, flat_map}
use Rattle.std.proofs.lemmas.Bool.{eq-eqb, ne_eqb}
use Rattle.std.proofs.lemmas.List.{append-nil}
use Rattle.std.proofs.lemmas.List.Elements.{filter-append}
use Rattle.hal_base.specs.declared.record.Record.{Record}
use Rattle.hal_base.specs.Order.{record_cmp}
use Rattle.hal_base.specs.Sorted.{sorted}
use Rattle.node_names.specs.declared.name.Name.{Name}
use Rattle.node_names.specs.declared.name.Name.TheVariants.{Out, Roc}
use Rattle.node_names.specs.declared.task.Task.{Task}
use Rattle.node_names.specs.declared.task.Task.TheVariants.{Test}
use Rattle.name_values.specs.Values.{World, out_of}
use Rattle.run_model.specs.Lists.{below}
use Rattle.run_model.specs.Needs.{inputs, test_inputs}
use Rattle.run_model.specs.Tasks.{last, last_outs}
use Rattle.task_values.specs.Attempts.{names_of}
use Rattle.task_values.specs.Reads.{Answer, AreOfValues, all_lists, of_others, of_round, round_in, tested}
use Rattle.task_values.specs.Tests.{far, rows_of, test_of}
use Rattle.task_values.proofs.Answering.{all_kept, list_in, lists_by, none_kept}
use Rattle.task_values.proofs.Reading.{FilesRead, InputsRead}
use Rattle.task_values.proofs.Spills.{by_number}
use Rattle.task_values.proofs.Testing.{tests_made}

-- a file that has no cache is read itself
outs_read : (i j : ℕ) (ps : List ℕ) (names : List Name) → FilesRead (map (Out i j) ps) names → names ≡ map (Out i j) ps
outs_read i j [] [] h = refl
outs_read i j [] (name ∷ names) h = absurd h
outs_read i j (p ∷ ps) [] h = absurd h
outs_read i j (p ∷ ps) (name ∷ names) h =
    let here : name ≡ Out i j p = elim h.0 [ inl e ↦ e | inr l ↦ absurd l ] in
    ap (λ n. n ∷ names) here ∙ ap (λ ns. Out i j p ∷ ns) (outs_read i j ps names h.1)

both_files : (xs ys names : List Name) → FilesRead (xs ++ ys) names → (now : List Name) × (later : List Name) × (names ≡ now ++ later) × FilesRead xs now × FilesRead ys later
both_files [] ys names h = ([], names, refl, tt, h)
both_files (x ∷ xs) ys [] h = absurd h
both_files (x ∷ xs) ys (name ∷ names) h =
    let r = both_files xs ys names h.1 in
    (name ∷ r.0, r.1, ap (λ ns. name ∷ ns) r.2, (h.0, r.3), r.4)

all_outs : (P : Name → Type 0) (i j : ℕ) (ps : List ℕ) → ((p : ℕ) → P (Out i j p)) → AllByRecursion P (map (Out i j) ps)
all_outs P i j [] h = tt
all_outs P i j (p ∷ ps) h = (h p, all_outs P i j ps h)

module _ (w : World) (i p : ℕ) (l : 2 ≤ i) where
  abbrev test_task : Task
  test_task = Test i p

  abbrev here : Name → Bool
  here name = round_in name == i

  abbrev elsewhere : Name → Bool
  elsewhere name = not (round_in name == i)

  now_is : (i == i) ≡ true
  now_is = eq-eqb i i refl

  before_is : (i - 1 == i) ≡ false
  before_is = ne_eqb (i - 1) i (λ e. absurd (omega arith))

  -- of an output each part is one list
  as_rows : (i' : ℕ) → flat_map (list_in w p) (last_outs w.shape i') ≡ flat_map (rows_of w) (last_outs w.shape i')
  as_rows i' =
      by_number (list_in w p) (Out i' (last w.shape)) (out_of w i' (last w.shape)) (λ q. refl) (below w.shape.parts)
      ∙ sym (by_number (rows_of w) (Out i' (last w.shape)) (out_of w i' (last w.shape)) (λ q. refl) (below w.shape.parts))

  module _ (answers : List Answer) (a : AreOfValues w p answers) where
    -- the new part and one that stands for the old part
    two_read : (old : Name) (olds_rows : List Record) → round_in old ≡ i - 1 → list_in w p old ≡ olds_rows → names_of answers ≡ Out i (last w.shape) p ∷ old ∷ [] → tested w.means i answers ≡ far w olds_rows (out_of w i (last w.shape) p)
    two_read old olds_rows r v e =
        let first : round_in old == i ≡ false = ap (λ k. k == i) r ∙ before_is in
        let new : filter here (Out i (last w.shape) p ∷ old ∷ []) ≡ Out i (last w.shape) p ∷ [] = rw (now_is, first) refl in
        let olds : filter elsewhere (Out i (last w.shape) p ∷ old ∷ []) ≡ old ∷ [] = rw (now_is, first) refl in
        let is_new : all_lists (of_round i answers) ≡ out_of w i (last w.shape) p =
        lists_by w p here answers (Out i (last w.shape) p ∷ old ∷ []) a e ∙ ap (flat_map (list_in w p)) new ∙ append-nil (out_of w i (last w.shape) p)
        in
        let is_old : all_lists (of_others i answers) ≡ olds_rows =
        lists_by w p elsewhere answers (Out i (last w.shape) p ∷ old ∷ []) a e ∙ ap (flat_map (list_in w p)) olds ∙ append-nil (list_in w p old) ∙ v
        in
        ap (λ olds_rows. far w olds_rows (all_lists (of_round i answers))) is_old ∙ ap (far w olds_rows) is_new

    all_read : names_of answers ≡ last_outs w.shape i ++ last_outs w.shape (i - 1) → tested w.means i answers ≡ far w (flat_map (rows_of w) (last_outs w.shape (i - 1))) (flat_map (rows_of w) (last_outs w.shape i))
    all_read e =
        let news : List Name = last_outs w.shape i in
        let olds : List Name = last_outs w.shape (i - 1) in
        let ps : List ℕ = below w.shape.parts in
        let new : filter here (news ++ olds) ≡ news =
        filter-append here news olds
        ∙ ap (λ xs. xs ++ filter here olds) (all_kept here news (all_outs (λ n. here n ≡ true) i (last w.shape) ps (λ p. now_is)))
        ∙ ap (λ xs. news ++ xs) (none_kept here olds (all_outs (λ n. here n ≡ false) (i - 1) (last w.shape) ps (λ p. before_is)))
        ∙ append-nil news
        in
        let old : filter elsewhere (news ++ olds) ≡ olds =
        filter-append elsewhere news olds
        ∙ ap (λ xs. xs ++ filter elsewhere olds) (none_kept elsewhere news (all_outs (λ n. elsewhere n ≡ false) i (last w.shape) ps (λ p. ap not now_is)))
        ∙ all_kept elsewhere olds (all_outs (λ n. elsewhere n ≡ true) (i - 1) (last w.shape) ps (λ p. ap not before_is))
        in
        let is_new : all_lists (of_round i answers) ≡ flat_map (rows_of w) news = lists_by w p here answers (news ++ olds) a e ∙ ap (flat_map (list_in w p)) new ∙ as_rows i in
        let is_old : all_lists (of_others i answers) ≡ flat_map (rows_of w) olds = lists_by w p elsewhere answers (news ++ olds) a e ∙ ap (flat_map (list_in w p)) old ∙ as_rows (i - 1) in
        ap (λ old_rows. far w old_rows (all_lists (of_round i answers))) is_old ∙ ap (far w (flat_map (rows_of w) olds)) is_new

    part_tested : w.shape.reducer_output ≡ true → (names unread : List Name) → names_of answers ≡ names → InputsRead (test_inputs w.shape i p true) names unread → tested w.means i answers ≡ test_of w i p
    part_tested c names unread e h =
        let new : h.now ≡ Out i (last w.shape) p ∷ [] = elim h.this [ inl k ↦ absurd k | inr k ↦ outs_read i (last w.shape) (p ∷ []) h.now k.0 ] in
        let more = h.more in
        let old : h.later ≡ more.now = more.names_are ∙ ap (λ xs. more.now ++ xs) more.more.0 ∙ append-nil more.now in
        let all : (name : Name) → more.now ≡ name ∷ [] → names_of answers ≡ Out i (last w.shape) p ∷ name ∷ [] =
        λ name g. e ∙ h.names_are ∙ ap (λ xs. xs ++ h.later) new ∙ ap (λ xs. Out i (last w.shape) p ∷ xs) (old ∙ g)
        in
        let made = tests_made w i p l in
        elim more.this [
          | inl k ↦ two_read (Roc (i - 1) p) (sorted record_cmp (out_of w (i - 1) (last w.shape) p)) refl refl (all (Roc (i - 1) p) k.0) ∙ made.by_cache c
          | inr k ↦ two_read (Out (i - 1) (last w.shape) p) (out_of w (i - 1) (last w.shape) p) refl refl (all (Out (i - 1) (last w.shape) p) (outs_read (i - 1) (last w.shape) (p ∷ []) more.now k.0)) ∙ made.by_part c
        ]

    whole_tested : w.shape.reducer_output ≡ false → (names unread : List Name) → names_of answers ≡ names → InputsRead (test_inputs w.shape i p false) names unread → tested w.means i answers ≡ test_of w i p
    whole_tested c names unread e h =
        let files : FilesRead (last_outs w.shape i ++ last_outs w.shape (i - 1)) h.now = elim h.this [ inl k ↦ absurd k | inr k ↦ k.0 ] in
        let both = both_files (last_outs w.shape i) (last_outs w.shape (i - 1)) h.now files in
        let all : names_of answers ≡ last_outs w.shape i ++ last_outs w.shape (i - 1) =
        e ∙ h.names_are ∙ ap (λ xs. h.now ++ xs) h.more.0 ∙ append-nil h.now ∙ both.2
        ∙ ap (λ xs. xs ++ both.1) (outs_read i (last w.shape) (below w.shape.parts) both.0 both.3)
        ∙ ap (λ xs. last_outs w.shape i ++ xs) (outs_read (i - 1) (last w.shape) (below w.shape.parts) both.1 both.4)
        in
        all_read all ∙ (tests_made w i p l).by_all c

    pub test_right : (names unread : List Name) → names_of answers ≡ names → InputsRead (inputs w.shape test_task) names unread → tested w.means i answers ≡ test_of w i p
    test_right names unread e h =
        elim w.shape.reducer_output as (λ b. w.shape.reducer_output ≡ b → InputsRead (test_inputs w.shape i p b) names unread → tested w.means i answers ≡ test_of w i p) [
          | true ↦ λ c k. part_tested c names unread e k
          | false ↦ λ c k. whole_tested c names unread e k
        ] refl h

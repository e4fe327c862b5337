-- What was read, by the names that were read.
use Rattle.std.proofs.Common.{◌≡◌, inl, inr, ℕ, Bool, true, false, cond, List, [], ◌∷◌, ◌++◌, refl, ap, ◌∙◌, map}
use Rattle.std.specs.List.{AllByRecursion, filter, flat_map}
use Rattle.hal_base.specs.declared.record.Record.{Record}
use Rattle.node_names.specs.declared.name.Name.{Name}
use Rattle.node_names.specs.declared.name.Name.TheVariants.{Blk, Mic, Out, Ric, Roc, Spill}
use Rattle.name_values.specs.Values.{World, list_of, value_of}
use Rattle.task_values.specs.Attempts.{names_of}
use Rattle.task_values.specs.Reads.{Answer, AreOfValues, all_lists}
use Rattle.task_values.proofs.Reading.{FilesRead, IsFor}

module _ (w : World) (p : ℕ) where
  -- what a read of a valid copy of this name stands for
  abbrev pub list_in : Name → List Record
  list_in name = list_of p (value_of w name)

  abbrev answer_of : Name → Answer
  answer_of name = record { name = name; list = list_in name }

  as_values : (answers : List Answer) → AreOfValues w p answers → answers ≡ map answer_of (names_of answers)
  as_values [] a = refl
  as_values (x ∷ answers) a =
      let one : x ≡ answer_of x.name = ap (λ (list : List Record). let y : Answer = record { name = x.name; list = list } in y) a.0 in
      ap (λ y. y ∷ answers) one ∙ ap (λ ys. answer_of x.name ∷ ys) (as_values answers a.1)

  chosen_lists : (test : Name → Bool) (names : List Name) → all_lists (filter (λ (a : Answer). test a.name) (map answer_of names)) ≡ flat_map list_in (filter test names)
  chosen_lists test [] = refl
  chosen_lists test (name ∷ names) =
      elim (test name) as (λ b. all_lists (cond b (answer_of name ∷ filter (λ (a : Answer). test a.name) (map answer_of names)) (filter (λ (a : Answer). test a.name) (map answer_of names))) ≡ flat_map list_in (cond b (name ∷ filter test names) (filter test names))) [
        | true ↦ ap (λ xs. list_in name ++ xs) (chosen_lists test names)
        | false ↦ chosen_lists test names
      ]

  every_list : (names : List Name) → all_lists (map answer_of names) ≡ flat_map list_in names
  every_list [] = refl
  every_list (name ∷ names) = ap (λ xs. list_in name ++ xs) (every_list names)

  -- what was read, by the names that were read
  pub lists_by : (test : Name → Bool) (answers : List Answer) (names : List Name) → AreOfValues w p answers → names_of answers ≡ names → all_lists (filter (λ (a : Answer). test a.name) answers) ≡ flat_map list_in (filter test names)
  lists_by test answers names a e = ap (λ xs. all_lists (filter (λ (a : Answer). test a.name) xs)) (as_values answers a) ∙ chosen_lists test (names_of answers) ∙ ap (λ xs. flat_map list_in (filter test xs)) e

  pub lists_are : (answers : List Answer) (names : List Name) → AreOfValues w p answers → names_of answers ≡ names → all_lists answers ≡ flat_map list_in names
  lists_are answers names a e = ap all_lists (as_values answers a) ∙ every_list (names_of answers) ∙ ap (flat_map list_in) e

  -- a block and its cache have one value
  one_for : (need got : Name) → IsFor need got → list_in got ≡ list_in need
  one_for (Blk t b) got h = elim h [ inl e ↦ ap list_in e | inr k ↦ elim k [ inl e ↦ ap list_in e | inr l ↦ absurd l ] ]
  one_for (Spill i j s q) got h = elim h [ inl e ↦ ap list_in e | inr l ↦ absurd l ]
  one_for (Out i j q) got h = elim h [ inl e ↦ ap list_in e | inr l ↦ absurd l ]
  one_for (Ric j s q) got h = elim h [ inl e ↦ ap list_in e | inr l ↦ absurd l ]
  one_for (Mic t b) got h = elim h [ inl e ↦ ap list_in e | inr l ↦ absurd l ]
  one_for (Roc i q) got h = elim h [ inl e ↦ ap list_in e | inr l ↦ absurd l ]

  pub files_same : (files names : List Name) → FilesRead files names → flat_map list_in names ≡ flat_map list_in files
  files_same [] [] h = refl
  files_same [] (name ∷ names) h = absurd h
  files_same (file ∷ files) [] h = absurd h
  files_same (file ∷ files) (name ∷ names) h = ap (λ xs. xs ++ flat_map list_in names) (one_for file name h.0) ∙ ap (λ xs. list_in file ++ xs) (files_same files names h.1)

-- ---- names that pass a test

pub all_kept : (test : Name → Bool) (names : List Name) → AllByRecursion (λ n. test n ≡ true) names → filter test names ≡ names
all_kept test [] a = refl
all_kept test (name ∷ names) a = rw (a.0, all_kept test names a.1) refl

pub none_kept : (test : Name → Bool) (names : List Name) → AllByRecursion (λ n. test n ≡ false) names → filter test names ≡ []
none_kept test [] a = refl
none_kept test (name ∷ names) a = rw (a.0, none_kept test names a.1) refl

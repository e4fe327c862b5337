-- What an attempt makes of reads of values is the value of its name.
use Rattle.std.proofs.Common.{◌≡◌, inl, inr, ◌<◌, ◌≤◌, ◌+◌, ◌-◌, ℕ, zero, suc, true, List, [], ◌∷◌, ◌++◌, Option, Some, length, map, take, drop, refl, sym, ap, ◌∙◌, subst, arith}
use Rattle.std.specs.Option.{option_map}
use Rattle.std.specs.List.{AllByRecursion, flat_map, range_with_len}
use Rattle.hal_base.specs.Order.{record_cmp}
use Rattle.hal_base.specs.declared.record.Record.{Record}
use Rattle.hal_base.specs.declared.shape.Source.{Source}
use Rattle.hal_base.specs.declared.shape.Step.{Step}
use Rattle.hal_base.specs.Shapes.{source_at, step_at}
use Rattle.hal_base.specs.Sorted.{sorted}
use Rattle.hal_outside.specs.DiskTold.{DiskTold}
use Rattle.loop_scheduler.specs.Reads.{files_of}
use Rattle.name_values.specs.Values.{Parts, Rows, World, list_of, out_of, split_at, value_of}
use Rattle.node_names.specs.declared.name.Name.{Name}
use Rattle.node_names.specs.declared.name.Name.TheVariants.{Blk, Mic, Out, Ric, Roc, Spill}
use Rattle.node_names.specs.declared.name.NameKind.TheVariants as kind
use Rattle.node_names.specs.declared.task.Task.{Task}
use Rattle.node_names.specs.declared.task.Task.TheVariants.{Map, Reduce, Test}
use Rattle.partition_shuffle.specs.SpillTexts.{IsSpill}
use Rattle.plain_job.proofs.Keeps.{keeps}
use Rattle.plain_job.specs.Chain.{together}
use Rattle.plain_job.specs.Distances.{distance_by}
use Rattle.plain_job.specs.Job.{job}
use Rattle.record_blocks.specs.Blocks.{IsBlock}
use Rattle.replica_table.specs.Copies.{Replicas}
use Rattle.run_laws.proofs.RoundWalks.{not_cached}
use Rattle.run_laws.specs.States.{IsNow}
use Rattle.run_laws.specs.WithoutLoss.{HasNoCaches}
use Rattle.run_model.specs.Lists.{below}
use Rattle.run_model.specs.Needs.{reduce_input, test_inputs}
use Rattle.run_model.specs.Tasks.{IsTask, count_in, is_cached, last, last_outs, source_count, split, spills}
use Rattle.sorted_parts.specs.Spills.{spilled}
use Rattle.task_values.proofs.Reading.{IsFor}
use Rattle.task_values.proofs.Spills.{sections_make, spills_make_section, step_there}
use Rattle.task_values.proofs.Splits.{files_are}
use Rattle.task_values.proofs.Testing.{tests_made}
use Rattle.task_values.specs.Reads.{part_in}
use Rattle.task_values.specs.Sections.{IsPart, stream_section}
use Rattle.task_values.specs.Tests.{far, rows_of, test_of}
use Rattle.task_values.specs.Worlds.{WorldFits}
use Rattle.valid_copies.proofs.Copies.{held_has}
use Rattle.valid_copies.proofs.Telling.{text_only, value_told}
use Rattle.valid_copies.specs.Files.{AreRead, Desk, FileRead, IsRead, ReadsText}
use Rattle.valid_copies.specs.Inputs.{EachRead, rows_in}
use Rattle.valid_copies.specs.Readings.{HasText, IsTextOf, IsTextOfHeld, OfSchema}
use Rattle.valid_copies.specs.Stands.{Stands}
use Rattle.cluster_core.proofs.Computing.{files_in, read_for, some_source}
use Rattle.cluster_core.specs.Outputs.{IsMade, IsRightOutput}
use Rattle.cluster_core.specs.declared.output.Output.{Output}
use Rattle.cluster_core.specs.declared.output.Output.TheVariants.{File, Value}

-- ---- lists

together_map : {A : Type 0} (f : A → List Record) (xs : List A) → together (map f xs) ≡ flat_map f xs
together_map f [] = refl
together_map f (x ∷ xs) = ap (λ rows. f x ++ rows) (together_map f xs)

take_front : {A B : Type 0} (f : A → B) (xs ys : List A) (n : ℕ) → length xs ≡ n → take n (map f (xs ++ ys)) ≡ map f xs
take_front f [] ys zero e = refl
take_front f [] ys (suc n) e = absurd (omega (arith, e))
take_front f (x ∷ xs) ys zero e = absurd (omega (arith, e))
take_front f (x ∷ xs) ys (suc n) e = ap (λ zs. f x ∷ zs) (take_front f xs ys n (omega (arith, e)))

drop_front : {A B : Type 0} (f : A → B) (xs ys : List A) (n : ℕ) → length xs ≡ n → drop n (map f (xs ++ ys)) ≡ map f ys
drop_front f [] ys zero e = refl
drop_front f [] ys (suc n) e = absurd (omega (arith, e))
drop_front f (x ∷ xs) ys zero e = absurd (omega (arith, e))
drop_front f (x ∷ xs) ys (suc n) e = drop_front f xs ys n (omega (arith, e))

outs_length : (i j a n : ℕ) → length (map (Out i j) (range_with_len a n)) ≡ n
outs_length i j a zero = refl
outs_length i j a (suc n) = ap suc (outs_length i j (a + 1) n)

-- ---- reads of values

abbrev row_of : FileRead → List Record
row_of it = it.rows

abbrev list_in : World → ℕ → Name → List Record
list_in w p name = list_of p (value_of w name)

same_list : (w : World) (p : ℕ) (name got : Name) → IsFor name got → list_in w p got ≡ list_in w p name
same_list w p name got (inl e) = ap (list_in w p) e
same_list w p (Blk t b) got (inr (inl e)) = ap (list_in w p) e
same_list w p (Blk t b) got (inr (inr k)) = absurd k
same_list w p (Spill i j s q) got (inr k) = absurd k
same_list w p (Out i j r) got (inr k) = absurd k
same_list w p (Ric j s r) got (inr k) = absurd k
same_list w p (Mic t b) got (inr k) = absurd k
same_list w p (Roc i r) got (inr k) = absurd k

module _ (w : World) (table : Replicas) (own part : ℕ) (told : Option DiskTold) (stands : Stands w table.copies told) where
  abbrev desk : Desk
  desk = record { shape = w.shape; table = table; own = own; part = part }

  one_value : (name : Name) (it : FileRead) → IsRead (record { shape = w.shape; table = table; own = own; part = part }) name it → ReadsText w it → it.rows ≡ list_in w part name
  one_value name it is text =
      let has : HasText w it.file.name = held_has (λ n _ _. HasText w n) table.copies it.file.name it.file.node it.file.digest stands.spelled is.kept in
      value_told w it.file.name part it.bytes it.rows (text_only w it.file.name it.bytes has text) is.rows
      ∙ same_list w part name it.file.name (read_for (record { shape = w.shape; table = table; own = own; part = part }) name it is)

  pub lists_are : (names : List Name) (reads : List FileRead) → AreRead (record { shape = w.shape; table = table; own = own; part = part }) names reads → AllByRecursion (ReadsText w) reads → map row_of reads ≡ map (list_in w part) names
  lists_are [] [] a t = refl
  lists_are [] (it ∷ reads) a t = absurd a
  lists_are (name ∷ names) [] a t = absurd a
  lists_are (name ∷ names) (it ∷ reads) a t = ap (λ rows. rows ∷ map row_of reads) (one_value name it a.0 t.0) ∙ ap (λ ls. list_in w part name ∷ ls) (lists_are names reads a.1 t.1)

  -- ---- maps

  split_is : (i j s q : ℕ) → q < count_in w.shape i (source_at w.shape j s) → (reads : List (List FileRead)) → EachRead (record { shape = w.shape; table = table; own = own; part = part }) (split w.shape i j s q ∷ []) reads → AllByRecursion (AllByRecursion (ReadsText w)) reads
      → rows_in reads ≡ (split_at w i j (source_at w.shape j s) q ∷ []) ∷ []
  split_is i j s q l [] a t = absurd a
  split_is i j s q l (r ∷ []) a t =
      ap (λ ls. ls ∷ []) (lists_are (split w.shape i j s q) r a.0 t.0 ∙ mapped (split w.shape i j s q) ∙ ap (map (list_of part)) (files_are w i j s q l))
    where
      mapped : (names : List Name) → map (list_in w part) names ≡ map (list_of part) (map (value_of w) names)
      mapped [] = refl
      mapped (n ∷ names) = ap (λ ls. list_in w part n ∷ ls) (mapped names)
  split_is i j s q l (r ∷ x ∷ reads) a t = absurd a.1

  -- ---- reduces

  module _ (f : WorldFits w) (caches : HasNoCaches w.shape) (i j : ℕ) (is : IsPart w i j part) where
    sections_from : (k n : ℕ) (reads : List (List FileRead))
        → EachRead (record { shape = w.shape; table = table; own = own; part = part }) (map files_in (map (λ s. reduce_input w.shape i j part s (is_cached (source_at w.shape j s))) (range_with_len k n))) reads → AllByRecursion (AllByRecursion (ReadsText w)) reads
        → map (sorted record_cmp) (map together (rows_in reads)) ≡ map (λ s. stream_section w i j s part) (range_with_len k n)
    sections_from k zero [] a t = refl
    sections_from k zero (r ∷ reads) a t = absurd a
    sections_from k (suc n) [] a t = absurd a
    sections_from k (suc n) (r ∷ reads) a t =
        let own_read : AreRead (record { shape = w.shape; table = table; own = own; part = part }) (spills w.shape i j k) r = subst (λ b. AreRead (record { shape = w.shape; table = table; own = own; part = part }) (reduce_input w.shape i j part k b).files r) (not_cached w.shape caches j k) a.0 in
        let one : sorted record_cmp (together (map row_of r)) ≡ stream_section w i j k part =
        ap (λ ls. sorted record_cmp (together ls)) (lists_are (spills w.shape i j k) r own_read t.0)
        ∙ ap (sorted record_cmp) (together_map (list_in w part) (spills w.shape i j k))
        ∙ spills_make_section w f.blocks i j k part is.round is.part
        in
        ap (λ x. x ∷ map (sorted record_cmp) (map together (rows_in reads))) one ∙ ap (λ xs. stream_section w i j k part ∷ xs) (sections_from (k + 1) n reads a.1 t.1)

    pub output_is : (reads : List (List FileRead)) → EachRead (record { shape = w.shape; table = table; own = own; part = part }) (files_of w.shape (Reduce i j part)) reads → AllByRecursion (AllByRecursion (ReadsText w)) reads
        → job (w.means.reduce i j) (λ _. true) (map together (rows_in reads)) ≡ out_of w i j part
    output_is reads a t =
        sym (keeps (w.means.reduce i j) (λ _. true) (map together (rows_in reads)))
        ∙ ap (job (w.means.reduce i j) (λ _. true)) (sections_from 1 (source_count (step_at w.shape j)) reads a t)
        ∙ sections_make w i j part is (λ s. stream_section w i j s part) (λ s l k. refl)

  -- ---- tests

  outs_rows : (i : ℕ) (ps : List ℕ) → flat_map (list_in w part) (map (Out i (last w.shape)) ps) ≡ flat_map (rows_of w) (map (Out i (last w.shape)) ps)
  outs_rows i [] = refl
  outs_rows i (p ∷ ps) = ap (λ rows. out_of w i (last w.shape) p ++ rows) (outs_rows i ps)

  pub test_is : (i p : ℕ) → HasNoCaches w.shape → 2 ≤ i → (reads : List (List FileRead)) → EachRead (record { shape = w.shape; table = table; own = own; part = part }) (files_of w.shape (Test i p)) reads → AllByRecursion (AllByRecursion (ReadsText w)) reads → (value : ℕ)
      → ((parts : List (List Record)) → rows_in reads ≡ parts ∷ [] → value ≡ distance_by w.means.distance (together (drop w.shape.parts parts)) (together (take w.shape.parts parts)))
      → value ≡ test_of w i p
  test_is i p caches l reads a t value made = go reads (subst (λ b. EachRead (record { shape = w.shape; table = table; own = own; part = part }) (map files_in (test_inputs w.shape i p b)) reads) caches.output a) t made
    where
      new : List Name
      new = last_outs w.shape i

      by_all : far w (flat_map (rows_of w) (last_outs w.shape (i - 1))) (flat_map (rows_of w) (last_outs w.shape i)) ≡ test_of w i p
      by_all = (tests_made w i p l).by_all caches.output

      go : (reads : List (List FileRead)) → EachRead (record { shape = w.shape; table = table; own = own; part = part }) ((last_outs w.shape i ++ last_outs w.shape (i - 1)) ∷ []) reads → AllByRecursion (AllByRecursion (ReadsText w)) reads
          → ((parts : List (List Record)) → rows_in reads ≡ parts ∷ [] → value ≡ distance_by w.means.distance (together (drop w.shape.parts parts)) (together (take w.shape.parts parts))) → value ≡ test_of w i p
      go [] a t made = absurd a
      go (r ∷ []) a t made =
          let lists = lists_are (last_outs w.shape i ++ last_outs w.shape (i - 1)) r a.0 t.0 in
          let size = outs_length i (last w.shape) 0 w.shape.parts in
          let olds : together (drop w.shape.parts (map row_of r)) ≡ flat_map (rows_of w) (last_outs w.shape (i - 1)) =
          ap (λ ls. together (drop w.shape.parts ls)) lists ∙ ap together (drop_front (list_in w part) (last_outs w.shape i) (last_outs w.shape (i - 1)) w.shape.parts size) ∙ together_map (list_in w part) (last_outs w.shape (i - 1)) ∙ outs_rows (i - 1) (below w.shape.parts)
          in
          let news : together (take w.shape.parts (map row_of r)) ≡ flat_map (rows_of w) (last_outs w.shape i) =
          ap (λ ls. together (take w.shape.parts ls)) lists ∙ ap together (take_front (list_in w part) (last_outs w.shape i) (last_outs w.shape (i - 1)) w.shape.parts size) ∙ together_map (list_in w part) (last_outs w.shape i) ∙ outs_rows i (below w.shape.parts)
          in
          made (map row_of r) refl ∙ ap (λ rows. distance_by w.means.distance rows (together (take w.shape.parts (map row_of r)))) olds ∙ ap (distance_by w.means.distance (flat_map (rows_of w) (last_outs w.shape (i - 1)))) news ∙ by_all
      go (r ∷ x ∷ reads) a t made = absurd a.1

-- ---- outputs

spill_text_is : (w : World) (i j s q : ℕ) (source : Source) (bytes : List ℕ) (parts : List (List Record)) → source_at w.shape j s ≡ Some source → IsSpill source.stream bytes parts → IsTextOf w.shape (Spill i j s q) bytes (Parts parts)
spill_text_is w i j s q source bytes parts there h = subst (OfSchema (IsTextOfHeld kind.Spill bytes (Parts parts))) (sym (ap (option_map (λ (x : Source). x.stream)) there)) h

out_text_is : (w : World) (i j p : ℕ) (step : Step) (bytes : List ℕ) (rows : List Record) → step_at w.shape j ≡ Some step → IsBlock step.out bytes rows → IsTextOf w.shape (Out i j p) bytes (Rows rows)
out_text_is w i j p step bytes rows there h = subst (OfSchema (IsTextOfHeld kind.Out bytes (Rows rows))) (sym (ap (option_map (λ (x : Step). x.out)) there)) h

-- what is made of texts of values is right
pub made_right : (w : World) → WorldFits w → HasNoCaches w.shape → (table : Replicas) (own : ℕ) (told : Option DiskTold) → Stands w table.copies told → (task : Task) → IsTask w.shape task → (round : ℕ) → IsNow round task
    → (reads : List (List FileRead)) → EachRead (record { shape = w.shape; table = table; own = own; part = part_in task }) (files_of w.shape task) reads → AllByRecursion (AllByRecursion (ReadsText w)) reads
    → (output : Output) → IsMade w.means w.shape task (rows_in reads) output → IsRightOutput w round output
made_right w f caches table own told stands (Map i j s q) t round now reads a texts (File name bytes) made =
    let source = some_source w.shape i (source_at w.shape j s) q t.5 in
    let rows : List Record = split_at w i j (source_at w.shape j s) q in
    subst (λ n. IsTextOf w.shape n bytes.items (value_of w n)) (sym made.0)
    (spill_text_is w i j s q source.0 bytes.items (spilled w.means i j s rows w.shape.parts) source.1 (made.1 rows (split_is w table own 0 told stands i j s q t.5 reads a texts) source.0 source.1))
made_right w f caches table own told stands (Map i j s q) t round now reads a texts (Value part value) made = absurd made
made_right w f caches table own told stands (Reduce i j p) t round now reads a texts (File name bytes) made =
    let is : IsPart w i j p = record { round = t.0; first = t.1; last_step = t.2; part = t.3 } in
    let step = step_there w j t.1 t.2 in
    let rows = output_is w table own p told stands f caches i j is reads a texts in
    subst (λ n. IsTextOf w.shape n bytes.items (value_of w n)) (sym made.0)
    (out_text_is w i j p step.0 bytes.items (out_of w i j p) step.1 (subst (IsBlock step.0.out bytes.items) rows (made.1 step.0 step.1)))
made_right w f caches table own told stands (Reduce i j p) t round now reads a texts (Value part value) made = absurd made
made_right w f caches table own told stands (Test i p) t round now reads a texts (File name bytes) made = absurd made
made_right w f caches table own told stands (Test i p) t round now reads a texts (Value part value) made =
    test_is w table own p told stands i p caches t.0 reads a texts value made.1
    ∙ ap (λ n. test_of w n p) now
    ∙ ap (test_of w round) (sym made.0)

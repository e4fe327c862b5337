-- What a cluster makes of what its own reads answered, step by step.
use Rattle.std.proofs.Common.{◌≡◌, inl, inr, ℕ, zero, suc, List, [], ◌∷◌, ◌++◌, Option, None, Some, length, map, slice_get, refl, sym, ap, ◌∙◌, subst, append_assoc, append-nil}
use Rattle.std.specs.List.{AllByRecursion, flat_map}
use Rattle.std.proofs.Math.ListN.{set}
use Rattle.std.proofs.lemmas.Grind.{flat_map-append}
use Rattle.hal_base.specs.Meaning.{Meaning}
use Rattle.hal_base.specs.declared.record.Record.{Record}
use Rattle.hal_base.specs.declared.shape.Shape.{Shape}
use Rattle.plain_job.proofs.Lists.{all_both}
use Rattle.hal_outside.specs.DiskTold.{DiskTold}
use Rattle.loop_scheduler.specs.Reads.{files_of}
use Rattle.node_names.specs.declared.name.Name.{Name}
use Rattle.node_names.specs.declared.task.Task.{Task}
use Rattle.run_laws.specs.States.{IsNow}
use Rattle.run_model.specs.declared.attempt.Attempt.{Attempt}
use Rattle.task_values.specs.Reads.{part_in}
use Rattle.valid_copies.proofs.Adding.{such_added, such_more, such_none, told_added}
use Rattle.valid_copies.specs.Calls.{Added, CallsHave}
use Rattle.valid_copies.specs.Files.{AreRead, Came, Desk, FileRead, call_of}
use Rattle.valid_copies.specs.Inputs.{EachRead, calls_of, rows_in}
use Rattle.valid_copies.specs.LastWrites.{IsWriteOf, WritesNothing}
use Rattle.valid_copies.specs.declared.inputs.ReadCounts.{ReadCounts}
use Rattle.std.specs.declared.alloc.Global.{Global}
use Rattle.std.specs.declared.vec.Vec.{Vec}
use Rattle.cluster_core.specs.Finishing.{HasRead, desk_of}
use Rattle.cluster_core.specs.Origins.{Answered, AreAnswers, AreListsOf, Completed, CompletedOrNot, MadeOfReads, NoneNew, WritesOutput, answer_to, answers_to}
use Rattle.cluster_core.specs.Outputs.{IsMade}
use Rattle.cluster_core.specs.States.{Seen}
use Rattle.cluster_core.specs.declared.output.Output.TheVariants.{File, Value}
use Rattle.cluster_core.proofs.StaysRight.{was_set}

-- ---- lists and the answers for which they stand

lists_both : (shape : Shape) (part : ℕ) (files more : List Answered) (lists others : List (List Record)) → AreListsOf shape part files lists → AreListsOf shape part more others → AreListsOf shape part (files ++ more) (lists ++ others)
lists_both shape part [] more [] others a b = b
lists_both shape part [] more (rows ∷ lists) others a b = absurd a
lists_both shape part (it ∷ files) more [] others a b = absurd a
lists_both shape part (it ∷ files) more (rows ∷ lists) others a b = (a.0, lists_both shape part files more lists others a.1 b)

reads_stand : (desk : Desk) (names : List Name) (reads : List FileRead) → AreRead desk names reads → AreListsOf desk.shape desk.part (answers_to (map call_of reads)) (map (λ (it : FileRead). it.rows) reads)
reads_stand desk [] [] a = tt
reads_stand desk [] (it ∷ reads) a = absurd a
reads_stand desk (name ∷ names) [] a = absurd a
reads_stand desk (name ∷ names) (it ∷ reads) a = (a.0.rows, reads_stand desk names reads a.1)

inputs_stand : (desk : Desk) (inputs : List (List Name)) (reads : List (List FileRead)) → EachRead desk inputs reads → AreListsOf desk.shape desk.part (answers_to (calls_of reads)) (flat_map (λ files. files) (rows_in reads))
inputs_stand desk [] [] a = tt
inputs_stand desk [] (it ∷ reads) a = absurd a
inputs_stand desk (names ∷ inputs) [] a = absurd a
inputs_stand desk (names ∷ inputs) (it ∷ reads) a =
    subst (λ files. AreListsOf desk.shape desk.part files (map (λ (r : FileRead). r.rows) it ++ flat_map (λ files. files) (rows_in reads))) (sym (flat_map-append answer_to (map call_of it) (calls_of reads)))
    (lists_both desk.shape desk.part (answers_to (map call_of it)) (answers_to (calls_of reads)) (map (λ (r : FileRead). r.rows) it) (flat_map (λ files. files) (rows_in reads)) (reads_stand desk names it a.0) (inputs_stand desk inputs reads a.1))

same_length : (desk : Desk) (names : List Name) (reads : List FileRead) → AreRead desk names reads → length (map (λ (it : FileRead). it.rows) reads) ≡ length names
same_length desk [] [] a = refl
same_length desk [] (it ∷ reads) a = absurd a
same_length desk (name ∷ names) [] a = absurd a
same_length desk (name ∷ names) (it ∷ reads) a = ap suc (same_length desk names reads a.1)

same_lengths : (desk : Desk) (inputs : List (List Name)) (reads : List (List FileRead)) → EachRead desk inputs reads → map length (rows_in reads) ≡ map length inputs
same_lengths desk [] [] a = refl
same_lengths desk [] (it ∷ reads) a = absurd a
same_lengths desk (names ∷ inputs) [] a = absurd a
same_lengths desk (names ∷ inputs) (it ∷ reads) a = ap (λ n. n ∷ map length (rows_in reads)) (same_length desk names it a.0) ∙ ap (λ ns. length names ∷ ns) (same_lengths desk inputs reads a.1)

-- reads write nothing
one_writes_nothing : (reads : List FileRead) → AllByRecursion WritesNothing (map call_of reads)
one_writes_nothing [] = tt
one_writes_nothing (it ∷ reads) = (tt, one_writes_nothing reads)

all_write_nothing : (reads : List (List FileRead)) → AllByRecursion WritesNothing (calls_of reads)
all_write_nothing [] = tt
all_write_nothing (it ∷ reads) = all_both WritesNothing (map call_of it) (calls_of reads) (one_writes_nothing it) (all_write_nothing reads)

-- ---- values

pub none_new : (values values' : List (Option ℕ)) → values' ≡ values → NoneNew values values'
none_new values values' e = λ p value g. subst (λ vs. slice_get vs p ≡ Some (Some value)) e g

pub none_forgotten : (values values' : List (Option ℕ)) → values' ≡ map (λ (_ : Option ℕ). None) values → NoneNew values values'
none_forgotten values values' e = λ p value g. absurd (forgotten values p value (subst (λ vs. slice_get vs p ≡ Some (Some value)) e g))
  where
    forgotten : (vs : List (Option ℕ)) (p value : ℕ) → slice_get (map (λ (_ : Option ℕ). None) vs) p ≡ Some (Some value) → ⊥
    forgotten [] p value g = cc
    forgotten (v ∷ vs) zero value g = cc
    forgotten (v ∷ vs) (suc p) value g = forgotten vs p value g

-- ---- what is made in a turn

module _ (m : Meaning) (shape : Shape) (round : ℕ) where
  pub made_nothing : (values values' : List (Option ℕ)) (before after : Option DiskTold) → CallsHave WritesNothing before after → NoneNew values values' → MadeOfReads m shape round values values' before after
  made_nothing values values' None after calls known = calls
  made_nothing values values' (Some t) None calls known = absurd calls
  made_nothing values values' (Some t) (Some u) calls known = inl (record { calls = calls; known = known })

  -- no call was made
  pub made_none : (values values' : List (Option ℕ)) (told : Option DiskTold) → values' ≡ values → MadeOfReads m shape round values values' told told
  made_none values values' told e = made_nothing values values' told told (such_none WritesNothing told) (none_new values values' e)

  -- behind calls that write nothing
  pub made_later : (values between values' : List (Option ℕ)) (before middle after : Option DiskTold) → CallsHave WritesNothing before middle → NoneNew values between → MadeOfReads m shape round between values' middle after → MadeOfReads m shape round values values' before after
  made_later values between values' None None after calls known made = made
  made_later values between values' None (Some n) after calls known made = cc
  made_later values between values' (Some t) None after calls known made = absurd calls
  made_later values between values' (Some t) (Some n) None calls known made = absurd made
  made_later values between values' (Some t) (Some n) (Some u) calls known made = elim made [
    | inl it ↦ inl (record { calls = such_more WritesNothing (Some t) (Some n) (Some u) calls it.calls; known = λ p value g. known p value (it.known p value g) })
    | inr it ↦ inr (record {
      task = it.task;
      now = it.now;
      first = calls.calls ++ it.first;
      reads = it.reads;
      writes = it.writes;
      output = it.output;
      added = it.added ∙ ap (λ cs. cs ++ (it.first ++ (it.reads ++ it.writes))) calls.added ∙ append_assoc t.calls calls.calls (it.first ++ (it.reads ++ it.writes)) ∙ ap (λ cs. t.calls ++ cs) (sym (append_assoc calls.calls it.first (it.reads ++ it.writes)));
      nothing = all_both WritesNothing calls.calls it.first calls.each it.nothing;
      made = it.made;
      written = it.written;
      known = λ p value g. elim (it.known p value g) [ inl old ↦ inl (known p value old) | inr new ↦ inr new ];
    })
  ]

  module _ (seen : Seen) (a : Attempt) (shows : Type 0) (before middle after : Option DiskTold) (counts : ReadCounts) (lists : List (List (List Record))) (values' : List (Option ℕ)) (same : seen.setup.shape ≡ shape) (now : IsNow round a.task) (read : HasRead seen a shows before middle counts lists) where
    lists_made : (mid : DiskTold) (t u : DiskTold) → mid.calls ≡ t.calls ++ calls_of read.reads → (it : Completed m shape a.task lists seen.kept.values values' (Some mid) (Some u)) → MadeOfReads m shape round seen.kept.values values' (Some t) (Some u)
    lists_made mid t u e it = inr (record {
      task = a.task;
      now = now;
      first = [];
      reads = calls_of read.reads;
      writes = it.written.calls;
      output = it.output;
      added = it.written.added ∙ ap (λ cs. cs ++ it.written.calls) e ∙ append_assoc t.calls (calls_of read.reads) it.written.calls;
      nothing = tt;
      made = record {
        lists = lists;
        by_inputs = ap (map length) read.rows ∙ same_lengths (desk_of seen a) (files_of seen.setup.shape a.task) read.reads read.each ∙ ap (λ s. map length (files_of s a.task)) same;
        stand = subst (λ ls. AreListsOf shape (part_in a.task) (answers_to (calls_of read.reads)) (flat_map (λ files. files) ls)) (sym read.rows)
            (subst (λ s. AreListsOf s (part_in a.task) (answers_to (calls_of read.reads)) (flat_map (λ files. files) (rows_in read.reads))) same (inputs_stand (desk_of seen a) (files_of seen.setup.shape a.task) read.reads read.each));
        made = it.made;
      };
      written = it.written.each;
      known = it.known;
    })

    completed : (before middle after : Option DiskTold) → Added before (calls_of read.reads) middle → Completed m shape a.task lists seen.kept.values values' middle after → MadeOfReads m shape round seen.kept.values values' before after
    completed None None after added it = it.written
    completed None (Some n) after added it = absurd_told (told_added None (Some n) (calls_of read.reads) added)
      where
        absurd_told : Some n ≡ None → MadeOfReads m shape round seen.kept.values values' None after
        absurd_told e = cc
    completed (Some t) None after added it = absurd (told_added (Some t) None (calls_of read.reads) added)
    completed (Some t) (Some n) None added it = absurd it.written
    completed (Some t) (Some n) (Some u) added it = lists_made n t u (told_added (Some t) (Some n) (calls_of read.reads) added) it

    pub made_of_reads : CompletedOrNot m shape a.task lists seen.kept.values values' middle after → MadeOfReads m shape round seen.kept.values values' before after
    made_of_reads made = elim made [
      | inl not ↦ subst (MadeOfReads m shape round seen.kept.values values' before) (sym not.0) (made_nothing seen.kept.values values' before middle (such_added WritesNothing before middle (calls_of read.reads) read.added (all_write_nothing read.reads)) (none_new seen.kept.values values' not.1))
      | inr it ↦ completed before middle after read.added it
    ]

-- ---- the output of a task

module _ (m : Meaning) (shape : Shape) (task : Task) (lists : List (List (List Record))) (values values' : List (Option ℕ)) where
  pub file_completed : (name : Name) (bytes : Vec ℕ Global) (before after : Option DiskTold) → IsMade m shape task lists (File name bytes) → CallsHave (IsWriteOf name bytes.items) before after → values' ≡ values → CompletedOrNot m shape task lists values values' before after
  file_completed name bytes before after made written e = inr (record { output = File name bytes; made = made; written = written; known = λ p value g. inl (none_new values values' e p value g) })

  pub value_completed : (part value : ℕ) (told : Option DiskTold) → IsMade m shape task lists (Value part value) → values' ≡ set values part (Some value) → CompletedOrNot m shape task lists values values' told told
  value_completed part value told made e = inr (record {
    output = Value part value;
    made = made;
    written = such_none (WritesOutput (Value part value)) told;
    known = λ p v g. elim (was_set values part value p v (subst (λ vs. slice_get vs p ≡ Some (Some v)) e g)) [ inl new ↦ inr (sym new.1, sym new.0) | inr old ↦ inl old ];
  })

-- ---- parts at the end

pub part_answers : (desk : Desk) (shows : Type 0) (before after : Option DiskTold) (name : Name) (it : FileRead) → desk.part ≡ 0 → Came desk shows before (name ∷ []) (it ∷ []) after → AreAnswers desk.shape (it.rows ∷ []) before after
part_answers desk shows None after name it e came = told_added None after (call_of it ∷ []) came.added
part_answers desk shows (Some t) None name it e came = absurd (told_added (Some t) None (call_of it ∷ []) came.added)
part_answers desk shows (Some t) (Some u) name it e came = record {
  calls = call_of it ∷ [];
  added = told_added (Some t) (Some u) (call_of it ∷ []) came.added;
  stand = subst (λ part. AreListsOf desk.shape part (answers_to (call_of it ∷ [])) (it.rows ∷ [])) e (reads_stand desk (name ∷ []) (it ∷ []) came.each);
}

pub no_answers : (shape : Shape) (told : Option DiskTold) → AreAnswers shape [] told told
no_answers shape None = refl
no_answers shape (Some t) = record { calls = []; added = sym (append-nil t.calls); stand = tt }

pub answers_more : (shape : Shape) (lists more : List (List Record)) (before between after : Option DiskTold) → AreAnswers shape lists before between → AreAnswers shape more between after → AreAnswers shape (lists ++ more) before after
answers_more shape lists more None None after a b = b
answers_more shape lists more None (Some n) after a b = cc
answers_more shape lists more (Some t) None after a b = absurd a
answers_more shape lists more (Some t) (Some n) None a b = absurd b
answers_more shape lists more (Some t) (Some n) (Some u) a b = record {
  calls = a.calls ++ b.calls;
  added = b.added ∙ ap (λ cs. cs ++ b.calls) a.added ∙ append_assoc t.calls a.calls b.calls;
  stand = subst (λ files. AreListsOf shape 0 files (lists ++ more)) (sym (flat_map-append answer_to a.calls b.calls)) (lists_both shape 0 (answers_to a.calls) (answers_to b.calls) lists more a.stand b.stand);
}

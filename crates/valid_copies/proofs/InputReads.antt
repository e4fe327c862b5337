-- Inputs that are read one after another.
use Rattle.std.proofs.Common.{◌≡◌, ℕ, List, [], ◌∷◌, ◌++◌, Option, None, IsSome, map, refl, sym, ap, ◌∙◌, subst, append_assoc, append-nil}
use Rattle.std.proofs.lemmas.List.{map-append}
use Rattle.std.specs.List.{AllByRecursion}
use Rattle.hal_base.specs.declared.record.Record.{Record}
use Rattle.node_names.specs.declared.name.Name.{Name}
use Rattle.hal_outside.specs.DiskTold.{DiskTold}
use Rattle.node_files.specs.declared.files.FileRef.{FileRef}
use Rattle.run_model.specs.Needs.{input}
use Rattle.run_model.specs.Plans.{gives, ◌>>=◌}
use Rattle.run_model.specs.Reading.{Reading, nothing_read, read_files, read_inputs, reading, starved}
use Rattle.run_model.specs.State.{PlainCluster}
use Rattle.name_values.specs.Values.{World}
use Rattle.replica_table.specs.Copies.{Copy}
use Rattle.plain_job.proofs.Lists.{all_both}
use Rattle.valid_copies.proofs.Coming.{added_more, nothing_added, still_told}
use Rattle.valid_copies.proofs.Following.{begun_first, begun_more, follows_bind, follows_more, follows_none, missed_first, missed_more}
use Rattle.valid_copies.proofs.InputPlans.{cluster_kept, counted_more, files_begun, files_follow, files_missed, files_starved, sees_still}
use Rattle.valid_copies.specs.Calls.{Added, Begun, Follows, MissedIn}
use Rattle.valid_copies.specs.Files.{AllRead, Any, Desk, FileRead, ReadsText, Sees, StarvedAt, StoppedBy, call_of}
use Rattle.valid_copies.specs.Inputs.{EachRead, InputsRead, InputsStopped, OfPlan, calls_of, counted_files, files_of, input_plan, rows_in}
use Rattle.valid_copies.specs.Stands.{Stands}
use Rattle.valid_copies.specs.declared.fault.WorkFault.{WorkFault}
use Rattle.valid_copies.specs.declared.fault.WorkFault.TheVariants.{Device, Memory}
use Rattle.valid_copies.specs.declared.fault.WorkFault.TheVariants as fault

abbrev file_in : FileRead → FileRef
file_in it = it.file

each_more : (desk : Desk) (inputs : List (List Name)) (names : List Name) (reads : List (List FileRead)) (more : List FileRead) → EachRead desk inputs reads → EachRead desk (names ∷ []) (more ∷ []) → EachRead desk (inputs ++ names ∷ []) (reads ++ more ∷ [])
each_more desk [] names [] more a b = b
each_more desk [] names (it ∷ reads) more a b = absurd a
each_more desk (ns ∷ inputs) names [] more a b = absurd a
each_more desk (ns ∷ inputs) names (it ∷ reads) more a b = (a.0, each_more desk inputs names reads more a.1 b)

files_more : (reads : List (List FileRead)) (more : List FileRead) → files_of (reads ++ more ∷ []) ≡ files_of reads ++ map file_in more
files_more [] more = append-nil (map file_in more)
files_more (it ∷ reads) more = ap (λ fs. map file_in it ++ fs) (files_more reads more) ∙ sym (append_assoc (map file_in it) (files_of reads) (map file_in more))

calls_more : (reads : List (List FileRead)) (more : List FileRead) → calls_of (reads ++ more ∷ []) ≡ calls_of reads ++ map call_of more
calls_more [] more = append-nil (map call_of more)
calls_more (it ∷ reads) more = ap (λ calls. map call_of it ++ calls) (calls_more reads more) ∙ sym (append_assoc (map call_of it) (calls_of reads) (map call_of more))

-- the inputs before the rest were read, and nothing else was done
pub record InputsSoFar (desk : Desk) (shows shows' sound sound' : Type 0) (before now : Option DiskTold) (inputs rest : List (List Name)) (old files : List FileRef) (lists : List (List (List Record))) : Type 0 where
  pub done : List (List Name)
  pub split : inputs ≡ done ++ rest
  pub reads : List (List FileRead)
  pub each : EachRead desk done reads
  pub files_are : files ≡ old ++ files_of reads
  pub lists_are : lists ≡ rows_in reads
  pub added : Added before (calls_of reads) now
  pub texts : shows → IsSome before → (w : World) → Stands w desk.table.copies before → AllByRecursion (AllByRecursion (ReadsText w)) reads
  pub follows : OfPlan (λ c plan. Follows plan before now (input_plan desk.own rest (counted_files desk.own (files_of reads) (nothing_read c)))) desk inputs
  pub tells : IsSome before → IsSome now
  pub shown : shows → shows'
  pub stands : (w : World) (copies : List Copy) → Stands w copies before → Stands w copies now
  pub soundness : sound → sound'

pub inputs_none : (desk : Desk) (shows sound : Type 0) (told : Option DiskTold) (inputs : List (List Name)) (files : List FileRef) → InputsSoFar desk shows shows sound sound told told inputs inputs files files []
inputs_none desk shows sound told inputs files = record {
  done = [];
  split = refl;
  reads = [];
  each = tt;
  files_are = sym (append-nil files);
  lists_are = refl;
  added = nothing_added told;
  texts = λ s t w valid. tt;
  follows = λ c sees. follows_none (input_plan desk.own inputs (nothing_read c)) told;
  tells = λ s. s;
  shown = λ s. s;
  stands = λ w copies s. s;
  soundness = λ s. s;
}

-- the plan to read inputs, by its first
first_is : (own : ℕ) (inputs rest : List (List Name)) (names : List Name) (r : Reading) → inputs ≡ names ∷ rest → input_plan own inputs r ≡ (read_files own names (reading r) >>= read_inputs own (map (input None) rest))
first_is own inputs rest names r e = ap (λ is. input_plan own is r) e

module _ (desk : Desk) (shows shows' sound sound' : Type 0) (before now : Option DiskTold) (inputs rest : List (List Name)) (old files : List FileRef) (lists : List (List (List Record))) (so_far : InputsSoFar desk shows shows' sound sound' before now inputs rest old files lists) where
  -- what was read until now, from a cluster
  abbrev at : PlainCluster → Reading
  at c = counted_files desk.own (files_of so_far.reads) (nothing_read c)

  seen : (c : PlainCluster) → Sees desk.table c → Sees desk.table (at c).cluster
  seen c sees = sees_still desk (files_of so_far.reads) (nothing_read c) sees

  pub inputs_more : (shows'' sound'' : Type 0) (after : Option DiskTold) (names : List Name) (others : List (List Name)) (files' : List FileRef) (rows : List (List Record)) (lists' : List (List (List Record)))
      → rest ≡ names ∷ others → AllRead desk shows' now names files files' after rows → (shows' → shows'') → ((w : World) (copies : List Copy) → Stands w copies now → Stands w copies after) → (sound' → sound'')
      → lists' ≡ lists ++ rows ∷ []
      → InputsSoFar desk shows shows'' sound sound'' before after inputs others old files' lists'
  inputs_more shows'' sound'' after names others files' rows lists' e a shown stands soundness ls = record {
    done = so_far.done ++ names ∷ [];
    split = so_far.split ∙ ap (λ is. so_far.done ++ is) e ∙ sym (append_assoc so_far.done (names ∷ []) others);
    reads = so_far.reads ++ a.reads ∷ [];
    each = each_more desk so_far.done names so_far.reads a.reads so_far.each (a.came.each, tt);
    files_are = a.files ∙ ap (λ fs. fs ++ map file_in a.reads) so_far.files_are ∙ append_assoc old (files_of so_far.reads) (map file_in a.reads) ∙ ap (λ fs. old ++ fs) (sym (files_more so_far.reads a.reads));
    lists_are = ls ∙ ap (λ xs. xs ++ rows ∷ []) so_far.lists_are ∙ ap (λ row. rows_in so_far.reads ++ row ∷ []) a.rows ∙ sym (map-append (map (λ (it : FileRead). it.rows)) so_far.reads (a.reads ∷ []));
    added = subst (λ calls. Added before calls after) (sym (calls_more so_far.reads a.reads)) (added_more before now after (calls_of so_far.reads) (map call_of a.reads) so_far.added a.came.added);
    texts = λ s t w valid. all_both (AllByRecursion (ReadsText w)) so_far.reads (a.reads ∷ []) (so_far.texts s t w valid) (a.came.texts (so_far.shown s) (so_far.tells t) w (so_far.stands w desk.table.copies valid), tt);
    follows = λ c sees.
        let step = follows_bind (read_files desk.own names (reading (at c))) (gives (reading (counted_files desk.own (map file_in a.reads) (at c)))) (read_inputs desk.own (map (input None) others)) now after (files_follow desk now after names (at c) (seen c sees) shows' a.reads a.came) in
        let same : counted_files desk.own (files_of (so_far.reads ++ a.reads ∷ [])) (nothing_read c) ≡ counted_files desk.own (map file_in a.reads) (at c) = ap (λ fs. counted_files desk.own fs (nothing_read c)) (files_more so_far.reads a.reads) ∙ counted_more desk.own (files_of so_far.reads) (map file_in a.reads) (nothing_read c) in
        subst (λ r. Follows (input_plan desk.own inputs (nothing_read c)) before after (input_plan desk.own others r)) (sym same)
        (follows_more (input_plan desk.own inputs (nothing_read c)) (input_plan desk.own rest (at c)) (input_plan desk.own others (counted_files desk.own (map file_in a.reads) (at c))) before now after (so_far.follows c sees)
        (subst (λ p. Follows p now after (input_plan desk.own others (counted_files desk.own (map file_in a.reads) (at c)))) (sym (first_is desk.own rest others names (at c) e)) step));
    tells = λ t. still_told now after (map call_of a.reads) a.came.added (so_far.tells t);
    shown = λ s. shown (so_far.shown s);
    stands = λ w copies s. stands w copies (so_far.stands w copies s);
    soundness = λ s. soundness (so_far.soundness s);
  }

  pub inputs_all : rest ≡ [] → InputsRead desk shows before inputs old files now lists
  inputs_all e = record {
    reads = so_far.reads;
    each = subst (λ is. EachRead desk is so_far.reads) (sym (so_far.split ∙ ap (λ is. so_far.done ++ is) e ∙ append-nil so_far.done)) so_far.each;
    files = so_far.files_are;
    rows = so_far.lists_are;
    added = so_far.added;
    texts = so_far.texts;
    follows = λ c sees. subst (λ is. Follows (input_plan desk.own inputs (nothing_read c)) before now (input_plan desk.own is (at c))) e (so_far.follows c sees);
  }

  starved_inputs : (own : ℕ) (c : PlainCluster) (is : List (List Name)) → read_inputs own (map (input None) is) (starved c) ≡ gives (starved c)
  starved_inputs own c [] = refl
  starved_inputs own c (names ∷ is) = refl

  pub inputs_starved : (after : Option DiskTold) (names : List Name) (others : List (List Name)) → rest ≡ names ∷ others → StarvedAt desk shows' now names after
      → OfPlan (λ c plan. Follows plan before after (gives (starved c))) desk inputs
  inputs_starved after names others e s = λ c sees.
      let kept : (at c).cluster ≡ c = cluster_kept desk.own (files_of so_far.reads) (nothing_read c) in
      let step = follows_bind (read_files desk.own names (reading (at c))) (gives (starved (at c).cluster)) (read_inputs desk.own (map (input None) others)) now after (files_starved desk now after names (at c) (seen c sees) shows' s) in
      follows_more (input_plan desk.own inputs (nothing_read c)) (input_plan desk.own rest (at c)) (gives (starved c)) before now after (so_far.follows c sees)
      (subst (λ p. Follows p now after (gives (starved c))) (sym (first_is desk.own rest others names (at c) e))
      (subst (Follows (read_files desk.own names (reading (at c)) >>= read_inputs desk.own (map (input None) others)) now after) (starved_inputs desk.own (at c).cluster others ∙ ap (λ d. gives (starved d)) kept) step))

  inputs_begun : (after : Option DiskTold) (names : List Name) (others : List (List Name)) → rest ≡ names ∷ others → ((r : Reading) → Sees desk.table r.cluster → Begun (read_files desk.own names (reading r)) now after)
      → OfPlan (λ c plan. Begun plan before after) desk inputs
  inputs_begun after names others e b = λ c sees.
      begun_more (input_plan desk.own inputs (nothing_read c)) (input_plan desk.own rest (at c)) before now after (so_far.follows c sees)
      (subst (λ p. Begun p now after) (sym (first_is desk.own rest others names (at c) e)) (begun_first (read_files desk.own names (reading (at c))) (read_inputs desk.own (map (input None) others)) now after (b (at c) (seen c sees))))

  pub inputs_stopped : (after : Option DiskTold) (names : List Name) (others : List (List Name)) (fault : WorkFault) → rest ≡ names ∷ others → StoppedBy desk now names after fault → InputsStopped desk before inputs after fault
  inputs_stopped after names others (Device device) e s = inputs_begun after names others e (λ r sees. files_begun desk now after names r sees Any s)
  inputs_stopped after names others fault.Missed e s = λ c sees.
      missed_more (input_plan desk.own inputs (nothing_read c)) (input_plan desk.own rest (at c)) before now after (so_far.follows c sees)
      (subst (λ p. MissedIn p now after) (sym (first_is desk.own rest others names (at c) e)) (missed_first (read_files desk.own names (reading (at c))) (read_inputs desk.own (map (input None) others)) now after (files_missed desk now after names (at c) (seen c sees) s)))
  inputs_stopped after names others Memory e s = inputs_begun after names others e (λ r sees. files_begun desk now after names r sees Any s)

  -- all files of an input were read, and then memory was wanting
  pub inputs_memory : (after : Option DiskTold) (names : List Name) (others : List (List Name)) (files' : List FileRef) (rows : List (List Record)) → rest ≡ names ∷ others → AllRead desk shows' now names files files' after rows
      → OfPlan (λ c plan. Begun plan before after) desk inputs
  inputs_memory after names others files' rows e a = inputs_begun after names others e
      (λ r sees. let f = files_follow desk now after names r sees shows' a.reads a.came in record { calls = f.calls; rest = gives (reading (counted_files desk.own (map file_in a.reads) r)); added = f.added; leads = f.leads })

-- Inputs that are read one after another, whichever reads missed.
use Rattle.std.proofs.Common.{◌≡◌, ℕ, List, [], ◌∷◌, ◌++◌, Option, None, IsSome, map, refl, sym, ap, ◌∙◌, subst, append_assoc, append-nil}
use Rattle.std.specs.List.{AllByRecursion, filter}
use Rattle.std.proofs.lemmas.List.{map-append}
use Rattle.hal_base.specs.declared.record.Record.{Record}
use Rattle.hal_base.specs.declared.shape.Shape.{Shape}
use Rattle.hal_outside.specs.DiskCalls as disk
use Rattle.hal_outside.specs.DiskTold.{DiskTold}
use Rattle.name_values.specs.Values.{World}
use Rattle.node_files.specs.declared.files.FileRef.{FileRef}
use Rattle.node_names.specs.declared.name.Name.{Name}
use Rattle.plain_job.proofs.Lists.{all_both}
use Rattle.run_model.proofs.PlanSteps.{leaves_then}
use Rattle.run_model.specs.Needs.{input}
use Rattle.run_model.specs.Plans as why
use Rattle.run_model.specs.Plans.{Plan, gives, refuses, ◌>>=◌}
use Rattle.run_model.specs.Reading.{ReadSoFar, Reading, counted, read_files, read_inputs, reading, starved}
use Rattle.run_model.specs.State.{PlainCluster}
use Rattle.valid_copies.proofs.Coming.{added_more, nothing_added, still_told}
use Rattle.valid_copies.proofs.Following.{leads_more}
use Rattle.valid_copies.proofs.InputPlans.{counted_more}
use Rattle.valid_copies.specs.Calls.{Added, Begun, Leads, made_of}
use Rattle.valid_copies.specs.Files.{FileRead, ReadsText, call_of, try_of}
use Rattle.valid_copies.specs.Inputs.{calls_of, counted_files, files_of, input_plan, rows_in}
use Rattle.valid_copies.specs.Stands.{Stands}
use Rattle.copy_reads.specs.Books.{Counted, IsOf, with_books}
use Rattle.copy_reads.specs.Inputs.{AllFilesRead, AllInputsRead, AreReadFor, EachReadFor, FilesStopped, InputsStopped, OfFiles, OfInputs, file_of, is_answered, read_by}
use Rattle.copy_reads.specs.Needs.{Goes}
use Rattle.copy_reads.specs.declared.books.Books.{Books}
use Rattle.copy_reads.specs.declared.fault.ReadFault.{ReadFault}
use Rattle.copy_reads.specs.declared.fault.ReadFault.TheVariants.{Device, Misses, Memory}
use Rattle.copy_reads.proofs.Files.{answered_both, rows_of}
use Rattle.copy_reads.proofs.Tries.{itself, seen_in}

each_more : (shape : Shape) (part : ℕ) (inputs : List (List Name)) (names : List Name) (reads : List (List FileRead)) (more : List FileRead) → EachReadFor shape part inputs reads → AreReadFor shape part names more → EachReadFor shape part (inputs ++ names ∷ []) (reads ++ more ∷ [])
each_more shape part [] names [] more a b = (b, tt)
each_more shape part [] names (it ∷ reads) more a b = absurd a
each_more shape part (ns ∷ inputs) names [] more a b = absurd a
each_more shape part (ns ∷ inputs) names (it ∷ reads) more a b = (a.0, each_more shape part inputs names reads more a.1 b)

files_more : (reads : List (List FileRead)) (more : List FileRead) → files_of (reads ++ more ∷ []) ≡ files_of reads ++ map file_of more
files_more [] more = append-nil (map file_of more)
files_more (it ∷ reads) more = ap (λ fs. map file_of it ++ fs) (files_more reads more) ∙ sym (append_assoc (map file_of it) (files_of reads) (map file_of more))

calls_more : (reads : List (List FileRead)) (more : List FileRead) → calls_of (reads ++ more ∷ []) ≡ calls_of reads ++ map call_of more
calls_more [] more = append-nil (map call_of more)
calls_more (it ∷ reads) more = ap (λ cs. map call_of it ++ cs) (calls_more reads more) ∙ sym (append_assoc (map call_of it) (calls_of reads) (map call_of more))

-- files are counted whatever the cluster
counted_so : (own : ℕ) (files : List FileRef) (r : Reading) (c d : PlainCluster) → record (counted_files own files (record r { cluster = c })) { cluster = d } ≡ record (counted_files own files r) { cluster = d }
counted_so own [] r c d = refl
counted_so own (file ∷ files) r c d = counted_so own files (counted own (try_of file) r.cluster r) c d

-- files more, once the cluster has other books
read_then : (own : ℕ) (files more : List FileRef) (now new : Books) (r : Reading) → read_by own more new (read_by own files now r) ≡ read_by own (files ++ more) new r
read_then own files more now new r =
    counted_so own more (counted_files own files r) (with_books now r.cluster) (with_books new r.cluster)
    ∙ sym (ap (λ (q : Reading). record q { cluster = with_books new r.cluster }) (counted_more own files more r))

-- reads of a starved attempt end
starved_stays : (own : ℕ) (c : PlainCluster) (inputs : List (List Name)) → read_inputs own (map (input None) inputs) (starved c) ≡ gives (starved c)
starved_stays own c [] = refl
starved_stays own c (names ∷ inputs) = refl

-- the inputs before the rest were read, and nothing else was done
pub record InputsSoFar (shape : Shape) (shows : Type 0) (own part : ℕ) (old now : Books) (inputs rest : List (List Name)) (before told : Option DiskTold) (files more : List FileRef) (lists : List (List (List Record))) : Type 0 where
  pub done : List (List Name)
  pub split : inputs ≡ done ++ rest
  pub reads : List (List FileRead)
  pub each : EachReadFor shape part done reads
  pub files_are : more ≡ files ++ files_of reads
  pub lists_are : lists ≡ rows_in reads
  pub calls : List disk.Call
  pub added : Added before calls told
  pub answers : filter is_answered calls ≡ calls_of reads
  pub leads : (r : Reading) → IsOf old r.cluster → Leads (input_plan own inputs r) calls (input_plan own rest (read_by own (files_of reads) now r))
  pub texts : shows → IsSome before → (w : World) → Stands w old.table.copies before → AllByRecursion (AllByRecursion (ReadsText w)) reads
  pub counted : Counted now

pub inputs_none : (shape : Shape) (shows : Type 0) (own part : ℕ) (books : Books) (inputs : List (List Name)) (told : Option DiskTold) (files : List FileRef) → Counted books → InputsSoFar shape shows own part books books inputs inputs told told files files []
inputs_none shape shows own part books inputs told files counted = record {
  done = [];
  split = refl;
  reads = [];
  each = tt;
  files_are = sym (append-nil files);
  lists_are = refl;
  calls = [];
  added = nothing_added told;
  answers = refl;
  leads = λ r of. ap (λ c. input_plan own inputs (record r { cluster = c })) (sym (itself books r.cluster of));
  texts = λ s t w st. tt;
  counted = counted;
}

module _ (shape : Shape) (shows shows' : Type 0) (own part : ℕ) (old now : Books) (inputs rest : List (List Name)) (before told : Option DiskTold) (files more : List FileRef) (lists : List (List (List Record)))
    (s : InputsSoFar shape shows own part old now inputs rest before told files more lists) (up : now.table.up ≡ old.table.up) (shown : shows → shows') (stands : (w : World) → Stands w old.table.copies before → Stands w now.table.copies told) where
  -- what was read until now
  abbrev at : Reading → Reading
  at r = read_by own (files_of s.reads) now r

  seen : (r : Reading) → IsOf old r.cluster → IsOf now (at r).cluster
  seen r of = seen_in now r.cluster (of.up ∙ sym up)

  pub inputs_all : rest ≡ [] → AllInputsRead shape shows own part inputs old now before told files more lists
  inputs_all e = record {
    reads = s.reads;
    each = subst (λ is. EachReadFor shape part is s.reads) (sym (s.split ∙ ap (λ is. s.done ++ is) e ∙ append-nil s.done)) s.each;
    files_are = s.files_are;
    lists_are = s.lists_are;
    calls = s.calls;
    added = s.added;
    answers = s.answers;
    leads = λ r of. subst (λ is. Leads (input_plan own inputs r) s.calls (input_plan own is (at r))) e (s.leads r of);
    texts = s.texts;
  }

  module _ (new : Books) (after : Option DiskTold) (names : List Name) (others : List (List Name)) (e : rest ≡ names ∷ others) where
    -- calls more, of the next input
    next_leads : (r : Reading) → IsOf old r.cluster → (calls : List disk.Call) (left : Plan ReadSoFar) → Leads (read_files own names (reading (at r))) calls left → Leads (input_plan own inputs r) (s.calls ++ calls) (left >>= read_inputs own (map (input None) others))
    next_leads r of calls left l =
        leads_more (input_plan own inputs r) (input_plan own rest (at r)) (left >>= read_inputs own (map (input None) others)) s.calls calls (s.leads r of)
        (subst (λ is. Leads (input_plan own is (at r)) calls (left >>= read_inputs own (map (input None) others))) (sym e)
        (leaves_then (read_files own names (reading (at r))) left (read_inputs own (map (input None) others)) (map made_of calls) l))

    module _ (files' : List FileRef) (rows : List (List Record)) (a : AllFilesRead shape shows' own part names now new told after more files' rows) where
      abbrev all_reads : List (List FileRead)
      all_reads = s.reads ++ a.reads ∷ []

      reads_are : (r : Reading) → read_by own (map file_of a.reads) new (at r) ≡ read_by own (files_of all_reads) new r
      reads_are r = read_then own (files_of s.reads) (map file_of a.reads) now new r ∙ ap (λ fs. read_by own fs new r) (sym (files_more s.reads a.reads))

      input_leads : (r : Reading) → IsOf old r.cluster → Leads (input_plan own inputs r) (s.calls ++ a.read.calls) (input_plan own others (read_by own (files_of all_reads) new r))
      input_leads r of = subst (λ q. Leads (input_plan own inputs r) (s.calls ++ a.read.calls) (input_plan own others q)) (reads_are r)
          (next_leads r of a.read.calls (gives (reading (read_by own (map file_of a.reads) new (at r)))) (a.read.leads (at r) (seen r of)))

      pub inputs_more : (lists' : List (List (List Record))) → Counted new → lists' ≡ lists ++ rows ∷ []
          → InputsSoFar shape shows own part old new inputs others before after files files' lists'
      inputs_more lists' counted ls = record {
        done = s.done ++ names ∷ [];
        split = s.split ∙ ap (λ is. s.done ++ is) e ∙ sym (append_assoc s.done (names ∷ []) others);
        reads = all_reads;
        each = each_more shape part s.done names s.reads a.reads s.each a.read.each;
        files_are = a.files_are ∙ ap (λ fs. fs ++ map file_of a.reads) s.files_are ∙ append_assoc files (files_of s.reads) (map file_of a.reads) ∙ ap (λ fs. files ++ fs) (sym (files_more s.reads a.reads));
        lists_are = ls ∙ ap (λ xs. xs ++ rows ∷ []) s.lists_are ∙ ap (λ row. rows_in s.reads ++ row ∷ []) a.lists_are ∙ sym (map-append (map rows_of) s.reads (a.reads ∷ []));
        calls = s.calls ++ a.read.calls;
        added = added_more before told after s.calls a.read.calls s.added a.read.added;
        answers = answered_both s.calls a.read.calls ∙ ap (λ cs. cs ++ filter is_answered a.read.calls) s.answers ∙ ap (λ cs. calls_of s.reads ++ cs) a.read.answers ∙ sym (calls_more s.reads a.reads);
        leads = input_leads;
        texts = λ sh t w st. all_both (AllByRecursion (ReadsText w)) s.reads (a.reads ∷ []) (s.texts sh t w st) (a.read.texts (shown sh) (still_told before told s.calls s.added t) w (stands w st), tt);
        counted = counted;
      }

      -- and then memory was wanting
      pub inputs_memory : OfInputs (λ r plan. Begun plan before after) old own inputs
      inputs_memory = λ r of. record {
        calls = s.calls ++ a.read.calls;
        rest = input_plan own others (read_by own (files_of all_reads) new r);
        added = added_more before told after s.calls a.read.calls s.added a.read.added;
        leads = input_leads r of;
      }

    pub inputs_starved : OfFiles (λ r plan. Goes plan told after (gives (starved (with_books new r.cluster)))) now own names → OfInputs (λ r plan. Goes plan before after (gives (starved (with_books new r.cluster)))) old own inputs
    inputs_starved starves = λ r of.
        let g = starves (at r) (seen r of) in
        record {
          calls = s.calls ++ g.calls;
          added = added_more before told after s.calls g.calls s.added g.added;
          leads = subst (Leads (input_plan own inputs r) (s.calls ++ g.calls)) (starved_stays own (with_books new r.cluster) others) (next_leads r of g.calls (gives (starved (with_books new r.cluster))) g.leads);
        }

    begun_then : OfFiles (λ r plan. Begun plan told after) now own names → OfInputs (λ r plan. Begun plan before after) old own inputs
    begun_then begins = λ r of.
        let b = begins (at r) (seen r of) in
        record {
          calls = s.calls ++ b.calls;
          rest = b.rest >>= read_inputs own (map (input None) others);
          added = added_more before told after s.calls b.calls s.added b.added;
          leads = next_leads r of b.calls b.rest b.leads;
        }

    pub inputs_stopped : (fault : ReadFault) → FilesStopped own names now new told after fault → InputsStopped own inputs old new before after fault
    inputs_stopped (Device device) t = begun_then t
    inputs_stopped Misses t = λ r of.
        let g = t (at r) (seen r of) in
        record {
          calls = s.calls ++ g.calls;
          added = added_more before told after s.calls g.calls s.added g.added;
          leads = next_leads r of g.calls (refuses (with_books new r.cluster) why.Misses) g.leads;
        }
    inputs_stopped Memory t = begun_then t

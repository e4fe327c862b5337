-- Needs that are read one after another, whichever reads missed.
use Rattle.std.proofs.Common.{◌≡◌, ℕ, true, false, cond, List, [], ◌∷◌, ◌++◌, Option, None, Some, IsSome, map, refl, sym, ap, ◌∙◌, subst, append_assoc, append-nil}
use Rattle.std.specs.List.{AllByRecursion, filter}
use Rattle.std.proofs.lemmas.List.{map-append}
use Rattle.hal_base.specs.declared.record.Record.{Record}
use Rattle.hal_base.specs.declared.shape.Shape.{Shape}
use Rattle.hal_outside.specs.DiskCalls as disk
use Rattle.hal_outside.specs.DiskTold.{DiskTold}
use Rattle.name_values.specs.Values.{World}
use Rattle.node_files.specs.declared.files.FileRef.{FileRef}
use Rattle.node_names.specs.declared.name.Name.{Name}
use Rattle.plain_job.proofs.Lists.{all_both}
use Rattle.run_model.proofs.PlanSteps.{leaves_then}
use Rattle.run_model.specs.Plans as why
use Rattle.run_model.specs.Plans.{Plan, gives, refuses, ◌>>=◌}
use Rattle.run_model.specs.Reading.{ReadSoFar, Reading, Tried, after_tries, counted, read_files, read_first, read_need, reading, starved, tries_for}
use Rattle.run_model.specs.State.{PlainCluster}
use Rattle.valid_copies.proofs.Coming.{added_more, nothing_added, still_told}
use Rattle.valid_copies.proofs.Following.{leads_more}
use Rattle.valid_copies.proofs.InputPlans.{counted_more}
use Rattle.valid_copies.specs.Calls.{Added, Begun, Leads, made_of}
use Rattle.valid_copies.specs.Files.{FileRead, ReadsText, call_of, try_of}
use Rattle.valid_copies.specs.Inputs.{counted_files}
use Rattle.valid_copies.specs.Stands.{Stands}
use Rattle.copy_reads.specs.Books.{Counted, IsOf, with_books}
use Rattle.copy_reads.specs.Inputs.{AllFilesRead, AreReadFor, FilesStopped, IsReadFor, OfFiles, file_of, is_answered, read_by}
use Rattle.copy_reads.specs.Needs.{IsLastRead, Goes, IsMissed, NeedRead, TriesStopped, tried_by}
use Rattle.copy_reads.specs.Readers.{tries_by}
use Rattle.copy_reads.specs.declared.books.Books.{Books}
use Rattle.copy_reads.specs.declared.fault.ReadFault.{ReadFault}
use Rattle.copy_reads.specs.declared.fault.ReadFault.TheVariants.{Device, Misses, Memory}
use Rattle.copy_reads.specs.declared.reader.Reader.TheVariants.{Attempt}
use Rattle.copy_reads.specs.declared.reading.Found.{Found}
use Rattle.copy_reads.proofs.Tries.{itself, seen_in}

-- ---- calls that were answered

none_answered : (calls : List disk.Call) → AllByRecursion IsMissed calls → filter is_answered calls ≡ []
none_answered [] m = refl
none_answered (call ∷ calls) m = ap (λ t. cond t (call ∷ filter is_answered calls) (filter is_answered calls)) (not_one call m.0) ∙ none_answered calls m.1
  where
    not_one : (call : disk.Call) → IsMissed call → is_answered call ≡ false
    not_one (disk.Write node name bytes) m = refl
    not_one (disk.Read node name want (disk.Same bytes)) m = cc
    not_one (disk.Read node name want disk.Gone) m = refl
    not_one (disk.Read node name want disk.Other) m = refl
    not_one (disk.Remove node name) m = refl
    not_one (disk.Wipe node) m = refl

pub answered_both : (calls more : List disk.Call) → filter is_answered (calls ++ more) ≡ filter is_answered calls ++ filter is_answered more
answered_both [] more = refl
answered_both (call ∷ calls) more = elim (is_answered call) as (λ t. cond t (call ∷ filter is_answered (calls ++ more)) (filter is_answered (calls ++ more)) ≡ cond t (call ∷ filter is_answered calls) (filter is_answered calls) ++ filter is_answered more) [
  | true ↦ ap (λ cs. call ∷ cs) (answered_both calls more)
  | false ↦ answered_both calls more
]

-- the calls of one need more, of which the last was answered
pub one_answered : (shape : Shape) (part : ℕ) (shows : Type 0) (name : Name) (old : Books) (before : Option DiskTold) (found : Found) (reads : List FileRead) (calls more : List disk.Call) → filter is_answered calls ≡ map call_of reads → (by : IsLastRead shape part shows name old before more found)
    → filter is_answered (calls ++ more) ≡ map call_of (reads ++ record { file = found.file; bytes = by.bytes; rows = found.rows } ∷ [])
one_answered shape part shows name old before found reads calls more answers by =
    let it : FileRead = record { file = found.file; bytes = by.bytes; rows = found.rows } in
    answered_both calls more
    ∙ ap (λ cs. cs ++ filter is_answered more) answers
    ∙ ap (λ cs. map call_of reads ++ filter is_answered cs) by.last
    ∙ ap (λ cs. map call_of reads ++ cs) (answered_both by.missed (call_of it ∷ []) ∙ ap (λ cs. cs ++ call_of it ∷ []) (none_answered by.missed by.all_missed))
    ∙ sym (map-append call_of reads (it ∷ []))

-- ---- the plan of one need, and what follows

-- one need, with what follows on it
one_then : (own part : ℕ) (name : Name) (names : List Name) (r : Reading) (calls : List disk.Call) (tried : Tried) → Leads (read_first (tries_by (Attempt own part) name r.cluster) r.cluster) calls (gives tried)
    → Leads (read_files own (name ∷ names) (reading r)) calls (read_files own names (after_tries own r tried.cluster tried.answered))
one_then own part name names r calls tried l =
    leaves_then (read_need own name r) (gives (after_tries own r tried.cluster tried.answered)) (read_files own names) (map made_of calls)
    (leaves_then (read_first (tries_for r.cluster own name) r.cluster) (gives tried) (λ tried. gives (after_tries own r tried.cluster tried.answered)) (map made_of calls) l)

-- reads of a starved attempt end
starved_stays : (own : ℕ) (c : PlainCluster) (names : List Name) → read_files own names (starved c) ≡ gives (starved c)
starved_stays own c [] = refl
starved_stays own c (name ∷ names) = refl

-- ---- the loop

pub read_more : (shape : Shape) (part : ℕ) (names : List Name) (name : Name) (reads : List FileRead) (it : FileRead) → AreReadFor shape part names reads → IsReadFor shape part name it → AreReadFor shape part (names ++ name ∷ []) (reads ++ it ∷ [])
read_more shape part [] name [] it a b = (b, tt)
read_more shape part [] name (other ∷ reads) it a b = absurd a
read_more shape part (k ∷ names) name [] it a b = absurd a
read_more shape part (k ∷ names) name (other ∷ reads) it a b = (a.0, read_more shape part names name reads it a.1 b)

abbrev pub rows_of : FileRead → List Record
rows_of it = it.rows

-- the needs before the rest were read, and nothing else was done
pub record FilesSoFar (shape : Shape) (shows : Type 0) (own part : ℕ) (old now : Books) (names rest : List Name) (before told : Option DiskTold) (files more : List FileRef) (lists : List (List Record)) : Type 0 where
  pub done : List Name
  pub split : names ≡ done ++ rest
  pub reads : List FileRead
  pub each : AreReadFor shape part done reads
  pub files_are : more ≡ files ++ map file_of reads
  pub lists_are : lists ≡ map rows_of reads
  pub calls : List disk.Call
  pub added : Added before calls told
  pub answers : filter is_answered calls ≡ map call_of reads
  pub leads : (r : Reading) → IsOf old r.cluster → Leads (read_files own names (reading r)) calls (read_files own rest (reading (read_by own (map file_of reads) now r)))
  pub texts : shows → IsSome before → (w : World) → Stands w old.table.copies before → AllByRecursion (ReadsText w) reads
  pub counted : Counted now

pub files_none : (shape : Shape) (shows : Type 0) (own part : ℕ) (books : Books) (names : List Name) (told : Option DiskTold) (files : List FileRef) → Counted books → FilesSoFar shape shows own part books books names names told told files files []
files_none shape shows own part books names told files counted = record {
  done = [];
  split = refl;
  reads = [];
  each = tt;
  files_are = sym (append-nil files);
  lists_are = refl;
  calls = [];
  added = nothing_added told;
  answers = refl;
  leads = λ r of. ap (λ c. read_files own names (reading (record r { cluster = c }))) (sym (itself books r.cluster of));
  texts = λ s t w st. tt;
  counted = counted;
}

module _ (shape : Shape) (shows shows' : Type 0) (own part : ℕ) (old now : Books) (names rest : List Name) (before told : Option DiskTold) (files more : List FileRef) (lists : List (List Record))
    (s : FilesSoFar shape shows own part old now names rest before told files more lists) (up : now.table.up ≡ old.table.up) (shown : shows → shows') (stands : (w : World) → Stands w old.table.copies before → Stands w now.table.copies told) where
  -- what was read until now
  abbrev at : Reading → Reading
  at r = read_by own (map file_of s.reads) now r

  seen : (r : Reading) → IsOf old r.cluster → IsOf now (at r).cluster
  seen r of = seen_in now r.cluster (of.up ∙ sym up)

  pub files_all : rest ≡ [] → AllFilesRead shape shows own part names old now before told files more lists
  files_all e = record {
    reads = s.reads;
    read = record {
      each = subst (λ ns. AreReadFor shape part ns s.reads) (sym (s.split ∙ ap (λ ns. s.done ++ ns) e ∙ append-nil s.done)) s.each;
      calls = s.calls;
      added = s.added;
      answers = s.answers;
      leads = λ r of. subst (λ ns. Leads (read_files own names (reading r)) s.calls (read_files own ns (reading (at r)))) e (s.leads r of);
      texts = s.texts;
    };
    files_are = s.files_are;
    lists_are = s.lists_are;
  }

  module _ (new : Books) (after : Option DiskTold) (name : Name) (others : List Name) (e : rest ≡ name ∷ others) where
    -- calls more, of the next need
    next_leads : (r : Reading) → IsOf old r.cluster → (calls : List disk.Call) (left : Plan ReadSoFar) → Leads (read_files own (name ∷ others) (reading (at r))) calls left → Leads (read_files own names (reading r)) (s.calls ++ calls) left
    next_leads r of calls left l =
        leads_more (read_files own names (reading r)) (read_files own rest (reading (at r))) left s.calls calls (s.leads r of)
        (subst (λ ns. Leads (read_files own ns (reading (at r))) calls left) (sym e) l)

    module _ (found : Found) (n : NeedRead shape shows' (Attempt own part) name now new told after (Some found)) where
      abbrev it : FileRead
      it = record { file = found.file; bytes = n.by.bytes; rows = found.rows }

      reads_are : (r : Reading) → counted own (try_of found.file) (with_books new (at r).cluster) (at r) ≡ read_by own (map file_of (s.reads ++ it ∷ [])) new r
      reads_are r = sym (
          ap (λ fs. record (counted_files own fs r) { cluster = with_books new r.cluster }) (map-append file_of s.reads (it ∷ []))
          ∙ ap (λ (q : Reading). record q { cluster = with_books new r.cluster }) (counted_more own (map file_of s.reads) (found.file ∷ []) r)
          )

      found_leads : (r : Reading) → IsOf old r.cluster → Leads (read_files own names (reading r)) (s.calls ++ n.calls) (read_files own others (reading (read_by own (map file_of (s.reads ++ it ∷ [])) new r)))
      found_leads r of = next_leads r of n.calls (read_files own others (reading (read_by own (map file_of (s.reads ++ it ∷ [])) new r)))
          (subst (λ q. Leads (read_files own (name ∷ others) (reading (at r))) n.calls (read_files own others (reading q))) (reads_are r)
          (one_then own part name others (at r) n.calls (tried_by new (at r).cluster (Some found.file)) (n.leads (at r).cluster (seen r of))))

      pub files_more : (more' : List FileRef) (lists' : List (List Record)) → Counted new → more' ≡ more ++ found.file ∷ [] → lists' ≡ lists ++ found.rows ∷ []
          → FilesSoFar shape shows own part old new names others before after files more' lists'
      files_more more' lists' counted fs ls = record {
        done = s.done ++ name ∷ [];
        split = s.split ∙ ap (λ ns. s.done ++ ns) e ∙ sym (append_assoc s.done (name ∷ []) others);
        reads = s.reads ++ it ∷ [];
        each = read_more shape part s.done name s.reads it s.each (record { named = n.by.named; stands = n.by.stands });
        files_are = fs ∙ ap (λ xs. xs ++ found.file ∷ []) s.files_are ∙ append_assoc files (map file_of s.reads) (found.file ∷ []) ∙ ap (λ xs. files ++ xs) (sym (map-append file_of s.reads (it ∷ [])));
        lists_are = ls ∙ ap (λ xs. xs ++ found.rows ∷ []) s.lists_are ∙ sym (map-append rows_of s.reads (it ∷ []));
        calls = s.calls ++ n.calls;
        added = added_more before told after s.calls n.calls s.added n.added;
        answers = one_answered shape part shows' name now told found s.reads s.calls n.calls s.answers n.by;
        leads = found_leads;
        texts = λ sh t w st. all_both (ReadsText w) s.reads (it ∷ []) (s.texts sh t w st) (n.by.text (shown sh) (still_told before told s.calls s.added t) w (stands w st), tt);
        counted = counted;
      }

      -- and then memory was wanting
      pub files_memory : OfFiles (λ r plan. Begun plan before after) old own names
      files_memory = λ r of. record {
        calls = s.calls ++ n.calls;
        rest = read_files own others (reading (read_by own (map file_of (s.reads ++ it ∷ [])) new r));
        added = added_more before told after s.calls n.calls s.added n.added;
        leads = found_leads r of;
      }

    pub files_starved : NeedRead shape shows' (Attempt own part) name now new told after None → OfFiles (λ r plan. Goes plan before after (gives (starved (with_books new r.cluster)))) old own names
    files_starved n = λ r of. record {
      calls = s.calls ++ n.calls;
      added = added_more before told after s.calls n.calls s.added n.added;
      leads = next_leads r of n.calls (gives (starved (with_books new r.cluster)))
          (subst (Leads (read_files own (name ∷ others) (reading (at r))) n.calls) (starved_stays own (with_books new r.cluster) others)
          (one_then own part name others (at r) n.calls (tried_by new (at r).cluster None) (n.leads (at r).cluster (seen r of))));
    }

    -- a plan that was begun, and what would have followed
    begun_then : (r : Reading) → IsOf old r.cluster → Begun (read_first (tries_for (at r).cluster own name) (at r).cluster) told after → Begun (read_files own names (reading r)) before after
    begun_then r of b =
        let one : Plan ReadSoFar = b.rest >>= (λ tried. gives (after_tries own (at r) tried.cluster tried.answered)) in
        record {
          calls = s.calls ++ b.calls;
          rest = one >>= read_files own others;
          added = added_more before told after s.calls b.calls s.added b.added;
          leads = next_leads r of b.calls (one >>= read_files own others)
              (leaves_then (read_need own name (at r)) one (read_files own others) (map made_of b.calls)
              (leaves_then (read_first (tries_for (at r).cluster own name) (at r).cluster) b.rest (λ tried. gives (after_tries own (at r) tried.cluster tried.answered)) (map made_of b.calls) b.leads));
        }

    pub files_stopped : (fault : ReadFault) → TriesStopped now new (tries_by (Attempt own part) name) told after fault → FilesStopped own names old new before after fault
    files_stopped (Device device) t = λ r of. begun_then r of (t (at r).cluster (seen r of))
    files_stopped Misses t = λ r of.
        let g = t (at r).cluster (seen r of) in
        let refused : PlainCluster = with_books new r.cluster in
        record {
          calls = s.calls ++ g.calls;
          added = added_more before told after s.calls g.calls s.added g.added;
          leads = next_leads r of g.calls (refuses refused why.Misses)
              (leaves_then (read_need own name (at r)) (refuses refused why.Misses) (read_files own others) (map made_of g.calls)
              (leaves_then (read_first (tries_for (at r).cluster own name) (at r).cluster) (refuses refused why.Misses) (λ tried. gives (after_tries own (at r) tried.cluster tried.answered)) (map made_of g.calls) g.leads));
        }
    files_stopped Memory t = λ r of. begun_then r of (t (at r).cluster (seen r of))

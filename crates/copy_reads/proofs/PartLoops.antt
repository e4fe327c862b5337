-- Parts that are read one after another, whichever reads missed.
use Rattle.std.proofs.Common.{◌≡◌, List, [], ◌∷◌, ◌++◌, Option, None, Some, IsSome, map, refl, sym, ap, ◌∙◌, subst, append_assoc, append-nil}
use Rattle.std.specs.List.{AllByRecursion, filter}
use Rattle.std.proofs.lemmas.List.{map-append}
use Rattle.counter_report.specs.declared.journal.EndWord.{EndWord}
use Rattle.hal_base.specs.declared.record.Record.{Record}
use Rattle.hal_base.specs.declared.shape.Shape.{Shape}
use Rattle.hal_outside.specs.DiskCalls as disk
use Rattle.hal_outside.specs.DiskTold.{DiskTold}
use Rattle.name_values.specs.Values.{World}
use Rattle.node_names.specs.declared.name.Name.{Name}
use Rattle.plain_job.proofs.Lists.{all_both}
use Rattle.run_model.proofs.PlanSteps.{leaves_then}
use Rattle.run_model.specs.Advance.{Advanced, after_part, goes_on, part_tries, read_parts}
use Rattle.run_model.specs.Plans as why
use Rattle.run_model.specs.Plans.{Plan, gives, refuses, ◌>>=◌}
use Rattle.run_model.specs.Reading.{Tried, read_first}
use Rattle.run_model.specs.State.{PlainCluster}
use Rattle.valid_copies.proofs.Coming.{added_more, nothing_added, still_told}
use Rattle.valid_copies.proofs.Following.{leads_more}
use Rattle.valid_copies.specs.Calls.{Added, Begun, Leads, made_of}
use Rattle.valid_copies.specs.Files.{FileRead, ReadsText, call_of}
use Rattle.valid_copies.specs.Stands.{Stands}
use Rattle.copy_reads.specs.Books.{Counted, IsOf, with_books}
use Rattle.copy_reads.specs.Inputs.{AreReadFor, is_answered}
use Rattle.copy_reads.specs.Needs.{Goes, NeedRead, TriesStopped, tried_by}
use Rattle.copy_reads.specs.Parts.{AllPartsRead, OfParts, PartsStopped}
use Rattle.copy_reads.specs.Readers.{tries_by}
use Rattle.copy_reads.specs.declared.books.Books.{Books}
use Rattle.copy_reads.specs.declared.fault.ReadFault.{ReadFault}
use Rattle.copy_reads.specs.declared.fault.ReadFault.TheVariants.{Device, Misses, Memory}
use Rattle.copy_reads.specs.declared.reader.Reader.TheVariants.{End}
use Rattle.copy_reads.specs.declared.reading.Found.{Found}
use Rattle.copy_reads.proofs.Files.{one_answered, read_more, rows_of}
use Rattle.copy_reads.proofs.Tries.{itself, seen_in}

-- the parts before the rest were read, and nothing else was done
pub record PartsSoFar (shape : Shape) (shows : Type 0) (old now : Books) (names rest : List Name) (before told : Option DiskTold) (lists : List (List Record)) : Type 0 where
  pub done : List Name
  pub split : names ≡ done ++ rest
  pub reads : List FileRead
  pub each : AreReadFor shape 0 done reads
  pub lists_are : lists ≡ map rows_of reads
  pub calls : List disk.Call
  pub added : Added before calls told
  pub answers : filter is_answered calls ≡ map call_of reads
  pub leads : OfParts (λ c end plan. Leads plan calls (read_parts end rest (with_books now c))) old names
  pub texts : shows → IsSome before → (w : World) → Stands w old.table.copies before → AllByRecursion (ReadsText w) reads
  pub counted : Counted now

pub parts_none : (shape : Shape) (shows : Type 0) (books : Books) (names : List Name) (told : Option DiskTold) → Counted books → PartsSoFar shape shows books books names names told told []
parts_none shape shows books names told counted = record {
  done = [];
  split = refl;
  reads = [];
  each = tt;
  lists_are = refl;
  calls = [];
  added = nothing_added told;
  answers = refl;
  leads = λ c of end. ap (read_parts end names) (sym (itself books c of));
  texts = λ s t w st. tt;
  counted = counted;
}

module _ (shape : Shape) (shows shows' : Type 0) (old now : Books) (names rest : List Name) (before told : Option DiskTold) (lists : List (List Record)) (s : PartsSoFar shape shows old now names rest before told lists) (up : now.table.up ≡ old.table.up) (shown : shows → shows') (stands : (w : World) → Stands w old.table.copies before → Stands w now.table.copies told) where
  seen : (c : PlainCluster) → IsOf old c → IsOf now (with_books now c)
  seen c of = seen_in now c (of.up ∙ sym up)

  pub parts_all : rest ≡ [] → AllPartsRead shape shows names old now before told lists
  parts_all e = record {
    reads = s.reads;
    each = subst (λ ns. AreReadFor shape 0 ns s.reads) (sym (s.split ∙ ap (λ ns. s.done ++ ns) e ∙ append-nil s.done)) s.each;
    lists_are = s.lists_are;
    calls = s.calls;
    added = s.added;
    answers = s.answers;
    leads = λ c of end. subst (λ ns. Leads (read_parts end names c) s.calls (read_parts end ns (with_books now c))) e (s.leads c of end);
    texts = s.texts;
  }

  module _ (new : Books) (after : Option DiskTold) (name : Name) (others : List Name) (e : rest ≡ name ∷ others) where
    -- what follows on the tries of this part
    abbrev next : EndWord → Tried → Plan Advanced
    next end tried = after_part (read_parts end others) tried.cluster tried.answered

    -- calls more, of the next part
    next_leads : (c : PlainCluster) → IsOf old c → (end : EndWord) (calls : List disk.Call) (left : Plan Tried) → Leads (read_first (part_tries (with_books now c) name) (with_books now c)) calls left → Leads (read_parts end names c) (s.calls ++ calls) (left >>= next end)
    next_leads c of end calls left l =
        leads_more (read_parts end names c) (read_parts end rest (with_books now c)) (left >>= next end) s.calls calls (s.leads c of end)
        (subst (λ ns. Leads (read_parts end ns (with_books now c)) calls (left >>= next end)) (sym e)
        (leaves_then (read_first (part_tries (with_books now c) name) (with_books now c)) left (next end) (map made_of calls) l))

    module _ (found : Found) (n : NeedRead shape shows' End name now new told after (Some found)) where
      abbrev it : FileRead
      it = record { file = found.file; bytes = n.by.bytes; rows = found.rows }

      found_leads : OfParts (λ c end plan. Leads plan (s.calls ++ n.calls) (read_parts end others (with_books new c))) old names
      found_leads = λ c of end. next_leads c of end n.calls (gives (tried_by new (with_books now c) (Some found.file))) (n.leads (with_books now c) (seen c of))

      pub parts_more : (lists' : List (List Record)) → Counted new → lists' ≡ lists ++ found.rows ∷ []
          → PartsSoFar shape shows old new names others before after lists'
      parts_more lists' counted ls = record {
        done = s.done ++ name ∷ [];
        split = s.split ∙ ap (λ ns. s.done ++ ns) e ∙ sym (append_assoc s.done (name ∷ []) others);
        reads = s.reads ++ it ∷ [];
        each = read_more shape 0 s.done name s.reads it s.each (record { named = n.by.named; stands = n.by.stands });
        lists_are = ls ∙ ap (λ xs. xs ++ found.rows ∷ []) s.lists_are ∙ sym (map-append rows_of s.reads (it ∷ []));
        calls = s.calls ++ n.calls;
        added = added_more before told after s.calls n.calls s.added n.added;
        answers = one_answered shape 0 shows' name now told found s.reads s.calls n.calls s.answers n.by;
        leads = found_leads;
        texts = λ sh t w st. all_both (ReadsText w) s.reads (it ∷ []) (s.texts sh t w st) (n.by.text (shown sh) (still_told before told s.calls s.added t) w (stands w st), tt);
        counted = counted;
      }

      -- and then memory was wanting
      pub parts_memory : OfParts (λ c end plan. Begun plan before after) old names
      parts_memory = λ c of end. record {
        calls = s.calls ++ n.calls;
        rest = read_parts end others (with_books new c);
        added = added_more before told after s.calls n.calls s.added n.added;
        leads = found_leads c of end;
      }

    pub parts_left : NeedRead shape shows' End name now new told after None → OfParts (λ c end plan. Goes plan before after (gives (goes_on (with_books new c)))) old names
    parts_left n = λ c of end. record {
      calls = s.calls ++ n.calls;
      added = added_more before told after s.calls n.calls s.added n.added;
      leads = next_leads c of end n.calls (gives (tried_by new (with_books now c) None)) (n.leads (with_books now c) (seen c of));
    }

    begun_then : (c : PlainCluster) → IsOf old c → (end : EndWord) → Begun (read_first (part_tries (with_books now c) name) (with_books now c)) told after → Begun (read_parts end names c) before after
    begun_then c of end b = record {
      calls = s.calls ++ b.calls;
      rest = b.rest >>= next end;
      added = added_more before told after s.calls b.calls s.added b.added;
      leads = next_leads c of end b.calls b.rest b.leads;
    }

    pub parts_stopped : (fault : ReadFault) → TriesStopped now new (tries_by End name) told after fault → PartsStopped names old new before after fault
    parts_stopped (Device device) t = λ c of end. begun_then c of end (t (with_books now c) (seen c of))
    parts_stopped Misses t = λ c of end.
        let g = t (with_books now c) (seen c of) in
        record {
          calls = s.calls ++ g.calls;
          added = added_more before told after s.calls g.calls s.added g.added;
          leads = next_leads c of end g.calls (refuses (with_books new c) why.Misses) g.leads;
        }
    parts_stopped Memory t = λ c of end. begun_then c of end (t (with_books now c) (seen c of))

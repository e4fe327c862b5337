-- Parts that are read at the end of a run, one after another, whichever reads missed.
use Rattle.std.specs.Prelude.{◌≡◌, List, [], ◌∷◌, Option, None, Some, IsSome, map}
use Rattle.std.specs.List.{AllByRecursion, filter}
use Rattle.counter_report.specs.declared.journal.EndWord.{EndWord}
use Rattle.counter_report.specs.declared.journal.Entry.TheVariants as line
use Rattle.hal_base.specs.declared.record.Record.{Record}
use Rattle.hal_base.specs.declared.shape.Shape.{Shape}
use Rattle.hal_outside.specs.DiskCalls as disk
use Rattle.hal_outside.specs.DiskTold.{DiskTold}
use Rattle.name_values.specs.Values.{World}
use Rattle.node_names.specs.declared.name.Name.{Name}
use Rattle.run_model.specs.Advance.{Advanced, finished, goes_on, read_parts}
use Rattle.run_model.specs.Plans as why
use Rattle.run_model.specs.Plans.{Plan, gives, refuses}
use Rattle.run_model.specs.State.{PlainCluster, noted}
use Rattle.valid_copies.specs.Calls.{Added, Begun, Leads}
use Rattle.valid_copies.specs.Files.{FileRead, ReadsText, call_of}
use Rattle.valid_copies.specs.Stands.{Stands}
use Rattle.copy_reads.specs.Books.{IsOf, with_books}
use Rattle.copy_reads.specs.Inputs.{AreReadFor, is_answered}
use Rattle.copy_reads.specs.Needs.{Goes}
use Rattle.copy_reads.specs.declared.books.Books.{Books}
use Rattle.copy_reads.specs.declared.fault.ReadFault.{ReadFault}
use Rattle.copy_reads.specs.declared.fault.ReadFault.TheVariants.{Device, Misses, Memory}

-- P of the plan to read parts, from any cluster that has these books, whatever the word of the end
abbrev pub OfParts : (PlainCluster → EndWord → Plan Advanced → Type 0) → Books → List Name → Type 0
OfParts P books names = (c : PlainCluster) → IsOf books c → (end : EndWord) → P c end (read_parts end names c)

-- the run is finished, once the parts are read
abbrev pub finished_by : Books → PlainCluster → EndWord → Advanced
finished_by books c end = finished (noted (line.End end c.round ∷ []) (with_books books c)) end

-- all parts were read, by the calls that were answered, and the machine finishes the run; these are their records
pub record AllPartsRead (shape : Shape) (shows : Type 0) (names : List Name) (old new : Books) (before after : Option DiskTold) (lists : List (List Record)) : Type 0 where
  pub reads : List FileRead
  pub each : AreReadFor shape 0 names reads
  pub lists_are : lists ≡ map (λ (it : FileRead). it.rows) reads
  pub calls : List disk.Call
  pub added : Added before calls after
  pub answers : filter is_answered calls ≡ map call_of reads
  pub leads : OfParts (λ c end plan. Leads plan calls (gives (finished_by new c end))) old names
  pub texts : shows → IsSome before → (w : World) → Stands w old.table.copies before → AllByRecursion (ReadsText w) reads

-- all parts were read, or of one no copy is left, and the run goes on
abbrev pub PartsOrLeft : Shape → Type 0 → List Name → Books → Books → Option DiskTold → Option DiskTold → Option (List (List Record)) → Type 0
PartsOrLeft shape shows names old new before after None = OfParts (λ c end plan. Goes plan before after (gives (goes_on (with_books new c)))) old names
PartsOrLeft shape shows names old new before after (Some lists) = AllPartsRead shape shows names old new before after lists

-- what the plan was stopped by
abbrev pub PartsStopped : List Name → Books → Books → Option DiskTold → Option DiskTold → ReadFault → Type 0
PartsStopped names old new before after (Device device) = OfParts (λ c end plan. Begun plan before after) old names
PartsStopped names old new before after Misses = OfParts (λ c end plan. Goes plan before after (refuses (with_books new c) why.Misses)) old names
PartsStopped names old new before after Memory = OfParts (λ c end plan. Begun plan before after) old names

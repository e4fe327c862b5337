-- A read of a copy, whatever it was answered.
use Rattle.std.proofs.Common.{◌≡◌, inl, inr, List, [], ◌∷◌, ◌++◌, Option, Some, Result, Ok, Err, IfOk, OnErr, sym, ◌∙◌, append-nil}
use Rattle.hal_outside.specs.DiskCalls as disk
use Rattle.hal_outside.specs.DiskTold.{DiskTold, NotRead}
use Rattle.hal_outside.specs.Told.{OnTold}
use Rattle.node_files.specs.KeptFiles.{IsFetched}
use Rattle.node_files.specs.declared.fault.Fault.{Fault}
use Rattle.node_files.specs.declared.files.FileRef.{FileRef}
use Rattle.node_files.specs.declared.files.Fetched.{Fetched}
use Rattle.node_files.specs.declared.files.Fetched.TheVariants.{Bytes, Missed}
use Rattle.replica_table.specs.Copies.{Copy, held}
use Rattle.valid_copies.proofs.Coming.{asked}
use Rattle.valid_copies.proofs.Others.{on_told}
use Rattle.valid_copies.specs.Calls.{AddedSuch}
use Rattle.valid_copies.specs.LastWrites.{AsksForCopy, ReadsCopies}

module _ (copies : List Copy) (file : FileRef) (kept : held file.name file.node copies ≡ Some file.digest) where
  one_read : (t u : DiskTold) (answer : disk.Answer) → u.calls ≡ t.calls ++ asked file answer ∷ [] → AddedSuch (AsksForCopy copies) t u
  one_read t u answer e = record { calls = asked file answer ∷ []; added = e; each = (kept, tt) }

  fetched_copy : (found : Fetched) (t u : DiskTold) → IsFetched file found t u → AddedSuch (AsksForCopy copies) t u
  fetched_copy (Bytes b) t u r = one_read t u (disk.Same b.items) r.calls
  fetched_copy Missed t u r = elim r [ inl a ↦ one_read t u disk.Gone a.calls | inr a ↦ one_read t u disk.Other a.calls ]

  unread_copy : (p : Type 0) (t u : DiskTold) → NotRead file.node file.name file.digest.0 p t u → AddedSuch (AsksForCopy copies) t u
  unread_copy p t u r = elim r.calls [
    | inl e ↦ record { calls = []; added = e ∙ sym (append-nil t.calls); each = tt }
    | inr e ↦ one_read t u e.0 e.2
  ]

  pub copy_read : (p : Type 0) (result : Result Fetched Fault) (before after : Option DiskTold) → IfOk result (λ found. OnTold (IsFetched file found) before after) → OnErr result (OnTold (NotRead file.node file.name file.digest.0 p) before after) → ReadsCopies copies before after
  copy_read p (Ok found) before after done failed = on_told (IsFetched file found) (AddedSuch (AsksForCopy copies)) before after (fetched_copy found) done
  copy_read p (Err fault) before after done failed = on_told (NotRead file.node file.name file.digest.0 p) (AddedSuch (AsksForCopy copies)) before after (unread_copy p) failed

-- Writes of one file to nodes: which calls they add, and what they keep of digests.
use Rattle.std.proofs.Common.{◌≡◌, inl, inr, ℕ, List, [], ◌∷◌, ◌++◌, Option, Result, Ok, Err, OnErr, OnOk, map, refl, sym, subst}
use Rattle.std.specs.List.{AllByRecursion}
use Rattle.plain_job.proofs.Lists.{all_both, all_mapped}
use Rattle.hal_outside.specs.DiskCalls as disk
use Rattle.hal_outside.specs.DiskTold.{DiskTold}
use Rattle.node_names.specs.declared.name.Name.{Name}
use Rattle.replica_table.specs.Copies.{Copy, Replicas}
use Rattle.valid_copies.proofs.Adding.{all_back, all_front, such_added, such_weaker}
use Rattle.valid_copies.proofs.Digests.{asked_more, asked_none, copy_writes, digests_at_most, digests_read, digests_wrote, digests_wrote_some}
use Rattle.valid_copies.specs.Calls.{AddedAtMost, CallsHave}
use Rattle.valid_copies.specs.LastWrites.{AsksByDigests, AsksForCopy, DigestsAgree, IsWriteOf, KeepsDigests, ReadsCopies, WritesNothing}
use Rattle.valid_copies.specs.Writes.{FileWrite, IsNextWrite, Wrote, WroteSome, write_of, writes_at}

-- ---- reads

pub reads_keep : (copies : List Copy) (before after : Option DiskTold) → ReadsCopies copies before after → KeepsDigests copies copies before after
reads_keep copies before after r = λ agree. (digests_read copies before after r agree).1

pub reads_ask : (copies : List Copy) (before after : Option DiskTold) → ReadsCopies copies before after → AsksByDigests copies before after
reads_ask copies before after r = λ agree. (digests_read copies before after r agree).0

pub reads_write_nothing : (copies : List Copy) (before after : Option DiskTold) → ReadsCopies copies before after → CallsHave WritesNothing before after
reads_write_nothing copies before after r = such_weaker (AsksForCopy copies) WritesNothing before after (copy_writes copies) r

-- ---- digests

-- no call was made, and the table is the same
pub same_keep : (old new : Replicas) (told : Option DiskTold) → new ≡ old → KeepsDigests old.copies new.copies told told
same_keep old new told e = λ agree. subst (λ (t : Replicas). DigestsAgree t.copies told) (sym e) agree

pub none_ask : (copies : List Copy) (told : Option DiskTold) → AsksByDigests copies told told
none_ask copies told = λ agree. asked_none told

-- calls one after another
pub ask_more : (copies changed : List Copy) (before between after : Option DiskTold) → AsksByDigests copies before between → KeepsDigests copies changed before between → AsksByDigests changed between after → AsksByDigests copies before after
ask_more copies changed before between after a k b = λ agree. asked_more before between after (a agree) (b (k agree))

pub wrote_keep : (before after : Option DiskTold) (first last : Replicas) (writes : List FileWrite) → Wrote before first writes last after → KeepsDigests first.copies last.copies before after
wrote_keep before after first last writes w = λ agree. (digests_wrote before after first last writes w agree).1

pub writes_ask : {A B : Type 0} (result : Result A B) (before after : Option DiskTold) (first last : Replicas) (writes : List FileWrite) → OnOk result (Wrote before first writes last after) → OnErr result (WroteSome before first writes last after) → AsksByDigests first.copies before after
writes_ask (Ok a) before after first last writes w s = λ agree. (digests_wrote before after first last writes w agree).0
writes_ask (Err b) before after first last writes w s = λ agree. (digests_wrote_some before after first last writes (Unit {0}) tt s agree).0

pub at_most_asks : (copies : List Copy) (before after : Option DiskTold) (it : FileWrite) → AddedAtMost before [] (write_of it) after → AsksByDigests copies before after
at_most_asks copies before after it a = λ agree. (digests_at_most copies before after it (Unit {0}) tt a agree).0

-- ---- calls

module _ (name : Name) (bytes : List ℕ) (before after : Option DiskTold) where
  -- the write is of these bytes under this name
  abbrev IsOf : FileWrite → Type 0
  IsOf it = (it.name ≡ name) × (it.bytes ≡ bytes)

  all_of : (nodes : List ℕ) → AllByRecursion IsOf (writes_at nodes name bytes)
  all_of [] = tt
  all_of (n ∷ nodes) = ((refl, refl), all_of nodes)

  calls_of : (writes : List FileWrite) → AllByRecursion IsOf writes → AllByRecursion (IsWriteOf name bytes) (map write_of writes)
  calls_of writes a = all_mapped IsOf (IsWriteOf name bytes) write_of writes (λ it is. is) a

  next_of : (writes : List FileWrite) (last : List disk.Call) → AllByRecursion IsOf writes → IsNextWrite writes last → AllByRecursion (IsWriteOf name bytes) last
  next_of writes [] a n = tt
  next_of [] (call ∷ calls) a n = absurd n
  next_of (it ∷ writes) (call ∷ calls) a n = subst (AllByRecursion (IsWriteOf name bytes)) (sym n) (a.0, tt)

  pub wrote_such : (first last : Replicas) (nodes : List ℕ) → Wrote before first (writes_at nodes name bytes) last after → CallsHave (IsWriteOf name bytes) before after
  wrote_such first last nodes w = such_added (IsWriteOf name bytes) before after (map write_of (writes_at nodes name bytes)) w.added (calls_of (writes_at nodes name bytes) (all_of nodes))

  some_such : (first last : Replicas) (nodes : List ℕ) → WroteSome before first (writes_at nodes name bytes) last after → CallsHave (IsWriteOf name bytes) before after
  some_such first last nodes s =
      let all : AllByRecursion IsOf (s.done ++ s.more) = subst (AllByRecursion IsOf) s.split (all_of nodes) in
      such_added (IsWriteOf name bytes) before after (map write_of s.done ++ s.last) s.added
      (all_both (IsWriteOf name bytes) (map write_of s.done) s.last (calls_of s.done (all_front IsOf s.done s.more all)) (next_of s.more s.last (all_back IsOf s.done s.more all) s.next))

  pub writes_such : {A B : Type 0} (result : Result A B) (first last : Replicas) (nodes : List ℕ) → OnOk result (Wrote before first (writes_at nodes name bytes) last after) → OnErr result (WroteSome before first (writes_at nodes name bytes) last after) → CallsHave (IsWriteOf name bytes) before after
  writes_such (Ok a) first last nodes w s = wrote_such first last nodes w
  writes_such (Err b) first last nodes w s = some_such first last nodes s

  pub at_most_such : (node : ℕ) → AddedAtMost before [] (disk.Write node name bytes) after → CallsHave (IsWriteOf name bytes) before after
  at_most_such node a = elim a [
    | inl none ↦ such_added (IsWriteOf name bytes) before after [] none tt
    | inr one ↦ such_added (IsWriteOf name bytes) before after (disk.Write node name bytes ∷ []) one ((refl, refl), tt)
  ]

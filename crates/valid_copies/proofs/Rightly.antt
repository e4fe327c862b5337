-- Calls that are right, one after another.
use Rattle.std.proofs.Common.{◌≡◌, inl, inr, ◌<◌, ◌≤◌, ℕ, List, [], ◌∷◌, ◌++◌, Option, None, Some, IfSome, IsSome, Result, Ok, Err, IfOk, OnErr, OnOk, map, refl, sym, ap, ◌∙◌, subst, arith, append-nil}
use Rattle.std.specs.List.{AllByRecursion}
use Rattle.std.specs.Option.{option_map}
use Rattle.std.proofs.lemmas.Bool.{cases_lt}
use Rattle.hal_outside.specs.Damage.{IsSound}
use Rattle.hal_outside.specs.declared.disks.Disks.{Ghosts as Disks}
use Rattle.hal_outside.specs.DiskCalls as disk
use Rattle.hal_outside.specs.DiskFiles.{file_at}
use Rattle.hal_outside.specs.DiskTold.{DiskTold, Done, Lacks, NotDone, NotRead}
use Rattle.hal_outside.specs.Told.{OnTold}
use Rattle.name_values.specs.Values.{World, value_of}
use Rattle.node_names.specs.declared.name.Name.{Name}
use Rattle.node_names.specs.declared.digest.Digest.{Digest}
use Rattle.node_files.specs.KeptFiles.{IsFetched, IsFound, OnMissed}
use Rattle.node_files.specs.declared.fault.Fault.{Fault}
use Rattle.node_files.specs.declared.files.FileRef.{FileRef}
use Rattle.node_files.specs.declared.files.Fetched.{Fetched}
use Rattle.node_files.specs.declared.files.Fetched.TheVariants.{Bytes, Missed}
use Rattle.replica_table.specs.Copies.{Copy, Replicas, held}
use Rattle.replica_table.specs.declared.file_on.FileOn.{FileOn}
use Rattle.sha2.specs.Sha256.{sha256}
use Rattle.plain_job.proofs.Lists.{all_both}
use Rattle.valid_copies.proofs.Adding.{such_added, such_more, such_none}
use Rattle.valid_copies.proofs.Coming.{asked, done_added, not_done_added}
use Rattle.valid_copies.proofs.Copies.{held_has}
use Rattle.valid_copies.proofs.Others.{on_told, tells_on}
use Rattle.valid_copies.proofs.Steps.{text_is}
use Rattle.valid_copies.specs.Calls.{Added}
use Rattle.valid_copies.specs.Readings.{IsTextOf}
use Rattle.valid_copies.specs.Removing.{IsNextRemoval, RemovedSome, removal_of}
use Rattle.valid_copies.specs.RightCalls.{IsRightCall, RightCalls, RightWork}
use Rattle.valid_copies.specs.Stands.{Stands}
use Rattle.valid_copies.specs.Texts.{text_of}
use Rattle.valid_copies.specs.Writes.{Wrote, write_of, writes_at}

-- ---- work on disks

pub works_none : {D : Type 0} (g : Disks D) (w : World) (disks : D) (p : Type 0) → p → RightWork g w disks disks p
works_none g w disks p is = record {
  right = such_none (IsRightCall w) (g.told disks);
  sound = λ s. s;
  unmissed = λ s t. refl;
  also = λ s t. is;
}

pub works_more : {D : Type 0} (g : Disks D) (w : World) (old between new : D) (p q : Type 0) → RightWork g w old between p → RightWork g w between new q → RightWork g w old new q
works_more g w old between new p q a b =
    let tells : IsSome (g.told old) → IsSome (g.told between) = tells_on (RightCalls w) (g.told old) (g.told between) a.right in
    record {
      right = such_more (IsRightCall w) (g.told old) (g.told between) (g.told new) a.right b.right;
      sound = λ s. b.sound (a.sound s);
      unmissed = λ s t. b.unmissed (a.sound s) (tells t) ∙ a.unmissed s t;
      also = λ s t. b.also (a.sound s) (tells t);
    }

pub works_so : {D : Type 0} (g : Disks D) (w : World) (old new : D) (p q : Type 0) → (p → q) → RightWork g w old new p → RightWork g w old new q
works_so g w old new p q f a = record { right = a.right; sound = a.sound; unmissed = a.unmissed; also = λ s t. f (a.also s t) }

-- calls none of which reads
pub works_added : {D : Type 0} (g : Disks D) (w : World) (old new : D) (calls : List disk.Call) (p : Type 0) → p → Added (g.told old) calls (g.told new) → AllByRecursion (IsRightCall w) calls
    → (g.sound old → g.sound new) → (IsSome (g.told old) → g.misses new ≡ g.misses old) → RightWork g w old new p
works_added g w old new calls p is a r sound misses = record {
  right = such_added (IsRightCall w) (g.told old) (g.told new) calls a r;
  sound = sound;
  unmissed = λ s t. misses t;
  also = λ s t. is;
}

-- ---- writes

written_right : (w : World) (node : ℕ) (name : Name) (bytes : List ℕ) → IsTextOf w.shape name bytes (value_of w name) → AllByRecursion (IsRightCall w) (disk.Write node name bytes ∷ [])
written_right w node name bytes is = (text_is w name bytes is, tt)

-- a write that is done, or not
pub works_put : {A B D : Type 0} (g : Disks D) (w : World) (old new : D) (node : ℕ) (name : Name) (bytes : List ℕ) (result : Result A B) → IsTextOf w.shape name bytes (value_of w name)
    → OnOk result (OnTold (Done (disk.Write node name bytes)) (g.told old) (g.told new)) → OnErr result (OnTold (NotDone (disk.Write node name bytes)) (g.told old) (g.told new))
    → (g.sound old → g.sound new) → (IsSome (g.told old) → g.misses new ≡ g.misses old) → RightWork g w old new (Unit {0})
works_put g w old new node name bytes (Ok a) is done failed sound misses =
    works_added g w old new (disk.Write node name bytes ∷ []) (Unit {0}) tt (done_added (disk.Write node name bytes) (g.told old) (g.told new) done) (written_right w node name bytes is) sound misses
works_put g w old new node name bytes (Err b) is done failed sound misses = elim (not_done_added (disk.Write node name bytes) (g.told old) (g.told new) failed) [
  | inl none ↦ works_added g w old new [] (Unit {0}) tt none tt sound misses
  | inr one ↦ works_added g w old new (disk.Write node name bytes ∷ []) (Unit {0}) tt one (written_right w node name bytes is) sound misses
]

-- one text that was written to some nodes
writes_right : (w : World) (nodes : List ℕ) (name : Name) (bytes : List ℕ) → text_of w name ≡ Some bytes → AllByRecursion (IsRightCall w) (map write_of (writes_at nodes name bytes))
writes_right w [] name bytes is = tt
writes_right w (n ∷ nodes) name bytes is = (is, writes_right w nodes name bytes is)

pub works_wrote : {D : Type 0} (g : Disks D) (w : World) (old new : D) (first last : Replicas) (nodes : List ℕ) (name : Name) (bytes : List ℕ) → IsTextOf w.shape name bytes (value_of w name)
    → Wrote (g.told old) first (writes_at nodes name bytes) last (g.told new) → (g.sound old → g.sound new) → (IsSome (g.told old) → g.misses new ≡ g.misses old) → RightWork g w old new (Unit {0})
works_wrote g w old new first last nodes name bytes is wrote sound misses =
    works_added g w old new (map write_of (writes_at nodes name bytes)) (Unit {0}) tt wrote.added (writes_right w nodes name bytes (text_is w name bytes is)) sound misses

-- ---- removals

removals_right : (w : World) (files : List FileOn) → AllByRecursion (IsRightCall w) (map removal_of files)
removals_right w [] = tt
removals_right w (it ∷ files) = (tt, removals_right w files)

next_right : (w : World) (files : List FileOn) (last : List disk.Call) → IsNextRemoval files last → AllByRecursion (IsRightCall w) last
next_right w files [] n = tt
next_right w [] (call ∷ calls) n = absurd n
next_right w (it ∷ files) (call ∷ calls) n = subst (AllByRecursion (IsRightCall w)) (sym n) (tt, tt)

pub works_removed : {D : Type 0} (g : Disks D) (w : World) (old new : D) (files : List FileOn) → Added (g.told old) (map removal_of files) (g.told new) → (g.sound old → g.sound new) → (IsSome (g.told old) → g.misses new ≡ g.misses old) → RightWork g w old new (Unit {0})
works_removed g w old new files a sound misses = works_added g w old new (map removal_of files) (Unit {0}) tt a (removals_right w files) sound misses

pub works_removed_some : {D : Type 0} (g : Disks D) (w : World) (old new : D) (files : List FileOn) (p : Type 0) → p → RemovedSome (g.told old) files (g.told new) → (g.sound old → g.sound new) → (IsSome (g.told old) → g.misses new ≡ g.misses old) → RightWork g w old new p
works_removed_some g w old new files p is s sound misses =
    works_added g w old new (map removal_of s.done ++ s.last) p is s.added (all_both (IsRightCall w) (map removal_of s.done) s.last (removals_right w s.done) (next_right w s.more s.last s.next)) sound misses

-- ---- a read of a copy

text_with : (text : Option (List ℕ)) (digest : List ℕ) → option_map sha256 text ≡ Some digest → (bytes : List ℕ) × (text ≡ Some bytes) × (digest ≡ sha256 bytes)
text_with None digest e = cc
text_with (Some bytes) digest e = (bytes, refl, cc)

module _ (w : World) (copies : List Copy) (file : FileRef) (kept : held file.name file.node copies ≡ Some file.digest) where
  asks_right : (told : Option DiskTold) (answer : disk.Answer) → Stands w copies told → IsRightCall w (asked file answer)
  asks_right told answer stands = text_with (text_of w file.name) file.digest.0 (held_has (λ name node (digest : Digest). option_map sha256 (text_of w name) ≡ Some digest.0) copies file.name file.node file.digest stands.valid kept)

  one_read : (told : Option DiskTold) (t u : DiskTold) (answer : disk.Answer) → Stands w copies told → u.calls ≡ t.calls ++ asked file answer ∷ [] → RightCalls w t u
  one_read told t u answer stands e = record { calls = asked file answer ∷ []; added = e; each = (asks_right told answer stands, tt) }

  right_fetched : (told : Option DiskTold) (found : Fetched) (t u : DiskTold) → Stands w copies told → IsFetched file found t u → RightCalls w t u
  right_fetched told (Bytes b) t u stands r = one_read told t u (disk.Same b.items) stands r.calls
  right_fetched told Missed t u stands r = elim r [ inl a ↦ one_read told t u disk.Gone stands a.calls | inr a ↦ one_read told t u disk.Other stands a.calls ]

  right_unread : (told : Option DiskTold) (p : Type 0) (t u : DiskTold) → Stands w copies told → NotRead file.node file.name file.digest.0 p t u → RightCalls w t u
  right_unread told p t u stands r = elim r.calls [
    | inl e ↦ record { calls = []; added = e ∙ sym (append-nil t.calls); each = tt }
    | inr e ↦ one_read told t u e.0 stands e.2
  ]

  -- the text of its name lies there, if the disks are sound
  not_lacking : (t u : DiskTold) → u.put ≡ t.put → IsSound u → Stands w copies (Some t) → Lacks (file_at u.now file.node file.name) file.digest.0 → ⊥
  not_lacking t u same sound stands lacks =
      let text = asks_right (Some t) disk.Gone stands in
      let put : file_at t.put file.node file.name ≡ text_of w file.name = held_has (λ name node digest. file_at t.put node name ≡ text_of w name) copies file.name file.node file.digest stands.put kept in
      lacks text.0 (ap (λ files. file_at files file.node file.name) (sound ∙ same) ∙ put ∙ text.1) (sym text.2)

  same_count : (m m' : ℕ) → m ≤ m' → (m < m' → ⊥) → m' ≡ m
  same_count m m' l none = elim (cases_lt m m') [ inl less ↦ absurd (none less) | inr more ↦ omega (arith, l, more) ]

  there : (found : Fetched) (lies : Option (List ℕ)) → (Lacks lies file.digest.0 → ⊥) → IsFound lies file.digest.0 found → OnMissed found ⊥
  there (Bytes b) lies none found = tt
  there Missed lies none found = none found

  fetched_put : (found : Fetched) (t u : DiskTold) → IsFetched file found t u → u.put ≡ t.put
  fetched_put (Bytes b) t u r = r.put
  fetched_put Missed t u r = elim r [ inl a ↦ a.put | inr a ↦ a.put ]

  -- over sound disks it is read, and if it is not, no miss is counted
  unmissed_read : (m m' : ℕ) (p : Type 0) (result : Result Fetched Fault) (old new : Option DiskTold) → m ≤ m' → IfSome new IsSound
      → IfSome new (λ u. m < m' → Lacks (file_at u.now file.node file.name) file.digest.0)
      → IfOk result (λ found. IfSome new (λ u. IsFound (file_at u.now file.node file.name) file.digest.0 found))
      → IfOk result (λ found. OnTold (IsFetched file found) old new) → OnErr result (OnTold (NotRead file.node file.name file.digest.0 p) old new)
      → Stands w copies old → IsSome old → (m' ≡ m) × IfOk result (λ found. OnMissed found ⊥)
  unmissed_read m m' p result None new l sound only found done failed stands told = cc
  unmissed_read m m' p (Ok f) (Some t) None l sound only found done failed stands told = absurd done
  unmissed_read m m' p (Err f) (Some t) None l sound only found done failed stands told = absurd failed
  unmissed_read m m' p (Ok f) (Some t) (Some u) l sound only found done failed stands told =
      let lies = not_lacking t u (fetched_put f t u done) sound stands in
      (same_count m m' l (λ less. lies (only less)), there f (file_at u.now file.node file.name) lies found)
  unmissed_read m m' p (Err f) (Some t) (Some u) l sound only found done failed stands told =
      (same_count m m' l (λ less. not_lacking t u failed.put sound stands (only less)), tt)

  right_read : (p : Type 0) (result : Result Fetched Fault) (old new : Option DiskTold) → IfOk result (λ found. OnTold (IsFetched file found) old new) → OnErr result (OnTold (NotRead file.node file.name file.digest.0 p) old new)
      → Stands w copies old → OnTold (RightCalls w) old new
  right_read p (Ok found) old new done failed stands = on_told (IsFetched file found) (RightCalls w) old new (λ t u r. right_fetched old found t u stands r) done
  right_read p (Err fault) old new done failed stands = on_told (NotRead file.node file.name file.digest.0 p) (RightCalls w) old new (λ t u r. right_unread old p t u stands r) failed

  pub works_read : {D : Type 0} (g : Disks D) (old new : D) (p : Type 0) (result : Result Fetched Fault) → g.misses old ≤ g.misses new → (g.sound old → g.sound new) → (g.sound new → IfSome (g.told new) IsSound)
      → IfSome (g.told new) (λ u. g.misses old < g.misses new → Lacks (file_at u.now file.node file.name) file.digest.0)
      → IfOk result (λ found. IfSome (g.told new) (λ u. IsFound (file_at u.now file.node file.name) file.digest.0 found))
      → IfOk result (λ found. OnTold (IsFetched file found) (g.told old) (g.told new)) → OnErr result (OnTold (NotRead file.node file.name file.digest.0 p) (g.told old) (g.told new))
      → Stands w copies (g.told old) → RightWork g w old new (IfOk result (λ found. OnMissed found ⊥))
  works_read g old new p result l sound is only found done failed stands =
      let all : g.sound old → IsSome (g.told old) → (g.misses new ≡ g.misses old) × IfOk result (λ found. OnMissed found ⊥) = λ s t. unmissed_read (g.misses old) (g.misses new) p result (g.told old) (g.told new) l (is (sound s)) only found done failed stands t in
      record {
        right = right_read p result (g.told old) (g.told new) done failed stands;
        sound = sound;
        unmissed = λ s t. (all s t).0;
        also = λ s t. (all s t).1;
      }

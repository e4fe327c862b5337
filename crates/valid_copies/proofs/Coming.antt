-- Reads one after another, and the calls that they add.
use Rattle.std.proofs.Common.{◌≡◌, ◌⊎◌, inl, inr, ℕ, List, [], ◌∷◌, ◌++◌, Option, None, Some, IsSome, refl, sym, ap, subst, ◌∙◌, map, append_assoc, append-nil}
use Rattle.std.specs.Option.{option_map}
use Rattle.std.proofs.lemmas.List.{map-append}
use Rattle.plain_job.proofs.Lists.{all_both}
use Rattle.node_names.specs.declared.name.Name.{Name}
use Rattle.hal_outside.specs.DiskCalls as disk
use Rattle.hal_outside.specs.DiskTold.{DiskTold, Done, NotDone, NotRead}
use Rattle.hal_outside.specs.Told.{OnTold}
use Rattle.hal_base.specs.declared.record.Record.{Record}
use Rattle.name_values.specs.Values.{World}
use Rattle.replica_table.specs.Copies.{Copy, held}
use Rattle.std.specs.declared.alloc.Global.{Global}
use Rattle.std.specs.declared.vec.Vec.{Vec}
use Rattle.valid_copies.specs.Readings.{StandsFor}
use Rattle.valid_copies.specs.Texts.{text_of}
use Rattle.node_files.specs.KeptFiles.{IsFetched}
use Rattle.node_files.specs.declared.files.FileRef.{FileRef}
use Rattle.node_files.specs.declared.files.Fetched.{Fetched}
use Rattle.node_files.specs.declared.files.Fetched.TheVariants.{Bytes, Missed}
use Rattle.valid_copies.specs.Stands.{Stands}
use Rattle.valid_copies.specs.Calls.{Added, PutStays}
use Rattle.valid_copies.specs.declared.reading.Found.{Found}
use Rattle.valid_copies.specs.declared.fault.WorkFault.{WorkFault}
use Rattle.valid_copies.specs.declared.fault.WorkFault.TheVariants.{Device, Memory}
use Rattle.valid_copies.specs.declared.fault.WorkFault.TheVariants as fault
use Rattle.valid_copies.specs.Files.{AllRead, Any, AreRead, Came, Desk, FileRead, FoundAt, IsFirstTry, IsNext, Misses, ReadsText, StarvedAt, Stopped, StoppedBy, call_of, try_of}

abbrev calls_in : DiskTold → List disk.Call
calls_in told = told.calls

abbrev with_calls : List disk.Call → DiskTold → List disk.Call
with_calls calls told = told.calls ++ calls

-- ---- calls that are added

pub nothing_added : (told : Option DiskTold) → Added told [] told
nothing_added None = refl
nothing_added (Some told) = ap (λ calls. Some calls) (sym (append-nil told.calls))

pub added_more : (before middle after : Option DiskTold) (calls more : List disk.Call) → Added before calls middle → Added middle more after → Added before (calls ++ more) after
added_more None None after calls more a b = b
added_more None (Some m) after calls more a b = cc
added_more (Some t) None after calls more a b = cc
added_more (Some t) (Some m) after calls more a b = b ∙ ap (λ cs. Some cs) (ap (λ cs. cs ++ more) (same a) ∙ append_assoc t.calls calls more)
  where
    same : Some m.calls ≡ Some (t.calls ++ calls) → m.calls ≡ t.calls ++ calls
    same e = cc

pub still_told : (before after : Option DiskTold) (calls : List disk.Call) → Added before calls after → IsSome before → IsSome after
still_told None after calls a s = cc
still_told (Some t) None calls a s = cc
still_told (Some t) (Some u) calls a s = s

-- ---- what was put

pub puts_none : (told : Option DiskTold) → PutStays told told
puts_none None = refl
puts_none (Some t) = refl

pub puts_more : (before middle after : Option DiskTold) → PutStays before middle → PutStays middle after → PutStays before after
puts_more None None after a b = b
puts_more None (Some m) after a b = cc
puts_more (Some t) None after a b = absurd a
puts_more (Some t) (Some m) None a b = b
puts_more (Some t) (Some m) (Some u) a b = b ∙ a

fetched_puts : (file : FileRef) (found : Fetched) (t u : DiskTold) → IsFetched file found t u → u.put ≡ t.put
fetched_puts file (Bytes b) t u r = r.put
fetched_puts file Missed t u r = elim r [ inl a ↦ a.put | inr a ↦ a.put ]

told_puts : (R : DiskTold → DiskTold → Type 0) (old new : Option DiskTold) → ((t u : DiskTold) → R t u → u.put ≡ t.put) → OnTold R old new → PutStays old new
told_puts R None new f o = o
told_puts R (Some t) None f o = o
told_puts R (Some t) (Some u) f o = f t u o

pub puts_fetched : (file : FileRef) (found : Fetched) (old new : Option DiskTold) → OnTold (IsFetched file found) old new → PutStays old new
puts_fetched file found old new o = told_puts (IsFetched file found) old new (fetched_puts file found) o

pub puts_failed : (file : FileRef) (missed : Type 0) (old new : Option DiskTold) → OnTold (NotRead file.node file.name file.digest.0 missed) old new → PutStays old new
puts_failed file missed old new o = told_puts (NotRead file.node file.name file.digest.0 missed) old new (λ t u r. r.put) o

pub done_added : (call : disk.Call) (before after : Option DiskTold) → OnTold (Done call) before after → Added before (call ∷ []) after
done_added call None after o = ap (option_map calls_in) o
done_added call (Some t) None o = absurd o
done_added call (Some t) (Some u) o = ap (λ calls. Some calls) o.calls

pub not_done_added : (call : disk.Call) (before after : Option DiskTold) → OnTold (NotDone call) before after → Added before [] after ⊎ Added before (call ∷ []) after
not_done_added call None after o = inl (ap (option_map calls_in) o)
not_done_added call (Some t) None o = absurd o
not_done_added call (Some t) (Some u) o = elim o.calls [
  | inl e ↦ inl (ap (λ calls. Some calls) (e ∙ sym (append-nil t.calls)))
  | inr e ↦ inr (ap (λ calls. Some calls) e)
]

pub fetched_added : (file : FileRef) (bytes : Vec ℕ Global) (before after : Option DiskTold) → OnTold (IsFetched file (Bytes bytes)) before after → Added before (disk.Read file.node file.name file.digest.0 (disk.Same bytes.items) ∷ []) after
fetched_added file bytes before after o = done_added (disk.Read file.node file.name file.digest.0 (disk.Same bytes.items)) before after o

-- ---- a read of one need

-- the call of a read of the file
abbrev pub asked : FileRef → disk.Answer → disk.Call
asked file answer = disk.Read file.node file.name file.digest.0 answer

pub record Asks (desk : Desk) (name : Name) (file : FileRef) : Type 0 where
  pub first : IsFirstTry desk name (Some (try_of file))
  pub kept : held file.name file.node desk.table.copies ≡ Some file.digest

pub came_one : (desk : Desk) (shows : Type 0) (before after : Option DiskTold) (name : Name) (file : FileRef) (bytes : Vec ℕ Global) (rows : List Record)
    → Asks desk name file → StandsFor desk.shape file.name bytes.items desk.part rows → OnTold (IsFetched file (Bytes bytes)) before after
    → (shows → (w : World) (copies : List Copy) → Stands w copies before → IsSome before → held file.name file.node copies ≡ Some file.digest → text_of w file.name ≡ Some bytes.items)
    → Came desk shows before (name ∷ []) (record { file = file; bytes = bytes.items; rows = rows } ∷ []) after
came_one desk shows before after name file bytes rows asks stands o true = record {
  each = (record { first = asks.first; kept = asks.kept; rows = stands }, tt);
  added = fetched_added file bytes before after o;
  texts = λ s told w valid. (true s w desk.table.copies valid told asks.kept, tt);
}

-- the read of the only need was the last call
pub stopped_one : (desk : Desk) (L : List disk.Call → Type 0) (before after : Option DiskTold) (name : Name) (file : FileRef) (answer : disk.Answer)
    → Asks desk name file → L (asked file answer ∷ []) → Added before (asked file answer ∷ []) after → Stopped desk L before (name ∷ []) after
stopped_one desk L before after name file answer asks l a = record {
  done = [];
  more = name ∷ [];
  split = refl;
  reads = [];
  each = tt;
  last = asked file answer ∷ [];
  next = record { file = file; answer = answer; is = refl; first = asks.first; kept = asks.kept };
  has = l;
  added = a;
}

-- no call was made
pub stopped_first : (desk : Desk) (before after : Option DiskTold) (names : List Name) → Added before [] after → Stopped desk Any before names after
stopped_first desk before after names a = record { done = []; more = names; split = refl; reads = []; each = tt; last = []; next = tt; has = tt; added = a }

pub missed_one : (desk : Desk) (before after : Option DiskTold) (name : Name) (file : FileRef) → Asks desk name file → OnTold (IsFetched file Missed) before after → Stopped desk Misses before (name ∷ []) after
missed_one desk None after name file asks o = stopped_one desk Misses None after name file disk.Gone asks refl (ap (option_map calls_in) o)
missed_one desk (Some t) None name file asks o = absurd o
missed_one desk (Some t) (Some u) name file asks o = elim o [
  | inl gone ↦ stopped_one desk Misses (Some t) (Some u) name file disk.Gone asks refl (ap (λ calls. Some calls) gone.calls)
  | inr other ↦ stopped_one desk Misses (Some t) (Some u) name file disk.Other asks refl (ap (λ calls. Some calls) other.calls)
]

pub failed_one : (desk : Desk) (before after : Option DiskTold) (name : Name) (file : FileRef) (p : Type 0) → Asks desk name file → OnTold (NotRead file.node file.name file.digest.0 p) before after → Stopped desk Any before (name ∷ []) after
failed_one desk None after name file p asks o = stopped_first desk None after (name ∷ []) (ap (option_map calls_in) o)
failed_one desk (Some t) None name file p asks o = absurd o
failed_one desk (Some t) (Some u) name file p asks o = elim o.calls [
  | inl e ↦ stopped_first desk (Some t) (Some u) (name ∷ []) (ap (λ calls. Some calls) (e ∙ sym (append-nil t.calls)))
  | inr e ↦ stopped_one desk Any (Some t) (Some u) name file e.0 asks tt (ap (λ calls. Some calls) e.2)
]

-- ---- reads one after another

are_both : (desk : Desk) (names more : List Name) (reads others : List FileRead) → AreRead desk names reads → AreRead desk more others → AreRead desk (names ++ more) (reads ++ others)
are_both desk [] more [] others a b = b
are_both desk [] more (it ∷ reads) others a b = absurd a
are_both desk (name ∷ names) more [] others a b = absurd a
are_both desk (name ∷ names) more (it ∷ reads) others a b = (a.0, are_both desk names more reads others a.1 b)

-- what stays over calls: copies that were put, and that damage shows
pub record Carried (copies : List Copy) (shows shows' : Type 0) (before after : Option DiskTold) : Type 0 where
  pub shown : shows → shows'
  pub stands : (w : World) → Stands w copies before → Stands w copies after

pub came_none : (desk : Desk) (shows : Type 0) (told : Option DiskTold) → Came desk shows told [] [] told
came_none desk shows told = record { each = tt; added = nothing_added told; texts = λ s t w valid. tt }

pub came_more : (desk : Desk) (shows shows' : Type 0) (before middle after : Option DiskTold) (names more : List Name) (reads others : List FileRead)
    → Carried desk.table.copies shows shows' before middle → Came desk shows before names reads middle → Came desk shows' middle more others after → Came desk shows before (names ++ more) (reads ++ others) after
came_more desk shows shows' before middle after names more reads others carried a b = record {
  each = are_both desk names more reads others a.each b.each;
  added = subst (λ calls. Added before calls after) (sym (map-append call_of reads others)) (added_more before middle after (map call_of reads) (map call_of others) a.added b.added);
  texts = λ s t w valid. all_both (ReadsText w) reads others (a.texts s t w valid) (b.texts (carried.shown s) (still_told before middle (map call_of reads) a.added t) w (carried.stands w valid));
}

next_more : (desk : Desk) (more others : List Name) (last : List disk.Call) → IsNext desk more last → IsNext desk (more ++ others) last
next_more desk more others [] n = tt
next_more desk [] others (call ∷ calls) n = absurd n
next_more desk (name ∷ names) others (call ∷ []) n = n
next_more desk (name ∷ names) others (call ∷ next ∷ calls) n = absurd n

-- reads stop among later needs
pub stopped_later : (desk : Desk) (L : List disk.Call → Type 0) (shows : Type 0) (before middle after : Option DiskTold) (names more : List Name) (reads : List FileRead)
    → Came desk shows before names reads middle → Stopped desk L middle more after → Stopped desk L before (names ++ more) after
stopped_later desk L shows before middle after names more reads a s = record {
  done = names ++ s.done;
  more = s.more;
  split = ap (λ ns. names ++ ns) s.split ∙ sym (append_assoc names s.done s.more);
  reads = reads ++ s.reads;
  each = are_both desk names s.done reads s.reads a.each s.each;
  last = s.last;
  next = s.next;
  has = s.has;
  added = subst (λ calls. Added before calls after) (sym (ap (λ calls. calls ++ s.last) (map-append call_of reads s.reads) ∙ append_assoc (map call_of reads) (map call_of s.reads) s.last)) (added_more before middle after (map call_of reads) (map call_of s.reads ++ s.last) a.added s.added);
}

-- reads that stopped would have gone on
pub stopped_sooner : (desk : Desk) (L : List disk.Call → Type 0) (before after : Option DiskTold) (names more : List Name) → Stopped desk L before names after → Stopped desk L before (names ++ more) after
stopped_sooner desk L before after names more s = record {
  done = s.done;
  more = s.more ++ more;
  split = ap (λ ns. ns ++ more) s.split ∙ append_assoc s.done s.more more;
  reads = s.reads;
  each = s.each;
  last = s.last;
  next = next_more desk s.more more s.last s.next;
  has = s.has;
  added = s.added;
}

-- whatever the fault
pub by_later : (desk : Desk) (shows : Type 0) (before middle after : Option DiskTold) (names more : List Name) (reads : List FileRead) (fault : WorkFault)
    → Came desk shows before names reads middle → StoppedBy desk middle more after fault → StoppedBy desk before (names ++ more) after fault
by_later desk shows before middle after names more reads (Device device) a s = stopped_later desk Any shows before middle after names more reads a s
by_later desk shows before middle after names more reads fault.Missed a s = stopped_later desk Misses shows before middle after names more reads a s
by_later desk shows before middle after names more reads Memory a s = stopped_later desk Any shows before middle after names more reads a s

pub by_sooner : (desk : Desk) (before after : Option DiskTold) (names more : List Name) (fault : WorkFault) → StoppedBy desk before names after fault → StoppedBy desk before (names ++ more) after fault
by_sooner desk before after names more (Device device) s = stopped_sooner desk Any before after names more s
by_sooner desk before after names more fault.Missed s = stopped_sooner desk Misses before after names more s
by_sooner desk before after names more Memory s = stopped_sooner desk Any before after names more s

-- all needs were read, and then memory was wanting
pub all_then_memory : (desk : Desk) (shows : Type 0) (before after : Option DiskTold) (names more : List Name) (reads : List FileRead) → Came desk shows before names reads after → Stopped desk Any before (names ++ more) after
all_then_memory desk shows before after names more reads a = record { done = names; more = more; split = refl; reads = reads; each = a.each; last = []; next = tt; has = tt; added = subst (λ calls. Added before calls after) (sym (append-nil (map call_of reads))) a.added }

pub starved_next : (desk : Desk) (shows : Type 0) (before after : Option DiskTold) (names more : List Name) (next : Name) (reads : List FileRead) → Came desk shows before names reads after → IsFirstTry desk next None → StarvedAt desk shows before (names ++ next ∷ more) after
starved_next desk shows before after names more next reads a n = record { done = names; next = next; more = more; split = refl; reads = reads; came = a; none = n }

-- ---- a loop over needs

-- the needs before the rest were read, and nothing else was done
pub record SoFar (desk : Desk) (shows shows' sound sound' : Type 0) (before now : Option DiskTold) (names rest : List Name) (old files : List FileRef) (lists : List (List Record)) : Type 0 where
  pub done : List Name
  pub split : names ≡ done ++ rest
  pub reads : List FileRead
  pub came : Came desk shows before done reads now
  pub files_are : files ≡ old ++ map (λ (it : FileRead). it.file) reads
  pub lists_are : lists ≡ map (λ (it : FileRead). it.rows) reads
  pub shown : shows → shows'
  pub stands : (w : World) (copies : List Copy) → Stands w copies before → Stands w copies now
  pub soundness : sound → sound'

pub so_far_none : (desk : Desk) (shows sound : Type 0) (told : Option DiskTold) (names : List Name) (files : List FileRef) → SoFar desk shows shows sound sound told told names names files files []
so_far_none desk shows sound told names files = record {
  done = [];
  split = refl;
  reads = [];
  came = came_none desk shows told;
  files_are = sym (append-nil files);
  lists_are = refl;
  shown = λ s. s;
  stands = λ w copies s. s;
  soundness = λ s. s;
}

module _ (desk : Desk) (shows shows' sound sound' : Type 0) (before now : Option DiskTold) (names rest : List Name) (old files : List FileRef) (lists : List (List Record)) (so_far : SoFar desk shows shows' sound sound' before now names rest old files lists) where
  pub so_far_more : (shows'' sound'' : Type 0) (after : Option DiskTold) (name : Name) (others : List Name) (found : Found) (files' : List FileRef) (lists' : List (List Record))
      → rest ≡ name ∷ others → FoundAt desk shows' now name after (Some found) → (shows' → shows'') → ((w : World) (copies : List Copy) → Stands w copies now → Stands w copies after) → (sound' → sound'')
      → files' ≡ files ++ found.file ∷ [] → lists' ≡ lists ++ found.rows ∷ []
      → SoFar desk shows shows'' sound sound'' before after names others old files' lists'
  so_far_more shows'' sound'' after name others found files' lists' e f shown stands soundness fs ls =
      let it : FileRead = record { file = found.file; bytes = f.0; rows = found.rows } in
      record {
        done = so_far.done ++ name ∷ [];
        split = so_far.split ∙ ap (λ ns. so_far.done ++ ns) e ∙ sym (append_assoc so_far.done (name ∷ []) others);
        reads = so_far.reads ++ it ∷ [];
        came = came_more desk shows shows' before now after so_far.done (name ∷ []) so_far.reads (it ∷ []) (record { shown = so_far.shown; stands = λ w. so_far.stands w desk.table.copies }) so_far.came f.1;
        files_are = fs ∙ ap (λ xs. xs ++ found.file ∷ []) so_far.files_are ∙ append_assoc old (map (λ (r : FileRead). r.file) so_far.reads) (found.file ∷ []) ∙ ap (λ xs. old ++ xs) (sym (map-append (λ (r : FileRead). r.file) so_far.reads (it ∷ [])));
        lists_are = ls ∙ ap (λ xs. xs ++ found.rows ∷ []) so_far.lists_are ∙ sym (map-append (λ (r : FileRead). r.rows) so_far.reads (it ∷ []));
        shown = λ s. shown (so_far.shown s);
        stands = λ w copies s. stands w copies (so_far.stands w copies s);
        soundness = λ s. soundness (so_far.soundness s);
      }

  pub so_far_all : rest ≡ [] → AllRead desk shows before names old files now lists
  so_far_all e = record {
    reads = so_far.reads;
    came = subst (λ ns. Came desk shows before ns so_far.reads now) (sym (so_far.split ∙ ap (λ ns. so_far.done ++ ns) e ∙ append-nil so_far.done)) so_far.came;
    files = so_far.files_are;
    rows = so_far.lists_are;
  }

  pub so_far_starved : (after : Option DiskTold) (name : Name) (others : List Name) → rest ≡ name ∷ others → FoundAt desk shows' now name after None → StarvedAt desk shows before names after
  so_far_starved after name others e f =
      subst (λ ns. StarvedAt desk shows before ns after) (sym (so_far.split ∙ ap (λ ns. so_far.done ++ ns) e))
      (starved_next desk shows before after so_far.done others name so_far.reads (subst (λ told. Came desk shows before so_far.done so_far.reads told) (sym f.1) so_far.came) f.0)

  pub so_far_stopped : (after : Option DiskTold) (name : Name) (others : List Name) (fault : WorkFault) → rest ≡ name ∷ others → StoppedBy desk now (name ∷ []) after fault → StoppedBy desk before names after fault
  so_far_stopped after name others fault e s =
      subst (λ ns. StoppedBy desk before ns after fault) (sym (so_far.split ∙ ap (λ ns. so_far.done ++ ns) e))
      (by_later desk shows before now after so_far.done (name ∷ others) so_far.reads fault so_far.came (by_sooner desk now after (name ∷ []) others fault s))

  pub so_far_memory : (after : Option DiskTold) (name : Name) (others : List Name) (found : Found) → rest ≡ name ∷ others → FoundAt desk shows' now name after (Some found) → Stopped desk Any before names after
  so_far_memory after name others found e f =
      subst (λ ns. Stopped desk Any before ns after) (sym (so_far.split ∙ ap (λ ns. so_far.done ++ ns) e))
      (stopped_later desk Any shows before now after so_far.done (name ∷ others) so_far.reads so_far.came (all_then_memory desk shows' now after (name ∷ []) others (record { file = found.file; bytes = f.0; rows = found.rows } ∷ []) f.1))

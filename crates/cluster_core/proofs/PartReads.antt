-- A part that is read from the lowest node that is up and holds it.
use Rattle.std.proofs.Common.{◌≡◌, ℕ, Bool, true, List, [], ◌∷◌, ◌++◌, Option, None, Some, IsSome, is_some, map, not, ◌==◌, slice_get, refl, sym, ap, ◌∙◌, subst}
use Rattle.std.specs.Prelude.{if◌then◌else◌}
use Rattle.std.specs.List.{filter, flat_map}
use Rattle.node_names.specs.declared.digest.Digest.{Digest}
use Rattle.hal_base.specs.declared.shape.Shape.{Shape}
use Rattle.node_names.specs.declared.name.Name.{Name}
use Rattle.hal_outside.specs.DiskCalls as disk
use Rattle.hal_outside.specs.DiskTold.{DiskTold}
use Rattle.node_files.specs.declared.files.FileRef.{FileRef}
use Rattle.name_values.specs.Values.{World, list_of, value_of}
use Rattle.replica_table.specs.Copies.{Replicas, held, holders, up_holders}
use Rattle.run_model.specs.Advance.{Advanced, after_part, goes_on, part_tries}
use Rattle.run_model.specs.Plans as plan
use Rattle.run_model.specs.Plans.{Leaves, Plan, gives, ◌>>=◌}
use Rattle.run_model.specs.Reading.{Try, after_read, cache_of_block, own_try, read_first, try_at}
use Rattle.run_model.specs.State.{PlainCluster, bare, holds}
use Rattle.run_model.proofs.Bare.{bare_up}
use Rattle.valid_copies.specs.Calls.{Added, Begun, Follows, Leads, MissedIn, made_of}
use Rattle.valid_copies.specs.Files.{Any, AreRead, Came, Desk, FileRead, IsAsked, IsFirstTry, IsNext, IsRead, Misses, Sees, Stopped, StoppedBy, call_of, try_of}
use Rattle.valid_copies.specs.Readings.{HasText, StandsFor}
use Rattle.valid_copies.specs.Texts.{text_of}
use Rattle.valid_copies.specs.Stands.{Stands}
use Rattle.valid_copies.specs.declared.fault.WorkFault.{WorkFault}
use Rattle.valid_copies.specs.declared.fault.WorkFault.TheVariants as work
use Rattle.valid_copies.proofs.Copies.{held_has}
use Rattle.valid_copies.proofs.FirstFiles.{holds_held}
use Rattle.valid_copies.proofs.Following.{follows_none}
use Rattle.valid_copies.proofs.Telling.{text_only, value_told}
use Rattle.cluster_core.specs.Parts.{PartFollows, PartStopped, part_plan}

-- ---- which files are tried

same_tries : (table : Replicas) (name : Name) (c : PlainCluster) → Sees table c → part_tries c name ≡ map (try_at name) (holders name table)
same_tries table name c sees = ap (λ copies. map (try_at name) (up_holders name c.up copies)) sees.copies ∙ ap (λ up. map (try_at name) (up_holders name up (bare table.copies))) sees.up ∙ ap (map (try_at name)) (bare_up name table.up table.copies)

first_of : (name : Name) (ns : List ℕ) (n : ℕ) → slice_get ns 0 ≡ Some n → (ts : List Try) × (map (try_at name) ns ≡ try_at name n ∷ ts)
first_of name [] n e = cc
first_of name (m ∷ ns) n e = (map (try_at name) ns, ap (λ k. try_at name k ∷ map (try_at name) ns) (same m n e))
  where
    same : (m n : ℕ) → Some m ≡ Some n → m ≡ n
    same m n e = cc

-- no up node holds the part
pub none_read : (A : Type 0) (table : Replicas) (name : Name) (told : Option DiskTold) → holders name table ≡ [] → PartFollows {A = A} table name told told None
none_read A table name told none c sees more = subst (λ p. Follows p told told (gives (goes_on c))) (ap (λ ts. read_first ts c >>= (λ tried. after_part more tried.cluster tried.answered)) (sym (same_tries table name c sees ∙ ap (map (try_at name)) none))) (follows_none (gives (goes_on c)) told)

-- ---- a read on the lowest up node

-- a cluster that has the copies and the up nodes of the table
abbrev pub seen_by : Replicas → PlainCluster
seen_by table = record { round = 0; up = table.up; marked = []; copies = bare table.copies; running = []; known = []; failures = []; events = []; journal = [] }

module _ (desk : Desk) (name : Name) (digest : Digest) (lowest : slice_get (holders name desk.table) 0 ≡ Some desk.own) (kept : held name desk.own desk.table.copies ≡ Some digest) where
  -- the file on the own node is tried first
  own_is : (it : Try) → IsFirstTry desk name (Some it) → it ≡ try_at name desk.own
  own_is it first =
      let c : PlainCluster = seen_by desk.table in
      let there : holds (bare desk.table.copies) desk.own name ≡ true = holds_held desk.table.copies desk.own name ∙ ap is_some kept in
      same it (sym (first c (record { copies = refl; up = refl })) ∙ ap (λ b. slice_get (((if b then try_at name desk.own ∷ [] else []) ++ flat_map (own_try (bare desk.table.copies) desk.own) (cache_of_block name)) ++ map (try_at name) (filter (λ node. not (node == desk.own)) (up_holders name desk.table.up (bare desk.table.copies)))) 0) there)
    where
      same : (it : Try) → Some it ≡ Some (try_at name desk.own) → it ≡ try_at name desk.own
      same it e = cc

  pub found_there : (it : FileRead) → IsRead desk name it → (it.file.node ≡ desk.own) × (it.file.name ≡ name)
  found_there it read = let e = own_is (try_of it.file) read.first in (ap (λ (t : Try). t.node) e, ap (λ (t : Try). t.name) e)

  -- what is left of the plan after a read of the file
  abbrev after : (c : PlainCluster) (more : PlainCluster → Plan Advanced) → List Try → Bool → Plan Advanced
  after c more ts missed = after_read (read_first ts) (try_at name desk.own) c missed >>= (λ tried. after_part more tried.cluster tried.answered)

  leads_by : (c : PlainCluster) → Sees desk.table c → (more : PlainCluster → Plan Advanced) (file : FileRef) (answer : disk.Answer) → try_of file ≡ try_at name desk.own
      → (ts : List Try) × Leads (part_plan c name more) (disk.Read file.node file.name file.digest.0 answer ∷ []) (after c more ts ((made_of (disk.Read file.node file.name file.digest.0 answer)).missed))
  leads_by c sees more file answer e =
      let tries = first_of name (holders name desk.table) desk.own lowest in
      let all : part_tries c name ≡ try_at name desk.own ∷ tries.0 = same_tries desk.table name c sees ∙ tries.1 in
      (tries.0, subst (λ ts. Leads (read_first ts c >>= (λ tried. after_part more tried.cluster tried.answered)) (disk.Read file.node file.name file.digest.0 answer ∷ []) (after c more tries.0 ((made_of (disk.Read file.node file.name file.digest.0 answer)).missed))) (sym all) (ap (λ (t : Try). plan.Read t.node t.name) e, refl))

  pub part_read : {A : Type 0} (shows : Type 0) (before now : Option DiskTold) (it : FileRead) (rows : A) → Came desk shows before (name ∷ []) (it ∷ []) now → PartFollows desk.table name before now (Some rows)
  part_read shows before now it rows came c sees more =
      let l = leads_by c sees more it.file (disk.Same it.bytes) (own_is (try_of it.file) came.each.0.first) in
      record { calls = call_of it ∷ []; answered = (refl, tt); added = came.added; leads = l.1 }

  pub none_left : IsFirstTry desk name None → ⊥
  none_left first =
      let c : PlainCluster = seen_by desk.table in
      let there : holds (bare desk.table.copies) desk.own name ≡ true = holds_held desk.table.copies desk.own name ∙ ap is_some kept in
      unlike (sym (first c (record { copies = refl; up = refl })) ∙ ap (λ b. slice_get (((if b then try_at name desk.own ∷ [] else []) ++ flat_map (own_try (bare desk.table.copies) desk.own) (cache_of_block name)) ++ map (try_at name) (filter (λ node. not (node == desk.own)) (up_holders name desk.table.up (bare desk.table.copies)))) 0) there)
    where
      unlike : None ≡ Some (try_at name desk.own) → ⊥
      unlike e = cc

  -- the value that was read
  pub part_value : (shows : Type 0) (before now : Option DiskTold) (it : FileRead) → Came desk shows before (name ∷ []) (it ∷ []) now → desk.part ≡ 0 → shows → IsSome before → (w : World) → w.shape ≡ desk.shape → Stands w desk.table.copies before → it.rows ≡ list_of 0 (value_of w name)
  part_value shows before now it came part s t w shape stands =
      let there = found_there it came.each.0 in
      let text : text_of w name ≡ Some it.bytes = ap (text_of w) (sym there.1) ∙ (came.texts s t w stands).0 in
      let has : HasText w name = held_has (λ name node digest. HasText w name) desk.table.copies name desk.own digest stands.spelled kept in
      let rows : StandsFor w.shape name it.bytes 0 it.rows = subst (λ (sh : Shape). StandsFor sh name it.bytes 0 it.rows) (sym shape) (subst (λ n. StandsFor desk.shape n it.bytes 0 it.rows) there.1 (subst (λ p. StandsFor desk.shape it.file.name it.bytes p it.rows) part came.each.0.rows)) in
      value_told w name 0 it.bytes it.rows (text_only w name it.bytes has text) rows

  -- ---- a read that stopped

  asked_leads : (c : PlainCluster) → Sees desk.table c → (more : PlainCluster → Plan Advanced) (call : disk.Call) → IsAsked desk name call → (rest : Plan Advanced) × Leads (part_plan c name more) (call ∷ []) rest
  asked_leads c sees more call asked =
      let l = leads_by c sees more asked.file asked.answer (own_is (try_of asked.file) asked.first) in
      let rest : Plan Advanced = after c more l.0 ((made_of (disk.Read asked.file.node asked.file.name asked.file.digest.0 asked.answer)).missed) in
      (rest, subst (λ x. Leads (part_plan c name more) (x ∷ []) rest) (sym asked.is) l.1)

  begun_by : (c : PlainCluster) → Sees desk.table c → (more : PlainCluster → Plan Advanced) (before now : Option DiskTold) (call : disk.Call) → IsAsked desk name call → Added before (call ∷ []) now → Begun (part_plan c name more) before now
  begun_by c sees more before now call asked added = let l = asked_leads c sees more call asked in record { calls = call ∷ []; rest = l.0; added = added; leads = l.1 }

  begun_stop : (c : PlainCluster) → Sees desk.table c → (more : PlainCluster → Plan Advanced) (before now : Option DiskTold) → Stopped desk Any before (name ∷ []) now → Begun (part_plan c name more) before now
  begun_stop c sees more before now s = cases s.done s.more s.reads s.last s.split s.each s.next s.added
    where
      one : (m : Name) (ms : List Name) → name ∷ [] ≡ m ∷ ms → m ≡ name
      one m ms e = cc

      cases : (done rest : List Name) (reads : List FileRead) (last : List disk.Call) → name ∷ [] ≡ done ++ rest → AreRead desk done reads → IsNext desk rest last → Added before (map call_of reads ++ last) now → Begun (part_plan c name more) before now
      cases [] rest [] [] e r n a = record { calls = []; rest = part_plan c name more; added = a; leads = refl }
      cases [] [] [] (call ∷ calls) e r n a = absurd n
      cases [] (m ∷ ms) [] (call ∷ []) e r n a = begun_by c sees more before now call (subst (λ k. IsAsked desk k call) (one m ms e) n) a
      cases [] (m ∷ ms) [] (call ∷ next ∷ calls) e r n a = absurd n
      cases [] rest (it ∷ reads) last e r n a = absurd r
      cases (d ∷ ds) rest [] last e r n a = absurd r
      cases (d ∷ []) [] (it ∷ []) [] e r n a =
          let read : IsRead desk name it = subst (λ k. IsRead desk k it) (one d [] e) r.0 in
          let l = leads_by c sees more it.file (disk.Same it.bytes) (own_is (try_of it.file) read.first) in
          record { calls = call_of it ∷ []; rest = more c; added = a; leads = l.1 }
      cases (d ∷ []) [] (it ∷ []) (call ∷ calls) e r n a = absurd n
      cases (d ∷ []) [] (it ∷ x ∷ reads) last e r n a = absurd r.1
      cases (d ∷ []) (m ∷ ms) (it ∷ reads) last e r n a = cc
      cases (d ∷ k ∷ ds) rest (it ∷ reads) last e r n a = cc

  missed_stop : (c : PlainCluster) → Sees desk.table c → (more : PlainCluster → Plan Advanced) (before now : Option DiskTold) → Stopped desk Misses before (name ∷ []) now → MissedIn (part_plan c name more) before now
  missed_stop c sees more before now s = cases s.done s.more s.reads s.last s.split s.each s.next s.has s.added
    where
      one : (m : Name) (ms : List Name) → name ∷ [] ≡ m ∷ ms → m ≡ name
      one m ms e = cc

      cases : (done rest : List Name) (reads : List FileRead) (last : List disk.Call) → name ∷ [] ≡ done ++ rest → AreRead desk done reads → IsNext desk rest last → Misses last → Added before (map call_of reads ++ last) now → MissedIn (part_plan c name more) before now
      cases done rest reads [] e r n h a = absurd h
      cases [] [] [] (call ∷ calls) e r n h a = absurd n
      cases [] (m ∷ ms) [] (call ∷ []) e r n h a =
          let l = asked_leads c sees more call (subst (λ k. IsAsked desk k call) (one m ms e) n) in
          record { done = []; last = call; rest = l.0; answered = tt; missed = h; added = a; leads = l.1 }
      cases [] (m ∷ ms) [] (call ∷ next ∷ calls) e r n h a = absurd n
      cases [] rest (it ∷ reads) (call ∷ calls) e r n h a = absurd r
      cases (d ∷ ds) rest [] (call ∷ calls) e r n h a = absurd r
      cases (d ∷ []) [] (it ∷ reads) (call ∷ calls) e r n h a = absurd n
      cases (d ∷ []) (m ∷ ms) (it ∷ reads) (call ∷ calls) e r n h a = cc
      cases (d ∷ k ∷ ds) rest (it ∷ reads) (call ∷ calls) e r n h a = cc

  pub part_stopped : (before now : Option DiskTold) (fault : WorkFault) → StoppedBy desk before (name ∷ []) now fault → PartStopped desk.table name before now fault
  part_stopped before now (work.Device device) s c sees more = begun_stop c sees more before now s
  part_stopped before now work.Missed s c sees more = missed_stop c sees more before now s
  part_stopped before now work.Memory s c sees more = begun_stop c sees more before now s

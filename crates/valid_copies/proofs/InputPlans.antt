-- Reads of needs and of inputs, as plans have them.
use Rattle.std.proofs.Common.{◌≡◌, ℕ, List, [], ◌∷◌, ◌++◌, Option, None, Some, map, slice_get, refl, sym, ap, ◌∙◌, subst, append-nil}
use Rattle.node_names.specs.declared.name.Name.{Name}
use Rattle.hal_outside.specs.DiskCalls as disk
use Rattle.hal_outside.specs.DiskTold.{DiskTold}
use Rattle.node_files.specs.declared.files.FileRef.{FileRef}
use Rattle.run_model.proofs.PlanSteps.{leaves_then}
use Rattle.run_model.specs.Plans.{Plan, gives, ◌>>=◌}
use Rattle.run_model.specs.Reading.{ReadSoFar, Reading, Try, after_read, after_tries, counted, read_files, read_first, read_need, reading, starved, tries_for}
use Rattle.run_model.specs.State.{PlainCluster}
use Rattle.valid_copies.proofs.Following.{leads_more, leads_then}
use Rattle.valid_copies.specs.Calls.{Added, AreAnswered, Begun, Follows, Leads, MissedIn, is_miss, made_of}
use Rattle.valid_copies.specs.Files.{AreRead, Came, Desk, FileRead, IsAsked, IsFirstTry, IsNext, IsRead, Misses, Sees, StarvedAt, Stopped, call_of, try_of}
use Rattle.valid_copies.specs.Inputs.{counted_files}

-- ---- one need

abbrev file_in : FileRead → FileRef
file_in it = it.file

first_of : (tries : List Try) (it : Try) → slice_get tries 0 ≡ Some it → (rest : List Try) × (tries ≡ it ∷ rest)
first_of [] it e = cc
first_of (t ∷ tries) it e = (tries, cc)

none_left : (tries : List Try) → slice_get tries 0 ≡ None → tries ≡ []
none_left [] e = refl
none_left (t ∷ tries) e = cc

-- the plan of a need, by what is tried for it
abbrev need_plan : ℕ → Reading → List Try → Plan ReadSoFar
need_plan own r tries = read_first tries r.cluster >>= (λ tried. gives (after_tries own r tried.cluster tried.answered))

-- a read of the file that is tried first, whatever it was answered
asked_leads : (desk : Desk) (r : Reading) (name : Name) (call : disk.Call) → Sees desk.table r.cluster → IsAsked desk name call → (rest : Plan ReadSoFar) × Leads (read_need desk.own name r) (call ∷ []) rest
asked_leads desk r name call sees asked =
    let f = first_of (tries_for r.cluster desk.own name) (try_of asked.file) (asked.first r.cluster sees) in
    let rest : Plan ReadSoFar = after_read (read_first f.0) (try_of asked.file) r.cluster (is_miss asked.answer) >>= (λ tried. gives (after_tries desk.own r tried.cluster tried.answered)) in
    let made : disk.Call = disk.Read asked.file.node asked.file.name asked.file.digest.0 asked.answer in
    (rest, subst (λ c. Leads (read_need desk.own name r) (c ∷ []) rest) (sym asked.is) (subst (λ tries. Leads (need_plan desk.own r tries) (made ∷ []) rest) (sym f.1) (refl, refl)))

need_leads : (desk : Desk) (r : Reading) (name : Name) (it : FileRead) → Sees desk.table r.cluster → IsRead desk name it → Leads (read_need desk.own name r) (call_of it ∷ []) (gives (reading (counted desk.own (try_of it.file) r.cluster r)))
need_leads desk r name it sees is =
    let f = first_of (tries_for r.cluster desk.own name) (try_of it.file) (is.first r.cluster sees) in
    subst (λ tries. Leads (need_plan desk.own r tries) (call_of it ∷ []) (gives (reading (counted desk.own (try_of it.file) r.cluster r)))) (sym f.1) (refl, refl)

starved_stays : (own : ℕ) (c : PlainCluster) (names : List Name) → read_files own names (starved c) ≡ gives (starved c)
starved_stays own c [] = refl
starved_stays own c (name ∷ names) = refl

starved_at : (desk : Desk) (r : Reading) (name : Name) (more : List Name) → Sees desk.table r.cluster → IsFirstTry desk name None → read_files desk.own (name ∷ more) (reading r) ≡ gives (starved r.cluster)
starved_at desk r name more sees none =
    ap (λ tries. need_plan desk.own r tries >>= read_files desk.own more) (none_left (tries_for r.cluster desk.own name) (none r.cluster sees))
    ∙ starved_stays desk.own r.cluster more

-- ---- needs one after another

-- files that are read leave the cluster as it is
pub cluster_kept : (own : ℕ) (files : List FileRef) (r : Reading) → (counted_files own files r).cluster ≡ r.cluster
cluster_kept own [] r = refl
cluster_kept own (file ∷ files) r = cluster_kept own files (counted own (try_of file) r.cluster r)

pub counted_more : (own : ℕ) (files more : List FileRef) (r : Reading) → counted_files own (files ++ more) r ≡ counted_files own more (counted_files own files r)
counted_more own [] more r = refl
counted_more own (file ∷ files) more r = counted_more own files more (counted own (try_of file) r.cluster r)

files_lead : (desk : Desk) (done more : List Name) (reads : List FileRead) (r : Reading) → Sees desk.table r.cluster → AreRead desk done reads
    → Leads (read_files desk.own (done ++ more) (reading r)) (map call_of reads) (read_files desk.own more (reading (counted_files desk.own (map file_in reads) r)))
files_lead desk [] more [] r sees a = refl
files_lead desk [] more (it ∷ reads) r sees a = absurd a
files_lead desk (name ∷ done) more [] r sees a = absurd a
files_lead desk (name ∷ done) more (it ∷ reads) r sees a =
    leads_then (read_need desk.own name r) (reading (counted desk.own (try_of it.file) r.cluster r)) (read_files desk.own (done ++ more))
    (read_files desk.own more (reading (counted_files desk.own (map file_in reads) (counted desk.own (try_of it.file) r.cluster r)))) (call_of it ∷ []) (map call_of reads)
    (need_leads desk r name it sees a.0) (files_lead desk done more reads (counted desk.own (try_of it.file) r.cluster r) sees a.1)

reads_answered : (reads : List FileRead) → AreAnswered (map call_of reads)
reads_answered [] = tt
reads_answered (it ∷ reads) = (refl, reads_answered reads)

-- the desk sees the cluster still
pub sees_still : (desk : Desk) (files : List FileRef) (r : Reading) → Sees desk.table r.cluster → Sees desk.table (counted_files desk.own files r).cluster
sees_still desk files r sees = subst (Sees desk.table) (sym (cluster_kept desk.own files r)) sees

pub need_follows : (desk : Desk) (shows : Type 0) (before after : Option DiskTold) (names more : List Name) (reads : List FileRead) (r : Reading) → Sees desk.table r.cluster → Came desk shows before names reads after
    → Follows (read_files desk.own (names ++ more) (reading r)) before after (read_files desk.own more (reading (counted_files desk.own (map file_in reads) r)))
need_follows desk shows before after names more reads r sees a = record { calls = map call_of reads; answered = reads_answered reads; added = a.added; leads = files_lead desk names more reads r sees a.each }

-- what is left of the plan to read needs, after the next call or none
next_leads : (desk : Desk) (r : Reading) (names : List Name) (last : List disk.Call) → Sees desk.table r.cluster → IsNext desk names last → (rest : Plan ReadSoFar) × Leads (read_files desk.own names (reading r)) last rest
next_leads desk r names [] sees n = (read_files desk.own names (reading r), refl)
next_leads desk r [] (call ∷ calls) sees n = absurd n
next_leads desk r (name ∷ names) (call ∷ []) sees n =
    let one = asked_leads desk r name call sees n in
    (one.0 >>= read_files desk.own names, leads_first (read_need desk.own name r) one.0 (read_files desk.own names) (call ∷ []) one.1)
  where
    leads_first : (plan rest : Plan ReadSoFar) (f : ReadSoFar → Plan ReadSoFar) (calls : List disk.Call) → Leads plan calls rest → Leads (plan >>= f) calls (rest >>= f)
    leads_first plan rest f calls l = leaves_then plan rest f (map made_of calls) l
next_leads desk r (name ∷ names) (call ∷ next ∷ calls) sees n = absurd n

module _ (desk : Desk) (before after : Option DiskTold) (names : List Name) (r : Reading) (sees : Sees desk.table r.cluster) where
  stopped_leads : (L : List disk.Call → Type 0) (s : Stopped desk L before names after) → (rest : Plan ReadSoFar) × Leads (read_files desk.own names (reading r)) (map call_of s.reads ++ s.last) rest
  stopped_leads L s =
      let r' : Reading = counted_files desk.own (map file_in s.reads) r in
      let next = next_leads desk r' s.more s.last (sees_still desk (map file_in s.reads) r sees) s.next in (
        next.0,
        subst (λ ns. Leads (read_files desk.own ns (reading r)) (map call_of s.reads ++ s.last) next.0) (sym s.split)
            (leads_more (read_files desk.own (s.done ++ s.more) (reading r)) (read_files desk.own s.more (reading r')) next.0 (map call_of s.reads) s.last (files_lead desk s.done s.more s.reads r sees s.each) next.1),
      )

  pub files_begun : (L : List disk.Call → Type 0) → Stopped desk L before names after → Begun (read_files desk.own names (reading r)) before after
  files_begun L s = let l = stopped_leads L s in record { calls = map call_of s.reads ++ s.last; rest = l.0; added = s.added; leads = l.1 }

  pub files_missed : Stopped desk Misses before names after → MissedIn (read_files desk.own names (reading r)) before after
  files_missed s = go s.last s.has s.added (stopped_leads Misses s).0 (stopped_leads Misses s).1 s.next
    where
      go : (last : List disk.Call) → Misses last → Added before (map call_of s.reads ++ last) after → (rest : Plan ReadSoFar) → Leads (read_files desk.own names (reading r)) (map call_of s.reads ++ last) rest → IsNext desk s.more last → MissedIn (read_files desk.own names (reading r)) before after
      go [] m a rest l n = absurd m
      go (call ∷ []) m a rest l n = record { done = map call_of s.reads; last = call; rest = rest; answered = reads_answered s.reads; missed = m; added = a; leads = l }
      go (call ∷ next ∷ calls) m a rest l n = absurd (one s.more n)
        where
          one : (more : List Name) → IsNext desk more (call ∷ next ∷ calls) → ⊥
          one [] n = n
          one (name ∷ more) n = n

  pub files_starved : (shows : Type 0) → StarvedAt desk shows before names after → Follows (read_files desk.own names (reading r)) before after (gives (starved r.cluster))
  files_starved shows s =
      let r' : Reading = counted_files desk.own (map file_in s.reads) r in
      let still = sees_still desk (map file_in s.reads) r sees in
      let end : read_files desk.own (s.next ∷ s.more) (reading r') ≡ gives (starved r.cluster) = starved_at desk r' s.next s.more still s.none ∙ ap (λ c. gives (starved c)) (cluster_kept desk.own (map file_in s.reads) r) in
      subst (λ ns. Follows (read_files desk.own ns (reading r)) before after (gives (starved r.cluster))) (sym s.split)
      (subst (Follows (read_files desk.own (s.done ++ s.next ∷ s.more) (reading r)) before after) end (need_follows desk shows before after s.done (s.next ∷ s.more) s.reads r sees s.came))

  pub files_follow : (shows : Type 0) (reads : List FileRead) → Came desk shows before names reads after → Follows (read_files desk.own names (reading r)) before after (gives (reading (counted_files desk.own (map file_in reads) r)))
  files_follow shows reads a = subst (λ ns. Follows (read_files desk.own ns (reading r)) before after (gives (reading (counted_files desk.own (map file_in reads) r)))) (append-nil names) (need_follows desk shows before after names [] reads r sees a)

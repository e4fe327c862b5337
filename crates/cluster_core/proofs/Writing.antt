-- What an attempt that is done writes, where nothing is kept in caches.
use Rattle.std.proofs.Common.{◌≡◌, inl, inr, ◌<◌, ◌≤◌, ◌+◌, ◌==◌, ◌&&◌, ℕ, zero, suc, Bool, true, false, cond, nat_lt, List, [], ◌∷◌, ◌++◌, Option, None, Some, Result, Ok, Err, OnOk, OnErr, map, take, refl, sym, ap, ◌∙◌, subst, arith, append-nil}
use Rattle.std.specs.List.{AllByRecursion, filter, flat_map, range_with_len}
use Rattle.counter_report.specs.declared.journal.Entry.TheVariants.{Commit}
use Rattle.hal_base.specs.declared.shape.Origin.{Origin}
use Rattle.hal_base.specs.declared.shape.Origin.TheVariants.{State, Prev, Table}
use Rattle.hal_base.specs.declared.shape.Shape.{Shape}
use Rattle.hal_base.specs.declared.shape.Source.{Source}
use Rattle.hal_base.specs.Shapes.{source_at}
use Rattle.hal_outside.specs.DiskCalls as disk
use Rattle.hal_outside.specs.DiskTold.{DiskTold}
use Rattle.node_names.specs.declared.name.Name.{Name}
use Rattle.node_names.specs.declared.name.Name.TheVariants.{Roc, Out}
use Rattle.node_names.specs.declared.task.Task.{Task}
use Rattle.node_names.specs.declared.task.Task.TheVariants.{Map, Reduce, Test}
use Rattle.plain_job.proofs.Lists.{all_both, all_filtered}
use Rattle.replica_table.specs.Copies.{Replicas, holders, up_holders, with_copy}
use Rattle.replica_table.specs.Sets.{among}
use Rattle.run_laws.specs.WithoutLoss.{HasNoCaches}
use Rattle.run_model.proofs.Bare.{bare_up, bare_with}
use Rattle.run_model.specs.Attempts.{block_kept, committed, further_nodes, made_by, nodes_behind, nodes_for, output_kept, own_calls, own_writes, rebuilt, writes, writes_to, with_known, written}
use Rattle.run_model.specs.Lists.{below}
use Rattle.run_model.specs.Plans as plan
use Rattle.run_model.specs.Plans.{Plan, do_all, gives}
use Rattle.run_model.specs.Reading.{Reading}
use Rattle.run_model.specs.Sites.{kept_block, kept_split}
use Rattle.run_model.specs.State.{Copy, PlainCluster, Setup, bare, copy, noted, with_copies}
use Rattle.run_model.specs.Tasks.{last}
use Rattle.run_model.specs.declared.attempt.Attempt.{Attempt}
use Rattle.schedule_text.specs.declared.schedule.Schedule.{Schedule}
use Rattle.valid_copies.proofs.Coming.{nothing_added}
use Rattle.valid_copies.proofs.Following.{begun_more, follows_more}
use Rattle.valid_copies.proofs.PlanWrites.{copies_planned, planned, planned_at, some_begun, wrote_follows}
use Rattle.valid_copies.specs.Calls.{AddedAtMost, Begun, Follows}
use Rattle.valid_copies.specs.ReadCounts.{read_so_far}
use Rattle.valid_copies.specs.declared.inputs.ReadCounts.{ReadCounts}
use Rattle.valid_copies.specs.Stands.{copy_of_bytes}
use Rattle.valid_copies.specs.Writes.{FileWrite, Wrote, WroteSome, copies_with, write_at, writes_at}
use Rattle.cluster_core.specs.Finishing.{BeganToWrite, WroteAll, commit_plan, goes_further}
use Rattle.cluster_core.specs.States.{Kept, plain_of}

-- ---- on the own node

no_block : (shape : Shape) → HasNoCaches shape → (task : Task) (remote : ℕ) → block_kept shape task remote ≡ []
no_block shape caches (Map i j s q) remote = elim (nat_lt 0 remote) as (λ b. cond b (kept_split (source_at shape j s) q) [] ≡ []) [
  | true ↦ none (source_at shape j s) refl
  | false ↦ refl
]
  where
    by_origin : (from : Origin) (keeps : Bool) → keeps ≡ false → kept_block from keeps q ≡ []
    by_origin State keeps e = refl
    by_origin Prev keeps e = refl
    by_origin (Table t only) keeps e = ap (λ b. kept_block (Table t only) b q) e

    none : (o : Option Source) → source_at shape j s ≡ o → kept_split o q ≡ []
    none None e = refl
    none (Some source) e = by_origin source.from source.mapper_input (caches.sources j s source e).1
no_block shape caches (Reduce i j p) remote = refl
no_block shape caches (Test i p) remote = refl

no_output : (shape : Shape) → HasNoCaches shape → (now : ℕ) (task : Task) → output_kept shape now task ≡ []
no_output shape caches now (Map i j s q) = refl
no_output shape caches now (Reduce i j p) = ap (λ has. cond (has && (j == last shape) && (i == now)) (Roc i p ∷ []) []) caches.output
no_output shape caches now (Test i p) = refl

none_rebuilt : (task : Task) → rebuilt task [] ≡ []
none_rebuilt (Map i j s q) = refl
none_rebuilt (Reduce i j p) = refl
none_rebuilt (Test i p) = refl

-- it writes what its task makes, and no cache
pub own_are : (setup : Setup) → HasNoCaches setup.shape → (task : Task) (r : Reading) → r.unread ≡ [] → own_writes setup task r ≡ made_by task
own_are setup caches task r e =
    ap (λ xs. made_by task ++ rebuilt task r.unread ++ block_kept setup.shape task r.remote ++ xs) (no_output setup.shape caches r.cluster.round task)
    ∙ append-nil (made_by task ++ rebuilt task r.unread ++ block_kept setup.shape task r.remote)
    ∙ ap (λ xs. made_by task ++ rebuilt task r.unread ++ xs) (no_block setup.shape caches task r.remote)
    ∙ append-nil (made_by task ++ rebuilt task r.unread)
    ∙ ap (λ xs. made_by task ++ rebuilt task xs) e
    ∙ ap (λ xs. made_by task ++ xs) (none_rebuilt task)
    ∙ append-nil (made_by task)

-- ---- on further nodes

pub further_is : (setup : Setup) (task : Task) (name : Name) (node : ℕ) (up : List ℕ) (copies : List Copy) → made_by task ≡ name ∷ []
    → further_nodes setup task node up copies ≡ cond (goes_further setup task) (nodes_for setup node up (up_holders name up copies)) []
further_is setup (Map i j s q) name node up copies e = refl
further_is setup (Reduce i j p) name node up copies e = ap (λ n. cond (goes_further setup (Reduce i j p)) (nodes_for setup node up (up_holders n up copies)) []) (same e)
  where
    same : Out i j p ∷ [] ≡ name ∷ [] → Out i j p ≡ name
    same e = cc
further_is setup (Test i p) name node up copies e = refl

-- all of its writes, for a name that its task makes
pub all_writes : (setup : Setup) → HasNoCaches setup.shape → (a : Attempt) (r : Reading) (name : Name) → r.unread ≡ [] → made_by a.task ≡ name ∷ []
    → writes setup a r ≡ plan.Write a.node name ∷ writes_to (further_nodes setup a.task a.node r.cluster.up (with_copy (copy name a.node) r.cluster.copies)) name
all_writes setup caches a r name u e =
    let own : own_calls setup a r ≡ plan.Write a.node name ∷ [] = ap (map (plan.Write a.node)) (own_are setup caches a.task r u ∙ e) in
    ap (λ calls. calls ++ flat_map (writes_to (further_nodes setup a.task a.node r.cluster.up (written calls r.cluster.copies))) (made_by a.task)) own
    ∙ ap (λ names. plan.Write a.node name ∷ flat_map (writes_to (further_nodes setup a.task a.node r.cluster.up (with_copy (copy name a.node) r.cluster.copies))) names) e
    ∙ ap (λ calls. plan.Write a.node name ∷ calls) (append-nil (writes_to (further_nodes setup a.task a.node r.cluster.up (with_copy (copy name a.node) r.cluster.copies)) name))

-- ---- the cluster with another table

pub moved : (schedule : Schedule) (kept : Kept) (t : Replicas) → t.up ≡ kept.table.up → plain_of schedule (record kept { table = t }) ≡ with_copies (bare t.copies) (plain_of schedule kept)
moved schedule kept t e = ap (λ up. record (with_copies (bare t.copies) (plain_of schedule kept)) { up = up }) e

module _ (setup : Setup) (caches : HasNoCaches setup.shape) (a : Attempt) (kept : Kept) (name : Name) (bytes : List ℕ) (made : made_by a.task ≡ name ∷ []) where
  now : PlainCluster
  now = plain_of setup.schedule kept

  -- the further nodes, by the table before
  abbrev Go : List ℕ → Type 0
  Go nodes = further_nodes setup a.task a.node kept.table.up (with_copy (copy name a.node) (bare kept.table.copies)) ≡ nodes

  planned_all : (nodes : List ℕ) (counts : ReadCounts) → Go nodes → writes setup a (read_so_far counts (plain_of setup.schedule kept)) ≡ map planned (write_at a.node name bytes ∷ writes_at nodes name bytes)
  planned_all nodes counts go =
      all_writes setup caches a (read_so_far counts (plain_of setup.schedule kept)) name refl made
      ∙ ap (λ ns. plan.Write a.node name ∷ writes_to ns name) go
      ∙ ap (λ calls. plan.Write a.node name ∷ calls) (sym (planned_at nodes name bytes))

  module _ (t1 : Replicas) (before between : Option DiskTold) (first : Wrote before kept.table (write_at a.node name bytes ∷ []) t1 between) where
    up_is : t1.up ≡ kept.table.up
    up_is = ap (λ (t : Replicas). t.up) first.table

    copies_are : t1.copies ≡ with_copy (copy_of_bytes name a.node bytes) kept.table.copies
    copies_are = ap (λ (t : Replicas). t.copies) first.table

    -- the further nodes are those that hold the file in no copy of the table
    pub goes_there : goes_further setup a.task ≡ true → Go (nodes_for setup a.node t1.up (holders name t1))
    goes_there goes =
        further_is setup a.task name a.node kept.table.up (with_copy (copy name a.node) (bare kept.table.copies)) made
        ∙ ap (λ b. cond b (nodes_for setup a.node kept.table.up (up_holders name kept.table.up (with_copy (copy name a.node) (bare kept.table.copies)))) []) goes
        ∙ ap (λ copies. nodes_for setup a.node kept.table.up (up_holders name kept.table.up copies)) (sym (bare_with (copy_of_bytes name a.node bytes) kept.table.copies))
        ∙ ap (nodes_for setup a.node kept.table.up) (bare_up name kept.table.up (with_copy (copy_of_bytes name a.node bytes) kept.table.copies))
        ∙ ap (λ copies. nodes_for setup a.node kept.table.up (up_holders name kept.table.up copies)) (sym copies_are)
        ∙ ap (λ up. nodes_for setup a.node up (up_holders name up t1.copies)) (sym up_is)

    pub stays_here : goes_further setup a.task ≡ false → Go []
    stays_here goes =
        further_is setup a.task name a.node kept.table.up (with_copy (copy name a.node) (bare kept.table.copies)) made
        ∙ ap (λ b. cond b (nodes_for setup a.node kept.table.up (up_holders name kept.table.up (with_copy (copy name a.node) (bare kept.table.copies)))) []) goes

    pub wrote_all : (nodes : List ℕ) (t2 : Replicas) (after : Option DiskTold) → Go nodes → Wrote between t1 (writes_at nodes name bytes) t2 after
        → WroteAll setup a (plain_of setup.schedule kept) (plain_of setup.schedule (record kept { table = t2 })) before after
    wrote_all nodes t2 after go second =
        let all : List FileWrite = write_at a.node name bytes ∷ writes_at nodes name bytes in
        let up : t2.up ≡ kept.table.up = ap (λ (t : Replicas). t.up) second.table ∙ up_is in
        let copies : t2.copies ≡ copies_with all kept.table.copies = ap (λ (t : Replicas). t.copies) second.table ∙ ap (copies_with (writes_at nodes name bytes)) copies_are in
        record {
          follows = λ counts rest.
              subst (λ calls. Follows (do_all calls rest) before after rest) (sym (planned_all nodes counts go))
              (follows_more (do_all (map planned all) rest) (do_all (map planned (writes_at nodes name bytes)) rest) rest before between after
              (wrote_follows before between kept.table t1 (write_at a.node name bytes ∷ []) (do_all (map planned (writes_at nodes name bytes)) rest) first)
              (wrote_follows between after t1 t2 (writes_at nodes name bytes) rest second));
          copies = λ counts.
              moved setup.schedule kept t2 up
              ∙ ap (λ cs. with_copies cs (plain_of setup.schedule kept)) (ap bare copies ∙ copies_planned all kept.table.copies ∙ ap (λ calls. written calls (bare kept.table.copies)) (sym (planned_all nodes counts go)));
        }

    pub wrote_here : goes_further setup a.task ≡ false → WroteAll setup a (plain_of setup.schedule kept) (plain_of setup.schedule (record kept { table = t1 })) before between
    wrote_here goes = wrote_all [] t1 between (stays_here goes) (record { added = nothing_added between; table = refl })

    pub began_there : (t2 : Replicas) (after : Option DiskTold) → goes_further setup a.task ≡ true → WroteSome between t1 (writes_at (nodes_for setup a.node t1.up (holders name t1)) name bytes) t2 after
        → BeganToWrite setup a (plain_of setup.schedule kept) before after
    began_there t2 after goes some = λ counts rest.
        let nodes : List ℕ = nodes_for setup a.node t1.up (holders name t1) in
        let all : List FileWrite = write_at a.node name bytes ∷ writes_at nodes name bytes in
        subst (λ calls. Begun (do_all calls rest) before after) (sym (planned_all nodes counts (goes_there goes)))
        (begun_more (do_all (map planned all) rest) (do_all (map planned (writes_at nodes name bytes)) rest) before between after
        (wrote_follows before between kept.table t1 (write_at a.node name bytes ∷ []) (do_all (map planned (writes_at nodes name bytes)) rest) first)
        (some_begun between after t1 t2 (writes_at nodes name bytes) rest some))

  -- the first write failed
  pub began_here : (before after : Option DiskTold) → AddedAtMost before [] (disk.Write a.node name bytes) after → BeganToWrite setup a (plain_of setup.schedule kept) before after
  began_here before after added = λ counts rest.
      let nodes : List ℕ = further_nodes setup a.task a.node kept.table.up (with_copy (copy name a.node) (bare kept.table.copies)) in
      let more : Plan PlainCluster = do_all (map planned (writes_at nodes name bytes)) rest in
      subst (λ calls. Begun (do_all calls rest) before after) (sym (planned_all nodes counts refl))
      (elim added [
        | inl none ↦ record { calls = []; rest = plan.does (plan.Write a.node name) more; added = none; leads = refl }
        | inr one ↦ record { calls = disk.Write a.node name bytes ∷ []; rest = more; added = one; leads = (refl, refl) }
      ])

-- ---- the nodes that get a file are nodes that there are

all_range : (a n end : ℕ) → a + n ≤ end → AllByRecursion (λ m. m < end) (range_with_len a n)
all_range a zero end l = tt
all_range a (suc n) end l = (omega (arith, l), all_range (a + 1) n end (omega (arith, l)))

all_taken : {A : Type 0} (P : A → Type 0) (n : ℕ) (xs : List A) → AllByRecursion P xs → AllByRecursion P (take n xs)
all_taken P zero xs h = tt
all_taken P (suc n) [] h = tt
all_taken P (suc n) (x ∷ xs) h = (h.0, all_taken P n xs h.1)

pub none_beyond : (nodes n : ℕ) (xs : List ℕ) → AllByRecursion (λ m. m < nodes) xs → nodes ≤ n → among n xs ≡ false
none_beyond nodes n [] h l = refl
none_beyond nodes n (x ∷ xs) h l = rw (unlike n x (omega (arith, h.0, l))) (none_beyond nodes n xs h.1 l)
  where
    unlike : (n x : ℕ) → x < n → (n == x) ≡ false
    unlike n x l = grind (arith, l)

pub further_within : (setup : Setup) (node : ℕ) (up holders : List ℕ) → node < setup.schedule.nodes → AllByRecursion (λ m. m < setup.schedule.nodes) (nodes_for setup node up holders)
further_within setup node up holders l =
    let nodes : ℕ = setup.schedule.nodes in
    all_taken (λ m. m < nodes) _ _ (all_filtered (λ m. m < nodes) _ (nodes_behind nodes node)
    (all_both (λ m. m < nodes) (filter (λ n. nat_lt node n) (below nodes)) (below node)
    (all_filtered (λ m. m < nodes) (λ n. nat_lt node n) (below nodes) (all_range 0 nodes nodes (omega arith)))
    (all_range 0 node nodes (omega (arith, l)))))

-- the table has as many nodes as before, whatever was written
pub nodes_stay : {A B : Type 0} (result : Result A B) (t1 t2 : Replicas) (writes : Shape → List FileWrite) (before after : Option DiskTold) → Shape
    → OnOk result ((shape : Shape) → Wrote before t1 (writes shape) t2 after) → OnErr result ((shape : Shape) → WroteSome before t1 (writes shape) t2 after) → t2.nodes ≡ t1.nodes
nodes_stay (Ok x) t1 t2 writes before after shape o f = ap (λ (t : Replicas). t.nodes) (o shape).table
nodes_stay (Err e) t1 t2 writes before after shape o f = ap (λ (t : Replicas). t.nodes) (f shape).table

-- ---- what was written commits

known_stays : (task : Task) (name : Name) (known : List ℕ) → made_by task ≡ name ∷ [] → with_known task known ≡ known
known_stays (Map i j s q) name known e = refl
known_stays (Reduce i j p) name known e = refl
known_stays (Test i p) name known e = cc

pub file_commits : (setup : Setup) (a : Attempt) (counts : ReadCounts) (name : Name) (old between new : PlainCluster) (before after : Option DiskTold)
    → made_by a.task ≡ name ∷ [] → WroteAll setup a old between before after → new ≡ noted (Commit a.task a.node counts.local counts.remote counts.caches ∷ []) between
    → Follows (commit_plan setup a counts old) before after (gives new)
file_commits setup a counts name old between new before after made wrote e =
    let copies : List Copy = written (writes setup a (read_so_far counts old)) old.copies in
    let ends : PlainCluster = committed a (read_so_far counts old) copies in
    let same : ends ≡ new =
    ap (λ known. record ends { known = known }) (known_stays a.task name old.known made)
    ∙ ap (noted (Commit a.task a.node counts.local counts.remote counts.caches ∷ [])) (sym (wrote.copies counts))
    ∙ sym e
    in
    subst (λ c. Follows (commit_plan setup a counts old) before after (gives c)) same (wrote.follows counts (gives ends))

pub file_begins : (setup : Setup) (a : Attempt) (counts : ReadCounts) (old : PlainCluster) (before after : Option DiskTold) → BeganToWrite setup a old before after → Begun (commit_plan setup a counts old) before after
file_begins setup a counts old before after began = began counts (gives (committed a (read_so_far counts old) (written (writes setup a (read_so_far counts old)) old.copies)))

-- all was written, and the line was not noted
pub wrote_begins : (setup : Setup) (a : Attempt) (counts : ReadCounts) (old between : PlainCluster) (before after : Option DiskTold) → WroteAll setup a old between before after → Begun (commit_plan setup a counts old) before after
wrote_begins setup a counts old between before after wrote =
    let ends : Plan PlainCluster = gives (committed a (read_so_far counts old) (written (writes setup a (read_so_far counts old)) old.copies)) in
    let f = wrote.follows counts ends in
    record { calls = f.calls; rest = ends; added = f.added; leads = f.leads }

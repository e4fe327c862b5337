-- Without loss, a task is ready exactly where each file that it reads lies on an up node.
use Rattle.std.proofs.Common.{◌↔◌, ◌≡◌, ℕ, true, ◌||◌, List, [], ◌∷◌, Option, None, Some, refl, sym, subst}
use Rattle.node_names.specs.declared.name.Name.{Name}
use Rattle.node_names.specs.declared.name.Name.TheVariants.{Blk, Mic, Out, Ric, Roc, Spill}
use Rattle.node_names.specs.declared.task.Task.{Task}
use Rattle.run_model.specs.Lists.{IsIn}
use Rattle.run_model.specs.Needs.{Input, holds_cache, idle_nodes, inputs, is_there, is_up, missing, needs, unless, view_of}
use Rattle.run_model.specs.Sites.{site}
use Rattle.run_model.specs.State.{PlainCluster, Setup, holds}
use Rattle.run_model.specs.Tasks.{IsTask}
use Rattle.run_model.specs.Wanted.{is_empty, ready, ready_at}
use Rattle.run_laws.specs.WithoutLoss.{CanRead, Orderly, ReadyWithoutLoss}
use Rattle.run_laws.proofs.Growing.{none_fails, none_from}
use Rattle.run_laws.proofs.Members.{from_flat, in_flat, or_left}
use Rattle.run_laws.proofs.Orders.{from_unless}
use Rattle.run_laws.proofs.Standstill.{has_site}
use Rattle.run_laws.proofs.UnmissedReads.{all_in, block_needed, uncached}

module _ (setup : Setup) (c : PlainCluster) (task : Task) (o : Orderly setup c) (is : IsTask setup.shape task) where
  -- a file that is up is there
  up_there : (node : ℕ) (name : Name) → is_up c.copies c.up name ≡ true → is_there c.copies c.up node name ≡ true
  up_there node (Blk t b) e = or_left (is_up c.copies c.up (Blk t b) || holds c.copies node (Blk t b)) (holds c.copies node (Mic t b)) (or_left (is_up c.copies c.up (Blk t b)) (holds c.copies node (Blk t b)) e)
  up_there node (Spill i j s q) e = e
  up_there node (Out i j p) e = e
  up_there node (Ric j s p) e = e
  up_there node (Mic t b) e = e
  up_there node (Roc i p) e = e

  -- a file of the task that is there is up, since each block is
  there_up : (node : ℕ) (it : Input) (name : Name) → IsIn it (inputs setup.shape task) → IsIn name it.files → is_there c.copies c.up node name ≡ true → is_up c.copies c.up name ≡ true
  there_up node it (Blk t b) x y e = o.blocks t b (block_needed setup.shape task it t b is x y)
  there_up node it (Spill i j s q) x y e = e
  there_up node it (Out i j p) x y e = e
  there_up node it (Ric j s p) x y e = e
  there_up node it (Mic t b) x y e = e
  there_up node it (Roc i p) x y e = e

  -- the needs of the task are the files of its inputs
  file_needed : (node : ℕ) (it : Input) (name : Name) → IsIn it (inputs setup.shape task) → IsIn name it.files → IsIn name (needs setup.shape c.copies node task)
  file_needed node it name x y =
      let none : it.cache ≡ None = all_in (λ (it : Input). it.cache ≡ None) (inputs setup.shape task) (uncached setup.shape o.caches task) it x in
      in_flat (λ (it : Input). unless (holds_cache c.copies node it.cache) it.files) it name (inputs setup.shape task) x (subst (λ cache. IsIn name (unless (holds_cache c.copies node cache) it.files)) (sym none) y)

  need_read : (node : ℕ) (name : Name) → CanRead setup c task → IsIn name (needs setup.shape c.copies node task) → is_there c.copies c.up node name ≡ true
  need_read node name reads x =
      let it = from_flat (λ (it : Input). unless (holds_cache c.copies node it.cache) it.files) name (inputs setup.shape task) x in
      up_there node name (reads it.0 name it.1 (from_unless name (holds_cache c.copies node it.0.cache) it.0.files it.2))

  ready_at_is : (node : ℕ) → (is_empty (missing (view_of setup c) node task) ≡ true) ↔ CanRead setup c task
  ready_at_is node = (
    λ e it name x y. there_up node it name x y (none_fails (is_there c.copies c.up node) (needs setup.shape c.copies node task) e name (file_needed node it name x y)),
    λ reads. none_from (is_there c.copies c.up node) (needs setup.shape c.copies node task) (λ name x. need_read node name reads x),
  )

pub ready_without_loss : ReadyWithoutLoss
ready_without_loss setup c task fits o some is = go (idle_nodes setup c) refl
  where
    at : (site : Option ℕ) (node : ℕ) → site ≡ Some node → (ready_at (view_of setup c) task site ≡ true) ↔ CanRead setup c task
    at site node e = subst (λ site. (ready_at (view_of setup c) task site ≡ true) ↔ CanRead setup c task) (sym e) (ready_at_is setup c task o is node)

    go : (idle : List ℕ) → idle_nodes setup c ≡ idle → (ready (view_of setup c) task ≡ true) ↔ CanRead setup c task
    go [] e = absurd (some e)
    go (n ∷ ns) e = let s = has_site (view_of setup c) task n ns e in at (site (view_of setup c) task) s.0 s.1

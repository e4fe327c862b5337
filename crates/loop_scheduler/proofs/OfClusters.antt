-- The view of a cluster, over a table that has its copies.
use Rattle.std.proofs.Common.{◌≡◌, ◌&&◌, not, nat_lt, ℕ, List, ap, ◌∙◌}
use Rattle.std.specs.List.{filter}
use Rattle.replica_table.specs.Copies.{Replicas}
use Rattle.replica_table.specs.Sets.{among}
use Rattle.run_model.specs.Needs.{View, busy_nodes, idle_nodes, load, view_of}
use Rattle.run_model.specs.State.{PlainCluster, Setup, bare}
use Rattle.loop_scheduler.specs.Views.{view_over}
use Rattle.loop_scheduler.proofs.Choices.{all_up, passing_are}

-- it is the view over the table where the idle nodes of the cluster are called idle
pub clusters_view : (setup : Setup) (c : PlainCluster) (replicas : Replicas) → replicas.up ≡ c.up → bare replicas.copies ≡ c.copies → view_over setup.shape replicas (idle_nodes setup c) ≡ view_of setup c
clusters_view setup c replicas up copies =
    let same : filter (λ n. among n c.up) (idle_nodes setup c) ≡ idle_nodes setup c = all_up (idle_nodes setup c) c.up (λ q e. passing_are (λ n. not (among n (busy_nodes c.events c.marked)) && nat_lt (load c n) setup.schedule.slots) q c.up e) in
    (λ i. record { shape = setup.shape; copies = copies i; up = up i; idle = filter (λ n. among n (up i)) (idle_nodes setup c) })
    ∙ ap (λ (idle : List ℕ). seen setup c idle) same
  where
    seen : Setup → PlainCluster → List ℕ → View
    seen setup c idle = record { shape = setup.shape; copies = c.copies; up = c.up; idle = idle }

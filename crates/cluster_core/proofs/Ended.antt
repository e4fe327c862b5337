-- The end of a run that is kept, or could not be copied.
use Rattle.std.proofs.Common.{◌≡◌, Option, Some, Result, Ok, Err, IfErr, IfOk, sym, subst}
use Rattle.hal_outside.specs.DiskTold.{DiskTold}
use Rattle.run_model.specs.Plans.{Plan, gives}
use Rattle.run_model.specs.State.{PlainCluster}
use Rattle.run_model.specs.Turns as machine
use Rattle.valid_copies.specs.Calls.{Follows}
use Rattle.cluster_core.specs.Clusters.{finished_in}
use Rattle.cluster_core.specs.Faults.{RefusedIn}
use Rattle.cluster_core.specs.States.{Seen}
use Rattle.cluster_core.specs.Turns.{turned_to}
use Rattle.cluster_core.specs.declared.cluster.Turned.{Turned}
use Rattle.cluster_core.specs.declared.cluster.Turned.TheVariants as turned
use Rattle.cluster_core.specs.declared.fault.CoreFault.{CoreFault}
use Rattle.cluster_core.specs.declared.fault.CoreFault.TheVariants.{Memory}
use Rattle.cluster_core.specs.declared.finished.Finished.{Finished}
use Rattle.cluster_core.proofs.Onward.{begun_so_far}

module _ (plan : Plan machine.Turned) (before after : Option DiskTold) (it : Finished) (ended : PlainCluster) where
  pub kept_turned : (new : Seen) (result : Result Turned CoreFault) → new.plain ≡ ended → IfOk result (λ told. told ≡ turned.Finished it) → Follows plan before after (gives (turned_to (Some it) ended)) → IfOk result (λ told. Follows plan before after (gives (turned_to (finished_in told) new.plain)))
  kept_turned new (Ok told) same is f =
      subst (λ (t : Turned). Follows plan before after (gives (turned_to (finished_in t) new.plain))) (sym is)
      (subst (λ c. Follows plan before after (gives (turned_to (Some it) c))) (sym same) f)
  kept_turned new (Err fault) same is f = tt

  pub kept_refused : (new : PlainCluster) (result : Result Turned CoreFault) → IfErr result (λ fault. fault ≡ Memory) → Follows plan before after (gives (turned_to (Some it) ended)) → IfErr result (RefusedIn plan before after new)
  kept_refused new (Ok told) is f = tt
  kept_refused new (Err fault) is f = subst (RefusedIn plan before after new) (sym is) (begun_so_far plan (gives (turned_to (Some it) ended)) before after f)

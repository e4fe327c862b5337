-- What stays right where a run is refused, step by step.
use Rattle.std.proofs.Common.{Result, Ok, Err, IfErr}
use Rattle.valid_copies.specs.Faults as work
use Rattle.valid_copies.specs.declared.fault.WorkFault.{WorkFault}
use Rattle.valid_copies.specs.declared.fault.WorkFault.TheVariants.{Device, Missed, Memory}
use Rattle.cluster_core.specs.Faults.{AtRefusal}
use Rattle.cluster_core.specs.declared.fault.CoreFault.{CoreFault}
use Rattle.cluster_core.specs.declared.fault.CoreFault.TheVariants as core

missed_weaker : {P Q : Type 0} (fault : WorkFault) → (P → Q) → work.AtMissed fault P → work.AtMissed fault Q
missed_weaker (Device device) f p = p
missed_weaker Missed f p = f p
missed_weaker Memory f p = p

pub missed_so : {P : Type 0} (fault : WorkFault) → P → work.AtMissed fault P
missed_so (Device device) p = tt
missed_so Missed p = p
missed_so Memory p = tt

pub refusal_so : {P : Type 0} (fault : CoreFault) → P → AtRefusal fault P
refusal_so (core.TaskFailed task) p = p
refusal_so core.NotBuilt p = p
refusal_so (core.Device device) p = tt
refusal_so core.Memory p = tt

pub on_missed_weaker : {A P Q : Type 0} (result : Result A WorkFault) → (P → Q) → IfErr result (λ fault. work.AtMissed fault P) → IfErr result (λ fault. work.AtMissed fault Q)
on_missed_weaker (Ok a) f p = p
on_missed_weaker (Err fault) f p = missed_weaker fault f p

pub refusal_weaker : {P Q : Type 0} (fault : CoreFault) → (P → Q) → AtRefusal fault P → AtRefusal fault Q
refusal_weaker (core.TaskFailed task) f p = f p
refusal_weaker core.NotBuilt f p = f p
refusal_weaker (core.Device device) f p = p
refusal_weaker core.Memory f p = p

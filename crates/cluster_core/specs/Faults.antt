-- Why a cluster cannot go on, and what it leaves then.
use Rattle.std.specs.Prelude.{◌≡◌, Option}
use Rattle.hal_outside.specs.DiskTold.{DiskTold}
use Rattle.run_model.specs.Plans as why
use Rattle.run_model.specs.Plans.{Plan, refuses}
use Rattle.run_model.specs.State.{PlainCluster}
use Rattle.valid_copies.specs.Calls.{Begun, Follows, MissedIn}
use Rattle.valid_copies.specs.declared.fault.WorkFault.{WorkFault}
use Rattle.valid_copies.specs.declared.fault.WorkFault.TheVariants as work
use Rattle.cluster_core.specs.declared.fault.CoreFault.{CoreFault}
use Rattle.cluster_core.specs.declared.fault.CoreFault.TheVariants.{TaskFailed, NotBuilt, Device, Memory}

-- the fault of an attempt, as one of the cluster
abbrev pub core_fault_of : WorkFault → CoreFault
core_fault_of (work.Device device) = Device device
core_fault_of work.Missed = NotBuilt
core_fault_of work.Memory = Memory

-- p where the fault is a device's
abbrev pub AtDevice : CoreFault → Type 0 → Type 0
AtDevice (TaskFailed task) p = Unit {0}
AtDevice NotBuilt p = Unit {0}
AtDevice (Device device) p = p
AtDevice Memory p = Unit {0}

-- p where a read missed
abbrev pub AtMissed : CoreFault → Type 0 → Type 0
AtMissed (TaskFailed task) p = Unit {0}
AtMissed NotBuilt p = p
AtMissed (Device device) p = Unit {0}
AtMissed Memory p = Unit {0}

-- p where a task failed too often, or a read missed
abbrev pub AtRefusal : CoreFault → Type 0 → Type 0
AtRefusal (TaskFailed task) p = p
AtRefusal NotBuilt p = p
AtRefusal (Device device) p = Unit {0}
AtRefusal Memory p = Unit {0}

-- the calls of a plan that an attempt could not bring to its end: after a miss, those until that; else some first calls
abbrev pub StoppedIn : {A : Type 0} → Plan A → Option DiskTold → Option DiskTold → WorkFault → Type 0
StoppedIn plan before after (work.Device device) = Begun plan before after
StoppedIn plan before after work.Missed = MissedIn plan before after
StoppedIn plan before after work.Memory = Begun plan before after

-- the calls of a plan that a cluster could not bring to its end: where a task failed too often, it was refused so
abbrev pub RefusedIn : {A : Type 0} → Plan A → Option DiskTold → Option DiskTold → PlainCluster → CoreFault → Type 0
RefusedIn plan before after new (TaskFailed task) = Follows plan before after (refuses new (why.TaskFailed task))
RefusedIn plan before after new NotBuilt = MissedIn plan before after
RefusedIn plan before after new (Device device) = Begun plan before after
RefusedIn plan before after new Memory = Begun plan before after

-- what makes no call was refused, because a task failed too often
abbrev pub IsRefused : {A : Type 0} → Plan A → PlainCluster → CoreFault → Type 0
IsRefused plan new (TaskFailed task) = plan ≡ refuses new (why.TaskFailed task)
IsRefused plan new NotBuilt = ⊥
IsRefused plan new (Device device) = ⊥
IsRefused plan new Memory = Unit {0}

-- Why an attempt could not go on.
use Rattle.node_files.specs.declared.fault.Fault.{Fault}
use Rattle.node_files.specs.declared.fault.Fault.TheVariants as file
use Rattle.valid_copies.specs.declared.fault.WorkFault.{WorkFault}
use Rattle.valid_copies.specs.declared.fault.WorkFault.TheVariants.{Device, Missed, Memory}

-- the fault of a file, as one of an attempt
abbrev pub fault_of : Fault → WorkFault
fault_of (file.Device device) = Device device
fault_of file.Memory = Memory

-- p where the fault is a device's
abbrev pub AtDevice : WorkFault → Type 0 → Type 0
AtDevice (Device device) p = p
AtDevice Missed p = Unit {0}
AtDevice Memory p = Unit {0}

-- p where a read missed
abbrev pub AtMissed : WorkFault → Type 0 → Type 0
AtMissed (Device device) p = Unit {0}
AtMissed Missed p = p
AtMissed Memory p = Unit {0}

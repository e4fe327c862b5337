-- Why reads could not go on.
use Rattle.copy_reads.specs.declared.fault.ReadFault.{ReadFault}
use Rattle.copy_reads.specs.declared.fault.ReadFault.TheVariants.{Device, Misses, Memory}

-- p where the fault is a device's
abbrev pub AtDevice : ReadFault → Type 0 → Type 0
AtDevice (Device device) p = p
AtDevice Misses p = Unit {0}
AtDevice Memory p = Unit {0}

-- p where too many reads missed
abbrev pub AtMisses : ReadFault → Type 0 → Type 0
AtMisses (Device device) p = Unit {0}
AtMisses Misses p = p
AtMisses Memory p = Unit {0}

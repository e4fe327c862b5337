-- Faults of files on nodes.
use Rattle.hal_outside.specs.declared.faults.DiskFault.{DiskFault}
use Rattle.hal_outside.specs.declared.faults.DiskFault.TheVariants as disk
use Rattle.node_files.specs.declared.fault.Fault.{Fault}
use Rattle.node_files.specs.declared.fault.Fault.TheVariants as fault

-- the fault of disks, as one of files
abbrev pub fault_of : DiskFault → Fault
fault_of (disk.Device device) = fault.Device device
fault_of disk.Memory = fault.Memory

-- p where the fault is a device's
abbrev pub AtDevice : Fault → Type 0 → Type 0
AtDevice (fault.Device _) p = p
AtDevice fault.Memory p = Unit {0}

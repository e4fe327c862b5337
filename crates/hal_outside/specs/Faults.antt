-- What is said of a fault, where it is a device's.
use Rattle.hal_outside.specs.declared.faults.FileFault.{FileFault}
use Rattle.hal_outside.specs.declared.faults.FileFault.TheVariants as file
use Rattle.hal_outside.specs.declared.faults.DiskFault.{DiskFault}
use Rattle.hal_outside.specs.declared.faults.DiskFault.TheVariants as disk
use Rattle.hal_outside.specs.declared.faults.SinkFault.{SinkFault}
use Rattle.hal_outside.specs.declared.faults.SinkFault.TheVariants as sink

-- p where the fault of files is a device's
abbrev pub AtFileDevice : FileFault → Type 0 → Type 0
AtFileDevice (file.Device _) p = p
AtFileDevice file.Memory p = Unit {0}

-- the same of a fault of a sink
abbrev pub AtSinkDevice : SinkFault → Type 0 → Type 0
AtSinkDevice (sink.Device _) p = p
AtSinkDevice sink.Memory p = Unit {0}

-- the same of a fault of disks
abbrev pub AtDiskDevice : DiskFault → Type 0 → Type 0
AtDiskDevice (disk.Device _) p = p
AtDiskDevice disk.Memory p = Unit {0}

-- a fault of files, as one of disks that lie in files
abbrev pub disk_fault_of : FileFault → DiskFault
disk_fault_of (file.Device device) = disk.Device device
disk_fault_of file.Memory = disk.Memory

use Rattle.std.proofs.Common.{rules}
use Rattle.hal_outside.specs.DiskCalls.{Wipe}
use Rattle.hal_outside.proofs.Doing.{mem_done}
use Rattle.hal_outside.proofs.mem_disks.MemDisksDisks.wipe.Goals as goal

pub returns-clause-done : goal.returns-clause-done
returns-clause-done c = mem_done (Wipe c.args.node) c.args.self.now.1 c.wipe.new.self (search rules)

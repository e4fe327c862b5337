use Rattle.std.proofs.Common.{rules}
use Rattle.hal_outside.specs.DiskCalls.{Remove}
use Rattle.hal_outside.proofs.Doing.{mem_done}
use Rattle.hal_outside.proofs.mem_disks.MemDisksDisks.remove.Goals as goal

pub returns-clause-done : goal.returns-clause-done
returns-clause-done c = mem_done (Remove c.args.node c.args.name.now) c.args.self.now.1 c.remove.new.self (search rules)

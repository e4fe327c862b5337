use Rattle.std.proofs.Common.{rules}
use Rattle.hal_outside.specs.DiskCalls.{Wipe}
use Rattle.hal_outside.proofs.Damages.{added_shows}
use Rattle.hal_outside.proofs.Doing.{script_done}
use Rattle.hal_outside.proofs.script_disks.ScriptDisksDisks.wipe.Goals as goal

pub returns-clause-done : goal.returns-clause-done
returns-clause-done c = script_done (Wipe c.args.node) c.args.self.now.steps c.wipe.new.self (search rules)

pub returns-clause-damage_shown : goal.returns-clause-damage_shown
returns-clause-damage_shown c = added_shows (Wipe c.args.node) c.args.self.now.steps c.wipe.new.self (search rules)

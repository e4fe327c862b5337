use Rattle.std.proofs.Common.{rules}
use Rattle.hal_outside.specs.DiskCalls.{Remove}
use Rattle.hal_outside.proofs.Damages.{added_shows}
use Rattle.hal_outside.proofs.Doing.{script_done}
use Rattle.hal_outside.proofs.script_disks.ScriptDisksDisks.remove.Goals as goal

pub returns-clause-done : goal.returns-clause-done
returns-clause-done c = script_done (Remove c.args.node c.args.name.now) c.args.self.now.steps c.remove.new.self (search rules)

pub returns-clause-damage_shown : goal.returns-clause-damage_shown
returns-clause-damage_shown c = added_shows (Remove c.args.node c.args.name.now) c.args.self.now.steps c.remove.new.self (search rules)

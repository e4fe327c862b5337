use Rattle.std.proofs.Common.{rules}
use Rattle.hal_outside.specs.DiskCalls.{Read, answer_of}
use Rattle.hal_outside.proofs.Damages.{added_shows}
use Rattle.hal_outside.proofs.script_disks.ScriptDisksDisks.read.Goals as goal

pub returns-clause-damage_shown : goal.returns-clause-damage_shown
returns-clause-damage_shown c = added_shows (Read c.args.node c.args.name.now c.args.want.now.0 (answer_of c.in_ok-got.got)) c.args.self.now.steps c.read.new.self (search rules)

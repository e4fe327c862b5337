use Rattle.std.proofs.Common.{rules}
use Rattle.hal_outside.specs.DiskCalls.{Write}
use Rattle.hal_outside.proofs.Damages.{added_shows, spoilt_shows}
use Rattle.hal_outside.proofs.Doing.{on_failure, script_write_failed}
use Rattle.hal_outside.proofs.script_disks.ScriptDisksDisks.write.Goals as goal

pub returns-in_err-spoil-clause-failed : goal.returns-in_err-spoil-clause-failed
returns-in_err-spoil-clause-failed c = on_failure c.from_residual-in_err-spoil.result _ (script_write_failed c.args.node c.args.name.now c.args.bytes.now c.args.self.now.steps c.spoil.new.log (search rules))

pub returns-in_err-spoil-clause-damage_shown : goal.returns-in_err-spoil-clause-damage_shown
returns-in_err-spoil-clause-damage_shown c = added_shows (Write c.args.node c.args.name.now c.args.bytes.now) c.args.self.now.steps c.spoil.new.log (search rules)

pub returns-in_ok-spoil-clause-damage_shown : goal.returns-in_ok-spoil-clause-damage_shown
returns-in_ok-spoil-clause-damage_shown c = spoilt_shows c.args.node c.args.name.now c.args.bytes.now c.args.self.now.steps c.write.new.self c.spoil.new.log (search rules) c.in_ok-spoil.ensures.spoilt

pub returns-else-spoils-clause-damage_shown : goal.returns-else-spoils-clause-damage_shown
returns-else-spoils-clause-damage_shown c = added_shows (Write c.args.node c.args.name.now c.args.bytes.now) c.args.self.now.steps c.write.new.self (search rules)

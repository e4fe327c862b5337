use Rattle.valid_copies.proofs.Others.{others_by_write}
use Rattle.valid_copies.proofs.Steps.{any_put}
use Rattle.valid_copies.proofs.Rightly.{works_put}
use Rattle.valid_copies.proofs.keeping.put_copy.Goals as goal

pub returns-clause-valid : goal.returns-clause-valid
returns-clause-valid g c = any_put c.put.result (g.D.Disks.told c.args.disks.now) (g.D.Disks.told c.put.new.disks) c.args.node c.args.name.now c.args.bytes.now c.put.ensures.done

pub returns-clause-others : goal.returns-clause-others
returns-clause-others g c = others_by_write c.put.result (g.D.Disks.told c.args.disks.now) (g.D.Disks.told c.put.new.disks) c.args.node c.args.name.now c.args.bytes.now c.put.ensures.done c.put.ensures.failed

pub returns-clause-calls : goal.returns-clause-calls
returns-clause-calls g c = λ w is. works_put g.D.Disks w c.args.disks.now c.put.new.disks c.args.node c.args.name.now c.args.bytes.now c.put.result is c.put.ensures.done c.put.ensures.failed c.put.ensures.soundness_kept c.put.ensures.not_missed

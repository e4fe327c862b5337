use Rattle.valid_copies.proofs.Steps.{wipe_stands}
use Rattle.valid_copies.proofs.keeping.wipe_node.Goals as goal

pub returns-clause-valid : goal.returns-clause-valid
returns-clause-valid g c = λ w s. rw c.wipe-2.ensures (wipe_stands w c.args.table.now.copies (g.D.Disks.told c.args.disks.now) (g.D.Disks.told c.wipe.new.self) c.args.node c.in_ok-wipe.ensures.done s)

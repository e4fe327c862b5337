use Rattle.valid_copies.proofs.Adding.{such_none}
use Rattle.valid_copies.proofs.Digests.{asked_none}
use Rattle.valid_copies.specs.LastWrites.{WritesNothing}
use Rattle.valid_copies.proofs.removing.clear_nodes.Goals as goal

pub returns-in-Err-clause-asks : goal.returns-in-Err-clause-asks
returns-in-Err-clause-asks g c = λ agree. asked_none (g.D.Disks.told c.args.disks.now)

pub returns-in-Err-clause-wrote_nothing : goal.returns-in-Err-clause-wrote_nothing
returns-in-Err-clause-wrote_nothing g c = such_none WritesNothing (g.D.Disks.told c.args.disks.now)

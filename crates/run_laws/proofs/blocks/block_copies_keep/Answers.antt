use Rattle.run_laws.proofs.BlockCopies.{block_copies_keep}
use Rattle.run_laws.proofs.blocks.block_copies_keep.Goals as goal

pub returns : goal.returns
returns c = block_copies_keep

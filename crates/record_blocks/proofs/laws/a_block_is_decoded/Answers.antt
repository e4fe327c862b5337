use Rattle.record_blocks.proofs.OneList.{found_again}
use Rattle.record_blocks.proofs.laws.a_block_is_decoded.Goals as goal

pub returns : goal.returns
returns c = found_again

use Rattle.record_blocks.proofs.OneList.{one_block}
use Rattle.record_blocks.proofs.laws.a_list_has_one_block.Goals as goal

pub returns : goal.returns
returns c = one_block

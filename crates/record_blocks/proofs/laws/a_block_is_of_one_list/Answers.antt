use Rattle.record_blocks.proofs.OneList.{one_list}
use Rattle.record_blocks.proofs.laws.a_block_is_of_one_list.Goals as goal

pub returns : goal.returns
returns c = one_list

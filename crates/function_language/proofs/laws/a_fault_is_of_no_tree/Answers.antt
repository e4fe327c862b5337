use Rattle.program_tokens.proofs.Lists.{one_list}
use Rattle.program_tokens.proofs.Whole.{fault_is_one}
use Rattle.function_language.proofs.laws.a_fault_is_of_no_tree.Goals as goal

pub returns : goal.returns
returns c = fault_is_one one_list

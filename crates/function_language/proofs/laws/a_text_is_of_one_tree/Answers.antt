use Rattle.function_language.proofs.Ended.{functions_are_one}
use Rattle.function_language.proofs.laws.a_text_is_of_one_tree.Goals as goal

pub returns : goal.returns
returns c = functions_are_one

use Rattle.program_tokens.proofs.Lists.{one_list}
use Rattle.program_tokens.proofs.laws.a_text_has_one_token_list.Goals as goal

pub returns : goal.returns
returns c = one_list

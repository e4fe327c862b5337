use Rattle.loop_program.proofs.Texts.{one_wrong}
use Rattle.loop_program.proofs.laws.one_thing_is_wrong.Goals as goal

pub returns : goal.returns
returns c = one_wrong

use Rattle.program_sketch.proofs.Programs.{one_program}
use Rattle.program_sketch.proofs.laws.a_text_is_of_one_program.Goals as goal

pub returns : goal.returns
returns c = one_program

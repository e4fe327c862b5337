use Rattle.partition_shuffle.proofs.Spilled.{section_is_the_part}
use Rattle.partition_shuffle.proofs.laws.a_section_is_the_part.Goals as goal

pub returns : goal.returns
returns c = section_is_the_part

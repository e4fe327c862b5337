-- What the functions of a program mean.
use Rattle.hal_base.specs.Meaning.{Meaning}
use Rattle.function_meaning.specs.Meanings as functions
use Rattle.loop_program.specs.Whole.{Whole}

-- what the functions that a program uses mean, over its parts
abbrev pub meaning_of : Whole → Meaning
meaning_of program = functions.meaning_of program.functions program.uses program.shape.parts

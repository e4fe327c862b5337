-- The functions of an accepted program fit its shape.
use Rattle.plain_job.specs.Fit.{FunctionsFit}
use Rattle.function_meaning.specs.Meanings.{meaning_of}
use Rattle.loop_program.specs.Rules.{KeepsRules}
use Rattle.loop_program.specs.Whole.{Whole}

-- the functions of a program that keeps the rules fit its shape
abbrev pub ProgramsFit : Type 0
ProgramsFit = (program : Whole) → KeepsRules program → FunctionsFit (meaning_of program.functions program.uses program.shape.parts) program.shape

use Rattle.std.proofs.Common.{◌≤◌, inr, length, refl, subst, arith}
use Rattle.program_tokens.specs.Texts.{Refuses}
use Rattle.program_sketch.specs.declared.fault.What.TheVariants.{Syntax}
use Rattle.program_sketch.specs.Programs.{most_bytes}
use Rattle.program_sketch.specs.Spelled.{program_pieces}
use Rattle.program_sketch.proofs.Programs.{just_program, misspelled_refuses, program_spelled}
use Rattle.program_sketch.proofs.parse.parse_program.Goals as goal

pub returns-in-Ok-clause-read : goal.returns-in-Ok-clause-read
returns-in-Ok-clause-read c =
    let h = c.if-text-gt-MOST_BYTES.false in
    let short : length c.args.text.now ≤ most_bytes = omega (arith, h) in
    just_program c.args.text.now c.in-Ok.sketch (short, c.in-Ok.ensures.read)

pub returns-in-Ok-clause-spelled : goal.returns-in-Ok-clause-spelled
returns-in-Ok-clause-spelled c = program_spelled c.args.text.now c.in-Ok.sketch c.in-Ok.ensures.read

pub returns-in-Err-At-clause-refused : goal.returns-in-Err-At-clause-refused
returns-in-Err-At-clause-refused c =
    let h = c.if-text-gt-MOST_BYTES.false in
    let short : length c.args.text.now ≤ most_bytes = omega (arith, h) in
    misspelled_refuses c.args.text.now c.in-Err-At.line Syntax (inr (refl, short, subst (Refuses program_pieces c.args.text.now) c.in-Err-At.field-0-is c.in-Err-At.ensures.refused))

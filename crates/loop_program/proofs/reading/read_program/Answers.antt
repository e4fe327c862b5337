use Rattle.std.proofs.Common.{subst}
use Rattle.loop_program.specs.declared.typing.TypedSketch.{TypedSketch}
use Rattle.loop_program.specs.Programs.{accepted}
use Rattle.loop_program.specs.steps.Tells.{Tells}
use Rattle.std.proofs.lemmas.Result.{err_from_is_err_and}
use Rattle.program_sketch.proofs.SomeStep.{has_a_step}
use Rattle.loop_program.proofs.Texts.{fault_refused, not_read_refused, what_is_read}
use Rattle.loop_program.proofs.reading.read_program.Goals as goal

pub returns-in_err-sketch-clause-refused : goal.returns-in_err-sketch-clause-refused
returns-in_err-sketch-clause-refused c =
    let r = err_from_is_err_and c.from_residual.result c.from_residual.ensures.1 in
    rw (r.1, r.2) (not_read_refused c.args.text.now c.in_err-sketch.field-0.0 c.in_err-sketch.ensures.refused)

pub returns-in_err-typed-clause-refused : goal.returns-in_err-typed-clause-refused
returns-in_err-typed-clause-refused c =
    let r = err_from_is_err_and c.from_residual-in_err-typed.result c.from_residual-in_err-typed.ensures.1 in
    rw (r.1, r.2) (fault_refused c.args.text.now c.in_ok-sketch.sketch c.in_err-typed.field-0.0 c.in_ok-sketch.ensures.read c.in_err-typed.ensures.refused)

pub accept-requires-clause-steps : goal.accept-requires-clause-steps
accept-requires-clause-steps c = rw c.in_ok-typed.ensures.typed.1 (has_a_step c.args.text.now c.in_ok-sketch.sketch c.in_ok-sketch.ensures.read.is)

pub returns-clause-read : goal.returns-clause-read
returns-clause-read c =
    let tells = subst (λ (typed : TypedSketch). Tells (accepted typed) c.accept.result) c.in_ok-typed.ensures.typed.1 c.accept.ensures.found in
    (what_is_read c.args.text.now c.in_ok-sketch.sketch c.accept.result c.in_ok-sketch.ensures.read c.in_ok-typed.ensures.typed.0 tells).0

pub returns-clause-refused : goal.returns-clause-refused
returns-clause-refused c =
    let tells = subst (λ (typed : TypedSketch). Tells (accepted typed) c.accept.result) c.in_ok-typed.ensures.typed.1 c.accept.ensures.found in
    (what_is_read c.args.text.now c.in_ok-sketch.sketch c.accept.result c.in_ok-sketch.ensures.read c.in_ok-typed.ensures.typed.0 tells).1

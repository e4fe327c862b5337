use Rattle.std.proofs.Common.{ap, ◌∙◌}
use Rattle.std.proofs.lemmas.Result.{err_from_is_err_and}
use Rattle.cache_conditions.specs.Texts.{check_text}
use Rattle.haloop_run.specs.steps.Checks.{ProgramJudged}
use Rattle.haloop_run.specs.steps.Inputs.{NoProgram}
use Rattle.haloop_run.proofs.CheckOutcomes.{is_checked, judged_alone, only_accepted}
use Rattle.haloop_run.proofs.Stopping.{reads_none, stops_later}
use Rattle.haloop_run.proofs.check.verdicts_of.Goals as goal

pub returns-in_err-program-clause-stops : goal.returns-in_err-program-clause-stops
returns-in_err-program-clause-stops g c =
    let files = g.F.Files in
    let name = c.args.name.now in
    let r = err_from_is_err_and c.from_residual.result c.from_residual.ensures.1 in
    rw (r.1, r.2)
    (stops_later files c.args.files.now c.args.files.now c.program_file.new.files (NoProgram name) (ProgramJudged name) c.in_err-program.field-0.0
    (reads_none files c.args.files.now) (λ told t it n. judged_alone name told it n) c.in_err-program.ensures.stops)

pub returns-clause-found : goal.returns-clause-found
returns-clause-found g c =
    is_checked g.F.Files c.args.name.now c.args.files.now c.in_ok-program.program c.in_ok-check_text.field-0.items c.in_ok-program.ensures.found (c.in_ok-check_text.ensures ∙ ap check_text c.in_ok-verdicts.ensures.found)

pub returns-clause-only : goal.returns-clause-only
returns-clause-only g c = λ told t it i. only_accepted c.args.name.now told c.in_ok-program.program (c.in_ok-program.ensures.found told t) it i

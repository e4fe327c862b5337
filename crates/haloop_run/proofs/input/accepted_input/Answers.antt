use Rattle.std.proofs.lemmas.Result.{err_from_is_err_and}
use Rattle.haloop_run.specs.steps.Inputs.{Judged, NoProgram, NoSchedule, StopsAtTable}
use Rattle.haloop_run.specs.steps.Words.{asked_by}
use Rattle.haloop_run.proofs.Outcomes.{judged_complete, judged_program, judged_schedule, judged_table}
use Rattle.haloop_run.proofs.Stopping.{reads_none, reads_then, stops_later, told_later}
use Rattle.haloop_run.proofs.input.accepted_input.Goals as goal

pub returns-in_err-program-clause-stops : goal.returns-in_err-program-clause-stops
returns-in_err-program-clause-stops g c =
    let files = g.F.Files in
    let asked = asked_by c.args.command.now in
    let r = err_from_is_err_and c.from_residual.result c.from_residual.ensures.1 in
    rw (r.1, r.2)
    (stops_later files c.args.files.now c.args.files.now c.program_file.new.files (NoProgram asked.program) (Judged asked) c.in_err-program.field-0.0
    (reads_none files c.args.files.now) (λ told t it n. judged_program asked told it n) c.in_err-program.ensures.stops)

pub returns-in_err-schedule-clause-stops : goal.returns-in_err-schedule-clause-stops
returns-in_err-schedule-clause-stops g c =
    let files = g.F.Files in
    let asked = asked_by c.args.command.now in
    let r = err_from_is_err_and c.from_residual-in_err-schedule.result c.from_residual-in_err-schedule.ensures.1 in
    rw (r.1, r.2)
    (stops_later files c.args.files.now c.program_file.new.files c.asked_schedule.new.files (NoSchedule asked.schedule) (Judged asked) c.in_err-schedule.field-0.0
    c.in_ok-program.ensures.reads (λ told t it n. judged_schedule asked told c.in_ok-program.program (c.in_ok-program.ensures.found told t) it n) c.in_err-schedule.ensures.stops)

pub returns-in_err-tables-clause-stops : goal.returns-in_err-tables-clause-stops
returns-in_err-tables-clause-stops g c =
    let files = g.F.Files in
    let asked = asked_by c.args.command.now in
    let program = c.in_ok-program.program in
    let r = err_from_is_err_and c.from_residual-in_err-tables.result c.from_residual-in_err-tables.ensures.1 in
    rw (r.1, r.2)
    (stops_later files c.args.files.now c.asked_schedule.new.files c.read_tables.new.files (StopsAtTable program) (Judged asked) c.in_err-tables.field-0.0
    (reads_then files c.args.files.now c.program_file.new.files c.asked_schedule.new.files c.in_ok-program.ensures.reads c.in_ok-schedule.ensures.reads)
    (λ told t it s.
    judged_table asked told program (c.in_ok-program.ensures.found told t) c.in_ok-schedule.schedule
    (c.in_ok-schedule.ensures.found told (told_later files c.args.files.now c.program_file.new.files told c.in_ok-program.ensures.reads t)) it s)
    c.in_err-tables.ensures.stops)

pub returns-clause-found : goal.returns-clause-found
returns-clause-found g c = λ told t.
    let files = g.F.Files in
    let asked = asked_by c.args.command.now in
    let t' = told_later files c.args.files.now c.program_file.new.files told c.in_ok-program.ensures.reads t in
    let t'' = told_later files c.program_file.new.files c.asked_schedule.new.files told c.in_ok-schedule.ensures.reads t' in
    judged_complete asked told c.in_ok-program.program (c.in_ok-program.ensures.found told t) c.in_ok-schedule.schedule (c.in_ok-schedule.ensures.found told t') c.in_ok-tables.tables (c.in_ok-tables.ensures.found told t'')

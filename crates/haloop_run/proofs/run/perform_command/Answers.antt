use Rattle.std.proofs.Common.{Option, subst}
use Rattle.std.proofs.lemmas.Result.{err_from_is_err_and}
use Rattle.hal_outside.specs.Told.{FileMap}
use Rattle.hal_outside.specs.Calls.{Tells}
use Rattle.schedule_text.specs.declared.schedule.Schedule.{Schedule}
use Rattle.haloop_run.specs.Inputs.{complete}
use Rattle.haloop_run.specs.steps.Inputs.{AsAsked, Judged}
use Rattle.haloop_run.specs.steps.Words.{asked_by}
use Rattle.haloop_run.proofs.CommandLaws.{all_written, none_asked, run_stops, run_writing_stops, run_written, some_asked, writing_stops}
use Rattle.haloop_run.proofs.run.perform_command.Goals as goal

pub returns-in_err-write_parts-in-None-clause-came : goal.returns-in_err-write_parts-in-None-clause-came
returns-in_err-write_parts-in-None-clause-came g c =
    let f = g.F.Files in
    let asked = asked_by c.args.command.now in
    let r = err_from_is_err_and c.from_residual-in_err-write_parts-in-None.result c.from_residual-in_err-write_parts-in-None.ensures.1 in
    let plain = none_asked asked.schedule (subst (λ (s : Option Schedule). AsAsked asked.schedule s) c.in-None.is c.in_ok-program.ensures.asked) in
    let found = subst (λ (s : Option Schedule). (told : FileMap) → Tells f c.args.files.now told → Judged asked told (complete c.in_ok-program.field-0.program s c.in_ok-program.field-0.tables)) c.in-None.is c.in_ok-program.ensures.found in
    rw (r.1, r.2)
    (writing_stops f g.D.Disks asked c.args.files.now c.accepted_input.new.files c.in_ok-program.ensures.reads c.args.disks.now c.in_ok-program.field-0.program c.in_ok-program.field-0.tables plain found
    c.write_parts.new.files c.in_ok-chain-in-None.chain c.in_ok-chain-in-None.ensures c.in_err-write_parts-in-None.field-0.0 c.in_err-write_parts-in-None.ensures.device c.in_err-write_parts-in-None.ensures.partly)

pub returns-in_ok-write_parts-in-None-clause-came : goal.returns-in_ok-write_parts-in-None-clause-came
returns-in_ok-write_parts-in-None-clause-came g c =
    let f = g.F.Files in
    let asked = asked_by c.args.command.now in
    let plain = none_asked asked.schedule (subst (λ (s : Option Schedule). AsAsked asked.schedule s) c.in-None.is c.in_ok-program.ensures.asked) in
    let found = subst (λ (s : Option Schedule). (told : FileMap) → Tells f c.args.files.now told → Judged asked told (complete c.in_ok-program.field-0.program s c.in_ok-program.field-0.tables)) c.in-None.is c.in_ok-program.ensures.found in
    all_written f g.D.Disks asked c.args.files.now c.accepted_input.new.files c.in_ok-program.ensures.reads c.args.disks.now c.in_ok-program.field-0.program c.in_ok-program.field-0.tables plain found
    c.write_parts.new.files c.in_ok-chain-in-None.chain c.in_ok-chain-in-None.ensures c.in_ok-write_parts-in-None.ensures.written

pub returns-in_err-replayed-in-Some-clause-came : goal.returns-in_err-replayed-in-Some-clause-came
returns-in_err-replayed-in-Some-clause-came g c =
    let f = g.F.Files in
    let asked = asked_by c.args.command.now in
    let r = err_from_is_err_and c.from_residual-in_err-replayed-in-Some.result c.from_residual-in_err-replayed-in-Some.ensures.1 in
    let name = some_asked asked.schedule c.in-Some.schedule (subst (λ (s : Option Schedule). AsAsked asked.schedule s) c.in-Some.is c.in_ok-program.ensures.asked) in
    let found = subst (λ (s : Option Schedule). (told : FileMap) → Tells f c.args.files.now told → Judged asked told (complete c.in_ok-program.field-0.program s c.in_ok-program.field-0.tables)) c.in-Some.is c.in_ok-program.ensures.found in
    rw (r.1, r.2)
    (run_stops f g.D.Disks asked c.args.files.now c.accepted_input.new.files c.in_ok-program.ensures.reads c.args.disks.now c.replay.new.disks c.in_ok-program.field-0.program c.in-Some.schedule c.in_ok-program.field-0.tables name.0 name.1 found
    c.in_err-replayed-in-Some.field-0.0 c.in_err-replayed-in-Some.ensures.refused)

pub returns-in_err-write_parts-in-Some-clause-came : goal.returns-in_err-write_parts-in-Some-clause-came
returns-in_err-write_parts-in-Some-clause-came g c =
    let f = g.F.Files in
    let asked = asked_by c.args.command.now in
    let r = err_from_is_err_and c.from_residual-in_err-write_parts-in-Some.result c.from_residual-in_err-write_parts-in-Some.ensures.1 in
    let name = some_asked asked.schedule c.in-Some.schedule (subst (λ (s : Option Schedule). AsAsked asked.schedule s) c.in-Some.is c.in_ok-program.ensures.asked) in
    let found = subst (λ (s : Option Schedule). (told : FileMap) → Tells f c.args.files.now told → Judged asked told (complete c.in_ok-program.field-0.program s c.in_ok-program.field-0.tables)) c.in-Some.is c.in_ok-program.ensures.found in
    rw (r.1, r.2)
    (run_writing_stops f g.D.Disks asked c.args.files.now c.accepted_input.new.files c.in_ok-program.ensures.reads c.args.disks.now c.replay.new.disks c.in_ok-program.field-0.program c.in-Some.schedule c.in_ok-program.field-0.tables name.0 name.1 found
    c.write_parts-in-Some.new.files c.in_ok-replayed-in-Some.replayed c.in_ok-replayed-in-Some.ensures.replayed c.in_err-write_parts-in-Some.field-0.0 c.in_err-write_parts-in-Some.ensures.device c.in_err-write_parts-in-Some.ensures.partly)

pub returns-in_ok-write_parts-in-Some-clause-came : goal.returns-in_ok-write_parts-in-Some-clause-came
returns-in_ok-write_parts-in-Some-clause-came g c =
    let f = g.F.Files in
    let asked = asked_by c.args.command.now in
    let name = some_asked asked.schedule c.in-Some.schedule (subst (λ (s : Option Schedule). AsAsked asked.schedule s) c.in-Some.is c.in_ok-program.ensures.asked) in
    let found = subst (λ (s : Option Schedule). (told : FileMap) → Tells f c.args.files.now told → Judged asked told (complete c.in_ok-program.field-0.program s c.in_ok-program.field-0.tables)) c.in-Some.is c.in_ok-program.ensures.found in
    run_written f g.D.Disks asked c.args.files.now c.accepted_input.new.files c.in_ok-program.ensures.reads c.args.disks.now c.replay.new.disks c.in_ok-program.field-0.program c.in-Some.schedule c.in_ok-program.field-0.tables name.0 name.1 found
    c.write_parts-in-Some.new.files c.in_ok-replayed-in-Some.replayed c.in_ok-replayed-in-Some.ensures.replayed c.in_ok-write_parts-in-Some.ensures.written

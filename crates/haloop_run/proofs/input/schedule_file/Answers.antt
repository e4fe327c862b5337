use Rattle.std.proofs.Common.{rules, ℕ, List, subst}
use Rattle.std.proofs.lemmas.Result.{err_from_is_err_and}
use Rattle.schedule_text.specs.Faults.{HasFault}
use Rattle.schedule_text.specs.Schedules.{IsTextOf}
use Rattle.haloop_run.proofs.Schedules.{faulty_stops, loses}
use Rattle.haloop_run.proofs.input.schedule_file.Goals as goal

pub returns-in_err-schedule-clause-stops : goal.returns-in_err-schedule-clause-stops
returns-in_err-schedule-clause-stops g c =
    let r = err_from_is_err_and c.from_residual-in_err-schedule.result c.from_residual-in_err-schedule.ensures.1 in
    rw (r.1, r.2)
    (faulty_stops g.F.Files c.args.files.now c.read_file.new.files c.args.name.now c.in_ok-text.text.items c.in_err-schedule.field-0.0 c.in_ok-text.ensures.found
    (subst (λ (text : List ℕ). HasFault text c.in_err-schedule.field-0.0) c.as_slice.ensures.value c.in_err-schedule.ensures.refused))

pub returns-clause-stops : goal.returns-clause-stops
returns-clause-stops g c = (
  λ told t. loses c.args.name.now told c.in_ok-text.text.items c.in_ok-schedule.schedule (c.in_ok-text.ensures.found told t)
      (subst (λ (text : List ℕ). IsTextOf text c.in_ok-schedule.schedule) c.as_slice.ensures.value c.in_ok-schedule.ensures.accepted) (search rules),
  tt,
)

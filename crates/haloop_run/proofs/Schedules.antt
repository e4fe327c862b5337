-- A schedule that is refused.
use Rattle.std.proofs.Common.{ℕ, List, inl, inr, refl}
use Rattle.hal_outside.specs.Told.{FileMap}
use Rattle.hal_outside.specs.Calls.{Tells}
use Rattle.hal_outside.specs.declared.files.Files.{Ghosts}
use Rattle.run_laws.specs.WithoutLoss.{AreQuiet}
use Rattle.schedule_text.specs.Faults.{HasFault}
use Rattle.schedule_text.specs.Schedules.{IsTextOf}
use Rattle.schedule_text.specs.declared.fault.ScheduleFault.{ScheduleFault}
use Rattle.schedule_text.specs.declared.fault.ScheduleFault.TheVariants.{At, Memory}
use Rattle.schedule_text.specs.declared.schedule.Schedule.{Schedule}
use Rattle.haloop_run.specs.Inputs.{not_built}
use Rattle.haloop_run.specs.steps.Inputs.{HasFile, OtherSchedule, Stops, schedule_refused}

-- a text with a fault stops the step
pub faulty_stops : {F : Type 0} (g : Ghosts F) (old new : F) (name text : List ℕ) (fault : ScheduleFault) → ((told : FileMap) → Tells g old told → HasFile name text told) → HasFault text fault → Stops g old new (OtherSchedule name) (schedule_refused fault)
faulty_stops g old new name text (At line what) there f = (λ told t. inr (text, there told t, inl (line, what, f, refl)), tt)
faulty_stops g old new name text Memory there f = tt

-- a schedule in which something is lost is not built
pub loses : (name : List ℕ) (files : FileMap) (text : List ℕ) (schedule : Schedule) → HasFile name text files → IsTextOf text schedule → (AreQuiet schedule.events → ⊥) → OtherSchedule name files not_built
loses name files text schedule there t q = inr (text, there, inr (schedule, t, q, refl))

-- Each text has one outcome.
use Rattle.std.proofs.Common.{◌≡◌, ℕ, List, [], ◌∷◌, Option, None, Some, ◌⊎◌, inl, inr, refl, sym, ap, ◌∙◌}
use Rattle.schedule_text.specs.declared.fault.ScheduleFault.{ScheduleFault}
use Rattle.schedule_text.specs.declared.fault.ScheduleFault.TheVariants.{At}
use Rattle.schedule_text.specs.declared.fault.ScheduleWhat.{ScheduleWhat}
use Rattle.schedule_text.specs.declared.schedule.Schedule.{Schedule}
use Rattle.schedule_text.specs.Faults.{Fault, HasFault, faults}
use Rattle.schedule_text.specs.Lines.{event_lines, first, head_lines, lines_behind}
use Rattle.schedule_text.specs.Schedules.{HasOneOutcome, IsTextOf, schedule_of}

some : (text : List ℕ) (all : List Fault) → faults text ≡ all → ((schedule : Schedule) × IsTextOf text schedule) ⊎ ((line : ℕ) × (what : ScheduleWhat) × HasFault text (At line what))
some text [] e = inl (schedule_of (head_lines (lines_behind 0 text)) (event_lines (lines_behind 0 text)), record { right = e; says = refl })
some text ((line, what) ∷ more) e = inr (line, what, ap first e)

abbrev fault_of : Option Fault → Fault → Fault
fault_of None otherwise = otherwise
fault_of (Some fault) otherwise = fault

abbrev at : Fault → ScheduleFault
at fault = At fault.0 fault.1

pub one_outcome : (text : List ℕ) → HasOneOutcome text
one_outcome text = record {
  some = some text (faults text) refl;
  one_schedule = λ a b s t. s.says ∙ sym t.says;
  one_fault = λ line other what wrong e f. ap (λ (o : Option Fault). at (fault_of o (line, what))) (sym e ∙ f);
  not_both = λ schedule line what s e. let n : ◌≡◌ {A = Option Fault} None (Some (line, what)) = ap first (sym s.right) ∙ e in absurd cc;
}

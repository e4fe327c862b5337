-- The schedule of a text, and what each schedule keeps.
use Rattle.std.specs.Prelude.{◌≡◌, ℕ, ◌<◌, ◌≤◌, ◌⊎◌, List, [], length, min}
use Rattle.std.specs.List.{AllByRecursion}
use Rattle.schedule_text.specs.declared.fault.ScheduleFault.TheVariants.{At}
use Rattle.schedule_text.specs.declared.fault.ScheduleWhat.{ScheduleWhat}
use Rattle.schedule_text.specs.declared.schedule.Event.{Event}
use Rattle.schedule_text.specs.declared.schedule.Event.TheVariants.{Done, Fail, Lose, Back, Wipe, Busy, Idle, Round}
use Rattle.schedule_text.specs.declared.schedule.Schedule.{Schedule}
use Rattle.schedule_text.specs.declared.words.Setting.TheVariants.{Nodes, Slots, Copies, Block, Attempts, Keep}
use Rattle.schedule_text.specs.Lines.{Line, event_lines, events_in, head_lines, lines_behind}
use Rattle.schedule_text.specs.Faults.{HasFault, faults, number_or}

-- what a head and the lines behind it say, with what holds where a setting is not given
abbrev pub schedule_of : List Line → List Line → Schedule
schedule_of head others = record {
  nodes = number_or Nodes 0 head;
  slots = number_or Slots 1 head;
  copies = number_or Copies (min 3 (number_or Nodes 0 head)) head;
  block = number_or Block 10000 head;
  attempts = number_or Attempts 4 head;
  keep = number_or Keep 1 head;
  events = events_in others;
}

-- the text has no fault, and says this schedule
pub record IsTextOf (text : List ℕ) (schedule : Schedule) : Type 0 where
  pub right : faults text ≡ []
  pub says : schedule ≡ schedule_of (head_lines (lines_behind 0 text)) (event_lines (lines_behind 0 text))

-- each text is of one schedule, or has one first fault
pub record HasOneOutcome (text : List ℕ) : Type 0 where
  pub some : ((schedule : Schedule) × IsTextOf text schedule) ⊎ ((line : ℕ) × (what : ScheduleWhat) × HasFault text (At line what))
  pub one_schedule : (a b : Schedule) → IsTextOf text a → IsTextOf text b → a ≡ b
  pub one_fault : (line other : ℕ) (what wrong : ScheduleWhat) → HasFault text (At line what) → HasFault text (At other wrong) → At line what ≡ At other wrong
  pub not_both : (schedule : Schedule) (line : ℕ) (what : ScheduleWhat) → IsTextOf text schedule → HasFault text (At line what) → ⊥

-- an event is of one of so many nodes, or of a round from 1 to 10000
abbrev pub IsWithin : ℕ → Event → Type 0
IsWithin nodes (Done node) = node < nodes
IsWithin nodes (Fail node) = node < nodes
IsWithin nodes (Lose node) = node < nodes
IsWithin nodes (Back node) = node < nodes
IsWithin nodes (Wipe node) = node < nodes
IsWithin nodes (Busy node) = node < nodes
IsWithin nodes (Idle node) = node < nodes
IsWithin nodes (Round round) = (1 ≤ round) × (round ≤ 10000)

-- a number from 1 to this one
abbrev pub IsUpTo : ℕ → ℕ → Type 0
IsUpTo most n = (1 ≤ n) × (n ≤ most)

-- what each schedule keeps
pub record KeepsLimits (schedule : Schedule) : Type 0 where
  pub nodes : IsUpTo 64 schedule.nodes
  pub slots : IsUpTo 8 schedule.slots
  pub copies : IsUpTo 8 schedule.copies
  pub spread : schedule.copies ≤ schedule.nodes
  pub block : IsUpTo 1000000 schedule.block
  pub attempts : IsUpTo 16 schedule.attempts
  pub keep : IsUpTo 1000 schedule.keep
  pub events : AllByRecursion (IsWithin schedule.nodes) schedule.events
  pub few : length schedule.events ≤ 1000000

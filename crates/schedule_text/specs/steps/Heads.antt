-- What is kept of a head while it is read, for the contracts of private steps alone.
use Rattle.std.specs.Prelude.{◌≡◌, ℕ, cond, length, List, [], Option, None, Some, Bool, is_some, min}
use Rattle.schedule_text.specs.declared.fault.ScheduleWhat.{ScheduleWhat}
use Rattle.schedule_text.specs.declared.fault.ScheduleWhat.TheVariants.{BadWord, BadNumber}
use Rattle.schedule_text.specs.declared.head.Given.{Given}
use Rattle.schedule_text.specs.declared.head.Head.{Head}
use Rattle.schedule_text.specs.declared.words.Setting.{Setting}
use Rattle.schedule_text.specs.declared.words.Setting.TheVariants.{Nodes, Slots, Copies, Block, Attempts, Keep}
use Rattle.schedule_text.specs.declared.schedule.Event.{Event}
use Rattle.schedule_text.specs.declared.schedule.Schedule.{Schedule}
use Rattle.schedule_text.specs.Faults.{event_line_faults, faults_in, given_or, head_line_faults}
use Rattle.schedule_text.specs.Lines.{Line, event_lines, events_in, given, given_in, head_lines, is_skipped, setting_in}

-- the head that some lines give
abbrev pub head_of : List Line → Head
head_of lines = record { nodes = given Nodes lines; slots = given Slots lines; copies = given Copies lines; block = given Block lines; attempts = given Attempts lines; keep = given Keep lines }

-- what a head has of a setting
abbrev pub given_of : Head → Setting → Option Given
given_of head Nodes = head.nodes
given_of head Slots = head.slots
given_of head Copies = head.copies
given_of head Block = head.block
given_of head Attempts = head.attempts
given_of head Keep = head.keep

-- a head to which a setting is given
abbrev pub with_given : Head → Setting → Given → Head
with_given head Nodes it = record head { nodes = Some it }
with_given head Slots it = record head { slots = Some it }
with_given head Copies it = record head { copies = Some it }
with_given head Block it = record head { block = Some it }
with_given head Attempts it = record head { attempts = Some it }
with_given head Keep it = record head { keep = Some it }

-- what hinders a line that says this
abbrev pub IsUnsaid : {X : Type 0} → Option (X × Option ℕ) → ScheduleWhat → Type 0
IsUnsaid None what = what ≡ BadWord
IsUnsaid (Some (x, None)) what = what ≡ BadNumber
IsUnsaid (Some (x, Some n)) what = ⊥

-- a head behind a line of this number that says this
abbrev pub behind_saying : Head → ℕ → Option (Setting × Option ℕ) → Head
behind_saying head n (Some (setting, Some number)) = with_given head setting (given_in n number)
behind_saying head n says = head

-- a head behind a line
abbrev pub behind_line : Head → Line → Head
behind_line head line = cond (is_skipped line.1) head (behind_saying head line.0 (setting_in line.1))

-- which settings a head has
abbrev pub has : Head → Setting → Bool
has head setting = is_some (given_of head setting)

-- the schedule of a head and of some events
abbrev pub head_schedule : Head → List Event → Schedule
head_schedule head events = record {
  nodes = given_or head.nodes 0;
  slots = given_or head.slots 1;
  copies = given_or head.copies (min 3 (given_or head.nodes 0));
  block = given_or head.block 10000;
  attempts = given_or head.attempts 4;
  keep = given_or head.keep 1;
  events = events;
}

-- the head of all these lines was read, so many lines were taken for it, and these are left
pub record HeadRead (all left : List Line) (taken : ℕ) (head : Head) : Type 0 where
  pub right : faults_in head_line_faults [] (head_lines all) ≡ []
  pub same : head ≡ head_of (head_lines all)
  pub others : left ≡ event_lines all
  pub count : taken ≡ length (head_lines all)

-- the events of all these lines were read, with so many nodes
pub record EventsRead (nodes : ℕ) (all : List Line) (events : List Event) : Type 0 where
  pub right : faults_in (event_line_faults nodes) [] all ≡ []
  pub same : events ≡ events_in all

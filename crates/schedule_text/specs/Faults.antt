-- What is wrong with the text of a schedule, line by line.
use Rattle.std.specs.Prelude.{◌≡◌, ℕ, ◌+◌, cond, ◌||◌, nat_le, nat_lt, not, List, [], ◌∷◌, ◌++◌, length, Option, None, Some, Bool, true, false, is_none, is_some}
use Rattle.schedule_text.specs.declared.fault.ScheduleFault.{ScheduleFault}
use Rattle.schedule_text.specs.declared.fault.ScheduleFault.TheVariants.{At, Memory}
use Rattle.schedule_text.specs.declared.fault.ScheduleWhat.{ScheduleWhat}
use Rattle.schedule_text.specs.declared.fault.ScheduleWhat.TheVariants.{BadWord, BadNumber, OutOfRange, CopiesAboveNodes, Missing, Twice}
use Rattle.schedule_text.specs.declared.head.Given.{Given}
use Rattle.schedule_text.specs.declared.words.EventKind.{EventKind}
use Rattle.schedule_text.specs.declared.words.Setting.{Setting}
use Rattle.schedule_text.specs.declared.words.Setting.TheVariants.{Nodes, Copies}
use Rattle.schedule_text.specs.Lines.{Line, event_in, event_lines, events_in, first, given, head_lines, is_skipped, lines_behind, setting_in}
use Rattle.schedule_text.specs.Words.{in_range, most}

-- what is wrong, behind the number of the line in which it is
abbrev pub Fault : Type 0
Fault = ℕ × ScheduleWhat

-- this fault, if that is so
abbrev pub fault_if : Bool → Fault → List Fault
fault_if true fault = fault ∷ []
fault_if false fault = []

-- the number that is given, or else this
abbrev pub given_or : Option Given → ℕ → ℕ
given_or None otherwise = otherwise
given_or (Some it) otherwise = it.number

-- the number that lines give to a setting, or else this
abbrev pub number_or : Setting → ℕ → List Line → ℕ
number_or setting otherwise lines = given_or (given setting lines) otherwise

-- the faults of the line of this number that says this, where such settings are given before it
abbrev pub faults_of_setting : (Setting → Bool) → ℕ → Option (Setting × Option ℕ) → List Fault
faults_of_setting is_given n None = (n, BadWord) ∷ []
faults_of_setting is_given n (Some (setting, None)) = (n, BadNumber) ∷ []
faults_of_setting is_given n (Some (setting, Some number)) = fault_if (is_given setting) (n, Twice) ++ fault_if (nat_lt number 1 || nat_lt (most setting) number) (n, OutOfRange)

-- the faults of a line of the head, where such settings are given before it
abbrev pub setting_faults : (Setting → Bool) → Line → List Fault
setting_faults is_given line = cond (is_skipped line.1) [] (faults_of_setting is_given line.0 (setting_in line.1))

-- the faults of the line of this number that says this, with so many nodes and behind so many events
abbrev pub faults_of_event : ℕ → ℕ → ℕ → Option (EventKind × Option ℕ) → List Fault
faults_of_event nodes before n None = (n, BadWord) ∷ []
faults_of_event nodes before n (Some (kind, None)) = (n, BadNumber) ∷ []
faults_of_event nodes before n (Some (kind, Some number)) = fault_if (not (in_range nodes kind number) || nat_le 1000000 before) (n, OutOfRange)

-- the faults of a line among events, with so many nodes and behind so many events
abbrev pub event_faults : ℕ → ℕ → Line → List Fault
event_faults nodes before line = cond (is_skipped line.1) [] (faults_of_event nodes before line.0 (event_in line.1))

-- the faults of lines, one after another, each as it stands behind those before it
abbrev pub faults_in : (List Line → Line → List Fault) → List Line → List Line → List Fault
faults_in judge before [] = []
faults_in judge before (line ∷ lines) = judge before line ++ faults_in judge (before ++ line ∷ []) lines

-- more copies than there are nodes
abbrev pub copies_faults : ℕ → Option Given → List Fault
copies_faults nodes None = []
copies_faults nodes (Some copies) = fault_if (nat_lt nodes copies.number) (copies.line, CopiesAboveNodes)

-- the faults of a head as a whole, before the line of this number: no nodes are given, or more copies than nodes
abbrev pub whole_faults : ℕ → Option Given → Option Given → List Fault
whole_faults behind nodes copies = fault_if (is_none nodes) (behind, Missing) ++ copies_faults (given_or nodes 0) copies

-- the faults of a line of the head behind others
abbrev pub head_line_faults : List Line → Line → List Fault
head_line_faults before line = setting_faults (λ setting. is_some (given setting before)) line

-- the faults of a line among events behind others, with so many nodes
abbrev pub event_line_faults : ℕ → List Line → Line → List Fault
event_line_faults nodes before line = event_faults nodes (length (events_in before)) line

-- the faults of a head and of the lines behind it, in the order in which they are judged
abbrev pub parts_faults : List Line → List Line → List Fault
parts_faults head others = faults_in head_line_faults [] head ++ whole_faults (length head + 1) (given Nodes head) (given Copies head) ++ faults_in (event_line_faults (number_or Nodes 0 head)) [] others

-- the faults of a text: those of the lines before its first event line, of its head as a whole, and of the other lines
abbrev pub faults : List ℕ → List Fault
faults text = parts_faults (head_lines (lines_behind 0 text)) (event_lines (lines_behind 0 text))

-- the fault is the first of these; want of memory may come at any
abbrev pub IsFirst : ScheduleFault → List Fault → Type 0
IsFirst (At line what) all = first all ≡ Some (line, what)
IsFirst Memory all = Unit {0}

-- the fault is the first that the text has
abbrev pub HasFault : List ℕ → ScheduleFault → Type 0
HasFault text fault = IsFirst fault (faults text)

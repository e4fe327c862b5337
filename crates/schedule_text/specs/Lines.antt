-- The lines of a schedule, and what they say.
use Rattle.std.specs.Prelude.{ℕ, ◌+◌, ◌==◌, cond, List, [], ◌∷◌, map, Option, None, Some, Bool, true, option_map, is_some}
use Rattle.std.specs.List.{enumerate_from, filter_map, slice_split}
use Rattle.std.specs.Str.{bytes_eq}
use Rattle.std.specs.Str.Lines.{strip_carriage_return}
use Rattle.hal_base.specs.Lines.{lines_in}
use Rattle.schedule_text.specs.declared.head.Given.{Given}
use Rattle.schedule_text.specs.declared.schedule.Event.{Event}
use Rattle.schedule_text.specs.declared.words.EventKind.{EventKind}
use Rattle.schedule_text.specs.declared.words.Setting.{Setting}
use Rattle.schedule_text.specs.Words.{event_named, event_of, number_of, setting_named, setting_word}

-- a line behind its number
abbrev pub Line : Type 0
Line = ℕ × List ℕ

-- the lines of a text that comes behind so many lines, each without one CR at its end
abbrev pub lines_behind : ℕ → List ℕ → List Line
lines_behind n text = enumerate_from (n + 1) (map strip_carriage_return (lines_in text))

-- the pieces of a line, parted by spaces; those that are not empty are its words
abbrev pub pieces_of : List ℕ → List (List ℕ)
pieces_of line = slice_split (λ b. b == 32) line

-- the first word among pieces, or nothing where there is none
abbrev pub first_of : List (List ℕ) → List ℕ
first_of [] = []
first_of ([] ∷ pieces) = first_of pieces
first_of ((b ∷ bytes) ∷ pieces) = b ∷ bytes

-- an event line: its first word is that of an event, whatever follows
abbrev pub is_event_line : List ℕ → Bool
is_event_line line = is_some (event_named (first_of (pieces_of line)))

-- the lines before the first event line
abbrev pub head_lines : List Line → List Line
head_lines [] = []
head_lines (line ∷ lines) = cond (is_event_line line.1) [] (line ∷ head_lines lines)

-- the first event line and the lines behind it
abbrev pub event_lines : List Line → List Line
event_lines [] = []
event_lines (line ∷ lines) = cond (is_event_line line.1) (line ∷ lines) (event_lines lines)

-- a line that says nothing: it is empty, or begins with `#`
abbrev pub is_skipped : List ℕ → Bool
is_skipped [] = true
is_skipped (b ∷ bytes) = b == 35

-- two pieces, of which the second is not empty
abbrev pub two_of : List (List ℕ) → Option (List ℕ × List ℕ)
two_of (word ∷ (b ∷ bytes) ∷ []) = Some (word, b ∷ bytes)
two_of pieces = None

-- what the first of two words stands for, and the number that the second one spells, if it spells one
abbrev pub said : {X : Type 0} → (List ℕ → Option X) → Option (List ℕ × List ℕ) → Option (X × Option ℕ)
said named None = None
said named (Some (word, number)) = option_map (λ x. (x, number_of number)) (named word)

-- the setting that a line names, and its number: all that the line has are two words with one space between
abbrev pub setting_in : List ℕ → Option (Setting × Option ℕ)
setting_in line = said setting_named (two_of (pieces_of line))

-- the sort of the event that a line names, and its number
abbrev pub event_in : List ℕ → Option (EventKind × Option ℕ)
event_in line = said event_named (two_of (pieces_of line))

-- a number that was given in this line
abbrev pub given_in : ℕ → ℕ → Given
given_in line number = record { line = line; number = number }

-- the number that is given to a setting in a line that says this
abbrev pub number_for : Setting → ℕ → Option (Setting × Option ℕ) → Option Given
number_for setting line (Some (other, Some number)) = cond (bytes_eq (setting_word other) (setting_word setting)) (Some (given_in line number)) None
number_for setting line says = None

-- the first of these, if there is one
abbrev pub first : {X : Type 0} → List X → Option X
first [] = None
first (x ∷ xs) = Some x

-- the number that lines give to a setting
abbrev pub given : Setting → List Line → Option Given
given setting lines = first (filter_map (λ line. number_for setting line.0 (setting_in line.1)) lines)

-- the event of a line that says this
abbrev pub event_said : Option (EventKind × Option ℕ) → Option Event
event_said (Some (kind, Some number)) = Some (event_of kind number)
event_said says = None

-- the events of lines, in their order
abbrev pub events_in : List Line → List Event
events_in lines = filter_map (λ line. event_said (event_in line.1)) lines

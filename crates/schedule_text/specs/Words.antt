-- The words of schedules, and what may stand behind them.
use Rattle.std.specs.Prelude.{ℕ, cond, ◌&&◌, nat_le, nat_lt, List, [], ◌∷◌, Option, None, Some, Bool, codes, decimal, find}
use Rattle.std.specs.Str.{bytes_eq}
use Rattle.std.specs.Str.Parse.{digits_value}
use Rattle.schedule_text.specs.declared.schedule.Event.{Event}
use Rattle.schedule_text.specs.declared.schedule.Event.TheVariants as event
use Rattle.schedule_text.specs.declared.words.EventKind.{EventKind}
use Rattle.schedule_text.specs.declared.words.EventKind.TheVariants.{Done, Fail, Lose, Back, Wipe, Busy, Idle, Round}
use Rattle.schedule_text.specs.declared.words.Setting.{Setting}
use Rattle.schedule_text.specs.declared.words.Setting.TheVariants.{Nodes, Slots, Copies, Block, Attempts, Keep}

-- the word of a setting
abbrev pub setting_word : Setting → List ℕ
setting_word Nodes = codes "nodes"
setting_word Slots = codes "slots"
setting_word Copies = codes "copies"
setting_word Block = codes "block"
setting_word Attempts = codes "attempts"
setting_word Keep = codes "keep"

-- the setting of this word, if it is one
unfoldable pub setting_named : List ℕ → Option Setting
setting_named word = find (λ setting. bytes_eq word (setting_word setting)) (Nodes ∷ Slots ∷ Copies ∷ Block ∷ Attempts ∷ Keep ∷ [])

-- the greatest number that a setting may have; the least is 1
abbrev pub most : Setting → ℕ
most Nodes = 64
most Slots = 8
most Copies = 8
most Block = 1000000
most Attempts = 16
most Keep = 1000

-- the word of a sort of events
abbrev pub event_word : EventKind → List ℕ
event_word Done = codes "done"
event_word Fail = codes "fail"
event_word Lose = codes "lose"
event_word Back = codes "back"
event_word Wipe = codes "wipe"
event_word Busy = codes "busy"
event_word Idle = codes "idle"
event_word Round = codes "round"

-- the sort of events of this word, if it is one
unfoldable pub event_named : List ℕ → Option EventKind
event_named word = find (λ kind. bytes_eq word (event_word kind)) (Done ∷ Fail ∷ Lose ∷ Back ∷ Wipe ∷ Busy ∷ Idle ∷ Round ∷ [])

-- the event of this sort with this number
abbrev pub event_of : EventKind → ℕ → Event
event_of Done n = event.Done n
event_of Fail n = event.Fail n
event_of Lose n = event.Lose n
event_of Back n = event.Back n
event_of Wipe n = event.Wipe n
event_of Busy n = event.Busy n
event_of Idle n = event.Idle n
event_of Round n = event.Round n

-- a round is from 1 to 10000, and a node is one of so many
abbrev pub in_range : ℕ → EventKind → ℕ → Bool
in_range nodes Round n = nat_le 1 n && nat_le n 10000
in_range nodes kind n = nat_lt n nodes

-- the number that is spelled so in decimal, if it is at most 4294967295
unfoldable pub number_of : List ℕ → Option ℕ
number_of piece = cond (bytes_eq piece (decimal (digits_value 10 piece)) && nat_le (digits_value 10 piece) 4294967295) (Some (digits_value 10 piece)) None

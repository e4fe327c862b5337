-- The text of a journal: the words of each entry in a line.
use Rattle.std.specs.Prelude.{◌≡◌, ℕ, ◌<◌, ◌^◌, List, [], ◌∷◌, ◌++◌, codes, decimal}
use Rattle.std.specs.List.{AllByRecursion, flat_map, join_with_byte}
use Rattle.node_names.specs.Names.{name_text, numbers_of}
use Rattle.node_names.specs.Tasks.{numbers_in, text_of_task}
use Rattle.node_names.specs.Worded.{AreSmall}
use Rattle.counter_report.specs.declared.journal.EndWord.{EndWord}
use Rattle.counter_report.specs.declared.journal.EndWord.TheVariants as end_word
use Rattle.counter_report.specs.declared.journal.Entry.{Entry}
use Rattle.counter_report.specs.declared.journal.Entry.TheVariants.{Round, Start, Commit, Starve, Fail, Kill, Dropped, Struck, Lose, Back, Wipe, Busy, Idle, Skip, End}
use Rattle.counter_report.specs.declared.journal.EventWord.{EventWord}
use Rattle.counter_report.specs.declared.journal.EventWord.TheVariants as event

-- the word of a sort of events
abbrev pub event_text : EventWord → List ℕ
event_text event.Done = codes "done"
event_text event.Fail = codes "fail"
event_text event.Lose = codes "lose"
event_text event.Back = codes "back"
event_text event.Wipe = codes "wipe"
event_text event.Busy = codes "busy"
event_text event.Idle = codes "idle"
event_text event.Round = codes "round"

-- the word of an end
abbrev pub end_text : EndWord → List ℕ
end_text end_word.Fixpoint = codes "fixpoint"
end_text end_word.Close = codes "close"
end_text end_word.Limit = codes "limit"

-- the words of an entry
abbrev pub words_of : Entry → List (List ℕ)
words_of (Round round) = codes "round" ∷ decimal round ∷ []
words_of (Start task node) = codes "start" ∷ text_of_task task ∷ decimal node ∷ []
words_of (Commit task node local remote caches) = codes "commit" ∷ text_of_task task ∷ decimal node ∷ decimal local ∷ decimal remote ∷ decimal caches ∷ []
words_of (Starve task node) = codes "starve" ∷ text_of_task task ∷ decimal node ∷ []
words_of (Fail task node count) = codes "fail" ∷ text_of_task task ∷ decimal node ∷ decimal count ∷ []
words_of (Kill task node) = codes "kill" ∷ text_of_task task ∷ decimal node ∷ []
words_of (Dropped task node) = codes "drop" ∷ text_of_task task ∷ decimal node ∷ []
words_of (Struck name node) = codes "struck" ∷ name_text name ∷ decimal node ∷ []
words_of (Lose node) = codes "lose" ∷ decimal node ∷ []
words_of (Back node) = codes "back" ∷ decimal node ∷ []
words_of (Wipe node) = codes "wipe" ∷ decimal node ∷ []
words_of (Busy node) = codes "busy" ∷ decimal node ∷ []
words_of (Idle node) = codes "idle" ∷ decimal node ∷ []
words_of (Skip word number) = codes "skip" ∷ event_text word ∷ decimal number ∷ []
words_of (End word round) = codes "end" ∷ end_text word ∷ decimal round ∷ []

-- the line of an entry, without its end: its words, with one space between
abbrev pub entry_text : Entry → List ℕ
entry_text entry = join_with_byte 32 (words_of entry)

-- the text of a journal: the line of each entry, ended by LF
abbrev pub journal_text : List Entry → List ℕ
journal_text journal = flat_map (λ entry. entry_text entry ++ 10 ∷ []) journal

-- each number of an entry fits its type
abbrev pub FitsTypes : Entry → Type 0
FitsTypes (Round round) = AreSmall (round ∷ [])
FitsTypes (Start task node) = AreSmall (numbers_in task) × AreSmall (node ∷ [])
FitsTypes (Commit task node local remote caches) = AreSmall (numbers_in task) × AreSmall (node ∷ []) × AllByRecursion (λ n. n < 2 ^ 64) (local ∷ remote ∷ caches ∷ [])
FitsTypes (Starve task node) = AreSmall (numbers_in task) × AreSmall (node ∷ [])
FitsTypes (Fail task node count) = AreSmall (numbers_in task) × AreSmall (node ∷ count ∷ [])
FitsTypes (Kill task node) = AreSmall (numbers_in task) × AreSmall (node ∷ [])
FitsTypes (Dropped task node) = AreSmall (numbers_in task) × AreSmall (node ∷ [])
FitsTypes (Struck name node) = AreSmall (numbers_of name) × AreSmall (node ∷ [])
FitsTypes (Lose node) = AreSmall (node ∷ [])
FitsTypes (Back node) = AreSmall (node ∷ [])
FitsTypes (Wipe node) = AreSmall (node ∷ [])
FitsTypes (Busy node) = AreSmall (node ∷ [])
FitsTypes (Idle node) = AreSmall (node ∷ [])
FitsTypes (Skip word number) = AreSmall (number ∷ [])
FitsTypes (End word round) = AreSmall (round ∷ [])

-- two journals of one text are one journal
abbrev pub DistinctJournals : Type 0
DistinctJournals = (a b : List Entry) → AllByRecursion FitsTypes a → AllByRecursion FitsTypes b → journal_text a ≡ journal_text b → a ≡ b

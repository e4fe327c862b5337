-- What the definitions say of texts that were judged by hand.
use Rattle.std.specs.Prelude.{ℕ, List, [], ◌∷◌, codes}
use Rattle.schedule_text.specs.declared.fault.ScheduleFault.TheVariants.{At}
use Rattle.schedule_text.specs.declared.fault.ScheduleWhat.{ScheduleWhat}
use Rattle.schedule_text.specs.declared.fault.ScheduleWhat.TheVariants.{BadWord, BadNumber, OutOfRange, CopiesAboveNodes, Missing, Twice}
use Rattle.schedule_text.specs.declared.schedule.Event.{Event}
use Rattle.schedule_text.specs.declared.schedule.Event.TheVariants.{Done, Fail, Lose, Back, Wipe, Busy, Idle, Round}
use Rattle.schedule_text.specs.declared.schedule.Schedule.{Schedule}
use Rattle.schedule_text.specs.Faults.{HasFault}
use Rattle.schedule_text.specs.Schedules.{IsTextOf}

-- the first fault of a text is in this line
abbrev pub Refused : List ℕ → ℕ → ScheduleWhat → Type 0
Refused text line what = HasFault text (At line what)

-- a schedule with no setting but these two, and some events
abbrev pub plain : ℕ → ℕ → List Event → Schedule
plain nodes copies events = record { nodes = nodes; slots = 1; copies = copies; block = 10000; attempts = 4; keep = 1; events = events }

-- a schedule with all settings, and all sorts of events
abbrev pub full : Schedule
full = record { nodes = 8; slots = 2; copies = 3; block = 500; attempts = 16; keep = 1000; events = Done 0 ∷ Fail 7 ∷ Lose 3 ∷ Back 3 ∷ Wipe 5 ∷ Busy 0 ∷ Idle 0 ∷ Round 10000 ∷ [] }

-- texts that are schedules
pub record WorkedSchedules : Type 0 where
  pub one_node : IsTextOf (codes "nodes 1") (plain 1 1 [])
  pub most_nodes : IsTextOf (codes "nodes 64\n") (plain 64 3 [])
  pub skipped : IsTextOf (codes "\n# nodes 9\nnodes 2\r\n#\n\r\nround 1\n\ndone 1\n") (plain 2 2 (Round 1 ∷ Done 1 ∷ []))
  pub all : IsTextOf (codes "keep 1000\nattempts 16\nblock 500\ncopies 3\nslots 2\nnodes 8\ndone 0\nfail 7\nlose 3\nback 3\nwipe 5\nbusy 0\nidle 0\nround 10000\n") full

-- texts with a line that is faulty by itself
pub record WorkedLines : Type 0 where
  pub no_word : Refused (codes "node 1") 1 BadWord
  pub word_alone : Refused (codes "nodes") 1 BadWord
  pub no_number : Refused (codes "nodes ") 1 BadWord
  pub two_spaces : Refused (codes "nodes  1") 1 BadWord
  pub space_in_front : Refused (codes " nodes 1") 1 BadWord
  pub space_behind : Refused (codes "nodes 1 ") 1 BadWord
  pub three_words : Refused (codes "nodes 1 2") 1 BadWord
  pub tab : Refused (codes "nodes\t1") 1 BadWord
  pub no_comment : Refused (codes "nodes 1\n # x") 2 BadWord
  pub spaces : Refused (codes "nodes 1\n  ") 2 BadWord
  pub no_digit : Refused (codes "nodes x") 1 BadNumber
  pub sign : Refused (codes "nodes -1") 1 BadNumber
  pub zero_in_front : Refused (codes "nodes 01") 1 BadNumber
  pub second_return : Refused (codes "nodes 1\r\r\n") 1 BadNumber
  pub too_long : Refused (codes "nodes 4294967296") 1 BadNumber
  pub great : Refused (codes "nodes 4294967295") 1 OutOfRange
  pub no_nodes : Refused (codes "nodes 0") 1 OutOfRange
  pub many_nodes : Refused (codes "nodes 65") 1 OutOfRange
  pub many_slots : Refused (codes "slots 9") 1 OutOfRange
  pub many_copies : Refused (codes "copies 9") 1 OutOfRange
  pub long_block : Refused (codes "block 1000001") 1 OutOfRange
  pub many_attempts : Refused (codes "attempts 17") 1 OutOfRange
  pub rare_keep : Refused (codes "keep 1001") 1 OutOfRange
  pub twice : Refused (codes "nodes 1\nnodes 99") 2 Twice
  pub twice_misspelled : Refused (codes "nodes 1\nnodes 099") 2 BadNumber

-- texts with a faulty head, or a faulty event line
pub record WorkedHeads : Type 0 where
  pub nothing : Refused [] 1 Missing
  pub no_nodes : Refused (codes "slots 1") 2 Missing
  pub no_nodes_ended : Refused (codes "slots 1\n") 2 Missing
  pub no_nodes_before : Refused (codes "slots 1\nnothing\ndone 0") 2 BadWord
  pub no_nodes_for_event : Refused (codes "slots 1\n\ndone") 3 Missing
  pub no_nodes_for_spaced : Refused (codes " done 0") 1 Missing
  pub spaced_event : Refused (codes "nodes 1\n done 0") 2 BadWord
  pub copies : Refused (codes "nodes 4\ncopies 5") 2 CopiesAboveNodes
  pub copies_first : Refused (codes "copies 5\nnodes 4\ndone 9") 1 CopiesAboveNodes
  pub copies_later : Refused (codes "copies 5\nnodes 4\nslots 9\ndone 9") 3 OutOfRange
  pub head_word_behind : Refused (codes "nodes 1\ndone 0\nslots x") 3 BadWord
  pub node : Refused (codes "nodes 4\ndone 9") 2 OutOfRange
  pub next_node : Refused (codes "nodes 4\nidle 3\nidle 4") 3 OutOfRange
  pub no_round : Refused (codes "nodes 4\nround 0") 2 OutOfRange
  pub late_round : Refused (codes "nodes 4\nround 10001") 2 OutOfRange
  pub event_number : Refused (codes "nodes 4\nwipe 03") 2 BadNumber

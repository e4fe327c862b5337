-- Advance: what follows on a round that is decided.
use Rattle.std.specs.Prelude.{ℕ, ◌+◌, nat_lt, nat_le, Bool, true, false, ◌&&◌, ◌||◌, List, [], ◌∷◌, ◌++◌, Option, None, Some, map, if◌then◌else◌}
use Rattle.std.specs.List.{list_all}
use Rattle.node_names.specs.declared.name.Name.{Name}
use Rattle.replica_table.specs.Copies.{up_holders}
use Rattle.replica_table.specs.Sets.{among}
use Rattle.schedule_text.specs.declared.schedule.Event.{Event}
use Rattle.schedule_text.specs.declared.schedule.Event.TheVariants.{Done, Fail, Lose, Back, Wipe, Busy, Idle, Round}
use Rattle.counter_report.specs.declared.journal.EndWord.{EndWord}
use Rattle.counter_report.specs.declared.journal.Entry.TheVariants as line
use Rattle.run_model.specs.Lists.{below}
use Rattle.run_model.specs.Needs.{is_up}
use Rattle.run_model.specs.Plans.{Plan, gives, ◌>>=◌}
use Rattle.run_model.specs.Reading.{Try, read_first, try_at}
use Rattle.run_model.specs.Removals.{clear}
use Rattle.run_model.specs.declared.attempt.Attempt.{Attempt}
use Rattle.run_model.specs.State.{PlainCluster, Setup, noted}
use Rattle.run_model.specs.Tasks.{last_outs, test_count}

-- the round is decided: each part of its last step lies on an up node and, from round 2 on, the value of each test is known
abbrev pub is_decided : Setup → PlainCluster → Bool
is_decided setup c = list_all (is_up c.copies c.up) (last_outs setup.shape c.round) && (nat_lt c.round 2 || list_all (λ p. among p c.known) (below (test_count setup.shape)))

-- what advance came to: the run goes on, or is finished
pub data Advanced : Type 0 where
  goes_on : PlainCluster → Advanced
  finished : PlainCluster → EndWord → Advanced

-- running attempts are dropped, what does not stay is removed from the up nodes, and the next round begins
abbrev pub next_round : Setup → PlainCluster → Plan PlainCluster
next_round setup c =
    clear setup c.up (record c { round = c.round + 1; running = []; known = []; journal = c.journal ++ map (λ (a : Attempt). line.Dropped a.task a.node) c.running })
    >>= (λ next. gives (noted (line.Round next.round ∷ []) next))

-- a part is tried on the up nodes that hold it, in order
abbrev pub part_tries : PlainCluster → Name → List Try
part_tries c name = map (try_at name) (up_holders name c.up c.copies)

-- once a part was read, the others follow; where it has no copy left, the run goes on
abbrev pub after_part : (PlainCluster → Plan Advanced) → PlainCluster → Option Try → Plan Advanced
after_part more c None = gives (goes_on c)
after_part more c (Some it) = more c

-- reads the parts in order, each from its up holders ascending; where a part has no copy left, reading stops and the run goes on
abbrev pub read_parts : EndWord → List Name → PlainCluster → Plan Advanced
read_parts end [] c = gives (finished (noted (line.End end c.round ∷ []) c) end)
read_parts end (name ∷ names) c = read_first (part_tries c name) c >>= (λ tried. after_part (read_parts end names) tried.cluster tried.answered)

-- what follows on a round that is decided: the loop ends with a word, or goes on
abbrev pub decide : Setup → Option EndWord → PlainCluster → Plan Advanced
decide setup None c = next_round setup c >>= (λ next. gives (goes_on next))
decide setup (Some end) c = read_parts end (last_outs setup.shape c.round) c

-- the leading events `round R` with R not above this round are spent
abbrev pub passed : ℕ → List Event → List Event
passed i [] = []
passed i (Round n ∷ events) = if nat_le n i then passed i events else Round n ∷ events
passed i (Done n ∷ events) = Done n ∷ events
passed i (Fail n ∷ events) = Fail n ∷ events
passed i (Lose n ∷ events) = Lose n ∷ events
passed i (Back n ∷ events) = Back n ∷ events
passed i (Wipe n ∷ events) = Wipe n ∷ events
passed i (Busy n ∷ events) = Busy n ∷ events
passed i (Idle n ∷ events) = Idle n ∷ events

-- where the run goes on, the events that wait for a round until this one are spent
abbrev pub pass : Advanced → Advanced
pass (finished c end) = finished c end
pass (goes_on c) = goes_on (record c { events = passed c.round c.events })

-- a round that is decided ends the run or leads to the next one; else nothing changes
abbrev pub advance_if : Setup → Option EndWord → PlainCluster → Bool → Plan Advanced
advance_if setup decision c true = decide setup decision c
advance_if setup decision c false = gives (goes_on c)

-- the first step of a turn: what follows on the round, if it is decided
abbrev pub advance : Setup → Option EndWord → PlainCluster → Plan Advanced
advance setup decision c = advance_if setup decision c (is_decided setup c) >>= (λ advanced. gives (pass advanced))

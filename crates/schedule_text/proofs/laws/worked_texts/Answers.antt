use Rattle.std.proofs.Common.{refl}
use Rattle.std.specs.Fmt.{digits}
use Rattle.schedule_text.specs.Words.{event_named, number_of, setting_named}
use Rattle.schedule_text.proofs.laws.worked_texts.Goals as goal

pub returns-clause-schedules : goal.returns-clause-schedules
unfolding digits event_named number_of setting_named
returns-clause-schedules c = record { one_node = record { right = refl; says = refl }; most_nodes = record { right = refl; says = refl }; skipped = record { right = refl; says = refl }; all = record { right = refl; says = refl } }

pub returns-clause-lines : goal.returns-clause-lines
unfolding digits event_named number_of setting_named
returns-clause-lines c = record { no_word = refl; word_alone = refl; no_number = refl; two_spaces = refl; space_in_front = refl; space_behind = refl; three_words = refl; tab = refl; no_comment = refl; spaces = refl; no_digit = refl; sign = refl; zero_in_front = refl; second_return = refl; too_long = refl; great = refl; no_nodes = refl; many_nodes = refl; many_slots = refl; many_copies = refl; long_block = refl; many_attempts = refl; rare_keep = refl; twice = refl; twice_misspelled = refl }

pub returns-clause-heads : goal.returns-clause-heads
unfolding digits event_named number_of setting_named
returns-clause-heads c = record { nothing = refl; no_nodes = refl; no_nodes_ended = refl; no_nodes_before = refl; no_nodes_for_event = refl; no_nodes_for_spaced = refl; spaced_event = refl; copies = refl; copies_first = refl; copies_later = refl; head_word_behind = refl; node = refl; next_node = refl; no_round = refl; late_round = refl; event_number = refl }

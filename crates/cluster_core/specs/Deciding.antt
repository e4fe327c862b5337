-- What follows on a round, by the values of its tests.
use Rattle.std.specs.Prelude.{ℕ, ◌+◌, ◌==◌, ◌&&◌, nat_le, nat_lt, min, sum, Bool, true, false, List, [], ◌∷◌, Option, None, Some, if◌then◌else◌}
use Rattle.plain_job.specs.Ends.{Ends, Reaches, round_distance}
use Rattle.plain_job.specs.declared.ending.End.{End}
use Rattle.plain_job.specs.declared.ending.End.TheVariants as end
use Rattle.name_values.specs.Values.{World}
use Rattle.fixpoint_test.specs.declared.decision.Next.{Next}
use Rattle.fixpoint_test.specs.declared.decision.Next.TheVariants as next
use Rattle.fixpoint_test.specs.declared.decision.Next.TheVariants.{Again}
use Rattle.hal_base.specs.declared.shape.Shape.{Shape}
use Rattle.counter_report.specs.declared.journal.EndWord.{EndWord}
use Rattle.counter_report.specs.declared.journal.EndWord.TheVariants.{Fixpoint, Close, Limit}

-- the values that are known
abbrev pub known_values : List (Option ℕ) → List ℕ
known_values [] = []
known_values (None ∷ values) = known_values values
known_values (Some value ∷ values) = value ∷ known_values values

-- how far a round is from the round before: the sum of the values of its tests, no more than the greatest number
abbrev pub total_of : List (Option ℕ) → ℕ
total_of values = min (sum (known_values values)) 9223372036854775807

-- from round 2 on, the round is nearer to the round before than the threshold
abbrev pub is_near : Shape → ℕ → List (Option ℕ) → Bool
is_near shape round values = nat_le 2 round && nat_lt (total_of values) shape.threshold

-- the word of an end by nearness
abbrev pub near_word : Bool → EndWord
near_word true = Fixpoint
near_word false = Close

-- the word of an end; none where there is another round
abbrev pub word_of : Next → Option EndWord
word_of Again = None
word_of next.Fixpoint = Some Fixpoint
word_of next.Close = Some Close
word_of next.Limit = Some Limit

-- the decision on a round: the word with which the loop ends, or none where it goes on
abbrev pub decision_of : Shape → ℕ → List (Option ℕ) → Option EndWord
decision_of shape round values = if is_near shape round values then Some (near_word shape.exact) else if round == shape.rounds then Some Limit else None

-- the decision on a round by the chain itself: the word with which the loop ends, or none where it goes on
abbrev pub chain_decision : World → ℕ → Option EndWord
chain_decision w round = if nat_le 2 round && nat_lt (round_distance w.means w.shape w.tables round) w.shape.threshold then Some (near_word w.shape.exact) else if round == w.shape.rounds then Some Limit else None

-- the end of the chain that a word tells
abbrev pub end_of : EndWord → End
end_of Fixpoint = end.Fixpoint
end_of Close = end.Close
end_of Limit = end.Limit

-- what a decision tells of the chain: it comes to the next round, or ends in this one, and how
abbrev pub Tells : World → ℕ → Option EndWord → Type 0
Tells w round None = Reaches w.means w.shape w.tables (round + 1)
Tells w round (Some word) = Ends w.means w.shape w.tables round (end_of word)

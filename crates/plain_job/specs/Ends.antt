-- When the chain ends, and what it leaves.
use Rattle.std.specs.Prelude.{◌≡◌, ℕ, ◌<◌, ◌≤◌, true, false, List, map, codes}
use Rattle.hal_base.specs.declared.record.Record.{Record}
use Rattle.hal_base.specs.declared.shape.Shape.{Shape}
use Rattle.hal_base.specs.Meaning.{Meaning}
use Rattle.hal_base.specs.Lines.{table_text}
use Rattle.plain_job.specs.declared.ending.End.{End}
use Rattle.plain_job.specs.declared.ending.End.TheVariants.{Fixpoint, Close, Limit}
use Rattle.plain_job.specs.declared.ending.PlainResult.{PlainResult}
use Rattle.plain_job.specs.Chain.{last_out, state_of, together}
use Rattle.plain_job.specs.Distances.{distance}

-- the word of an end
abbrev pub end_text : End → List ℕ
end_text Fixpoint = codes "fixpoint"
end_text Close = codes "close"
end_text Limit = codes "limit"

-- the distance of round i from the round before
abbrev pub round_distance : Meaning → Shape → List (List Record) → ℕ → ℕ
round_distance m shape tables i = distance m shape (state_of m shape tables i) (together (last_out m shape tables i))

-- the chain comes to round i: the distance of no round before it, from the second on, is below the threshold
pub record Reaches (m : Meaning) (shape : Shape) (tables : List (List Record)) (i : ℕ) : Type 0 where
  pub within : (1 ≤ i) × (i ≤ shape.rounds)
  pub not_before : (k : ℕ) → 2 ≤ k → k < i → shape.threshold ≤ round_distance m shape tables k

-- it ends with round i so: from the second round on by a distance below the threshold, where the program stops exactly or not; else in the last round that it may have
abbrev pub EndsBy : Meaning → Shape → List (List Record) → ℕ → End → Type 0
EndsBy m shape tables i Fixpoint = (shape.exact ≡ true) × (2 ≤ i) × (round_distance m shape tables i < shape.threshold)
EndsBy m shape tables i Close = (shape.exact ≡ false) × (2 ≤ i) × (round_distance m shape tables i < shape.threshold)
EndsBy m shape tables i Limit = (i ≡ shape.rounds) × (2 ≤ i → shape.threshold ≤ round_distance m shape tables i)

-- the chain ends in round i, the least in which it can, and so
pub record Ends (m : Meaning) (shape : Shape) (tables : List (List Record)) (i : ℕ) (end : End) : Type 0 where
  pub reached : Reaches m shape tables i
  pub by : EndsBy m shape tables i end

-- what the chain leaves: the text of each part of the last step in its end round, that round, and how it ended
pub record IsChain (m : Meaning) (shape : Shape) (tables : List (List Record)) (texts : List (List ℕ)) (rounds : ℕ) (end : End) : Type 0 where
  pub ends : Ends m shape tables rounds end
  pub texts_are : texts ≡ map table_text (last_out m shape tables rounds)

-- the same, with the parts themselves
pub record IsPlainResult (m : Meaning) (shape : Shape) (tables : List (List Record)) (chain : PlainResult) : Type 0 where
  pub ends : Ends m shape tables chain.rounds chain.end
  pub parts : chain.parts ≡ last_out m shape tables chain.rounds

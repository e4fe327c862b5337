-- The readers of something and of what stands behind it are right.
use Rattle.std.proofs.Common.{List, [], false, refl, ℕ, ◌++◌, ◌∷◌, ◌≡◌}
use Rattle.std.specs.Str.{bytes_eq}
use Rattle.program_tokens.specs.steps.Parsers.{Parser}
use Rattle.program_tokens.specs.Pieces.{Piece, plain}
use Rattle.program_tokens.proofs.Right.{Exactly, Right, Stops}
use Rattle.program_tokens.proofs.Sequences.{Follows}
use Rattle.program_tokens.proofs.Firsts.{Free, free_follows}
use Rattle.program_tokens.proofs.Parts.{Made, exactly, last_word, part}
use Rattle.program_tokens.proofs.Avoiding.{Unseen, mark_follows}
use Rattle.function_language.specs.steps.Reading.{before}

module _ {A : Type 0} (word : List ℕ) (leaf : A → List Piece) (stops : Stops) (item : Parser A) where
  -- something, and the word or mark behind it
  abbrev pub leaf_before : A → List Piece
  leaf_before a = leaf a ++ plain word ∷ []

  -- it is read right where the word stops it
  stopped_before : (stops_one : Stops) → Right (Exactly leaf) stops_one item → ((a : A) → Follows (Made {C = Unit {0}} (λ _. a) (λ _. plain word ∷ [])) stops stops_one) → Right (Exactly leaf_before) stops (before word item)
  unfolding before
  stopped_before stops_one r follows = exactly leaf_before (λ a. (a, tt)) (λ a. refl) (λ c. refl) (part {make = λ (c : A × Unit {0}). c.0} r (λ a. last_word word stops a) follows)

  -- so it is where anything may follow
  pub free_before : Right (Exactly leaf) Free item → Right (Exactly leaf_before) stops (before word item)
  free_before r = stopped_before Free r (λ a. free_follows (Made {C = Unit {0}} (λ _. a) (λ _. plain word ∷ [])) stops)

  -- and where it goes on with another word alone
  pub unseen_before : (other : List ℕ) → bytes_eq word other ≡ false → Right (Exactly leaf) (Unseen other) item → Right (Exactly leaf_before) stops (before word item)
  unseen_before other e r = stopped_before (Unseen other) r (λ a. mark_follows {C = Unit {0}} (λ _. a) (λ _. []) stops word other e)

-- The reader of the caches that are asked for is right.
use Rattle.std.proofs.Common.{Bool, List, [], codes, cond, false, inl, inr, refl, true, ◌∷◌, ◌≡◌, ◌⊎◌}
use Rattle.std.proofs.Math.Logic.{⊎_elim}
use Rattle.program_tokens.specs.steps.Parsers.{Parser, eat, pure, ◌>>=◌}
use Rattle.program_tokens.specs.Pieces.{Piece, plain}
use Rattle.program_tokens.proofs.Right.{Exactly, Right, Stops}
use Rattle.program_tokens.proofs.Firsts.{Heads, begins_follows}
use Rattle.program_tokens.proofs.Parts.{Made, either_made, exactly, last_word, made_begins, made_last, nothing_follows, pure_made, word_then}
use Rattle.program_tokens.proofs.Avoiding.{Avoids, Unseen, eat_right, plain_avoids}
use Rattle.program_sketch.specs.steps.Reading.{any_line, asked, from_mapper, from_output, input_line, mapper_line, no_caches, output_line, output_or_mapper, with_input, with_output}
use Rattle.program_sketch.specs.Spelled.{asked_pieces}
use Rattle.program_sketch.specs.declared.sketch.Asked.{Asked}

-- behind these no line asks for a cache
abbrev pub NoCache : Stops
NoCache = Unseen (codes "cache")

-- ---- a line, or none

-- the caches of a line, or none
abbrev perhaps : {C : Type 0} → (C → Asked) → C ⊎ Unit {0} → Asked
perhaps make = ⊎_elim make (λ _. no_caches)

-- a line behind its `cache`, or none
abbrev perhaps_pieces : {C : Type 0} → (C → List Piece) → C ⊎ Unit {0} → List Piece
perhaps_pieces leaf = ⊎_elim (λ c. plain (codes "cache") ∷ leaf c) (λ _. [])

-- a line or none is read right
perhaps_right : {C : Type 0} {make : C → Asked} {leaf : C → List Piece} {p : Parser Asked} → Right (Made make leaf) NoCache p
    → Right (Made (perhaps make) (perhaps_pieces leaf)) NoCache (eat (codes "cache") >>= λ asks. cond asks p (pure no_caches))
perhaps_right {make = make} {leaf = leaf} {p = p} r = either_made
    (eat_right (codes "cache") {one = Made make (λ c. plain (codes "cache") ∷ leaf c)} {other = Made {C = Unit {0}} (λ _. no_caches) (λ _. [])} p (pure no_caches)
    (word_then (codes "cache") r)
    (pure_made {C = Unit {0}} (λ _. no_caches) (λ _. []) NoCache tt (λ _. refl) (λ _. refl))
    (nothing_follows (λ _. no_caches) NoCache NoCache (λ rest stop. stop)))

-- ---- the cache of the mappers' inputs

-- that cache alone
abbrev for_mapper : Unit {0} → Asked
for_mapper _ = record { reducer_input = false; reducer_output = false; mapper_input = true }

-- its line
abbrev mapper_pieces : Unit {0} → List Piece
mapper_pieces _ = plain (codes "mapper_input") ∷ plain (codes ";") ∷ []

-- its line is read right
mapper_right : Right (Made for_mapper mapper_pieces) NoCache mapper_line
unfolding mapper_line
mapper_right = word_then (codes "mapper_input") (last_word (codes ";") NoCache (for_mapper tt))

-- the line may be there
from_mapper_right : Right (Made (perhaps for_mapper) (perhaps_pieces mapper_pieces)) NoCache from_mapper
unfolding from_mapper
from_mapper_right = perhaps_right mapper_right

-- ---- the cache of the reducers' outputs

-- that line and perhaps one more, or the line of the mappers' inputs
abbrev OutputOrMapper : Type 0
OutputOrMapper = (Unit {0} ⊎ Unit {0}) ⊎ Unit {0}

-- the caches of these
abbrev for_output : OutputOrMapper → Asked
for_output = ⊎_elim (λ c. with_output (perhaps for_mapper c)) for_mapper

-- these lines
abbrev output_pieces : OutputOrMapper → List Piece
output_pieces = ⊎_elim (λ c. plain (codes "reducer_output") ∷ plain (codes ";") ∷ perhaps_pieces mapper_pieces c) mapper_pieces

-- what stands behind the word of a cache of outputs is read right
output_line_right : Right (Made (λ c. with_output (perhaps for_mapper c)) (λ c. plain (codes ";") ∷ perhaps_pieces mapper_pieces c)) NoCache output_line
unfolding output_line
output_line_right = word_then (codes ";") (made_last with_output from_mapper_right)

-- these lines are read right
output_right : Right (Made for_output output_pieces) NoCache output_or_mapper
unfolding output_or_mapper
output_right = either_made (eat_right (codes "reducer_output") output_line mapper_line (word_then (codes "reducer_output") output_line_right) mapper_right
    (begins_follows (Made for_mapper mapper_pieces) NoCache (Unseen (codes "reducer_output")) (made_begins (Avoids (codes "reducer_output")) (λ _. plain_avoids (codes "mapper_input") (codes "reducer_output") refl))))

-- these lines may be there
from_output_right : Right (Made (perhaps for_output) (perhaps_pieces output_pieces)) NoCache from_output
unfolding from_output
from_output_right = perhaps_right output_right

-- ---- the cache of the reducers' inputs

-- that line and perhaps more, or the lines of the other caches
abbrev AnyLine : Type 0
AnyLine = (OutputOrMapper ⊎ Unit {0}) ⊎ OutputOrMapper

-- the caches of these
abbrev for_any : AnyLine → Asked
for_any = ⊎_elim (λ c. with_input (perhaps for_output c)) for_output

-- these lines
abbrev any_pieces : AnyLine → List Piece
any_pieces = ⊎_elim (λ c. plain (codes "reducer_input") ∷ plain (codes ";") ∷ perhaps_pieces output_pieces c) output_pieces

-- what stands behind the word of a cache of inputs is read right
input_line_right : Right (Made (λ c. with_input (perhaps for_output c)) (λ c. plain (codes ";") ∷ perhaps_pieces output_pieces c)) NoCache input_line
unfolding input_line
input_line_right = word_then (codes ";") (made_last with_input from_output_right)

-- the line of another cache begins with another word
output_avoids : (c : OutputOrMapper) → Heads (Avoids (codes "reducer_input")) (output_pieces c)
output_avoids (inl c) = plain_avoids (codes "reducer_output") (codes "reducer_input") refl
output_avoids (inr c) = plain_avoids (codes "mapper_input") (codes "reducer_input") refl

-- these lines are read right
any_right : Right (Made for_any any_pieces) NoCache any_line
unfolding any_line
any_right = either_made (eat_right (codes "reducer_input") input_line output_or_mapper (word_then (codes "reducer_input") input_line_right) output_right
    (begins_follows (Made for_output output_pieces) NoCache (Unseen (codes "reducer_input")) (made_begins (Avoids (codes "reducer_input")) output_avoids)))

-- ---- all caches

-- the lines that ask for these caches
abbrev lines_of : (input output mapper : Bool) → AnyLine ⊎ Unit {0}
lines_of true true true = inl (inl (inl (inl (inl tt))))
lines_of true true false = inl (inl (inl (inl (inr tt))))
lines_of true false true = inl (inl (inl (inr tt)))
lines_of true false false = inl (inl (inr tt))
lines_of false true true = inl (inr (inl (inl tt)))
lines_of false true false = inl (inr (inl (inr tt)))
lines_of false false true = inl (inr (inr tt))
lines_of false false false = inr tt

-- they ask for these
lines_ask : (input output mapper : Bool) → record { reducer_input = input; reducer_output = output; mapper_input = mapper } ≡ perhaps for_any (lines_of input output mapper)
lines_ask true true true = refl
lines_ask true true false = refl
lines_ask true false true = refl
lines_ask true false false = refl
lines_ask false true true = refl
lines_ask false true false = refl
lines_ask false false true = refl
lines_ask false false false = refl

-- they are spelled so
lines_spelled : (c : AnyLine ⊎ Unit {0}) → perhaps_pieces any_pieces c ≡ asked_pieces (perhaps for_any c)
lines_spelled (inl (inl (inl (inl (inl c))))) = refl
lines_spelled (inl (inl (inl (inl (inr c))))) = refl
lines_spelled (inl (inl (inl (inr c)))) = refl
lines_spelled (inl (inl (inr c))) = refl
lines_spelled (inl (inr (inl (inl c)))) = refl
lines_spelled (inl (inr (inl (inr c)))) = refl
lines_spelled (inl (inr (inr c))) = refl
lines_spelled (inr c) = refl

-- the caches that are asked for
pub asked_right : Right (Exactly asked_pieces) NoCache asked
unfolding asked
asked_right = exactly asked_pieces (λ a. lines_of a.reducer_input a.reducer_output a.mapper_input) (λ a. lines_ask a.reducer_input a.reducer_output a.mapper_input) lines_spelled (perhaps_right any_right)

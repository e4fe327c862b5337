-- What is read of a file that is shorter than what is asked for is all of it.
use Rattle.std.proofs.Common.{◌≡◌, ℕ, zero, suc, ◌<◌, List, [], ◌∷◌, Option, None, Some, refl, ap, ◌∙◌, length, take, arith}
use Rattle.std.specs.Option.{IfSome, option_map}

short_taken : (n : ℕ) (all : List ℕ) → length (take n all) < n → take n all ≡ all
short_taken zero all l = absurd (omega arith)
short_taken (suc n) [] l = refl
short_taken (suc n) (x ∷ all) l = ap (λ xs. x ∷ xs) (short_taken n all (omega arith))

pub all_read : (left : Option (List ℕ)) (n : ℕ) (bytes : List ℕ) → IfSome (option_map (take n) left) (λ given. bytes ≡ given) → length bytes < n → IfSome left (λ all. bytes ≡ all)
all_read None n bytes e l = tt
all_read (Some all) n bytes e l = e ∙ short_taken n all (omega (arith, ap length e))

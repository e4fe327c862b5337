-- The place of a name among two lists, one behind the other.
use Rattle.std.proofs.Common.{◌≡◌, ℕ, suc, ◌+◌, Bool, true, false, cond, List, [], ◌∷◌, ◌++◌, None, Some, option_map, sym, refl, ap, ◌∙◌, length}
use Rattle.std.proofs.Math.Nat.{add-suc, suc-add, zero-add}
use Rattle.std.specs.Str.{bytes_eq}
use Rattle.name_index.specs.Names.{place_behind}

-- behind more of them, a place is so much further
pub place_moved : (n k : ℕ) (name : List ℕ) (names : List (List ℕ)) → place_behind (n + k) name names ≡ option_map (λ place. n + place) (place_behind k name names)
place_moved n k name [] = refl
place_moved n k name (other ∷ names) = go (ap (λ behind. place_behind behind name names) (sym (add-suc n k)) ∙ place_moved n (suc k) name names) (bytes_eq name other)
  where
    go : place_behind (suc (n + k)) name names ≡ option_map (λ place. n + place) (place_behind (suc k) name names) → (b : Bool) → cond b (Some (n + k)) (place_behind (suc (n + k)) name names) ≡ option_map (λ place. n + place) (cond b (Some k) (place_behind (suc k) name names))
    go others true = refl
    go others false = others

-- a name that is among the first has its place there
pub place_in_front : (n : ℕ) (name : List ℕ) (front back : List (List ℕ)) (place : ℕ) → place_behind n name front ≡ Some place → place_behind n name (front ++ back) ≡ Some place
place_in_front n name [] back place e = absurd cc
place_in_front n name (other ∷ front) back place e = go (place_in_front (suc n) name front back place) (bytes_eq name other) e
  where
    go : (place_behind (suc n) name front ≡ Some place → place_behind (suc n) name (front ++ back) ≡ Some place) → (b : Bool) → cond b (Some n) (place_behind (suc n) name front) ≡ Some place → cond b (Some n) (place_behind (suc n) name (front ++ back)) ≡ Some place
    go others true e = e
    go others false e = others e

-- one that is not has it behind them
pub place_in_back : (n : ℕ) (name : List ℕ) (front back : List (List ℕ)) → place_behind n name front ≡ None → place_behind n name (front ++ back) ≡ place_behind (length front + n) name back
place_in_back n name [] back e = ap (λ behind. place_behind behind name back) (sym (zero-add n))
place_in_back n name (other ∷ front) back e = go (λ e. place_in_back (suc n) name front back e ∙ ap (λ behind. place_behind behind name back) (add-suc (length front) n ∙ sym (suc-add (length front) n))) (bytes_eq name other) e
  where
    go : (place_behind (suc n) name front ≡ None → place_behind (suc n) name (front ++ back) ≡ place_behind (suc (length front) + n) name back) → (b : Bool) → cond b (Some n) (place_behind (suc n) name front) ≡ None → cond b (Some n) (place_behind (suc n) name (front ++ back)) ≡ place_behind (suc (length front) + n) name back
    go others true e = absurd cc
    go others false e = others e

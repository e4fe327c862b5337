-- Lists that are made number by number.
use Rattle.std.proofs.Common.{◌≡◌, ℕ, suc, ◌<◌, ◌≤◌, ◌+◌, ◌-◌, Bool, true, false, cond, ◌&&◌, ◌||◌, nat_lt, List, [], ◌∷◌, ◌++◌, length, map, sym, ap, ◌∙◌, append_assoc, append-nil, arith}
use Rattle.std.proofs.lemmas.Bool.{lt-ltb, le-ltb}
use Rattle.std.specs.List.{filter, flat_map, list_all, list_any, range_with_len}
use Rattle.std.proofs.lemmas.List.Folds.{list_all-append}

-- the numbers from n on, of those below an end
abbrev pub from_on : ℕ → ℕ → List ℕ
from_on n end = range_with_len n (end - n)

pub one_on : (n end : ℕ) → n < end → from_on n end ≡ n ∷ from_on (n + 1) end
one_on n end l = let more : end - n ≡ suc (end - (n + 1)) = omega (arith, l) in ap (range_with_len n) more

pub none_on : (n end : ℕ) → end ≤ n → from_on n end ≡ []
none_on n end l = let none : end - n ≡ 0 = omega (arith, l) in ap (range_with_len n) none

-- ---- one item for each number

-- these items, and those of the numbers from n on, are all
abbrev pub Coming : {A : Type 0} → (ℕ → A) → List A → ℕ → ℕ → List A → Type 0
Coming f items n end all = items ++ map f (from_on n end) ≡ all

pub coming_more : {A : Type 0} (f : ℕ → A) (items new all : List A) (n end : ℕ) → n < end → new ≡ items ++ f n ∷ [] → Coming f items n end all → Coming f new (n + 1) end all
coming_more f items new all n end l e so_far =
    ap (λ xs. xs ++ map f (from_on (n + 1) end)) e
    ∙ append_assoc items (f n ∷ []) (map f (from_on (n + 1) end))
    ∙ ap (λ ns. items ++ map f ns) (sym (one_on n end l))
    ∙ so_far

pub coming_done : {A : Type 0} (f : ℕ → A) (items all : List A) (n end : ℕ) → end ≤ n → Coming f items n end all → items ≡ all
coming_done f items all n end l so_far = sym (append-nil items) ∙ ap (λ ns. items ++ map f ns) (sym (none_on n end l)) ∙ so_far

-- ---- some items for each number

-- these items, and those of the numbers from n on, are all
abbrev pub Flowing : {A : Type 0} → (ℕ → List A) → List A → ℕ → ℕ → List A → Type 0
Flowing f items n end all = items ++ flat_map f (from_on n end) ≡ all

pub flowing_more : {A : Type 0} (f : ℕ → List A) (items new all : List A) (n end : ℕ) → n < end → new ≡ items ++ f n → Flowing f items n end all → Flowing f new (n + 1) end all
flowing_more f items new all n end l e so_far =
    ap (λ xs. xs ++ flat_map f (from_on (n + 1) end)) e
    ∙ append_assoc items (f n) (flat_map f (from_on (n + 1) end))
    ∙ ap (λ ns. items ++ flat_map f ns) (sym (one_on n end l))
    ∙ so_far

pub flowing_done : {A : Type 0} (f : ℕ → List A) (items all : List A) (n end : ℕ) → end ≤ n → Flowing f items n end all → items ≡ all
flowing_done f items all n end l so_far = sym (append-nil items) ∙ ap (λ ns. items ++ flat_map f ns) (sym (none_on n end l)) ∙ so_far

-- ---- a test of each

-- of all of these, it is left whether those of the numbers from n on pass
abbrev pub Testing : {A : Type 0} → (A → Bool) → (ℕ → A) → ℕ → ℕ → List A → Type 0
Testing test f n end all = list_all test (map f (from_on n end)) ≡ list_all test all

pub testing_more : {A : Type 0} (test : A → Bool) (f : ℕ → A) (n end : ℕ) (all : List A) → n < end → test (f n) ≡ true → Testing test f n end all → Testing test f (n + 1) end all
testing_more test f n end all l e left =
    ap (λ b. b && list_all test (map f (from_on (n + 1) end))) (sym e)
    ∙ ap (λ ns. list_all test (map f ns)) (sym (one_on n end l))
    ∙ left

pub testing_stops : {A : Type 0} (test : A → Bool) (f : ℕ → A) (n end : ℕ) (all : List A) → n < end → test (f n) ≡ false → Testing test f n end all → false ≡ list_all test all
testing_stops test f n end all l e left =
    ap (λ b. b && list_all test (map f (from_on (n + 1) end))) (sym e)
    ∙ ap (λ ns. list_all test (map f ns)) (sym (one_on n end l))
    ∙ left

pub testing_done : {A : Type 0} (test : A → Bool) (f : ℕ → A) (n end : ℕ) (all : List A) → end ≤ n → Testing test f n end all → true ≡ list_all test all
testing_done test f n end all l left = ap (λ ns. list_all test (map f ns)) (sym (none_on n end l)) ∙ left

-- and where some stand for each number
abbrev pub TestingAll : {A : Type 0} → (A → Bool) → (ℕ → List A) → ℕ → ℕ → List A → Type 0
TestingAll test f n end all = list_all test (flat_map f (from_on n end)) ≡ list_all test all

pub testing_all_more : {A : Type 0} (test : A → Bool) (f : ℕ → List A) (n end : ℕ) (all : List A) → n < end → list_all test (f n) ≡ true → TestingAll test f n end all → TestingAll test f (n + 1) end all
testing_all_more test f n end all l e left =
    ap (λ b. b && list_all test (flat_map f (from_on (n + 1) end))) (sym e)
    ∙ sym (list_all-append test (f n) (flat_map f (from_on (n + 1) end)))
    ∙ ap (λ ns. list_all test (flat_map f ns)) (sym (one_on n end l))
    ∙ left

pub testing_all_stops : {A : Type 0} (test : A → Bool) (f : ℕ → List A) (n end : ℕ) (all : List A) → n < end → list_all test (f n) ≡ false → TestingAll test f n end all → false ≡ list_all test all
testing_all_stops test f n end all l e left =
    ap (λ b. b && list_all test (flat_map f (from_on (n + 1) end))) (sym e)
    ∙ sym (list_all-append test (f n) (flat_map f (from_on (n + 1) end)))
    ∙ ap (λ ns. list_all test (flat_map f ns)) (sym (one_on n end l))
    ∙ left

pub testing_all_done : {A : Type 0} (test : A → Bool) (f : ℕ → List A) (n end : ℕ) (all : List A) → end ≤ n → TestingAll test f n end all → true ≡ list_all test all
testing_all_done test f n end all l left = ap (λ ns. list_all test (flat_map f ns)) (sym (none_on n end l)) ∙ left

-- whether one passes, by how many do
pub some_pass : (test : ℕ → Bool) (ns : List ℕ) → nat_lt 0 (length (filter test ns)) ≡ list_any test ns
some_pass test [] = le-ltb 0 0 (omega arith)
some_pass test (n ∷ ns) = elim (test n) as (λ t. nat_lt 0 (length (cond t (n ∷ filter test ns) (filter test ns))) ≡ (t || list_any test ns)) [
  | true ↦ lt-ltb 0 (suc (length (filter test ns))) (omega arith)
  | false ↦ some_pass test ns
]

-- Nodes that are left out of a set, one after another.
use Rattle.std.proofs.Common.{◌≡◌, ◌<◌, ℕ, ◌+◌, ◌==◌, ◌&&◌, ◌||◌, Bool, true, false, not, cond, nat_le, List, [], ◌∷◌, refl, sym, ap, ◌∙◌, arith}
use Rattle.std.proofs.lemmas.Bool.{eqb-true, false≢true}
use Rattle.std.proofs.lemmas.Bool.Decides.{nat_tests}
use Rattle.std.specs.List.{filter, range_with_len}
use Rattle.replica_table.specs.Sets.{among, but_one, members}
use Rattle.run_laws.proofs.Members.{any_is, from_below}
use Rattle.loop_scheduler.proofs.Choices.{member_in_range, same_passing}

filter_two : (p q : ℕ → Bool) (ns : List ℕ) → filter p (filter q ns) ≡ filter (λ n. q n && p n) ns
filter_two p q [] = refl
filter_two p q (n ∷ ns) = elim (q n) as (λ b. filter p (cond b (n ∷ filter q ns) (filter q ns)) ≡ cond (b && p n) (n ∷ filter (λ m. q m && p m) ns) (filter (λ m. q m && p m) ns)) [
  | true ↦ ap (λ ms. cond (p n) (n ∷ ms) ms) (filter_two p q ns)
  | false ↦ filter_two p q ns
]

pub all_pass : (test : ℕ → Bool) (ns : List ℕ) → ((n : ℕ) → test n ≡ true) → filter test ns ≡ ns
all_pass test [] each = refl
all_pass test (n ∷ ns) each = ap (λ b. cond b (n ∷ filter test ns) (filter test ns)) (each n) ∙ ap (λ ms. n ∷ ms) (all_pass test ns each)

same_or : (k n : ℕ) (t : Bool) → (n ≡ k → t ≡ true) → (nat_le k n || t) ≡ (nat_le (k + 1) n || t)
same_or k n true h = or_both (nat_le k n) (nat_le (k + 1) n)
  where
    or_both : (a b : Bool) → (a || true) ≡ (b || true)
    or_both true true = refl
    or_both true false = refl
    or_both false true = refl
    or_both false false = refl
same_or k n false h = or_none (nat_le k n) ∙ le_more k n (λ e. false≢true (h e)) ∙ sym (or_none (nat_le (k + 1) n))
  where
    or_none : (a : Bool) → (a || false) ≡ a
    or_none true = refl
    or_none false = refl

    le_more : (k n : ℕ) → (n ≡ k → ⊥) → nat_le k n ≡ nat_le (k + 1) n
    le_more k n differ = grind (arith, nat_tests, differ)

not_out : (k n : ℕ) (t : Bool) → (n ≡ k → t ≡ false) → ((nat_le k n || t) && not (k == n)) ≡ (nat_le (k + 1) n || t)
not_out k n t h = elim (k == n) as (λ b. k == n ≡ b → ((nat_le k n || t) && not b) ≡ (nat_le (k + 1) n || t)) [
  | true ↦ λ e. let one : k ≡ n = eqb-true k n e in and_none (nat_le k n || t) ∙ sym (ap (λ b. nat_le (k + 1) n || b) (h (sym one)) ∙ ap (λ b. b || false) (past k n one))
  | false ↦ λ e. and_all (nat_le k n || t) ∙ later k n t e
] refl
  where
    and_none : (a : Bool) → (a && false) ≡ false
    and_none true = refl
    and_none false = refl

    and_all : (a : Bool) → (a && true) ≡ a
    and_all true = refl
    and_all false = refl

    past : (k n : ℕ) → k ≡ n → nat_le (k + 1) n ≡ false
    past k n one = grind (arith, nat_tests, one)

    later : (k n : ℕ) (t : Bool) → (k == n) ≡ false → (nat_le k n || t) ≡ (nat_le (k + 1) n || t)
    later k n t e = ap (λ b. b || t) (grind (arith, nat_tests, e))

-- those from a node on, and of the others those with the test
abbrev pub passed : ℕ → (ℕ → Bool) → List ℕ → List ℕ
passed k test ns = filter (λ n. nat_le k n || test n) ns

pub passed_none : (test : ℕ → Bool) (ns : List ℕ) → ns ≡ passed 0 test ns
passed_none test ns = sym (all_pass (λ n. nat_le 0 n || test n) ns (λ n. grind (arith, nat_tests)))

pub passed_kept : (k : ℕ) (test : ℕ → Bool) (ns : List ℕ) → test k ≡ true → passed k test ns ≡ passed (k + 1) test ns
passed_kept k test ns t = same_passing (λ n. nat_le k n || test n) (λ n. nat_le (k + 1) n || test n) ns (λ n i. same_or k n (test n) (λ e. ap test e ∙ t))

pub passed_out : (k : ℕ) (test : ℕ → Bool) (ns : List ℕ) → test k ≡ false → but_one k (passed k test ns) ≡ passed (k + 1) test ns
passed_out k test ns t = filter_two (λ n. not (k == n)) (λ n. nat_le k n || test n) ns ∙ same_passing (λ n. (nat_le k n || test n) && not (k == n)) (λ n. nat_le (k + 1) n || test n) ns (λ n i. not_out k n (test n) (λ e. ap test e ∙ t))

pub passed_all : (test : ℕ → Bool) (set : ℕ) (ns : List ℕ) → members set ≡ ns → passed 64 test ns ≡ filter test ns
passed_all test set ns m = same_passing (λ n. nat_le 64 n || test n) test ns (λ n i. ap (λ b. b || test n) (small n (member_in_range set n (ap (among n) m ∙ i))))
  where
    small : (n : ℕ) → among n (range_with_len 0 64) ≡ true → nat_le 64 n ≡ false
    small n i = let x = any_is (λ other. n == other) (range_with_len 0 64) i in let same : n ≡ x.0 = eqb-true n x.0 x.2 in let l : x.0 < 64 = from_below 64 x.0 x.1 in grind (arith, nat_tests, same, l)

-- A test of which the value becomes known.
use Rattle.std.proofs.Common.{◌≡◌, ◌<◌, ◌+◌, ℕ, zero, suc, List, [], ◌∷◌, Option, None, Some, length, refl, sym, ap, ◌∙◌, subst, arith}
use Rattle.std.specs.Ordering.{nat_cmp}
use Rattle.std.specs.Cmp.{nat_cmp_is}
use Rattle.std.specs.declared.cmp.Ordering.TheVariants.{Less, Equal, Greater}
use Rattle.std.proofs.Math.ListN.{set}
use Rattle.hal_base.specs.Sorted.{by_order, joined}
use Rattle.node_names.specs.declared.task.Task.TheVariants.{Test}
use Rattle.run_model.specs.Plans.{gives}
use Rattle.run_model.specs.State.{Setup, noted}
use Rattle.run_model.specs.Tasks.{IsTask, test_count}
use Rattle.run_model.specs.declared.attempt.Attempt.{Attempt}
use Rattle.counter_report.specs.declared.journal.Entry.TheVariants.{Commit}
use Rattle.valid_copies.specs.declared.inputs.ReadCounts.{ReadCounts}
use Rattle.cluster_core.specs.Finishing.{CanFinish, commit_plan}
use Rattle.cluster_core.specs.States.{Kept, known_from, known_in, plain_of}

-- a number below all others comes first
first_joined : (k j : ℕ) (values : List (Option ℕ)) → k < j → joined nat_cmp k (known_from j values) ≡ k ∷ known_from j values
first_joined k j [] l = refl
first_joined k j (None ∷ values) l = first_joined k (suc j) values (omega arith)
first_joined k j (Some v ∷ values) l = ap (λ r. by_order r (k ∷ j ∷ known_from (suc j) values) (j ∷ known_from (suc j) values) (j ∷ joined nat_cmp k (known_from (suc j) values))) (sym (nat_cmp_is k j Less l))

known_more : (k n : ℕ) (values : List (Option ℕ)) (v : ℕ) → n < length values → known_from k (set values n (Some v)) ≡ joined nat_cmp (k + n) (known_from k values)
known_more k n [] v l = absurd (omega arith)
known_more k zero (None ∷ values) v l = sym (ap (λ m. joined nat_cmp m (known_from (suc k) values)) none ∙ first_joined k (suc k) values (omega arith))
  where
    none : k + zero ≡ k
    none = omega arith
known_more k zero (Some w ∷ values) v l = ap (λ r. by_order r ((k + zero) ∷ (k ∷ known_from (suc k) values)) (k ∷ known_from (suc k) values) (k ∷ joined nat_cmp (k + zero) (known_from (suc k) values))) (nat_cmp_is (k + zero) k Equal none)
  where
    none : k + zero ≡ k
    none = omega arith
known_more k (suc n) (None ∷ values) v l = known_more (suc k) n values v (omega arith) ∙ ap (λ m. joined nat_cmp m (known_from (suc k) values)) shift
  where
    shift : suc k + n ≡ k + suc n
    shift = omega arith
known_more k (suc n) (Some w ∷ values) v l =
    ap (λ ns. k ∷ ns) (known_more (suc k) n values v (omega arith) ∙ ap (λ m. joined nat_cmp m (known_from (suc k) values)) shift)
    ∙ ap (λ r. by_order r ((k + suc n) ∷ (k ∷ known_from (suc k) values)) (k ∷ known_from (suc k) values) (k ∷ joined nat_cmp (k + suc n) (known_from (suc k) values))) (nat_cmp_is (k + suc n) k Greater (omega arith))
  where
    shift : suc k + n ≡ k + suc n
    shift = omega arith

pub known_with : (values : List (Option ℕ)) (n v : ℕ) → n < length values → known_in (set values n (Some v)) ≡ joined nat_cmp n (known_in values)
known_with values n v l = known_more 0 n values v l ∙ ap (λ m. joined nat_cmp m (known_in values)) none
  where
    none : 0 + n ≡ n
    none = omega arith

-- a test writes nothing, and commits with its value
test_commits : (setup : Setup) (node i p : ℕ) (counts : ReadCounts) (kept : Kept) (v : ℕ) → p < length kept.values
    → commit_plan setup (record { task = Test i p; node = node }) counts (plain_of setup.schedule kept) ≡ gives (noted (Commit (Test i p) node counts.local counts.remote counts.caches ∷ []) (plain_of setup.schedule (record kept { values = set kept.values p (Some v) })))
test_commits setup node i p counts kept v l =
    ap (λ known. gives (record (noted (Commit (Test i p) node counts.local counts.remote counts.caches ∷ []) (plain_of setup.schedule kept)) { known = known })) (sym (known_with kept.values p v l))

pub value_commits : (setup : Setup) (a : Attempt) (counts : ReadCounts) (kept : Kept) (p v i : ℕ) → CanFinish setup a → a.task ≡ Test i p → length kept.values ≡ test_count setup.shape
    → commit_plan setup a counts (plain_of setup.schedule kept) ≡ gives (noted (Commit a.task a.node counts.local counts.remote counts.caches ∷ []) (plain_of setup.schedule (record kept { values = set kept.values p (Some v) })))
value_commits setup a counts kept p v i can is tests =
    let task : IsTask setup.shape (Test i p) = subst (IsTask setup.shape) is can.task in
    subst (λ t. commit_plan setup (record { task = t; node = a.node }) counts (plain_of setup.schedule kept) ≡ gives (noted (Commit t a.node counts.local counts.remote counts.caches ∷ []) (plain_of setup.schedule (record kept { values = set kept.values p (Some v) })))) (sym is)
    (test_commits setup a.node i p counts kept v (subst (λ n. p < n) (sym tests) task.1))

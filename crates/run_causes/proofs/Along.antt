-- What holds however a plan goes, by how many of its reads missed.
use Rattle.std.proofs.Common.{◌≡◌, ℕ, suc, ◌+◌, ◌≤◌, Bool, true, false, cond, List, [], ◌∷◌, ◌++◌, refl, sym, ap, subst, ◌∙◌, map, arith, length}
use Rattle.std.specs.List.{AllByRecursion, filter, flat_map}
use Rattle.std.proofs.lemmas.Bool.{false≢true}
use Rattle.run_model.specs.Lists.{number_of}
use Rattle.run_model.specs.Plans.{Call, Leaves, Made, Plan, Read, Remove, Wipe, Write, asks, do_all, does, gives, refuses, ◌>>=◌}
use Rattle.run_model.specs.State.{PlainCluster}
use Rattle.run_causes.specs.States.{if_read, is_missed}

-- the call is no read
abbrev pub IsNoRead : Call → Type 0
IsNoRead call = if_read call true ≡ false

pub all_no_reads : (xs ys : List Call) → AllByRecursion IsNoRead xs → AllByRecursion IsNoRead ys → AllByRecursion IsNoRead (xs ++ ys)
all_no_reads [] ys a b = b
all_no_reads (x ∷ xs) ys a b = (a.0, all_no_reads xs ys a.1 b)

pub no_reads : {A : Type 0} (f : A → Call) (xs : List A) → ((x : A) → IsNoRead (f x)) → AllByRecursion IsNoRead (map f xs)
no_reads f [] h = tt
no_reads f (x ∷ xs) h = (h x, no_reads f xs h)

pub each_no_reads : {A : Type 0} (f : A → List Call) (xs : List A) → ((x : A) → AllByRecursion IsNoRead (f x)) → AllByRecursion IsNoRead (flat_map f xs)
each_no_reads f [] h = tt
each_no_reads f (x ∷ xs) h = all_no_reads (f x) (flat_map f xs) (h x) (each_no_reads f xs h)

-- whichever reads miss, once so many have: this holds of what the plan gives, by how many have missed then, and that of the
-- cluster where the run is refused
abbrev pub Along : {A : Type 0} → (ℕ → A → Type 0) → (ℕ → PlainCluster → Type 0) → ℕ → Plan A → Type 0
Along P Q n (gives a) = P n a
Along P Q n (refuses c why) = Q n c
Along P Q n (does call plan) = IsNoRead call × Along P Q n plan
Along P Q n (asks node name next) = Along P Q (suc n) (next true) × Along P Q n (next false)

pub along_then : {A B : Type 0} (P : ℕ → A → Type 0) (P' : ℕ → B → Type 0) (Q : ℕ → PlainCluster → Type 0) (n : ℕ) (plan : Plan A) (f : A → Plan B) → Along P Q n plan → ((m : ℕ) (a : A) → P m a → Along P' Q m (f a)) → Along P' Q n (plan >>= f)
along_then P P' Q n (gives a) f h k = k n a h
along_then P P' Q n (refuses c why) f h k = h
along_then P P' Q n (does call plan) f h k = (h.0, along_then P P' Q n plan f h.1 k)
along_then P P' Q n (asks node name next) f h k = (along_then P P' Q (suc n) (next true) f h.0 k, along_then P P' Q n (next false) f h.1 k)

pub along_do : {A : Type 0} (P : ℕ → A → Type 0) (Q : ℕ → PlainCluster → Type 0) (n : ℕ) (calls : List Call) (plan : Plan A) → AllByRecursion IsNoRead calls → Along P Q n plan → Along P Q n (do_all calls plan)
along_do P Q n [] plan w h = h
along_do P Q n (call ∷ calls) plan w h = (w.0, along_do P Q n calls plan w.1 h)

-- ---- what is left of a plan after calls

-- a call that is no read is none that missed
pub not_missed : (call : Call) (missed : Bool) → IsNoRead call → if_read call missed ≡ false
not_missed (Read node name) missed e = absurd (false≢true (sym e))
not_missed (Wipe node) missed e = refl
not_missed (Write node name) missed e = refl
not_missed (Remove node name) missed e = refl

pub one_made : (m : Made) (made : List Made) (v : Bool) → is_missed m ≡ v → number_of is_missed (m ∷ made) ≡ cond v (suc (number_of is_missed made)) (number_of is_missed made)
one_made m made true e = ap (λ v. length (cond v (m ∷ filter is_missed made) (filter is_missed made))) e
one_made m made false e = ap (λ v. length (cond v (m ∷ filter is_missed made) (filter is_missed made))) e

pub along_leaves : {A : Type 0} (P : ℕ → A → Type 0) (Q : ℕ → PlainCluster → Type 0) (n k : ℕ) (plan rest : Plan A) (made : List Made) → Along P Q n plan → Leaves plan made rest → k ≡ n + number_of is_missed made → Along P Q k rest
along_leaves P Q n k plan rest [] h e s = let same : n ≡ k = omega arith in subst (λ m. Along P Q m rest) same (subst (Along P Q n) e h)
along_leaves P Q n k (gives a) rest (m ∷ made) h e s = elim e [ ]
along_leaves P Q n k (refuses c why) rest (m ∷ made) h e s = elim e [ ]
along_leaves P Q n k (does call plan) rest (m ∷ made) h e s =
    let one = one_made m made false (ap (λ c. if_read c m.missed) e.0 ∙ not_missed call m.missed h.0) in
    along_leaves P Q n k plan rest made h.1 e.1 (s ∙ ap (λ x. n + x) one)
along_leaves P Q n k (asks node name next) rest (m ∷ made) h e s = elim (m.missed) as (λ v. m.missed ≡ v → Leaves (next v) made rest → Along P Q k rest) [
  | true ↦ λ t l. let one = one_made m made true (ap (λ c. if_read c m.missed) e.0 ∙ t) in along_leaves P Q (suc n) k (next true) rest made h.0 l (s ∙ ap (λ x. n + x) one ∙ omega arith)
  | false ↦ λ t l. let one = one_made m made false (ap (λ c. if_read c m.missed) e.0 ∙ t) in along_leaves P Q n k (next false) rest made h.1 l (s ∙ ap (λ x. n + x) one)
] refl e.1

-- a bound on the misses at the ends of a plan bounds them before
pub along_bound : {A : Type 0} (P : ℕ → A → Type 0) (Q : ℕ → PlainCluster → Type 0) (bound n : ℕ) (plan : Plan A) → ((m : ℕ) (a : A) → P m a → m ≤ bound) → ((m : ℕ) (c : PlainCluster) → Q m c → m ≤ bound) → Along P Q n plan → n ≤ bound
along_bound P Q bound n (gives a) f g h = f n a h
along_bound P Q bound n (refuses c why) f g h = g n c h
along_bound P Q bound n (does call plan) f g h = along_bound P Q bound n plan f g h.1
along_bound P Q bound n (asks node name next) f g h = along_bound P Q bound n (next false) f g h.1

-- Nodes in lists: which pass, the first that has the most of a count, and one after another.
use Rattle.std.proofs.Common.{◌≡◌, ℕ, zero, suc, ◌+◌, ◌<◌, ◌≤◌, ◌%◌, Bool, true, false, cond, max, nat_lt, ◌==◌, ◌&&◌, ◌||◌, List, [], ◌∷◌, length, slice_get, Option, None, Some, refl, sym, ap, ◌∙◌, arith}
use Rattle.std.specs.List.{filter, find, range_with_len}
use Rattle.std.proofs.Math.Nat.{mod-lt}
use Rattle.std.proofs.lemmas.Bool.{eqb-true, eqb-false, eq-eqb, ltb-true, ltb-false, lt-ltb, le-ltb, ne_eqb}
use Rattle.replica_table.specs.Sets.{among, is_in, members, members_from}
use Rattle.replica_table.proofs.Members.{among_members, from_in, from_out}
use Rattle.run_model.specs.Lists.{in_turn}
use Rattle.loop_scheduler.specs.steps.Choosing.{first_with, most_by}

-- ---- nodes that pass

pub and_left : (a b : Bool) → (a && b) ≡ true → a ≡ true
and_left true b e = refl
and_left false b e = absurd (cc)

pub and_right : (a b : Bool) → (a && b) ≡ true → b ≡ true
and_right true b e = e
and_right false b e = absurd (cc)

and_false : (b : Bool) → (b && false) ≡ false
and_false true = refl
and_false false = refl

and_true : (b : Bool) → (b && true) ≡ b
and_true true = refl
and_true false = refl

-- a node is among those that pass where it is one of all and passes
pub among_filter : (test : ℕ → Bool) (q : ℕ) (ns : List ℕ) → among q (filter test ns) ≡ (among q ns && test q)
among_filter test q [] = refl
among_filter test q (n ∷ ns) = elim (q == n) as (λ s. (q == n) ≡ s → among q (cond (test n) (n ∷ filter test ns) (filter test ns)) ≡ ((s || among q ns) && test q)) [
  | true ↦ λ e. elim (test n) as (λ t. test n ≡ t → among q (cond t (n ∷ filter test ns) (filter test ns)) ≡ test q) [
    | true ↦ λ t. rw e (sym (ap test (eqb-true q n e) ∙ t))
    | false ↦ λ t. among_filter test q ns ∙ ap (λ b. among q ns && b) (ap test (eqb-true q n e) ∙ t) ∙ and_false (among q ns) ∙ sym (ap test (eqb-true q n e) ∙ t)
  ] refl
  | false ↦ λ e. elim (test n) as (λ t. among q (cond t (n ∷ filter test ns) (filter test ns)) ≡ (among q ns && test q)) [
    | true ↦ rw e (among_filter test q ns)
    | false ↦ among_filter test q ns
  ]
] refl

-- where a node that is among all of a list passes, so does it among those that pass
pub among_where : (test : ℕ → Bool) (q : ℕ) (ns : List ℕ) → among q ns ≡ true → among q (filter test ns) ≡ test q
among_where test q ns e = among_filter test q ns ∙ ap (λ b. b && test q) e

pub passing_pass : (test : ℕ → Bool) (q : ℕ) (ns : List ℕ) → among q (filter test ns) ≡ true → test q ≡ true
passing_pass test q ns e = and_right (among q ns) (test q) (sym (among_filter test q ns) ∙ e)

pub passing_are : (test : ℕ → Bool) (q : ℕ) (ns : List ℕ) → among q (filter test ns) ≡ true → among q ns ≡ true
passing_are test q ns e = and_left (among q ns) (test q) (sym (among_filter test q ns) ∙ e)

pub among_up : (q : ℕ) (ns up : List ℕ) → among q up ≡ true → among q (filter (λ n. among n up) ns) ≡ among q ns
among_up q ns up e = among_filter (λ n. among n up) q ns ∙ ap (λ b. among q ns && b) e ∙ and_true (among q ns)

-- the nodes of a set are below 64
pub member_in_range : (set q : ℕ) → among q (members set) ≡ true → among q (range_with_len 0 64) ≡ true
unfolding members_from
member_in_range set q e = passing_are (λ node. is_in set node) q (range_with_len 0 64) e

pub first_among : (n : ℕ) (ns : List ℕ) → among n (n ∷ ns) ≡ true
first_among n ns = ap (λ b. b || among n ns) (eq-eqb n n refl)

pub later_among : (q n : ℕ) (ns : List ℕ) → among q ns ≡ true → among q (n ∷ ns) ≡ true
later_among q n ns e = elim (q == n) as (λ s. (s || among q ns) ≡ true) [ true ↦ refl | false ↦ e ]

-- tests that agree on all of a list let the same pass
pub same_passing : (f g : ℕ → Bool) (ns : List ℕ) → ((q : ℕ) → among q ns ≡ true → f q ≡ g q) → filter f ns ≡ filter g ns
same_passing f g [] h = refl
same_passing f g (n ∷ ns) h = (λ i. cond (h n (first_among n ns) i) (n ∷ same_passing f g ns (λ q e. h q (later_among q n ns e)) i) (same_passing f g ns (λ q e. h q (later_among q n ns e)) i))

-- where each of the nodes is up, those that are up are all
pub all_up : (ns up : List ℕ) → ((q : ℕ) → among q ns ≡ true → among q up ≡ true) → filter (λ n. among n up) ns ≡ ns
all_up [] up h = refl
all_up (n ∷ ns) up h = ap (λ b. cond b (n ∷ filter (λ m. among m up) ns) (filter (λ m. among m up) ns)) (h n (first_among n ns)) ∙ ap (λ ms. n ∷ ms) (all_up ns up (λ q e. h q (later_among q n ns e)))

-- ---- one after another

pub got_among : (ns : List ℕ) (k q : ℕ) → slice_get ns k ≡ Some q → among q ns ≡ true
got_among [] k q e = absurd (cc)
got_among (n ∷ ns) zero q e = let same : n ≡ q = cc in ap (λ m. among m (n ∷ ns)) (sym same) ∙ first_among n ns
got_among (n ∷ ns) (suc k) q e = later_among q n ns (got_among ns k q e)

got_there : (ns : List ℕ) (k : ℕ) → k < length ns → slice_get ns k ≡ None → ⊥
got_there [] k l e = omega arith
got_there (n ∷ ns) zero l e = cc
got_there (n ∷ ns) (suc k) l e = got_there ns k (omega arith) e

pub turn_among : (k q : ℕ) (ns : List ℕ) → in_turn k ns ≡ Some q → among q ns ≡ true
turn_among k q ns e = got_among ns (k % length ns) q e

pub turn_none : (k : ℕ) (ns : List ℕ) → in_turn k ns ≡ None → ns ≡ []
turn_none k [] e = refl
turn_none k (n ∷ ns) e = absurd (got_there (n ∷ ns) (k % length (n ∷ ns)) (mod-lt k (omega arith)) e)

-- ---- the first with the most

pub found_among : (test : ℕ → Bool) (q : ℕ) (ns : List ℕ) → find test ns ≡ Some q → among q ns ≡ true
found_among test q [] e = absurd (cc)
found_among test q (n ∷ ns) e = elim (test n) as (λ t. cond t (Some n) (find test ns) ≡ Some q → among q (n ∷ ns) ≡ true) [
  | true ↦ λ f. let same : n ≡ q = cc in ap (λ m. among m (n ∷ ns)) (sym same) ∙ first_among n ns
  | false ↦ λ f. later_among q n ns (found_among test q ns f)
] e

-- counts that agree on all of a list have the same most
pub same_most : (f g : ℕ → ℕ) (ns : List ℕ) → ((q : ℕ) → among q ns ≡ true → f q ≡ g q) → most_by f ns ≡ most_by g ns
same_most f g [] h = refl
same_most f g (n ∷ ns) h = (λ i. max (h n (first_among n ns) i) (same_most f g ns (λ q e. h q (later_among q n ns e)) i))

pub same_found : (f g : ℕ → Bool) (ns : List ℕ) → ((q : ℕ) → among q ns ≡ true → f q ≡ g q) → find f ns ≡ find g ns
same_found f g [] h = refl
same_found f g (n ∷ ns) h = (λ i. cond (h n (first_among n ns) i) (Some n) (same_found f g ns (λ q e. h q (later_among q n ns e)) i))

-- some node has the most
pub most_found : (count : ℕ → ℕ) (k : ℕ) (ns : List ℕ) → most_by count ns ≡ suc k → find (λ n. count n == suc k) ns ≡ None → ⊥
most_found count k [] e f = cc
most_found count k (n ∷ ns) e f = elim (count n == suc k) as (λ t. (count n == suc k) ≡ t → cond t (Some n) (find (λ m. count m == suc k) ns) ≡ None → ⊥) [
  | true ↦ λ t g. cc
  | false ↦ λ t g. most_found count k ns (let other = eqb-false (count n) (suc k) t in omega arith) g
] refl f

-- a pass over the nodes, from the best that was found
abbrev pub lead : (ℕ → ℕ) → Option ℕ → ℕ → List ℕ → Option ℕ
lead count best most [] = best
lead count best most (n ∷ ns) = cond (nat_lt most (count n)) (lead count (Some n) (count n) ns) (lead count best most ns)

-- what it comes to over a node and others, where m is the most of all
abbrev shown : (ℕ → ℕ) → Option ℕ → ℕ → ℕ → List ℕ → ℕ → Option ℕ
shown count best most n ns m = cond (nat_lt most m) (cond (count n == m) (Some n) (find (λ k. count k == m) ns)) best

shown_here : (count : ℕ → ℕ) (best : Option ℕ) (most n : ℕ) (ns : List ℕ) → most < count n → Some n ≡ shown count best most n ns (count n)
shown_here count best most n ns l = sym (λ i. cond (lt-ltb most (count n) l i) (cond (eq-eqb (count n) (count n) refl i) (Some n) (find (λ k. count k == count n) ns)) best)

shown_later : (count : ℕ → ℕ) (best : Option ℕ) (most n : ℕ) (ns : List ℕ) (m : ℕ) → most < m → ¬ (count n ≡ m) → find (λ k. count k == m) ns ≡ shown count best most n ns m
shown_later count best most n ns m l d = sym (λ i. cond (lt-ltb most m l i) (cond (ne_eqb (count n) m d i) (Some n) (find (λ k. count k == m) ns)) best)

shown_none : (count : ℕ → ℕ) (best : Option ℕ) (most n : ℕ) (ns : List ℕ) (m : ℕ) → m ≤ most → best ≡ shown count best most n ns m
shown_none count best most n ns m l = sym (ap (λ b. cond b (cond (count n == m) (Some n) (find (λ k. count k == m) ns)) best) (le-ltb most m l))

-- it keeps what it has where none has more, and else finds the first with the most
lead_finds : (count : ℕ → ℕ) (best : Option ℕ) (most : ℕ) (ns : List ℕ) → lead count best most ns ≡ cond (nat_lt most (most_by count ns)) (find (λ n. count n == most_by count ns) ns) best
lead_finds count best most [] = sym (ap (λ b. cond b None best) (le-ltb most 0 (omega arith)))
lead_finds count best most (n ∷ ns) = elim (nat_lt most (count n)) as (λ t. nat_lt most (count n) ≡ t → cond t (lead count (Some n) (count n) ns) (lead count best most ns) ≡ shown count best most n ns (max (count n) (most_by count ns))) [
  | true ↦ λ t. lead_finds count (Some n) (count n) ns ∙ elim (nat_lt (count n) (most_by count ns)) as (λ u. nat_lt (count n) (most_by count ns) ≡ u → cond u (find (λ k. count k == most_by count ns) ns) (Some n) ≡ shown count best most n ns (max (count n) (most_by count ns))) [
    | true ↦ λ u.
        let here : most < count n = ltb-true most (count n) t in
        let more : count n < most_by count ns = ltb-true (count n) (most_by count ns) u in
        let same : most_by count ns ≡ max (count n) (most_by count ns) = omega arith in
        shown_later count best most n ns (most_by count ns) (omega arith) (λ e. omega arith) ∙ ap (shown count best most n ns) same
    | false ↦ λ u.
        let less : most_by count ns ≤ count n = ltb-false (count n) (most_by count ns) u in
        let same : count n ≡ max (count n) (most_by count ns) = omega arith in
        shown_here count best most n ns (ltb-true most (count n) t) ∙ ap (shown count best most n ns) same
  ] refl
  | false ↦ λ t. lead_finds count best most ns ∙ elim (nat_lt most (most_by count ns)) as (λ u. nat_lt most (most_by count ns) ≡ u → cond u (find (λ k. count k == most_by count ns) ns) best ≡ shown count best most n ns (max (count n) (most_by count ns))) [
    | true ↦ λ u.
        let here : count n ≤ most = ltb-false most (count n) t in
        let more : most < most_by count ns = ltb-true most (most_by count ns) u in
        let same : most_by count ns ≡ max (count n) (most_by count ns) = omega arith in
        shown_later count best most n ns (most_by count ns) more (λ e. omega arith) ∙ ap (shown count best most n ns) same
    | false ↦ λ u.
        let here : count n ≤ most = ltb-false most (count n) t in
        let less : most_by count ns ≤ most = ltb-false most (most_by count ns) u in
        shown_none count best most n ns (max (count n) (most_by count ns)) (omega arith)
  ] refl
] refl

pub lead_is : (count : ℕ → ℕ) (ns : List ℕ) → lead count None 0 ns ≡ first_with count (most_by count ns) ns
lead_is count ns = lead_finds count None 0 ns ∙ elim (most_by count ns) as (λ m. cond (nat_lt 0 m) (find (λ n. count n == m) ns) None ≡ first_with count m ns) [
  | zero ↦ ap (λ b. cond b (find (λ n. count n == 0) ns) None) (le-ltb 0 0 (omega arith))
  | suc k ↦ ap (λ b. cond b (find (λ n. count n == suc k) ns) None) (lt-ltb 0 (suc k) (omega arith))
]

-- a step of it, over the nodes of a set
pub lead_in : (count : ℕ → ℕ) (best : Option ℕ) (most set node : ℕ) → node < 64 → among node (members set) ≡ true → most < count node → lead count best most (members_from node set) ≡ lead count (Some node) (count node) (members_from (node + 1) set)
lead_in count best most set node l e more =
    ap (lead count best most) (from_in set node l (sym (among_members set node l) ∙ e))
    ∙ ap (λ b. cond b (lead count (Some node) (count node) (members_from (node + 1) set)) (lead count best most (members_from (node + 1) set))) (lt-ltb most (count node) more)

pub lead_past : (count : ℕ → ℕ) (best : Option ℕ) (most set node : ℕ) → node < 64 → among node (members set) ≡ true → count node ≤ most → lead count best most (members_from node set) ≡ lead count best most (members_from (node + 1) set)
lead_past count best most set node l e less =
    ap (lead count best most) (from_in set node l (sym (among_members set node l) ∙ e))
    ∙ ap (λ b. cond b (lead count (Some node) (count node) (members_from (node + 1) set)) (lead count best most (members_from (node + 1) set))) (le-ltb most (count node) less)

pub lead_out : (count : ℕ → ℕ) (best : Option ℕ) (most set node : ℕ) → node < 64 → among node (members set) ≡ false → lead count best most (members_from node set) ≡ lead count best most (members_from (node + 1) set)
lead_out count best most set node l e = ap (lead count best most) (from_out set node l (sym (among_members set node l) ∙ e))

-- counts that agree on all of a list find the same
pub same_first : (f g : ℕ → ℕ) (ns : List ℕ) → ((q : ℕ) → among q ns ≡ true → f q ≡ g q) → first_with f (most_by f ns) ns ≡ first_with g (most_by g ns) ns
same_first f g ns h = elim (most_by f ns) as (λ m. first_with f m ns ≡ first_with g m ns) [
  | zero ↦ refl
  | suc k ↦ same_found (λ n. f n == suc k) (λ n. g n == suc k) ns (λ q e. ap (λ c. c == suc k) (h q e))
] ∙ ap (λ m. first_with g m ns) (same_most f g ns h)

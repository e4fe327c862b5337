-- Sets of nodes as bits, and as ascending lists.
use Rattle.std.proofs.Common.{◌≡◌, ℕ, zero, suc, ◌+◌, ◌-◌, ◌*◌, ◌/◌, ◌%◌, ◌^◌, ◌<◌, ◌≤◌, Bool, true, false, cond, max, not, min, nat_eq, nat_lt, ◌&&◌, ◌||◌, ◌==◌, List, [], ◌∷◌, length, slice_get, Some, count_ones, refl, sym, ap, ◌∙◌, arith}
use Rattle.std.specs.Int.{bit_at, bit_not, w64}
use Rattle.std.specs.Int.Bits.{bit_or, bit_and}
use Rattle.std.specs.List.{AllByRecursion, filter, list_any, range_with_len}
use Rattle.std.specs.Ordering.{MatchOrdering, eq_by_cmp, nat_cmp}
use Rattle.std.specs.declared.cmp.Ordering.TheVariants.{Less, Equal, Greater}
use Rattle.std.specs.Cmp.{nat_cmp_total, nat_eq_equiv, ranks, unsigned_tied}
use Rattle.std.proofs.lemmas.Bool.{eqb-true, eqb-false, ltb-true, ltb-false, lt-ltb, ne_eqb}
use Rattle.std.proofs.lemmas.Bool.Decides.{nat_tests}
use Rattle.std.proofs.lemmas.Map.Lookups.{exact_unsigned}
use Rattle.std.proofs.lemmas.Nat.{ones-le, shr-shr}
use Rattle.std.proofs.lemmas.Nat.Bits.{bit_at_and, bit_at_or, bit_at_ones, bit_at_ones_above, bit_at_set_same, bit_at_set_other, bit_at_clear_same, bit_at_clear_other, bit_at-lt, bit_at-zero, ones_shr}
use lib.Count.{ones_step}
use native.Mathlib.Nat.{pow-suc}
use Rattle.hal_base.specs.Sorted.{by_order, joined}
use Rattle.hal_base.proofs.Strict.{Strict, or_swap, same_strict}
use Rattle.replica_table.specs.Sets.{Ascend, among, but_one, is_in, members, members_from}

-- ---- bits

low : (x y : ℕ) → x < 2 → y < 2 → nat_eq (min x y) 1 ≡ (nat_eq x 1 && nat_eq y 1)
low zero zero a b = refl
low zero (suc zero) a b = refl
low (suc zero) zero a b = refl
low (suc zero) (suc zero) a b = refl
low zero (suc (suc y)) a b = absurd (omega arith)
low (suc zero) (suc (suc y)) a b = absurd (omega arith)
low (suc (suc x)) y a b = absurd (omega arith)

low_or : (x y : ℕ) → x < 2 → y < 2 → nat_eq (max x y) 1 ≡ (nat_eq x 1 || nat_eq y 1)
low_or zero zero a b = refl
low_or zero (suc zero) a b = refl
low_or (suc zero) zero a b = refl
low_or (suc zero) (suc zero) a b = refl
low_or zero (suc (suc y)) a b = absurd (omega arith)
low_or (suc zero) (suc (suc y)) a b = absurd (omega arith)
low_or (suc (suc x)) y a b = absurd (omega arith)

pub in_both : (a b n : ℕ) → is_in (bit_and a b) n ≡ (is_in a n && is_in b n)
in_both a b n = ap (λ bit. nat_eq bit 1) (bit_at_and a b n) ∙ low (bit_at a n) (bit_at b n) (bit_at-lt a n) (bit_at-lt b n)

pub in_one : (a b n : ℕ) → is_in (bit_or a b) n ≡ (is_in a n || is_in b n)
in_one a b n = ap (λ bit. nat_eq bit 1) (bit_at_or a b n) ∙ low_or (bit_at a n) (bit_at b n) (bit_at-lt a n) (bit_at-lt b n)

pub in_with : (set node : ℕ) (within : node < 64) (n : ℕ) → is_in (bit_or set (1 * 2 ^ node % 2 ^ 64)) n ≡ (n == node || is_in set n)
in_with set node within n = elim (nat_eq n node) as (λ t. nat_eq n node ≡ t → is_in (bit_or set (1 * 2 ^ node % 2 ^ 64)) n ≡ (t || is_in set n)) [
  | true ↦ λ e. ap (λ i. is_in (bit_or set (1 * 2 ^ node % 2 ^ 64)) i) (eqb-true n node e) ∙ ap (λ b. nat_eq b 1) (bit_at_set_same w64 set node within)
  | false ↦ λ e. ap (λ b. nat_eq b 1) (bit_at_set_other w64 set node within n (eqb-false n node e))
] refl

pub in_without : (set node : ℕ) (within : node < 64) (n : ℕ) → n < 64 → is_in (bit_and set (bit_not w64 (1 * 2 ^ node % 2 ^ 64))) n ≡ (not (n == node) && is_in set n)
in_without set node within n low = elim (nat_eq n node) as (λ t. nat_eq n node ≡ t → is_in (bit_and set (bit_not w64 (1 * 2 ^ node % 2 ^ 64))) n ≡ (not t && is_in set n)) [
  | true ↦ λ e. ap (λ i. is_in (bit_and set (bit_not w64 (1 * 2 ^ node % 2 ^ 64))) i) (eqb-true n node e) ∙ ap (λ b. nat_eq b 1) (bit_at_clear_same w64 set node within)
  | false ↦ λ e. ap (λ b. nat_eq b 1) (bit_at_clear_other w64 set node within n low (eqb-false n node e))
] refl

-- the lowest bits, so many of them
in_lowest : (nodes n : ℕ) → is_in (2 ^ nodes - 1) n ≡ nat_lt n nodes
in_lowest nodes n = elim (nat_lt n nodes) as (λ t. nat_lt n nodes ≡ t → is_in (2 ^ nodes - 1) n ≡ t) [
  | true ↦ λ e. ap (λ b. nat_eq b 1) (bit_at_ones nodes n (ltb-true n nodes e))
  | false ↦ λ e. ap (λ b. nat_eq b 1) (bit_at_ones_above nodes n (ltb-false n nodes e))
] refl

in_below : (nodes n : ℕ) → nodes ≤ 64 → is_in ((2 ^ 64 - 1) / 2 ^ (64 - nodes)) n ≡ nat_lt n nodes
in_below nodes n few =
    let back : 64 - (64 - nodes) ≡ nodes = omega arith in
    let lowest : (2 ^ 64 - 1) / 2 ^ (64 - nodes) ≡ 2 ^ nodes - 1 = ones_shr 64 (64 - nodes) (omega arith) ∙ ap (λ k. 2 ^ k - 1) back in
    ap (λ set. is_in set n) lowest ∙ in_lowest nodes n

-- ---- ascending numbers

pub ascend_from : (later first end : ℕ) (ns : List ℕ) → first ≤ later → Ascend later end ns → Ascend first end ns
ascend_from later first end [] l a = tt
ascend_from later first end (n ∷ ns) l a = (omega (arith, a.0), a.1, a.2)

pub ascend_to : (first end further : ℕ) (ns : List ℕ) → end ≤ further → Ascend first end ns → Ascend first further ns
ascend_to first end further [] l a = tt
ascend_to first end further (n ∷ ns) l a = (a.0, omega (arith, a.1), ascend_to (n + 1) end further ns l a.2)

pub filter_ascend : (test : ℕ → Bool) (first end : ℕ) (ns : List ℕ) → Ascend first end ns → Ascend first end (filter test ns)
filter_ascend test first end [] a = tt
filter_ascend test first end (n ∷ ns) a = elim (test n) as (λ t. Ascend first end (cond t (n ∷ filter test ns) (filter test ns))) [
  | true ↦ (a.0, a.1, filter_ascend test (n + 1) end ns a.2)
  | false ↦ ascend_from (n + 1) first end (filter test ns) (omega (arith, a.0)) (filter_ascend test (n + 1) end ns a.2)
]

pub joined_ascend : (first end n : ℕ) (ns : List ℕ) → first ≤ n → n < end → Ascend first end ns → Ascend first end (joined nat_cmp n ns)
joined_ascend first end n [] l u a = (l, u, tt)
joined_ascend first end n (m ∷ ns) l u a = elim (nat_cmp n m) as (λ r. MatchOrdering r (n < m) (n ≡ m) (m < n) → Ascend first end (by_order r (n ∷ m ∷ ns) (m ∷ ns) (m ∷ joined nat_cmp n ns))) [
  | Less ↦ λ o. (l, u, (omega (arith, o), a.1, a.2))
  | Equal ↦ λ o. a
  | Greater ↦ λ o. (a.0, a.1, joined_ascend (m + 1) end n ns (omega (arith, o)) u a.2)
] (ranks n m)

pub range_ascend : (first len end : ℕ) → first + len ≤ end → Ascend first end (range_with_len first len)
range_ascend first zero end l = tt
range_ascend first (suc len) end l = (omega arith, omega arith, range_ascend (first + 1) len end (omega arith))

members_ascend : (set : ℕ) → Ascend 0 64 (members set)
unfolding members_from
members_ascend set = filter_ascend (λ node. is_in set node) 0 64 (range_with_len 0 64) (range_ascend 0 64 64 (omega arith))

less : (n m : ℕ) → n < m → nat_cmp n m ≡ Less
less n m l = ap (λ b. cond b Less (cond (n == m) Equal Greater)) (lt-ltb n m l)

all_above : (first end n : ℕ) (ns : List ℕ) → n < first → Ascend first end ns → AllByRecursion (λ m. nat_cmp n m ≡ Less) ns
all_above first end n [] l a = tt
all_above first end n (m ∷ ns) l a = (less n m (omega (arith, a.0)), all_above (m + 1) end n ns (omega (arith, a.0)) a.2)

strictly : (first end : ℕ) (ns : List ℕ) → Ascend first end ns → Strict nat_cmp_total ns
strictly first end [] a = tt
strictly first end (n ∷ ns) a = (all_above (n + 1) end n ns (omega arith) a.2, strictly (n + 1) end ns a.2)

-- ---- which numbers are among some

ordered : (q : ℕ) (ns : List ℕ) → list_any (eq_by_cmp nat_cmp q) ns ≡ among q ns
ordered q [] = refl
ordered q (n ∷ ns) = λ i. unsigned_tied q n i || ordered q ns i

-- ascending lists of the same numbers are equal
same_nodes : (a b : ℕ) (ns ms : List ℕ) → Ascend 0 a ns → Ascend 0 b ms → ((q : ℕ) → among q ns ≡ among q ms) → ns ≡ ms
same_nodes a b ns ms s t h = same_strict nat_cmp_total exact_unsigned ns ms (strictly 0 a ns s) (strictly 0 b ms t) (λ q. ordered q ns ∙ h q ∙ sym (ordered q ms))

past_end : (q first end : ℕ) (ns : List ℕ) → end ≤ q → Ascend first end ns → among q ns ≡ false
past_end q first end [] l a = refl
past_end q first end (n ∷ ns) l a = rw (ne_eqb q n (λ e. omega (arith, a.1))) (past_end q (n + 1) end ns l a.2)

-- a number below all of a range is not among those of them that pass
not_among : (test : ℕ → Bool) (n first len : ℕ) → n < first → among n (filter test (range_with_len first len)) ≡ false
not_among test n first zero l = refl
not_among test n first (suc len) l = elim (test first) as (λ t. among n (cond t (first ∷ filter test (range_with_len (first + 1) len)) (filter test (range_with_len (first + 1) len))) ≡ false) [
  | true ↦ rw (ne_eqb n first (λ e. omega arith)) (not_among test n (first + 1) len (omega arith))
  | false ↦ not_among test n (first + 1) len (omega arith)
]

-- a number of a range is among those that pass just where it passes
among_passing : (test : ℕ → Bool) (n first len : ℕ) → first ≤ n → n < first + len → among n (filter test (range_with_len first len)) ≡ test n
among_passing test n first zero l u = absurd (omega arith)
among_passing test n first (suc len) l u = elim (n == first) as (λ v. (n == first) ≡ v → among n (cond (test first) (first ∷ filter test (range_with_len (first + 1) len)) (filter test (range_with_len (first + 1) len))) ≡ test n) [
  | true ↦ λ e. elim (test first) as (λ t. test first ≡ t → among n (cond t (first ∷ filter test (range_with_len (first + 1) len)) (filter test (range_with_len (first + 1) len))) ≡ test n) [
    | true ↦ λ t. rw e (sym (ap test (eqb-true n first e) ∙ t))
    | false ↦ λ t. not_among test n (first + 1) len (let same = eqb-true n first e in omega arith) ∙ sym (ap test (eqb-true n first e) ∙ t)
  ] refl
  | false ↦ λ e. elim (test first) as (λ t. among n (cond t (first ∷ filter test (range_with_len (first + 1) len)) (filter test (range_with_len (first + 1) len))) ≡ test n) [
    | true ↦ rw e (among_passing test n (first + 1) len (let other = eqb-false n first e in omega arith) (omega arith))
    | false ↦ among_passing test n (first + 1) len (let other = eqb-false n first e in omega arith) (omega arith)
  ]
] refl

pub among_members : (set n : ℕ) → n < 64 → among n (members set) ≡ is_in set n
unfolding members_from
among_members set n l = among_passing (λ node. is_in set node) n 0 64 (omega arith) (omega arith)

pub not_among_members : (set n : ℕ) → 64 ≤ n → among n (members set) ≡ false
not_among_members set n l = past_end n 0 64 (members set) l (members_ascend set)

or_same : (a b : Bool) → (a || (a || b)) ≡ (a || b)
or_same true b = refl
or_same false b = refl

among_joined : (q n : ℕ) (ns : List ℕ) → among q (joined nat_cmp n ns) ≡ ((q == n) || among q ns)
among_joined q n [] = refl
among_joined q n (m ∷ ns) = elim (nat_cmp n m) as (λ r. MatchOrdering r (n < m) (n ≡ m) (m < n) → among q (by_order r (n ∷ m ∷ ns) (m ∷ ns) (m ∷ joined nat_cmp n ns)) ≡ ((q == n) || ((q == m) || among q ns))) [
  | Less ↦ λ o. refl
  | Equal ↦ λ o. sym (ap (λ k. (q == k) || ((q == m) || among q ns)) o ∙ or_same (q == m) (among q ns))
  | Greater ↦ λ o. ap (λ b. (q == m) || b) (among_joined q n ns) ∙ or_swap (q == m) (q == n) (among q ns)
] (ranks n m)

pub or_false : (b : Bool) → (b || false) ≡ b
or_false true = refl
or_false false = refl

and_false : (b : Bool) → (b && false) ≡ false
and_false true = refl
and_false false = refl

and_swap : (a b : Bool) → (a && b) ≡ (b && a)
and_swap true true = refl
and_swap true false = refl
and_swap false true = refl
and_swap false false = refl

among_filter : (test : ℕ → Bool) (q : ℕ) (ns : List ℕ) → among q (filter test ns) ≡ (among q ns && test q)
among_filter test q [] = refl
among_filter test q (n ∷ ns) = elim (q == n) as (λ s. (q == n) ≡ s → among q (cond (test n) (n ∷ filter test ns) (filter test ns)) ≡ ((s || among q ns) && test q)) [
  | true ↦ λ e. elim (test n) as (λ t. test n ≡ t → among q (cond t (n ∷ filter test ns) (filter test ns)) ≡ test q) [
    | true ↦ λ t. rw e (sym (ap test (eqb-true q n e) ∙ t))
    | false ↦ λ t. among_filter test q ns ∙ ap (λ b. among q ns && b) (ap test (eqb-true q n e) ∙ t) ∙ and_false (among q ns) ∙ sym (ap test (eqb-true q n e) ∙ t)
  ] refl
  | false ↦ λ e. elim (test n) as (λ t. among q (cond t (n ∷ filter test ns) (filter test ns)) ≡ (among q ns && test q)) [
    | true ↦ rw e (among_filter test q ns)
    | false ↦ among_filter test q ns
  ]
] refl

among_range : (q first len : ℕ) → first ≤ q → among q (range_with_len first len) ≡ nat_lt q (first + len)
among_range q first zero l = grind (arith, nat_tests)
among_range q first (suc len) l =
    let further : first + 1 + len ≡ first + suc len = omega arith in
    elim (q == first) as (λ v. (q == first) ≡ v → (v || among q (range_with_len (first + 1) len)) ≡ nat_lt q (first + suc len)) [
      | true ↦ λ e. sym (lt-ltb q (first + suc len) (let same = eqb-true q first e in omega arith))
      | false ↦ λ e. among_range q (first + 1) len (let other = eqb-false q first e in omega arith) ∙ ap (nat_lt q) further
    ] refl

-- ---- sets by their bits

-- a set has just the ascending nodes whose bits it has
pub members_are : (set : ℕ) (ns : List ℕ) → Ascend 0 64 ns → ((q : ℕ) → q < 64 → is_in set q ≡ among q ns) → members set ≡ ns
members_are set ns a h = same_nodes 64 64 (members set) ns (members_ascend set) a (λ q. elim (nat_lt q 64) as (λ t. nat_lt q 64 ≡ t → among q (members set) ≡ among q ns) [
  | true ↦ λ e. among_members set q (ltb-true q 64 e) ∙ h q (ltb-true q 64 e)
  | false ↦ λ e. not_among_members set q (ltb-false q 64 e) ∙ sym (past_end q 0 64 ns (ltb-false q 64 e) a)
] refl)

pub members_none : members 0 ≡ []
members_none = members_are 0 [] tt (λ q l. ap (λ b. nat_eq b 1) (bit_at-zero q))

pub members_below : (nodes : ℕ) → nodes ≤ 64 → members ((2 ^ 64 - 1) / 2 ^ (64 - nodes)) ≡ range_with_len 0 nodes
members_below nodes few =
    let all : 0 + nodes ≡ nodes = omega arith in
    members_are ((2 ^ 64 - 1) / 2 ^ (64 - nodes)) (range_with_len 0 nodes) (range_ascend 0 nodes 64 (omega (arith, few)))
    (λ q l. in_below nodes q few ∙ sym (among_range q 0 nodes (omega arith) ∙ ap (nat_lt q) all))

pub members_with : (old new node : ℕ) → node < 64 → ((q : ℕ) → is_in new q ≡ ((q == node) || is_in old q)) → members new ≡ joined nat_cmp node (members old)
members_with old new node l h = members_are new (joined nat_cmp node (members old)) (joined_ascend 0 64 node (members old) (omega arith) l (members_ascend old))
    (λ q low. h q ∙ ap (λ b. (q == node) || b) (sym (among_members old q low)) ∙ sym (among_joined q node (members old)))

pub members_without : (old new node : ℕ) → ((q : ℕ) → q < 64 → is_in new q ≡ (not (q == node) && is_in old q)) → members new ≡ but_one node (members old)
members_without old new node h = members_are new (but_one node (members old)) (filter_ascend (λ other. not (node == other)) 0 64 (members old) (members_ascend old))
    (λ q low. h q low ∙ (λ i. not (nat_eq_equiv.symm q node i) && sym (among_members old q low) i) ∙ and_swap (not (node == q)) (among q (members old)) ∙ sym (among_filter (λ other. not (node == other)) q (members old)))

pub members_both : (a b new : ℕ) → ((q : ℕ) → is_in new q ≡ (is_in a q && is_in b q)) → members new ≡ filter (λ node. among node (members b)) (members a)
members_both a b new h = members_are new (filter (λ node. among node (members b)) (members a)) (filter_ascend (λ node. among node (members b)) 0 64 (members a) (members_ascend a))
    (λ q low. h q ∙ (λ i. sym (among_members a q low) i && sym (among_members b q low) i) ∙ sym (among_filter (λ node. among node (members b)) q (members a)))

pub members_either : (a b new : ℕ) → ((q : ℕ) → is_in new q ≡ (is_in a q || is_in b q)) → members new ≡ filter (λ node. among node (members a) || among node (members b)) (range_with_len 0 64)
members_either a b new h = members_are new (filter (λ node. among node (members a) || among node (members b)) (range_with_len 0 64)) (filter_ascend (λ node. among node (members a) || among node (members b)) 0 64 (range_with_len 0 64) (range_ascend 0 64 64 (omega arith)))
    (λ q low. h q ∙ (λ i. sym (among_members a q low) i || sym (among_members b q low) i) ∙ sym (among_passing (λ node. among node (members a) || among node (members b)) q 0 64 (omega arith) (omega (arith, low))))

-- ---- how many there are

half_small : (m k : ℕ) → m < 2 ^ suc k → m / 2 < 2 ^ k
half_small m k l = omega (arith, pow-suc 2 k)

counted : (set first len m : ℕ) → set / 2 ^ first ≡ m → m < 2 ^ len → length (filter (λ node. is_in set node) (range_with_len first len)) ≡ count_ones m
counted set first zero m e l = omega (arith, ones-le 0 m l)
counted set first (suc len) m e l =
    let rest = counted set (first + 1) len (m / 2) (sym (shr-shr set first 1) ∙ ap (λ k. k / 2) e) (half_small m len l) in
    let here : is_in set first ≡ nat_eq (m % 2) 1 = ap (λ k. nat_eq (k % 2) 1) e in
    elim (is_in set first) as (λ t. is_in set first ≡ t → length (cond t (first ∷ filter (λ node. is_in set node) (range_with_len (first + 1) len)) (filter (λ node. is_in set node) (range_with_len (first + 1) len))) ≡ count_ones m) [
      | true ↦ λ t. omega (arith, rest, ones_step m, eqb-true (m % 2) 1 (sym here ∙ t))
      | false ↦ λ t. omega (arith, rest, ones_step m, eqb-false (m % 2) 1 (sym here ∙ t))
    ] refl

pub count_members : (set : ℕ) → set < 2 ^ 64 → count_ones set ≡ length (members set)
unfolding members_from
count_members set l = sym (counted set 0 64 set (omega arith) l)

-- ---- one after another

pub from_in : (set node : ℕ) → node < 64 → is_in set node ≡ true → members_from node set ≡ node ∷ members_from (node + 1) set
unfolding members_from
from_in set node l t =
    let more : 64 - node ≡ suc (64 - (node + 1)) = omega arith in
    ap (λ len. filter (λ n. is_in set n) (range_with_len node len)) more ∙ ap (λ b. cond b (node ∷ members_from (node + 1) set) (members_from (node + 1) set)) t

pub from_out : (set node : ℕ) → node < 64 → is_in set node ≡ false → members_from node set ≡ members_from (node + 1) set
unfolding members_from
from_out set node l t =
    let more : 64 - node ≡ suc (64 - (node + 1)) = omega arith in
    ap (λ len. filter (λ n. is_in set n) (range_with_len node len)) more ∙ ap (λ b. cond b (node ∷ members_from (node + 1) set) (members_from (node + 1) set)) t

pub from_end : (set node : ℕ) → 64 ≤ node → members_from node set ≡ []
unfolding members_from
from_end set node l = let none : 64 - node ≡ 0 = omega arith in ap (λ len. filter (λ n. is_in set n) (range_with_len node len)) none

pub nth_here : (set node left : ℕ) → node < 64 → is_in set node ≡ true → left ≡ 0 → slice_get (members_from node set) left ≡ Some node
nth_here set node left l t none = ap (λ ns. slice_get ns left) (from_in set node l t) ∙ ap (slice_get (node ∷ members_from (node + 1) set)) none

pub nth_later : (set node left fewer : ℕ) → node < 64 → is_in set node ≡ true → left ≡ suc fewer → slice_get (members_from node set) left ≡ slice_get (members_from (node + 1) set) fewer
nth_later set node left fewer l t one = ap (λ ns. slice_get ns left) (from_in set node l t) ∙ ap (slice_get (node ∷ members_from (node + 1) set)) one

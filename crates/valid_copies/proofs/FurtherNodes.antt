-- The nodes that a file further goes to: first those above its own, then those below.
use Rattle.std.proofs.Common.{◌≡◌, ℕ, zero, suc, ◌+◌, ◌-◌, ◌<◌, true, false, cond, nat_lt, List, [], ◌∷◌, ◌++◌, length, take, Option, refl, sym, ap, subst, ◌∙◌, arith}
use Rattle.std.specs.List.{filter, range_with_len}
use Rattle.std.proofs.lemmas.List.Elements.{filter-append}
use Rattle.std.proofs.lemmas.Bool.{lt-ltb, ltb-true}
use Rattle.hal_outside.specs.DiskTold.{DiskTold}
use Rattle.hal_outside.specs.Told.{OnTold}
use Rattle.replica_table.specs.Copies.{Replicas}
use Rattle.replica_table.specs.Sets.{among}
use Rattle.run_model.specs.Attempts.{nodes_behind}
use Rattle.run_model.specs.Lists.{below}
use Rattle.valid_copies.proofs.Others.{others_more, others_none}
use Rattle.valid_copies.proofs.Written.{among_both, some_later, some_sooner, writes_more, wrote_more}
use Rattle.valid_copies.specs.Stands.{OthersStay}
use Rattle.valid_copies.specs.Writes.{Wrote, WroteSome, writes_at}
use Rattle.valid_copies.specs.steps.Further.{Further, may_get, nodes_between}

-- the first n of two lists
take_both : {A : Type 0} (n : ℕ) (xs ys : List A) → take n (xs ++ ys) ≡ take n xs ++ take (n - length (take n xs)) ys
take_both zero xs ys = refl
take_both (suc n) [] ys = let same : suc n ≡ suc n - 0 = omega arith in ap (λ k. take k ys) same
take_both (suc n) (x ∷ xs) ys =
    let same : n - length (take n xs) ≡ suc n - suc (length (take n xs)) = omega arith in
    ap (λ zs. x ∷ zs) (take_both n xs ys ∙ ap (λ k. take n xs ++ take k ys) same)

-- ---- numbers above one

above_all : (own a n : ℕ) → own < a → filter (λ k. nat_lt own k) (range_with_len a n) ≡ range_with_len a n
above_all own a zero l = refl
above_all own a (suc n) l =
    ap (λ t. cond t (a ∷ filter (λ k. nat_lt own k) (range_with_len (a + 1) n)) (filter (λ k. nat_lt own k) (range_with_len (a + 1) n))) (lt-ltb own a l)
    ∙ ap (λ ns. a ∷ ns) (above_all own (a + 1) n (omega (arith, l)))

above_from : (own a k n : ℕ) → a + k ≡ own + 1 → filter (λ m. nat_lt own m) (range_with_len a (k + n)) ≡ range_with_len (own + 1) n
above_from own a zero n e =
    let same : zero + n ≡ n = omega arith in
    let start : a ≡ own + 1 = omega (arith, e) in
    ap (λ len. filter (λ m. nat_lt own m) (range_with_len a len)) same ∙ above_all own a n (omega (arith, e)) ∙ ap (λ b. range_with_len b n) start
above_from own a (suc k) n e =
    let more : suc k + n ≡ suc (k + n) = omega arith in
    ap (λ len. filter (λ m. nat_lt own m) (range_with_len a len)) more
    ∙ ap (λ t. cond t (a ∷ filter (λ m. nat_lt own m) (range_with_len (a + 1) (k + n))) (filter (λ m. nat_lt own m) (range_with_len (a + 1) (k + n)))) (not_above own a (omega (arith, e)))
    ∙ above_from own (a + 1) k n (omega (arith, e))
  where
    not_above : (own a : ℕ) → a < own + 1 → nat_lt own a ≡ false
    not_above own a l = elim (nat_lt own a) as (λ t. nat_lt own a ≡ t → t ≡ false) [
      | true ↦ λ e. absurd (omega (arith, l, ltb-true own a e))
      | false ↦ λ e. refl
    ] refl

above : (nodes own : ℕ) → own < nodes → filter (λ m. nat_lt own m) (below nodes) ≡ range_with_len (own + 1) (nodes - (own + 1))
above nodes own l =
    let parts : nodes ≡ (own + 1) + (nodes - (own + 1)) = omega (arith, l) in
    ap (λ len. filter (λ m. nat_lt own m) (range_with_len 0 len)) parts ∙ above_from own 0 (own + 1) (nodes - (own + 1)) (omega arith)

-- the nodes above the own one, and then those below, are those behind it
pub both_between : (it : Further) (nodes own most : ℕ) → own < nodes
    → nodes_between it (own + 1) nodes most ++ nodes_between it 0 own (most - length (nodes_between it (own + 1) nodes most)) ≡ take most (filter (may_get it.up it.holders) (nodes_behind nodes own))
both_between it nodes own most l =
    let less : own - 0 ≡ own = omega arith in
    let high : List ℕ = range_with_len (own + 1) (nodes - (own + 1)) in
    ap (λ len. nodes_between it (own + 1) nodes most ++ take (most - length (nodes_between it (own + 1) nodes most)) (filter (may_get it.up it.holders) (range_with_len 0 len))) less
    ∙ sym (take_both most (filter (may_get it.up it.holders) high) (filter (may_get it.up it.holders) (below own)))
    ∙ ap (take most) (sym (filter-append (may_get it.up it.holders) high (below own)) ∙ ap (λ ns. filter (may_get it.up it.holders) (ns ++ below own)) (sym (above nodes own l)))

-- ---- the file is written on them

module _ (it : Further) (up holders : List ℕ) (copies most nodes own left : ℕ) (ups : it.up ≡ up) (holds : it.holders ≡ holders) (number : most ≡ copies - length holders) (within : own < nodes) (fewer : left ≡ most - length (nodes_between it (own + 1) nodes most)) where
  abbrev high : List ℕ
  high = nodes_between it (own + 1) nodes most

  abbrev low : List ℕ
  low = nodes_between it 0 own left

  -- the nodes that the file goes to
  abbrev goals : List ℕ
  goals = take (copies - length holders) (filter (may_get up holders) (nodes_behind nodes own))

  both_are : high ++ low ≡ goals
  both_are =
      ap (λ n. high ++ nodes_between it 0 own n) fewer
      ∙ both_between it nodes own most within
      ∙ ap (λ n. take n (filter (may_get it.up it.holders) (nodes_behind nodes own))) number
      ∙ ap (λ ns. take (copies - length holders) (filter (may_get ns it.holders) (nodes_behind nodes own))) ups
      ∙ ap (λ ns. take (copies - length holders) (filter (may_get up ns) (nodes_behind nodes own))) holds

  writes_are : writes_at high it.name it.bytes ++ writes_at low it.name it.bytes ≡ writes_at goals it.name it.bytes
  writes_are = sym (writes_more high low it.name it.bytes) ∙ ap (λ ns. writes_at ns it.name it.bytes) both_are

  module _ (before between : Option DiskTold) (old middle : Replicas) where
    pub further_written : (after : Option DiskTold) (new : Replicas) → Wrote before old (writes_at high it.name it.bytes) middle between → Wrote between middle (writes_at low it.name it.bytes) new after → Wrote before old (writes_at goals it.name it.bytes) new after
    further_written after new a b = subst (λ writes. Wrote before old writes new after) writes_are (wrote_more before between after old middle new (writes_at high it.name it.bytes) (writes_at low it.name it.bytes) a b)

    pub further_later : (after : Option DiskTold) (new : Replicas) → Wrote before old (writes_at high it.name it.bytes) middle between → WroteSome between middle (writes_at low it.name it.bytes) new after → WroteSome before old (writes_at goals it.name it.bytes) new after
    further_later after new a s = subst (λ writes. WroteSome before old writes new after) writes_are (some_later before between after old middle new (writes_at high it.name it.bytes) (writes_at low it.name it.bytes) a s)

    pub further_sooner : WroteSome before old (writes_at high it.name it.bytes) middle between → WroteSome before old (writes_at goals it.name it.bytes) middle between
    further_sooner s = subst (λ writes. WroteSome before old writes middle between) writes_are (some_sooner before between old middle (writes_at high it.name it.bytes) (writes_at low it.name it.bytes) s)

  pub further_others : (before between after : Option DiskTold) → OnTold (OthersStay high) before between → OnTold (OthersStay low) between after → OnTold (OthersStay goals) before after
  further_others before between after a b = others_more high low goals before between after (λ n e. among_both n high low (subst (λ ns. among n ns ≡ false) (sym both_are) e)) a b

  pub further_others_first : (before between : Option DiskTold) → OnTold (OthersStay high) before between → OnTold (OthersStay goals) before between
  further_others_first before between a = further_others before between between a (others_none low between)

-- Calls of a load, as far as they were made.
use Rattle.std.proofs.Common.{◌≡◌, ◌⊎◌, inl, inr, ℕ, zero, suc, ◌+◌, ◌-◌, ◌<◌, ◌≤◌, [], ◌∷◌, ◌++◌, Option, map, sym, ap, subst, ◌∙◌, arith}
use Rattle.std.specs.List.{range_with_len}
use Rattle.std.proofs.lemmas.List.{append-nil, map-append}
use Rattle.hal_outside.specs.DiskCalls.{Wipe}
use Rattle.hal_outside.specs.DiskTold.{DiskTold}
use Rattle.loop_scheduler.proofs.Ranges.{from_on}
use Rattle.run_model.specs.Lists.{below}
use Rattle.valid_copies.proofs.Coming.{added_more}
use Rattle.valid_copies.specs.Calls.{Added}
use Rattle.cluster_core.specs.Filling.{AddedSome}

-- ---- numbers

ranges : (a m n : ℕ) → range_with_len a (m + n) ≡ range_with_len a m ++ range_with_len (a + m) n
ranges a zero n =
    let same : zero + n ≡ n = omega arith in
    let from : a ≡ a + zero = omega arith in
    ap (range_with_len a) same ∙ ap (λ b. range_with_len b n) from
ranges a (suc m) n =
    let more : suc m + n ≡ suc (m + n) = omega arith in
    let from : (a + 1) + m ≡ a + suc m = omega arith in
    ap (range_with_len a) more ∙ ap (λ ns. a ∷ ns) (ranges (a + 1) m n ∙ ap (λ b. range_with_len (a + 1) m ++ range_with_len b n) from)

-- the numbers below one, and those from it on
pub cut_below : (k n : ℕ) → k ≤ n → below k ++ from_on k n ≡ below n
cut_below k n l =
    let whole : n ≡ k + (n - k) = omega (arith, l) in
    sym (ap (range_with_len 0) whole ∙ ranges 0 k (n - k) ∙ ap (λ b. below k ++ range_with_len b (n - k)) (zero_more k))
  where
    zero_more : (k : ℕ) → 0 + k ≡ k
    zero_more k = omega arith

one_below : (k : ℕ) → below k ++ k ∷ [] ≡ below (k + 1)
one_below k =
    let zero_more : 0 + k ≡ k = omega arith in
    sym (ranges 0 k 1 ∙ ap (λ b. below k ++ b ∷ []) zero_more)

-- ---- nodes that are wiped

pub wiped_more : (k : ℕ) (before between after : Option DiskTold) → Added before (map Wipe (below k)) between → Added between (Wipe k ∷ []) after → Added before (map Wipe (below (k + 1))) after
wiped_more k before between after a b =
    subst (λ calls. Added before calls after) (sym (map-append Wipe (below k) (k ∷ [])) ∙ ap (map Wipe) (one_below k)) (added_more before between after (map Wipe (below k)) (Wipe k ∷ []) a b)

some_wiped : (k nodes : ℕ) (before after : Option DiskTold) → k ≤ nodes → Added before (map Wipe (below k)) after → AddedSome (map Wipe (below nodes)) before after
some_wiped k nodes before after l a = record {
  calls = map Wipe (below k);
  left = map Wipe (from_on k nodes);
  whole = sym (map-append Wipe (below k) (from_on k nodes)) ∙ ap (map Wipe) (cut_below k nodes l);
  added = a;
}

pub wipes_begun : (k nodes : ℕ) (before between after : Option DiskTold) → k < nodes → Added before (map Wipe (below k)) between → Added between [] after ⊎ Added between (Wipe k ∷ []) after → AddedSome (map Wipe (below nodes)) before after
wipes_begun k nodes before between after l a (inl b) = some_wiped k nodes before after (omega arith) (subst (λ calls. Added before calls after) (append-nil (map Wipe (below k))) (added_more before between after (map Wipe (below k)) [] a b))
wipes_begun k nodes before between after l a (inr b) = some_wiped (k + 1) nodes before after (omega arith) (wiped_more k before between after a b)

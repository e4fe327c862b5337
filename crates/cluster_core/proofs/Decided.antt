-- Whether a round is decided, and what its decision tells of the chain.
use Rattle.std.proofs.Common.{◌≡◌, ◌<◌, ◌≤◌, ℕ, add-one, ◌+◌, ◌==◌, ◌&&◌, ◌||◌, Bool, true, false, cond, nat_lt, nat_le, min, sum, List, [], ◌∷◌, Option, None, Some, length, slice_get, map, refl, sym, ap, ◌∙◌, arith}
use Rattle.std.proofs.lemmas.Bool.{eq-eqb, eqb-true, le-leb, le-ltb, lt-ltb, ltb-false, ne_eqb}
use Rattle.std.proofs.lemmas.Bool.Decides.{nat_tests}
use Rattle.std.specs.Prelude.{if◌then◌else◌}
use Rattle.counter_report.specs.declared.journal.EndWord.TheVariants.{Limit}
use Rattle.fixpoint_test.specs.Decisions.{Decides, IsFar}
use Rattle.fixpoint_test.specs.Follows.{Follows, IsDistanceOf}
use Rattle.fixpoint_test.specs.declared.decision.Next.{Next}
use Rattle.fixpoint_test.specs.declared.decision.Next.TheVariants as next
use Rattle.name_values.specs.Values.{World}
use Rattle.plain_job.specs.Ends.{Ends, EndsBy, Reaches, round_distance}
use Rattle.task_values.specs.Tests.{test_of}
use Rattle.task_values.proofs.Testing.{tests_make}
use Rattle.fixpoint_test.proofs.Deciding.{decisions_tell}
use Rattle.task_values.specs.Worlds.{WorldFits}
use Rattle.counter_report.specs.declared.journal.EndWord.{EndWord}
use Rattle.counter_report.specs.declared.journal.EndWord.TheVariants.{Fixpoint, Close}
use Rattle.cluster_core.specs.Deciding.{Tells, chain_decision, decision_of, end_of, known_values, near_word, total_of}
use Rattle.cluster_core.specs.Turns.{DecidesSo, GoesOnUntil}
use Rattle.std.specs.List.{list_all, range_with_len}
use Rattle.replica_table.specs.Sets.{among}
use Rattle.run_model.specs.Advance.{is_decided}
use Rattle.run_model.specs.Needs.{is_up}
use Rattle.run_model.specs.State.{Setup, bare}
use Rattle.run_model.specs.Tasks.{last_outs, test_count}
use Rattle.cluster_core.specs.States.{Kept, is_known, known_in, plain_of}
use Rattle.cluster_core.proofs.Known.{all_is}

-- a later round with its parts is decided where each value is known
pub decided_by : (setup : Setup) (kept : Kept) → length kept.values ≡ test_count setup.shape → list_all (is_up (bare kept.table.copies) kept.table.up) (last_outs setup.shape kept.round) ≡ true → 2 ≤ kept.round
    → list_all is_known kept.values ≡ is_decided setup (plain_of setup.schedule kept)
decided_by setup kept tests parts late =
    sym (all_is kept.values)
    ∙ ap (λ n. list_all (λ p. among p (known_in kept.values)) (range_with_len 0 n)) tests
    ∙ ap (λ b. b || list_all (λ p. among p (known_in kept.values)) (range_with_len 0 (test_count setup.shape))) (sym (le-ltb kept.round 2 late))
    ∙ ap (λ b. b && (nat_lt kept.round 2 || list_all (λ p. among p (known_in kept.values)) (range_with_len 0 (test_count setup.shape)))) (sym parts)

-- ---- what a decision tells

values_are : (w : World) (i k : ℕ) (values : List (Option ℕ)) → list_all is_known values ≡ true → ((p value : ℕ) → slice_get values p ≡ Some (Some value) → value ≡ test_of w i (k + p)) → known_values values ≡ map (test_of w i) (range_with_len k (length values))
values_are w i k [] all right = refl
values_are w i k (None ∷ values) all right = cc
values_are w i k (Some value ∷ values) all right =
    ap (λ v. v ∷ known_values values) (right 0 value refl ∙ ap (test_of w i) (none k))
    ∙ ap (λ vs. test_of w i k ∷ vs) (values_are w i (k + 1) values all (λ p v e. right (p + 1) v (later values p v e) ∙ ap (test_of w i) (shift k p)))
  where
    none : (k : ℕ) → k + 0 ≡ k
    none k = omega arith

    shift : (k p : ℕ) → k + (p + 1) ≡ k + 1 + p
    shift k p = omega arith

    later : (values : List (Option ℕ)) (p v : ℕ) → slice_get values p ≡ Some (Some v) → slice_get (Some value ∷ values) (p + 1) ≡ Some (Some v)
    later values p v e = ap (slice_get (Some value ∷ values)) (add-one p) ∙ e

-- the total of right values is the distance of the round
pub total_is : (w : World) (i : ℕ) (values : List (Option ℕ)) → WorldFits w → 2 ≤ i → i ≤ w.shape.rounds → list_all is_known values ≡ true → length values ≡ test_count w.shape
    → ((p value : ℕ) → slice_get values p ≡ Some (Some value) → value ≡ test_of w i p) → total_of values ≡ round_distance w.means w.shape w.tables i
total_is w i values fits late in_time all count right =
    ap (λ vs. min (sum vs) 9223372036854775807) (values_are w i 0 values all (λ p v e. right p v e ∙ ap (test_of w i) (none p)) ∙ ap (λ n. map (test_of w i) (range_with_len 0 n)) count)
    ∙ tests_make w fits i late in_time
  where
    none : (p : ℕ) → p ≡ 0 + p
    none p = omega arith

late_is : (i : ℕ) → nat_le 2 i ≡ true → 2 ≤ i
late_is i e = grind (arith, nat_tests)

less_is : (a b : ℕ) → nat_lt a b ≡ true → a < b
less_is a b e = grind (arith, nat_tests)

module _ (w : World) (i : ℕ) (values : List (Option ℕ)) (fits : WorldFits w) (begun : 1 ≤ i) (in_time : i ≤ w.shape.rounds) (reached : Reaches w.means w.shape w.tables i)
    (all : 2 ≤ i → (list_all is_known values ≡ true) × (length values ≡ test_count w.shape))
    (right : (p value : ℕ) → slice_get values p ≡ Some (Some value) → value ≡ test_of w i p) where
  total : 2 ≤ i → total_of values ≡ round_distance w.means w.shape w.tables i
  total late = total_is w i values fits late in_time (all late).0 (all late).1 right

  follows : (given : Option ℕ) (next : Next) → IsDistanceOf w.means w.shape w.tables i given → Decides i given w.shape.threshold w.shape.exact w.shape.rounds next → Follows w.means w.shape w.tables i next
  follows given next distance decides = decisions_tell w.means w.shape w.tables i given next reached distance decides

  near : nat_le 2 i ≡ true → nat_lt (total_of values) w.shape.threshold ≡ true → (exact : Bool) → w.shape.exact ≡ exact → Tells w i (Some (near_word exact))
  near late less true e = follows (Some (total_of values)) next.Fixpoint (late_is i late, total (late_is i late)) (e, less_is (total_of values) w.shape.threshold less)
  near late less false e = follows (Some (total_of values)) next.Close (late_is i late, total (late_is i late)) (e, less_is (total_of values) w.shape.threshold less)

  far : (given : Option ℕ) → IsDistanceOf w.means w.shape w.tables i given → IsFar given w.shape.threshold → Tells w i (if i == w.shape.rounds then Some Limit else None)
  far given distance is_far = elim (i == w.shape.rounds) as (λ b. i == w.shape.rounds ≡ b → Tells w i (cond b (Some Limit) None)) [
    | true ↦ λ e. follows given next.Limit distance (eqb-true i w.shape.rounds e, is_far)
    | false ↦ λ e. follows given next.Again distance (less i w.shape.rounds in_time e, is_far)
  ] refl
    where
      less : (i n : ℕ) → i ≤ n → (i == n) ≡ false → i < n
      less i n l e = grind (arith, nat_tests)

  -- the decision on a round that the chain comes to tells what follows
  pub decision_tells : Tells w i (decision_of w.shape i values)
  decision_tells = elim (nat_le 2 i) as (λ b. nat_le 2 i ≡ b → Tells w i (if b && nat_lt (total_of values) w.shape.threshold then Some (near_word w.shape.exact) else if i == w.shape.rounds then Some Limit else None)) [
    | true ↦ λ late. elim (nat_lt (total_of values) w.shape.threshold) as (λ b. nat_lt (total_of values) w.shape.threshold ≡ b → Tells w i (if b then Some (near_word w.shape.exact) else if i == w.shape.rounds then Some Limit else None)) [
      | true ↦ λ less. near late less w.shape.exact refl
      | false ↦ λ less. far (Some (total_of values)) (late_is i late, total (late_is i late)) (ltb-false (total_of values) w.shape.threshold less)
    ] refl
    | false ↦ λ late. far None (first i begun late) tt
  ] refl
    where
      first : (i : ℕ) → 1 ≤ i → nat_le 2 i ≡ false → i ≡ 1
      first i begun late = grind (arith, nat_tests)

-- ---- the decisions of the chain

-- a total that is the distance of the round makes the decision of the chain
pub same_decision : (w : World) (i : ℕ) (values : List (Option ℕ)) → (2 ≤ i → total_of values ≡ round_distance w.means w.shape w.tables i) → chain_decision w i ≡ decision_of w.shape i values
same_decision w i values total =
    elim (nat_le 2 i) as (λ b. nat_le 2 i ≡ b → cond (b && nat_lt (round_distance w.means w.shape w.tables i) w.shape.threshold) (Some (near_word w.shape.exact)) (cond (i == w.shape.rounds) (Some Limit) None) ≡ cond (b && nat_lt (total_of values) w.shape.threshold) (Some (near_word w.shape.exact)) (cond (i == w.shape.rounds) (Some Limit) None)) [
      | true ↦ λ late. ap (λ far. cond (nat_lt far w.shape.threshold) (Some (near_word w.shape.exact)) (cond (i == w.shape.rounds) (Some Limit) None)) (sym (total (late_is i late)))
      | false ↦ λ late. refl
    ] refl

module _ (w : World) (i : ℕ) where
  -- a round that is not near the one before ends the loop only as the last
  far_is : (2 ≤ i → w.shape.threshold ≤ round_distance w.means w.shape w.tables i) → chain_decision w i ≡ cond (i == w.shape.rounds) (Some Limit) None
  far_is far = elim (nat_le 2 i) as (λ b. nat_le 2 i ≡ b → cond (b && nat_lt (round_distance w.means w.shape w.tables i) w.shape.threshold) (Some (near_word w.shape.exact)) (cond (i == w.shape.rounds) (Some Limit) None) ≡ cond (i == w.shape.rounds) (Some Limit) None) [
    | true ↦ λ late. ap (λ b. cond b (Some (near_word w.shape.exact)) (cond (i == w.shape.rounds) (Some Limit) None)) (le-ltb (round_distance w.means w.shape w.tables i) w.shape.threshold (far (late_is i late)))
    | false ↦ λ late. refl
  ] refl

  near_is : 2 ≤ i → round_distance w.means w.shape w.tables i < w.shape.threshold → chain_decision w i ≡ Some (near_word w.shape.exact)
  near_is late less =
      ap (λ b. cond (b && nat_lt (round_distance w.means w.shape w.tables i) w.shape.threshold) (Some (near_word w.shape.exact)) (cond (i == w.shape.rounds) (Some Limit) None)) (le-leb 2 i late)
      ∙ ap (λ b. cond b (Some (near_word w.shape.exact)) (cond (i == w.shape.rounds) (Some Limit) None)) (lt-ltb (round_distance w.means w.shape w.tables i) w.shape.threshold less)

-- the loop goes on in each round before one that the chain comes to
pub goes_until : (w : World) (i : ℕ) → Reaches w.means w.shape w.tables i → GoesOnUntil i (chain_decision w)
goes_until w i reached k l = far_is w k (λ late. reached.not_before k late l) ∙ ap (λ b. cond b (Some Limit) None) (ne_eqb k w.shape.rounds (unlike k i w.shape.rounds l reached.within.1))
  where
    unlike : (k i n : ℕ) → k < i → i ≤ n → k ≡ n → ⊥
    unlike k i n l m e = omega (arith, l, m, e)

-- and where it ends, it decides so
pub chain_ends : (w : World) (i : ℕ) (word : EndWord) → Ends w.means w.shape w.tables i (end_of word) → DecidesSo i (Some word) (chain_decision w)
chain_ends w i word ends = (goes_until w i ends.reached, by word ends.by)
  where
    by : (word : EndWord) → EndsBy w.means w.shape w.tables i (end_of word) → chain_decision w i ≡ Some word
    by Fixpoint e = near_is w i e.1 e.2 ∙ ap (λ b. Some (near_word b)) e.0
    by Close e = near_is w i e.1 e.2 ∙ ap (λ b. Some (near_word b)) e.0
    by Limit e = far_is w i e.1 ∙ ap (λ b. cond b (Some Limit) None) (eq-eqb i w.shape.rounds e.0)

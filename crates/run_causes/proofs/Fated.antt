-- Which nodes are down and wiped, one event after another.
use Rattle.std.proofs.Common.{◌≡◌, inl, inr, ℕ, true, false, ◌&&◌, ◌||◌, not, cond, List, [], ◌∷◌, ◌++◌, refl, sym, ap, subst, ◌∙◌, ◌==◌}
use Rattle.std.proofs.lemmas.Bool.{eq-eqb, eqb-true, false_from_ne_true, false≢true}
use Rattle.std.specs.Ordering.{nat_cmp}
use Rattle.hal_base.specs.Sorted.{joined}
use Rattle.replica_table.specs.Sets.{among, but_one}
use Rattle.schedule_text.specs.declared.schedule.Event.{Event}
use Rattle.schedule_text.specs.declared.schedule.Event.TheVariants as event
use Rattle.schedule_text.specs.declared.schedule.Event.TheVariants.{Back, Busy, Done, Fail, Idle, Lose, Round}
use Rattle.run_model.specs.Lists.{IsIn}
use Rattle.run_laws.proofs.Members.{from_filter, in_either, in_filter}
use Rattle.run_laws.proofs.Numbers.{in_among, is_among, with_other, with_there}
use Rattle.run_causes.specs.Fates.{Fates, fates, fates_from, lost_nodes, with_event}

-- ---- one event more

from_more : (f : Fates) (events : List Event) (e : Event) → fates_from f (events ++ e ∷ []) ≡ with_event e (fates_from f events)
from_more f [] e = refl
from_more f (x ∷ events) e = from_more (with_event x f) events e

pub fates_more : (events : List Event) (e : Event) → fates (events ++ e ∷ []) ≡ with_event e (fates events)
fates_more events e = from_more (record { down = []; wiped = [] }) events e

-- ---- nodes that are taken out, and put in

pub among_but : (n q : ℕ) (ns : List ℕ) → among q (but_one n ns) ≡ (not (n == q) && among q ns)
among_but n q ns = elim (among q (but_one n ns)) as (λ v. among q (but_one n ns) ≡ v → v ≡ (not (n == q) && among q ns)) [
  | true ↦ λ e. let m = from_filter (λ k. not (n == k)) q ns (in_among q (but_one n ns) e) in rw (m.1, is_among q ns m.0) refl
  | false ↦ λ e. sym (false_from_ne_true (not (n == q) && among q ns) (λ t. false≢true (sym e ∙ left t)))
] refl
  where
    left : (not (n == q) && among q ns) ≡ true → among q (but_one n ns) ≡ true
    left t = elim (not (n == q)) as (λ v. not (n == q) ≡ v → (v && among q ns) ≡ true → among q (but_one n ns) ≡ true) [
      | true ↦ λ e a. is_among q (but_one n ns) (in_filter (λ k. not (n == k)) q ns (in_among q ns a) e)
      | false ↦ λ e a. absurd (false≢true a)
    ] refl t

pub among_join : (n q : ℕ) (ns : List ℕ) → among q (joined nat_cmp n ns) ≡ ((q == n) || among q ns)
among_join n q ns = elim (q == n) as (λ v. (q == n) ≡ v → among q (joined nat_cmp n ns) ≡ (v || among q ns)) [
  | true ↦ λ e. subst (λ k. among k (joined nat_cmp n ns) ≡ true) (sym (eqb-true q n e)) (with_there n ns)
  | false ↦ λ e. with_other n q ns (λ s. false≢true (sym e ∙ eq-eqb q n s))
] refl

-- ---- nodes that go

-- all nodes that are down or were wiped are such
pub record AllGone (P : ℕ → Type 0) (f : Fates) : Type 0 where
  pub each_down : (n : ℕ) → IsIn n f.down → P n
  pub each_wiped : (n : ℕ) → IsIn n f.wiped → P n

-- where `lose` events name such nodes alone
module _ (P : ℕ → Type 0) where
  after_event : (e : Event) (f : Fates) → ((n : ℕ) → e ≡ Lose n → P n) → AllGone P f → AllGone P (with_event e f)
  after_event (Lose n) f p h = elim (among n f.down) as (λ v. AllGone P (cond v f (record f { down = n ∷ f.down }))) [
    | true ↦ h
    | false ↦ record { each_down = λ q i. elim i [ inl e ↦ subst P (sym e) (p n refl) | inr j ↦ h.each_down q j ]; each_wiped = h.each_wiped }
  ]
  after_event (Back n) f p h = record { each_down = λ q i. h.each_down q (from_filter (λ k. not (n == k)) q f.down i).0; each_wiped = h.each_wiped }
  after_event (event.Wipe n) f p h = elim (among n f.down) as (λ v. among n f.down ≡ v → AllGone P (cond v (record f { wiped = f.wiped ++ n ∷ [] }) f)) [
    | true ↦ λ a. record { each_down = h.each_down; each_wiped = λ q i. elim (in_either q f.wiped (n ∷ []) i) [ inl j ↦ h.each_wiped q j | inr j ↦ alone q j (h.each_down n (in_among n f.down a)) ] }
    | false ↦ λ a. h
  ] refl
    where
      alone : (q : ℕ) → IsIn q (n ∷ []) → P n → P q
      alone q (inl e) x = subst P (sym e) x
      alone q (inr j) x = elim j [ ]
  after_event (Done n) f p h = h
  after_event (Fail n) f p h = h
  after_event (Busy n) f p h = h
  after_event (Idle n) f p h = h
  after_event (Round n) f p h = h

  after_events : (events : List Event) (f : Fates) → ((n : ℕ) → IsIn (Lose n) events → P n) → AllGone P f → AllGone P (fates_from f events)
  after_events [] f p h = h
  after_events (e ∷ events) f p h = after_events events (with_event e f) (λ n i. p n (inr i)) (after_event e f (λ n s. p n (inl (sym s))) h)

same_lost : (n m : ℕ) → Lose n ≡ Lose m → n ≡ m
same_lost n m s = cc

further_lost : (n m : ℕ) (ns : List ℕ) → IsIn n ns → IsIn n (m ∷ but_one m ns)
further_lost n m ns j = elim (m == n) as (λ v. (m == n) ≡ v → IsIn n (m ∷ but_one m ns)) [
  | true ↦ λ s. inl (sym (eqb-true m n s))
  | false ↦ λ s. inr (in_filter (λ k. not (m == k)) n ns j (ap not s))
] refl

in_lost : (n : ℕ) (events : List Event) → IsIn (Lose n) events → IsIn n (lost_nodes events)
in_lost n [] i = elim i [ ]
in_lost n (Lose m ∷ events) (inl s) = inl (same_lost n m s)
in_lost n (Lose m ∷ events) (inr j) = further_lost n m (lost_nodes events) (in_lost n events j)
in_lost n (Done m ∷ events) (inl s) = cc
in_lost n (Done m ∷ events) (inr j) = in_lost n events j
in_lost n (Fail m ∷ events) (inl s) = cc
in_lost n (Fail m ∷ events) (inr j) = in_lost n events j
in_lost n (Back m ∷ events) (inl s) = cc
in_lost n (Back m ∷ events) (inr j) = in_lost n events j
in_lost n (event.Wipe m ∷ events) (inl s) = cc
in_lost n (event.Wipe m ∷ events) (inr j) = in_lost n events j
in_lost n (Busy m ∷ events) (inl s) = cc
in_lost n (Busy m ∷ events) (inr j) = in_lost n events j
in_lost n (Idle m ∷ events) (inl s) = cc
in_lost n (Idle m ∷ events) (inr j) = in_lost n events j
in_lost n (Round m ∷ events) (inl s) = cc
in_lost n (Round m ∷ events) (inr j) = in_lost n events j

-- each node that is down or was wiped is one that was lost
pub gone_is_lost : (events : List Event) → AllGone (λ n. IsIn n (lost_nodes events)) (fates events)
gone_is_lost events = after_events (λ n. IsIn n (lost_nodes events)) events (record { down = []; wiped = [] }) (λ n i. in_lost n events i) (record { each_down = λ n i. elim i [ ]; each_wiped = λ n i. elim i [ ] })

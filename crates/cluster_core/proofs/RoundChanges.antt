-- The plan by which the next round begins, from its steps.
use Rattle.std.proofs.Common.{◌≡◌, ◌<◌, ℕ, suc, ◌+◌, List, [], ◌∷◌, ◌++◌, Option, None, map, refl, sym, ap, ◌∙◌, subst}
use Rattle.std.specs.List.{AllByRecursion}
use Rattle.hal_outside.specs.DiskTold.{DiskTold}
use Rattle.counter_report.specs.declared.journal.Entry.{Entry}
use Rattle.counter_report.specs.declared.journal.Entry.TheVariants as line
use Rattle.schedule_text.specs.declared.schedule.Schedule.{Schedule}
use Rattle.replica_table.specs.Sets.{Ascend}
use Rattle.run_model.specs.Advance.{next_round}
use Rattle.run_model.specs.Plans.{Plan, gives}
use Rattle.run_model.specs.Removals.{clear}
use Rattle.run_model.specs.State.{Copy, PlainCluster, Setup, noted, with_copies}
use Rattle.valid_copies.proofs.Following.{begun_first, follows_bind}
use Rattle.valid_copies.specs.Calls.{Begun, Follows}
use Rattle.valid_copies.specs.Faults as work
use Rattle.valid_copies.specs.declared.fault.WorkFault.{WorkFault}
use Rattle.valid_copies.specs.declared.fault.WorkFault.TheVariants.{Device, Memory, Missed}
use Rattle.cluster_core.specs.Faults.{StoppedIn}
use Rattle.cluster_core.specs.RoundChange.{dropped, entered, in_next}
use Rattle.cluster_core.specs.States.{Kept, known_from, known_in, plain_of}

-- ---- values and nodes

none_from : (p : ℕ) (values : List (Option ℕ)) → known_from p (map (λ (_ : Option ℕ). None) values) ≡ []
none_from p [] = refl
none_from p (v ∷ values) = none_from (suc p) values

-- of values that are forgotten none is known
pub none_known : (values : List (Option ℕ)) → known_in (map (λ (_ : Option ℕ). None) values) ≡ []
none_known values = none_from 0 values

-- the state in which the next round begins
pub entered_is : (schedule : Schedule) (kept : Kept) (values : List (Option ℕ)) (journal : List Entry) → values ≡ map (λ (_ : Option ℕ). None) kept.values → journal ≡ kept.journal ++ line.Round (kept.round + 1) ∷ []
    → plain_of schedule (record kept { round = kept.round + 1; values = values; journal = journal }) ≡ entered (plain_of schedule kept)
entered_is schedule kept values journal forgotten told =
    let none : known_in values ≡ [] = ap known_in forgotten ∙ none_known kept.values in
    ap (λ ns. record (entered (plain_of schedule kept)) { known = ns; journal = journal }) none ∙ ap (λ lines. record (entered (plain_of schedule kept)) { journal = lines }) told

pub all_under : (first end : ℕ) (ns : List ℕ) → Ascend first end ns → AllByRecursion (λ n. n < end) ns
all_under first end [] a = tt
all_under first end (n ∷ ns) a = (a.1, all_under (n + 1) end ns a.2)

-- ---- the plan

-- a plan in which no read missed, and that stopped
pub stopped_by : {A : Type 0} (plan : Plan A) (before after : Option DiskTold) (fault : WorkFault) → work.AtMissed fault ⊥ → Begun plan before after → StoppedIn plan before after fault
stopped_by plan before after (Device device) m b = b
stopped_by plan before after Missed m b = absurd m
stopped_by plan before after Memory m b = b

-- a cluster in the next round, before it is cleared
abbrev pub to_clear : PlainCluster → PlainCluster
to_clear c = in_next (dropped c)

module _ (setup : Setup) (c d : PlainCluster) (before after : Option DiskTold) (left : d ≡ dropped c) where
  up_is : d.up ≡ c.up
  up_is = ap (λ (x : PlainCluster). x.up) left

  pub same_copies : (to_clear c).copies ≡ d.copies
  same_copies = sym (ap (λ (x : PlainCluster). x.copies) left)

  pub clears_begun : Begun (clear setup d.up (to_clear c)) before after → Begun (next_round setup c) before after
  clears_begun b = begun_first (clear setup c.up (to_clear c)) (λ next. gives (noted (line.Round next.round ∷ []) next)) before after (subst (λ up. Begun (clear setup up (to_clear c)) before after) up_is b)

  pub clears_follows : (copies : List Copy) → Follows (clear setup d.up (to_clear c)) before after (gives (with_copies copies (to_clear c))) → Follows (next_round setup c) before after (gives (noted (line.Round (c.round + 1) ∷ []) (with_copies copies (to_clear c))))
  clears_follows copies f =
      follows_bind (clear setup c.up (to_clear c)) (gives (with_copies copies (to_clear c))) (λ next. gives (noted (line.Round next.round ∷ []) next)) before after
      (subst (λ up. Follows (clear setup up (to_clear c)) before after (gives (with_copies copies (to_clear c)))) up_is f)

  pub moves_on : (copies : List Copy) (e new : PlainCluster) → e ≡ with_copies copies d → new ≡ entered e → Follows (clear setup d.up (to_clear c)) before after (gives (with_copies copies (to_clear c))) → Follows (next_round setup c) before after (gives new)
  moves_on copies e new cleared begins f = subst (λ (x : PlainCluster). Follows (next_round setup c) before after (gives x)) (sym (begins ∙ ap entered (cleared ∙ ap (with_copies copies) left))) (clears_follows copies f)

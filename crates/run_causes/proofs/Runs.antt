-- What holds of each state of a run: by its schedule, by the reads that missed, and by what each turn keeps.
use Rattle.std.proofs.Common.{◌≡◌, ℕ, zero, suc, List, Option, arith}
use Rattle.counter_report.specs.declared.journal.EndWord.{EndWord}
use Rattle.run_model.specs.Lists.{number_of}
use Rattle.run_model.specs.PlanLaws.{Always}
use Rattle.run_model.specs.Plans.{Leaves, Made, Plan, Refusal, asks, does, gives, refuses}
use Rattle.run_model.specs.Reading.{misses}
use Rattle.run_model.specs.Runs.{loaded, state_of, turns, unless_ended}
use Rattle.run_model.specs.State.{PlainCluster, Setup}
use Rattle.run_model.specs.Turns.{Turned, acted, ends, turn}
use Rattle.run_laws.specs.Refusals.{Cause, Caused}
use Rattle.run_laws.specs.States.{Fits}
use Rattle.run_laws.proofs.Causing.{then_caused, turns_have_causes}
use Rattle.run_laws.proofs.Plans.{always_leaves, always_then, caused_leaves}
use Rattle.run_causes.specs.States.{FollowsSchedule, MissesAreStruck, MissesAreTold, OnState, StatesFollowTheSchedule, is_missed}
use Rattle.run_causes.proofs.Along.{Along, along_bound, along_leaves}
use Rattle.run_causes.proofs.Told.{follows, loaded_told}
use Rattle.run_causes.proofs.Walking.{KTurned, Q, turns_along}

-- ---- by the schedule and the misses

module _ (setup : Setup) (fits : Fits setup) (decisions : ℕ → Option EndWord) (n : ℕ) (made : List Made) (rest : Plan Turned) (l : Leaves (turns n setup decisions (loaded setup)) made rest) where
  counted : Along (KTurned setup fits) (Q setup) (number_of is_missed made) rest
  counted = along_leaves (KTurned setup fits) (Q setup) 0 (number_of is_missed made) (turns n setup decisions (loaded setup)) rest made (turns_along setup fits n decisions 0 (loaded setup) (loaded_told setup, omega arith)) l (omega arith)

  pub states_follow : OnState (FollowsSchedule setup) rest
  states_follow = go rest counted
    where
      go : (rest : Plan Turned) → Along (KTurned setup fits) (Q setup) (number_of is_missed made) rest → OnState (FollowsSchedule setup) rest
      go (gives turned) h = follows setup (number_of is_missed made) (state_of turned) h.0
      go (refuses c why) h = follows setup (number_of is_missed made) c h.0
      go (does call plan) h = tt
      go (asks node name next) h = tt

  pub misses_told : MissesAreTold made rest
  misses_told = record {
    told = go rest counted;
    few = along_bound (KTurned setup fits) (Q setup) 1000 (number_of is_missed made) rest (λ m turned h. let s = h.1 in omega arith) (λ m c h. h.1) counted;
  }
    where
      go : (rest : Plan Turned) → Along (KTurned setup fits) (Q setup) (number_of is_missed made) rest → OnState (λ c. misses c ≡ number_of is_missed made) rest
      go (gives turned) h = h.0.struck
      go (refuses c why) h = h.0.struck
      go (does call plan) h = tt
      go (asks node name next) h = tt

pub states_follow_the_schedule : StatesFollowTheSchedule
states_follow_the_schedule setup decisions n made rest fits l = states_follow setup fits decisions n made rest l

pub misses_are_struck : MissesAreStruck
misses_are_struck setup decisions n made rest fits l = misses_told setup fits decisions n made rest l

-- ---- by turns

module _ (setup : Setup) (decisions : ℕ → Option EndWord) where
  -- what each turn keeps, turns keep
  pub turns_keep : (P : PlainCluster → Type 0) → ((decision : Option EndWord) (c : PlainCluster) → P c → Always (λ turned. P (state_of turned)) P (turn setup decision c)) → (n : ℕ) (c : PlainCluster) → P c → Always (λ turned. P (state_of turned)) P (turns n setup decisions c)
  turns_keep P keeps zero c p = p
  turns_keep P keeps (suc n) c p = always_then P (λ turned. P (state_of turned)) (λ turned. P (state_of turned)) (turn setup (decisions c.round) c) (unless_ended (turns n setup decisions)) (keeps (decisions c.round) c p) (go (turns_keep P keeps n))
    where
      go : ((d : PlainCluster) → P d → Always (λ turned. P (state_of turned)) P (turns n setup decisions d)) → (turned : Turned) → P (state_of turned) → Always (λ turned. P (state_of turned)) P (unless_ended (turns n setup decisions) turned)
      go again (acted d) h = again d h
      go again (ends d end) h = h

  -- so it is of the state in which a run is refused
  pub refused_keeps : (P : PlainCluster → Type 0) → ((decision : Option EndWord) (c : PlainCluster) → P c → Always (λ turned. P (state_of turned)) P (turn setup decision c)) → (n : ℕ) (made : List Made) (c : PlainCluster) (why : Refusal) → P (loaded setup) → Leaves (turns n setup decisions (loaded setup)) made (refuses c why) → P c
  refused_keeps P keeps n made c why p l = always_leaves (λ turned. P (state_of turned)) P (turns n setup decisions (loaded setup)) (refuses c why) made (turns_keep P keeps n (loaded setup) p) l

  turns_caused : (n : ℕ) (c : PlainCluster) → Caused (Cause setup) (turns n setup decisions c)
  turns_caused zero c = tt
  turns_caused (suc n) c = then_caused setup (turn setup (decisions c.round) c) (unless_ended (turns n setup decisions)) (turns_have_causes setup (decisions c.round) c) (go (turns_caused n))
    where
      go : ((d : PlainCluster) → Caused (Cause setup) (turns n setup decisions d)) → (turned : Turned) → Caused (Cause setup) (unless_ended (turns n setup decisions) turned)
      go again (acted d) = again d
      go again (ends d end) = tt

  pub refused_caused : (n : ℕ) (made : List Made) (c : PlainCluster) (why : Refusal) → Leaves (turns n setup decisions (loaded setup)) made (refuses c why) → Cause setup c why
  refused_caused n made c why l = caused_leaves (Cause setup) (turns n setup decisions (loaded setup)) (refuses c why) made (turns_caused n (loaded setup)) l

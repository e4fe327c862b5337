-- Tasks that start, one after another.
use Rattle.std.proofs.Common.{◌≡◌, ◌<◌, ℕ, zero, suc, ◌+◌, ◌-◌, ◌*◌, refl, sym, ap, ◌∙◌, subst, arith}
use Rattle.run_laws.specs.States.{Fits}
use Rattle.run_laws.specs.WithoutLoss.{StaysOrderly}
use Rattle.run_laws.proofs.UnmissedTurns.{starts_stay_orderly}
use Rattle.run_model.specs.Start.{start, start_one, start_some}
use Rattle.run_model.specs.State.{PlainCluster, Setup}
use Rattle.cluster_core.specs.States.{Seen}

-- so many starts are left
pub record SoFar (first now : Seen) (at end : ℕ) : Type 0 where
  pub all : end ≡ first.setup.schedule.nodes * first.setup.schedule.slots
  pub setup : now.setup ≡ first.setup
  pub table : now.kept.table ≡ first.kept.table
  pub values : now.kept.values ≡ first.kept.values
  pub round : now.kept.round ≡ first.kept.round
  pub failures : now.plain.failures ≡ first.plain.failures
  pub orderly : StaysOrderly now.setup now.plain
  pub rest : start_some first.setup (end - at) now.plain ≡ start first.setup first.plain

pub still : (setup : Setup) (n : ℕ) (c : PlainCluster) → start_one setup c ≡ c → start_some setup n c ≡ c
still setup zero c e = refl
still setup (suc n) c e = ap (start_some setup n) e ∙ still setup n c e

pub begun : (first : Seen) → StaysOrderly first.setup first.plain → SoFar first first 0 (first.setup.schedule.nodes * first.setup.schedule.slots)
begun first o = record { all = refl; setup = refl; table = refl; values = refl; round = refl; failures = refl; orderly = o; rest = ap (λ n. start_some first.setup n first.plain) (none (first.setup.schedule.nodes * first.setup.schedule.slots)) }
  where
    none : (n : ℕ) → n - 0 ≡ n
    none n = omega arith

less : (end at : ℕ) → at < end → end - at ≡ suc (end - (at + 1))
less end at l = omega (arith, l)

-- one more has started
pub one_more : (first now new : Seen) (at end : ℕ) → Fits now.setup → SoFar first now at end → at < end → start_one now.setup now.plain ≡ new.plain
    → new.setup ≡ now.setup → new.kept.table ≡ now.kept.table → new.kept.values ≡ now.kept.values → new.kept.round ≡ now.kept.round → new.plain.failures ≡ now.plain.failures → SoFar first new (at + 1) end
one_more first now new at end fits s l one setup table values round failures = record {
  all = s.all;
  setup = setup ∙ s.setup;
  table = table ∙ s.table;
  values = values ∙ s.values;
  round = round ∙ s.round;
  failures = failures ∙ s.failures;
  orderly = subst (λ (t : Setup). StaysOrderly t new.plain) (sym setup) (subst (StaysOrderly now.setup) one (starts_stay_orderly now.setup 1 now.plain fits s.orderly));
  rest = ap (start_some first.setup (end - (at + 1))) (sym one ∙ ap (λ (t : Setup). start_one t now.plain) s.setup) ∙ sym (ap (λ n. start_some first.setup n now.plain) (less end at l)) ∙ s.rest;
}

-- none was left to start
pub none_left : (first now : Seen) (at end : ℕ) → SoFar first now at end → start_one now.setup now.plain ≡ now.plain → now.plain ≡ start first.setup first.plain
none_left first now at end s one = sym (still first.setup (end - at) now.plain (ap (λ (t : Setup). start_one t now.plain) (sym s.setup) ∙ one)) ∙ s.rest

pub all_started : (first now : Seen) (at end : ℕ) → SoFar first now at end → end ≡ at → now.plain ≡ start first.setup first.plain
all_started first now at end s e = ap (λ n. start_some first.setup n now.plain) none ∙ s.rest
  where
    none : 0 ≡ end - at
    none = omega (arith, e)

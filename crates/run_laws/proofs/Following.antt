-- Turns after turns, by the calls that were made.
use Rattle.std.proofs.Common.{append_assoc, ◌≡◌, ℕ, zero, suc, List, [], ◌∷◌, ◌++◌, Option, refl, sym, ap, subst, ◌∙◌}
use Rattle.counter_report.specs.declared.journal.EndWord.{EndWord}
use Rattle.run_model.proofs.PlanSteps.{leaves_more, leaves_split, leaves_then}
use Rattle.run_model.specs.Advance.{advance_if, pass}
use Rattle.run_model.specs.Plans.{Leaves, Made, Plan, gives, ◌>>=◌}
use Rattle.run_model.specs.Runs.{load, loaded, run, turns, unless_ended}
use Rattle.run_model.specs.State.{PlainCluster, Setup}
use Rattle.run_model.specs.Turns.{Turned, acted, ends, go_on, turn}
use Rattle.run_laws.specs.Turns.{DecidesWhereDecided, LoadThenTurns, OneTurnMore, SameOutcome, as_turns}

same_acted : (c d : PlainCluster) → gives (acted c) ≡ gives (acted d) → c ≡ d
same_acted c d e = cc

never_acted : (c d : PlainCluster) (end : EndWord) → gives (ends d end) ≡ gives (acted c) → ⊥
never_acted c d end e = cc

after_turn : (n : ℕ) (setup : Setup) (decisions : ℕ → Option EndWord) (d : PlainCluster) (more : List Made) (rest : Plan Turned)
    → ((c : PlainCluster) (second : List Made) → Leaves (turns n setup decisions c) second (gives (acted d)) → Leaves (turns (suc n) setup decisions c) (second ++ more) (as_turns setup decisions rest))
    → (given : Turned) (second : List Made) → Leaves (unless_ended (turns n setup decisions) given) second (gives (acted d)) → Leaves (unless_ended (turns (suc n) setup decisions) given) (second ++ more) (as_turns setup decisions rest)
after_turn n setup decisions d more rest again (acted c) second h = again c second h
after_turn n setup decisions d more rest again (ends c end) [] h = absurd (never_acted d c end h)
after_turn n setup decisions d more rest again (ends c end) (m ∷ second) h = elim h [ ]

pub one_turn_more : OneTurnMore
one_turn_more zero setup decisions c d [] more rest a b =
    subst (λ x. Leaves (turns 1 setup decisions x) more (as_turns setup decisions rest)) (sym (same_acted c d a))
    (leaves_then (turn setup (decisions d.round) d) rest (unless_ended (turns 0 setup decisions)) more b)
one_turn_more zero setup decisions c d (m ∷ made) more rest a b = elim a [ ]
one_turn_more (suc n) setup decisions c d made more rest a b =
    let s = leaves_split (turn setup (decisions c.round) c) (unless_ended (turns n setup decisions)) made (acted d) a in
    subst (λ ms. Leaves (turns (suc (suc n)) setup decisions c) ms (as_turns setup decisions rest)) (sym (ap (λ ms. ms ++ more) s.both ∙ append_assoc s.first s.second more))
    (leaves_more (turns (suc (suc n)) setup decisions c) (unless_ended (turns (suc n) setup decisions) s.given) (as_turns setup decisions rest) s.first (s.second ++ more)
    (leaves_then (turn setup (decisions c.round) c) (gives s.given) (unless_ended (turns (suc n) setup decisions)) s.first s.begins)
    (after_turn n setup decisions d more rest (λ x second h. one_turn_more n setup decisions x d second more rest h b) s.given s.second s.goes_on))

pub same_outcome : SameOutcome
same_outcome setup decisions = (as_it_came, λ c why. refl)
  where
    as_it_came : (turned : Turned) → as_turns setup decisions (gives turned) ≡ gives turned
    as_it_came (acted c) = refl
    as_it_came (ends c end) = refl

pub decides_where_decided : DecidesWhereDecided
decides_where_decided setup one other c e = ap (λ advanced. (advanced >>= (λ a. gives (pass a))) >>= go_on setup) (ap (advance_if setup one c) e ∙ sym (ap (advance_if setup other c) e))

pub load_then_turns : LoadThenTurns
load_then_turns n setup decisions made more rest a b = leaves_more (run n setup decisions) (turns n setup decisions (loaded setup)) rest made more (leaves_then (load setup) (gives (loaded setup)) (turns n setup decisions) made a) b

use Rattle.std.proofs.Common.{◌≡◌, ◌∷◌, ◌+◌, ◌==◌, List, drop, false, sym, subst}
use Rattle.std.specs.List.{list_any}
use Rattle.schedule_text.specs.declared.schedule.Event.TheVariants as event
use Rattle.run_model.specs.declared.attempt.Attempt.{Attempt}
use Rattle.cluster_core.specs.Running.{IsFirst}
use Rattle.cluster_core.specs.States.{Seen}
use Rattle.cluster_core.specs.Works.{CanWork}
use Rattle.cluster_core.proofs.Inside.{plain_in, setup_in}
use Rattle.cluster_core.proofs.Happening.{can_later, fail_first, fail_none, fail_refused}
use Rattle.cluster_core.proofs.state.State.fail_on.Goals as goal

pub fail-requires-clause-works : goal.fail-requires-clause-works
fail-requires-clause-works c = can_later (setup_in c.self.inside) (plain_in c.self.inside) (drop (c.self.inside.spent + 1) c.self.inside.schedule.events) (subst (λ (s : Seen). CanWork s.setup s.plain) (sym c.self.view_is) c.requires.works)

pub returns-in-Some-clause-acted : goal.returns-in-Some-clause-acted
returns-in-Some-clause-acted c =
    let first : IsFirst (λ (a : Attempt). c.args.node == a.node) c.self.inside.running.items c.in-Some.at = subst (λ (running : List Attempt). IsFirst (λ (a : Attempt). c.args.node == a.node) running c.in-Some.at) c.deref.ensures.value c.in-Some.ensures in
    let next = subst (λ (s : Seen). s.plain.events ≡ event.Fail c.args.node ∷ drop (s.kept.spent + 1) s.setup.schedule.events) (sym c.self.view_is) c.requires.next in
    rw (sym c.self.view_is) (fail_first (setup_in c.self.inside) (plain_in c.self.inside) c.fail.new.self.plain c.args.node (drop (c.self.inside.spent + 1) c.self.inside.schedule.events) c.in-Some.at c.fail.result next first c.fail.ensures.acted)

pub returns-in-Some-clause-refused : goal.returns-in-Some-clause-refused
returns-in-Some-clause-refused c =
    let first : IsFirst (λ (a : Attempt). c.args.node == a.node) c.self.inside.running.items c.in-Some.at = subst (λ (running : List Attempt). IsFirst (λ (a : Attempt). c.args.node == a.node) running c.in-Some.at) c.deref.ensures.value c.in-Some.ensures in
    let next = subst (λ (s : Seen). s.plain.events ≡ event.Fail c.args.node ∷ drop (s.kept.spent + 1) s.setup.schedule.events) (sym c.self.view_is) c.requires.next in
    rw (sym c.self.view_is) (fail_refused (setup_in c.self.inside) (plain_in c.self.inside) c.fail.new.self.plain c.args.node (drop (c.self.inside.spent + 1) c.self.inside.schedule.events) c.in-Some.at c.fail.result next first c.fail.ensures.refused)

pub returns-in_ok-skip-in-None-clause-acted : goal.returns-in_ok-skip-in-None-clause-acted
returns-in_ok-skip-in-None-clause-acted c =
    let none = subst (λ (running : List Attempt). list_any (λ (a : Attempt). c.args.node == a.node) running ≡ false) c.deref.ensures.value c.in-None.ensures in
    let next = subst (λ (s : Seen). s.plain.events ≡ event.Fail c.args.node ∷ drop (s.kept.spent + 1) s.setup.schedule.events) (sym c.self.view_is) c.requires.next in
    rw (sym c.self.view_is) (fail_none (setup_in c.self.inside) (plain_in c.self.inside) c.skip.new.self.plain c.args.node (drop (c.self.inside.spent + 1) c.self.inside.schedule.events) next none c.in_ok-skip-in-None.ensures.noted)

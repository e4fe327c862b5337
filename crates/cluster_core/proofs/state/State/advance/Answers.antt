use Rattle.std.proofs.Common.{◌≡◌, ◌+◌, ℕ, map, true, None, Option, Some, IfErr, IfOk, ap, sym, subst, ◌∙◌}
use Rattle.counter_report.specs.declared.journal.EndWord.{EndWord}
use Rattle.run_model.specs.Advance.{Advanced, advance, goes_on, is_decided}
use Rattle.run_model.specs.Plans.{Plan, gives}
use Rattle.valid_copies.specs.Calls.{Follows}
use Rattle.run_laws.specs.States.{Timely}
use Rattle.cluster_core.specs.Deciding.{Tells, decision_of}
use Rattle.cluster_core.specs.Faults.{StoppedIn}
use Rattle.cluster_core.specs.States.{Seen}
use Rattle.cluster_core.specs.Turns.{Rightly, advance_by, advanced_to, decision_in}
use Rattle.cluster_core.proofs.Inside.{kept_in, setup_in}
use Rattle.cluster_core.proofs.Rightness.{decided_tells, next_stands, same_stands}
use Rattle.cluster_core.proofs.Onward.{begins_next, decided, stops_next}
use Rattle.cluster_core.proofs.state.State.advance.Goals as goal

pub returns-in-Ok-clause-advanced : goal.returns-in-Ok-clause-advanced
returns-in-Ok-clause-advanced g c =
    let is : is_decided c.args.self.now.setup c.args.self.now.plain ≡ true = sym c.is_decided.ensures.decided ∙ c.if-not-is_decided.false in
    let by : decision_in c.args.self.now ≡ None = subst (λ (t : Seen). decision_in t ≡ None) c.self.view_is (sym (c.in-Ok-None.ensures ∙ ap (decision_of c.self.inside.shape c.self.inside.round) c.deref.ensures.value) ∙ c.in-Ok-None.field-0-is) in
    let plan : advance c.args.self.now.setup (decision_in c.args.self.now) c.args.self.now.plain ≡ advance_by c.args.self.now.setup (None) c.args.self.now.plain = decided c.args.self.now.setup (decision_in c.args.self.now) c.args.self.now.plain is ∙ ap (λ (d : Option EndWord). advance_by c.args.self.now.setup d c.args.self.now.plain) by in
    subst (λ (p : Plan Advanced). Follows p (g.D.Disks.told c.args.disks.now) (g.D.Disks.told c.next_round.new.disks) (gives (goes_on c.pass-in-Ok.new.self.plain))) (sym plan) (begins_next c.args.self.now.setup c.args.self.now.plain c.next_round.new.self.plain c.pass-in-Ok.new.self.plain (g.D.Disks.told c.args.disks.now) (g.D.Disks.told c.next_round.new.disks) c.in-Ok.ensures.begun c.pass-in-Ok.ensures.passed)

pub returns-in-Err-next_round-clause-stopped : goal.returns-in-Err-next_round-clause-stopped
returns-in-Err-next_round-clause-stopped g c =
    let is : is_decided c.args.self.now.setup c.args.self.now.plain ≡ true = sym c.is_decided.ensures.decided ∙ c.if-not-is_decided.false in
    let by : decision_in c.args.self.now ≡ None = subst (λ (t : Seen). decision_in t ≡ None) c.self.view_is (sym (c.in-Ok-None.ensures ∙ ap (decision_of c.self.inside.shape c.self.inside.round) c.deref.ensures.value) ∙ c.in-Ok-None.field-0-is) in
    let plan : advance c.args.self.now.setup (decision_in c.args.self.now) c.args.self.now.plain ≡ advance_by c.args.self.now.setup (None) c.args.self.now.plain = decided c.args.self.now.setup (decision_in c.args.self.now) c.args.self.now.plain is ∙ ap (λ (d : Option EndWord). advance_by c.args.self.now.setup d c.args.self.now.plain) by in
    subst (λ (p : Plan Advanced). StoppedIn p (g.D.Disks.told c.args.disks.now) (g.D.Disks.told c.next_round.new.disks) c.in-Err-next_round.fault) (sym plan) (stops_next c.args.self.now.setup c.args.self.now.plain (g.D.Disks.told c.args.disks.now) (g.D.Disks.told c.next_round.new.disks) c.in-Err-next_round.fault c.in-Err-next_round.ensures.stopped)

pub returns-in-Ok-Some-clause-advanced : goal.returns-in-Ok-Some-clause-advanced
returns-in-Ok-Some-clause-advanced g c =
    let is : is_decided c.args.self.now.setup c.args.self.now.plain ≡ true = sym c.is_decided.ensures.decided ∙ c.if-not-is_decided.false in
    let by : decision_in c.args.self.now ≡ Some c.in-Ok-Some.end = subst (λ (t : Seen). decision_in t ≡ Some c.in-Ok-Some.end) c.self.view_is (sym (c.in-Ok-Some.ensures ∙ ap (decision_of c.self.inside.shape c.self.inside.round) c.deref.ensures.value) ∙ c.in-Ok-Some.field-0-is) in
    let plan : advance c.args.self.now.setup (decision_in c.args.self.now) c.args.self.now.plain ≡ advance_by c.args.self.now.setup (Some c.in-Ok-Some.end) c.args.self.now.plain = decided c.args.self.now.setup (decision_in c.args.self.now) c.args.self.now.plain is ∙ ap (λ (d : Option EndWord). advance_by c.args.self.now.setup d c.args.self.now.plain) by in
    subst (λ (p : Plan Advanced). IfOk c.end_with.result (λ finished. Follows p (g.D.Disks.told c.args.disks.now) (g.D.Disks.told c.end_with.new.disks) (gives (advanced_to finished c.end_with.new.self.plain)))) (sym plan) c.end_with.ensures.read

pub returns-in-Ok-Some-clause-stopped : goal.returns-in-Ok-Some-clause-stopped
returns-in-Ok-Some-clause-stopped g c =
    let is : is_decided c.args.self.now.setup c.args.self.now.plain ≡ true = sym c.is_decided.ensures.decided ∙ c.if-not-is_decided.false in
    let by : decision_in c.args.self.now ≡ Some c.in-Ok-Some.end = subst (λ (t : Seen). decision_in t ≡ Some c.in-Ok-Some.end) c.self.view_is (sym (c.in-Ok-Some.ensures ∙ ap (decision_of c.self.inside.shape c.self.inside.round) c.deref.ensures.value) ∙ c.in-Ok-Some.field-0-is) in
    let plan : advance c.args.self.now.setup (decision_in c.args.self.now) c.args.self.now.plain ≡ advance_by c.args.self.now.setup (Some c.in-Ok-Some.end) c.args.self.now.plain = decided c.args.self.now.setup (decision_in c.args.self.now) c.args.self.now.plain is ∙ ap (λ (d : Option EndWord). advance_by c.args.self.now.setup d c.args.self.now.plain) by in
    subst (λ (p : Plan Advanced). IfErr c.end_with.result (StoppedIn p (g.D.Disks.told c.args.disks.now) (g.D.Disks.told c.end_with.new.disks))) (sym plan) c.end_with.ensures.stopped

pub returns-in-Ok-clause-right : goal.returns-in-Ok-clause-right
returns-in-Ok-clause-right g c = λ v right.
    let r = subst (λ (s : Seen). Rightly v s.setup.shape (g.D.Disks.shows_damage c.args.disks.now) (g.D.Disks.told c.args.disks.now) s.kept) (sym c.self.view_is) right in
    let decided = subst (λ (s : Seen). is_decided s.setup s.plain ≡ true) (sym c.self.view_is) (sym c.is_decided.ensures.decided ∙ c.if-not-is_decided.false) in
    let time = subst (λ (s : Seen). Timely s.setup s.plain.round s.plain.events) (sym c.self.view_is) c.requires.orderly.reached.time in
    let tells = decided_tells v (setup_in c.self.inside) (g.D.Disks.shows_damage c.args.disks.now) (g.D.Disks.told c.args.disks.now) (kept_in c.self.inside) r c.self.invariant.tests decided time.begun time.in_time in
    let goes_on : decision_of c.self.inside.shape c.self.inside.round c.self.inside.values.items ≡ None = sym (c.in-Ok-None.ensures ∙ ap (decision_of c.self.inside.shape c.self.inside.round) c.deref.ensures.value) ∙ c.in-Ok-None.field-0-is in
    let copies = c.in-Ok.ensures.values v right.stands.copies in
    let next = next_stands v (kept_in c.self.inside) c.next_round.new.self.kept (g.D.Disks.told c.next_round.new.disks) (subst (Tells v c.self.inside.round) goes_on tells) copies (c.in-Ok.ensures.forgotten ∙ ap (λ (s : Seen). map (λ (_ : Option ℕ). None) s.kept.values) (sym c.self.view_is)) (c.in-Ok.ensures.next ∙ ap (λ (s : Seen). s.kept.round + 1) (sym c.self.view_is)) in
    same_stands v c.next_round.new.self.kept c.pass-in-Ok.new.self.kept (g.D.Disks.told c.next_round.new.disks) c.pass-in-Ok.ensures.table c.pass-in-Ok.ensures.values c.pass-in-Ok.ensures.round next

pub returns-in-Ok-clause-calls : goal.returns-in-Ok-clause-calls
returns-in-Ok-clause-calls g c = λ w s. c.in-Ok.ensures.calls w

pub returns-in-Err-next_round-clause-calls : goal.returns-in-Err-next_round-clause-calls
returns-in-Err-next_round-clause-calls g c = λ w s. c.in-Err-next_round.ensures.calls w

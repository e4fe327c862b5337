use Rattle.std.proofs.Common.{refl, ◌≡◌, ◌<◌, [], List, None, Option, sym, subst, ◌∙◌}
use Rattle.node_names.specs.declared.task.Task.{Task}
use Rattle.run_laws.specs.WithoutLoss.{StaysOrderly}
use Rattle.run_model.specs.Acts.{act, failures_of}
use Rattle.run_model.specs.Advance.{advance}
use Rattle.run_model.specs.Plans.{gives}
use Rattle.run_model.specs.Start.{start}
use Rattle.run_model.specs.State.{Setup}
use Rattle.run_model.specs.Turns.{acted, ends}
use Rattle.run_model.specs.declared.attempt.Failed.{Failed}
use Rattle.valid_copies.specs.Calls.{Follows}
use Rattle.cluster_core.specs.Disks.{Leaves}
use Rattle.cluster_core.specs.Faults.{RefusedIn}
use Rattle.name_values.specs.Values.{World}
use Rattle.valid_copies.proofs.Coming.{still_told}
use Rattle.cluster_core.specs.Works.{StaysRight, world_of}
use Rattle.cluster_core.proofs.Rightness.{acted_right}
use Rattle.cluster_core.specs.Turns.{IsRight, IsRunning, Rightly, advanced_to, decision_in}
use Rattle.cluster_core.specs.declared.finished.Finished.{Finished}
use Rattle.cluster_core.proofs.DisksLeft.{leaves_more}
use Rattle.cluster_core.proofs.Going.{advanced_open, advanced_orderly, few_failures, in_time, refused_first, refused_then, runs_on, turned, turned_end}
use Rattle.cluster_core.specs.Works.{CallsRight}
use Rattle.cluster_core.specs.Faults.{AtMissed}
use Rattle.cluster_core.proofs.RightTurns.{core_unmissed, calls_so, read_calls, turn_calls}
use Rattle.valid_copies.proofs.WrittenCalls.{ask_more}
use Rattle.cluster_core.specs.Origins.{MadeOfReads}
use Rattle.cluster_core.proofs.Origins.{made_later}
use Rattle.cluster_core.proofs.Refused.{refusal_weaker}
use Rattle.cluster_core.proofs.state.State.turn.Goals as goal

pub go_on-requires-clause-orderly : goal.go_on-requires-clause-orderly
go_on-requires-clause-orderly g c =
    let advanced = subst (λ (o : Option Finished). Follows (advance c.args.self.now.setup (decision_in c.args.self.now) c.args.self.now.plain) (g.D.Disks.told c.args.disks.now) (g.D.Disks.told c.advance.new.disks) (gives (advanced_to o c.advance.new.self.plain))) c.in-Ok-None.field-0-is c.in-Ok-None.ensures.advanced in
    let time = in_time c.args.self.now.setup c.args.self.now.plain c.args.self.now.kept.values c.requires.running.orderly.0.reached.time.in_time in
    subst (λ (setup : Setup). StaysOrderly setup c.advance.new.self.plain) (sym c.in-Ok-None.ensures.same) (advanced_orderly c.args.self.now.setup (decision_in c.args.self.now) c.args.self.now.plain c.requires.running.fits time c.requires.running.orderly c.advance.new.self.plain (g.D.Disks.told c.args.disks.now) (g.D.Disks.told c.advance.new.disks) advanced)

pub go_on-requires-clause-few : goal.go_on-requires-clause-few
go_on-requires-clause-few g c =
    let few = few_failures c.args.self.now.setup.schedule.attempts c.args.self.now.plain.failures c.requires.running.attempts c.requires.running.tallied.1 in
    subst (λ (setup : Setup). (task : Task) → failures_of task c.advance.new.self.plain.failures < setup.schedule.attempts) (sym c.in-Ok-None.ensures.same) (subst (λ (failures : List Failed). (task : Task) → failures_of task failures < c.args.self.now.setup.schedule.attempts) (sym c.in-Ok-None.ensures.failures) few)

pub go_on-requires-clause-open : goal.go_on-requires-clause-open
go_on-requires-clause-open g c =
    let advanced = subst (λ (o : Option Finished). Follows (advance c.args.self.now.setup (decision_in c.args.self.now) c.args.self.now.plain) (g.D.Disks.told c.args.disks.now) (g.D.Disks.told c.advance.new.disks) (gives (advanced_to o c.advance.new.self.plain))) c.in-Ok-None.field-0-is c.in-Ok-None.ensures.advanced in
    let time = in_time c.args.self.now.setup c.args.self.now.plain c.args.self.now.kept.values c.requires.running.orderly.0.reached.time.in_time in
    subst (λ (setup : Setup). (start setup c.advance.new.self.plain).events ≡ [] → (start setup c.advance.new.self.plain).running ≡ [] → ⊥) (sym c.in-Ok-None.ensures.same) (advanced_open c.args.self.now.setup (decision_in c.args.self.now) c.args.self.now.plain c.requires.running.fits time c.requires.running.orderly c.advance.new.self.plain (g.D.Disks.told c.args.disks.now) (g.D.Disks.told c.advance.new.disks) advanced)

pub returns-in-Ok-Some-clause-turned : goal.returns-in-Ok-Some-clause-turned
returns-in-Ok-Some-clause-turned g c =
    let advanced = subst (λ (o : Option Finished). Follows (advance c.args.self.now.setup (decision_in c.args.self.now) c.args.self.now.plain) (g.D.Disks.told c.args.disks.now) (g.D.Disks.told c.advance.new.disks) (gives (advanced_to o c.advance.new.self.plain))) c.in-Ok-Some.field-0-is c.in-Ok-Some.ensures.advanced in
    turned_end c.args.self.now.setup (decision_in c.args.self.now) c.args.self.now.plain c.advance.new.self.plain c.in-Ok-Some.finished.end (g.D.Disks.told c.args.disks.now) (g.D.Disks.told c.advance.new.disks) advanced

pub returns-in-Ok-Some-clause-running : goal.returns-in-Ok-Some-clause-running
returns-in-Ok-Some-clause-running g c =
    let advanced = subst (λ (o : Option Finished). Follows (advance c.args.self.now.setup (decision_in c.args.self.now) c.args.self.now.plain) (g.D.Disks.told c.args.disks.now) (g.D.Disks.told c.advance.new.disks) (gives (advanced_to o c.advance.new.self.plain))) c.in-Ok-Some.field-0-is c.in-Ok-Some.ensures.advanced in
    let time = in_time c.args.self.now.setup c.args.self.now.plain c.args.self.now.kept.values c.requires.running.orderly.0.reached.time.in_time in
    let turned = turned_end c.args.self.now.setup (decision_in c.args.self.now) c.args.self.now.plain c.advance.new.self.plain c.in-Ok-Some.finished.end (g.D.Disks.told c.args.disks.now) (g.D.Disks.told c.advance.new.disks) advanced in
    subst (λ (setup : Setup). IsRunning setup c.advance.new.self.plain) (sym c.in-Ok-Some.ensures.same) (runs_on c.args.self.now.setup (decision_in c.args.self.now) c.args.self.now.plain c.requires.running time (ends c.advance.new.self.plain c.in-Ok-Some.finished.end) (g.D.Disks.told c.args.disks.now) (g.D.Disks.told c.advance.new.disks) turned)

pub returns-in-Ok-clause-turned : goal.returns-in-Ok-clause-turned
returns-in-Ok-clause-turned g c =
    let advanced = subst (λ (o : Option Finished). Follows (advance c.args.self.now.setup (decision_in c.args.self.now) c.args.self.now.plain) (g.D.Disks.told c.args.disks.now) (g.D.Disks.told c.advance.new.disks) (gives (advanced_to o c.advance.new.self.plain))) c.in-Ok-None.field-0-is c.in-Ok-None.ensures.advanced in
    let acts = subst (λ (setup : Setup). Follows (act setup (start setup c.advance.new.self.plain)) (g.D.Disks.told c.advance.new.disks) (g.D.Disks.told c.go_on.new.disks) (gives c.go_on.new.self.plain)) c.in-Ok-None.ensures.same c.in-Ok.ensures.acted in
    turned c.args.self.now.setup (decision_in c.args.self.now) c.args.self.now.plain c.advance.new.self.plain c.go_on.new.self.plain (g.D.Disks.told c.args.disks.now) (g.D.Disks.told c.advance.new.disks) (g.D.Disks.told c.go_on.new.disks) advanced acts

pub returns-in-Ok-clause-running : goal.returns-in-Ok-clause-running
returns-in-Ok-clause-running g c =
    let advanced = subst (λ (o : Option Finished). Follows (advance c.args.self.now.setup (decision_in c.args.self.now) c.args.self.now.plain) (g.D.Disks.told c.args.disks.now) (g.D.Disks.told c.advance.new.disks) (gives (advanced_to o c.advance.new.self.plain))) c.in-Ok-None.field-0-is c.in-Ok-None.ensures.advanced in
    let time = in_time c.args.self.now.setup c.args.self.now.plain c.args.self.now.kept.values c.requires.running.orderly.0.reached.time.in_time in
    let acts = subst (λ (setup : Setup). Follows (act setup (start setup c.advance.new.self.plain)) (g.D.Disks.told c.advance.new.disks) (g.D.Disks.told c.go_on.new.disks) (gives c.go_on.new.self.plain)) c.in-Ok-None.ensures.same c.in-Ok.ensures.acted in
    let all = turned c.args.self.now.setup (decision_in c.args.self.now) c.args.self.now.plain c.advance.new.self.plain c.go_on.new.self.plain (g.D.Disks.told c.args.disks.now) (g.D.Disks.told c.advance.new.disks) (g.D.Disks.told c.go_on.new.disks) advanced acts in
    subst (λ (setup : Setup). IsRunning setup c.go_on.new.self.plain) (sym (c.in-Ok.ensures.same ∙ c.in-Ok-None.ensures.same)) (runs_on c.args.self.now.setup (decision_in c.args.self.now) c.args.self.now.plain c.requires.running time (acted c.go_on.new.self.plain) (g.D.Disks.told c.args.disks.now) (g.D.Disks.told c.go_on.new.disks) all)

pub returns-in-Ok-clause-disks : goal.returns-in-Ok-clause-disks
returns-in-Ok-clause-disks g c = leaves_more g.D.Disks c.args.self.now.setup.schedule.nodes c.args.disks.now c.advance.new.disks c.go_on.new.disks c.advance.ensures.disks (subst (λ (setup : Setup). Leaves g.D.Disks setup.schedule.nodes c.advance.new.disks c.go_on.new.disks) c.in-Ok-None.ensures.same c.go_on.ensures.disks)

pub returns-in-Err-go_on-clause-refused : goal.returns-in-Err-go_on-clause-refused
returns-in-Err-go_on-clause-refused g c =
    let advanced = subst (λ (o : Option Finished). Follows (advance c.args.self.now.setup (decision_in c.args.self.now) c.args.self.now.plain) (g.D.Disks.told c.args.disks.now) (g.D.Disks.told c.advance.new.disks) (gives (advanced_to o c.advance.new.self.plain))) c.in-Ok-None.field-0-is c.in-Ok-None.ensures.advanced in
    let refused = subst (λ (setup : Setup). RefusedIn (act setup (start setup c.advance.new.self.plain)) (g.D.Disks.told c.advance.new.disks) (g.D.Disks.told c.go_on.new.disks) c.go_on.new.self.plain c.in-Err-go_on.fault) c.in-Ok-None.ensures.same c.in-Err-go_on.ensures.refused in
    refused_then c.args.self.now.setup (decision_in c.args.self.now) c.args.self.now.plain c.advance.new.self.plain c.go_on.new.self.plain (g.D.Disks.told c.args.disks.now) (g.D.Disks.told c.advance.new.disks) (g.D.Disks.told c.go_on.new.disks) c.in-Err-go_on.fault advanced refused

pub returns-in-Err-go_on-clause-disks : goal.returns-in-Err-go_on-clause-disks
returns-in-Err-go_on-clause-disks g c = leaves_more g.D.Disks c.args.self.now.setup.schedule.nodes c.args.disks.now c.advance.new.disks c.go_on.new.disks c.advance.ensures.disks (subst (λ (setup : Setup). Leaves g.D.Disks setup.schedule.nodes c.advance.new.disks c.go_on.new.disks) c.in-Ok-None.ensures.same c.go_on.ensures.disks)

pub returns-in-Err-clause-refused : goal.returns-in-Err-clause-refused
returns-in-Err-clause-refused g c = subst (RefusedIn _ _ _ c.advance.new.self.plain) (sym c.from.ensures) (refused_first c.args.self.now.setup (decision_in c.args.self.now) c.args.self.now.plain c.advance.new.self.plain (g.D.Disks.told c.args.disks.now) (g.D.Disks.told c.advance.new.disks) c.in-Err.fault c.in-Err.ensures.stopped)

pub returns-in-Ok-Some-clause-right : goal.returns-in-Ok-Some-clause-right
returns-in-Ok-Some-clause-right g c = λ tables fits s t stands.
    let right = subst (λ (o : Option Finished). (w : World) → Rightly w c.args.self.now.setup.shape (g.D.Disks.shows_damage c.args.disks.now) (g.D.Disks.told c.args.disks.now) c.args.self.now.kept → IsRight w (g.D.Disks.told c.advance.new.disks) c.advance.new.self.kept o) c.in-Ok-Some.field-0-is c.in-Ok-Some.ensures.right in
    right (world_of (g.F.Functions.meaning c.args.functions.now) c.args.self.now.setup tables) (record { shape_is = refl; fits = fits; shown = s; told_is = t; stands = stands })

pub returns-in-Ok-clause-right : goal.returns-in-Ok-clause-right
returns-in-Ok-clause-right g c =
    let right = subst (λ (o : Option Finished). (w : World) → Rightly w c.args.self.now.setup.shape (g.D.Disks.shows_damage c.args.disks.now) (g.D.Disks.told c.args.disks.now) c.args.self.now.kept → IsRight w (g.D.Disks.told c.advance.new.disks) c.advance.new.self.kept o) c.in-Ok-None.field-0-is c.in-Ok-None.ensures.right in
    let advanced = subst (λ (o : Option Finished). Follows (advance c.args.self.now.setup (decision_in c.args.self.now) c.args.self.now.plain) (g.D.Disks.told c.args.disks.now) (g.D.Disks.told c.advance.new.disks) (gives (advanced_to o c.advance.new.self.plain))) c.in-Ok-None.field-0-is c.in-Ok-None.ensures.advanced in
    let acts = subst (λ (setup : Setup). StaysRight (g.F.Functions.meaning c.args.functions.now) setup (g.D.Disks.shows_damage c.advance.new.disks) (g.D.Disks.told c.advance.new.disks) (g.D.Disks.told c.go_on.new.disks) c.advance.new.self.kept c.go_on.new.self.kept) c.in-Ok-None.ensures.same c.in-Ok.ensures.right in
    acted_right (g.F.Functions.meaning c.args.functions.now) c.args.self.now.setup (g.D.Disks.shows_damage c.args.disks.now) (g.D.Disks.shows_damage c.advance.new.disks) (g.D.Disks.told c.args.disks.now) (g.D.Disks.told c.advance.new.disks) (g.D.Disks.told c.go_on.new.disks) c.args.self.now.kept c.advance.new.self.kept c.go_on.new.self.kept
    c.in-Ok-None.ensures.disks.damage_shown (λ t. still_told (g.D.Disks.told c.args.disks.now) (g.D.Disks.told c.advance.new.disks) advanced.calls advanced.added t) right acts

pub returns-in-Ok-Some-clause-calls : goal.returns-in-Ok-Some-clause-calls
returns-in-Ok-Some-clause-calls g c = read_calls g.D.Disks (g.F.Functions.meaning c.args.functions.now) c.args.self.now.setup c.args.self.now.kept c.args.disks.now c.advance.new.disks _ c.in-Ok-Some.ensures.calls

pub returns-in-Ok-clause-calls : goal.returns-in-Ok-clause-calls
returns-in-Ok-clause-calls g c =
    let right = subst (λ (o : Option Finished). (w : World) → Rightly w c.args.self.now.setup.shape (g.D.Disks.shows_damage c.args.disks.now) (g.D.Disks.told c.args.disks.now) c.args.self.now.kept → IsRight w (g.D.Disks.told c.advance.new.disks) c.advance.new.self.kept o) c.in-Ok-None.field-0-is c.in-Ok-None.ensures.right in
    let later = subst (λ (setup : Setup). CallsRight g.D.Disks (g.F.Functions.meaning c.args.functions.now) setup c.advance.new.self.kept c.advance.new.disks c.go_on.new.disks (Unit {0})) c.in-Ok-None.ensures.same c.in-Ok.ensures.calls in
    turn_calls g.D.Disks (g.F.Functions.meaning c.args.functions.now) c.args.self.now.setup c.args.self.now.kept c.advance.new.self.kept c.args.disks.now c.advance.new.disks c.go_on.new.disks _ _ c.in-Ok-None.ensures.calls right c.in-Ok-None.ensures.disks.damage_shown later

pub returns-in-Err-go_on-clause-calls : goal.returns-in-Err-go_on-clause-calls
returns-in-Err-go_on-clause-calls g c =
    let right = subst (λ (o : Option Finished). (w : World) → Rightly w c.args.self.now.setup.shape (g.D.Disks.shows_damage c.args.disks.now) (g.D.Disks.told c.args.disks.now) c.args.self.now.kept → IsRight w (g.D.Disks.told c.advance.new.disks) c.advance.new.self.kept o) c.in-Ok-None.field-0-is c.in-Ok-None.ensures.right in
    let later = subst (λ (setup : Setup). CallsRight g.D.Disks (g.F.Functions.meaning c.args.functions.now) setup c.advance.new.self.kept c.advance.new.disks c.go_on.new.disks (AtMissed c.in-Err-go_on.fault ⊥)) c.in-Ok-None.ensures.same c.in-Err-go_on.ensures.calls in
    turn_calls g.D.Disks (g.F.Functions.meaning c.args.functions.now) c.args.self.now.setup c.args.self.now.kept c.advance.new.self.kept c.args.disks.now c.advance.new.disks c.go_on.new.disks _ _ c.in-Ok-None.ensures.calls right c.in-Ok-None.ensures.disks.damage_shown later

pub returns-in-Err-clause-calls : goal.returns-in-Err-clause-calls
returns-in-Err-clause-calls g c = calls_so g.D.Disks (g.F.Functions.meaning c.args.functions.now) c.args.self.now.setup c.args.self.now.kept c.args.disks.now c.advance.new.disks _ _ (core_unmissed c.in-Err.fault _ c.from.ensures) (read_calls g.D.Disks (g.F.Functions.meaning c.args.functions.now) c.args.self.now.setup c.args.self.now.kept c.args.disks.now c.advance.new.disks _ c.in-Err.ensures.calls)

pub returns-in-Err-go_on-clause-keeps : goal.returns-in-Err-go_on-clause-keeps
returns-in-Err-go_on-clause-keeps g c =
    let right = subst (λ (o : Option Finished). (w : World) → Rightly w c.args.self.now.setup.shape (g.D.Disks.shows_damage c.args.disks.now) (g.D.Disks.told c.args.disks.now) c.args.self.now.kept → IsRight w (g.D.Disks.told c.advance.new.disks) c.advance.new.self.kept o) c.in-Ok-None.field-0-is c.in-Ok-None.ensures.right in
    let advanced = subst (λ (o : Option Finished). Follows (advance c.args.self.now.setup (decision_in c.args.self.now) c.args.self.now.plain) (g.D.Disks.told c.args.disks.now) (g.D.Disks.told c.advance.new.disks) (gives (advanced_to o c.advance.new.self.plain))) c.in-Ok-None.field-0-is c.in-Ok-None.ensures.advanced in
    let acts = subst (λ (setup : Setup). StaysRight (g.F.Functions.meaning c.args.functions.now) setup (g.D.Disks.shows_damage c.advance.new.disks) (g.D.Disks.told c.advance.new.disks) None c.advance.new.self.kept c.go_on.new.self.kept) c.in-Ok-None.ensures.same c.in-Err-go_on.ensures.keeps in
    acted_right (g.F.Functions.meaning c.args.functions.now) c.args.self.now.setup (g.D.Disks.shows_damage c.args.disks.now) (g.D.Disks.shows_damage c.advance.new.disks) (g.D.Disks.told c.args.disks.now) (g.D.Disks.told c.advance.new.disks) None c.args.self.now.kept c.advance.new.self.kept c.go_on.new.self.kept
    c.in-Ok-None.ensures.disks.damage_shown (λ t. still_told (g.D.Disks.told c.args.disks.now) (g.D.Disks.told c.advance.new.disks) advanced.calls advanced.added t) right acts

pub returns-in-Ok-clause-asks : goal.returns-in-Ok-clause-asks
returns-in-Ok-clause-asks g c = ask_more c.args.self.now.kept.table.copies c.advance.new.self.kept.table.copies (g.D.Disks.told c.args.disks.now) (g.D.Disks.told c.advance.new.disks) (g.D.Disks.told c.go_on.new.disks) c.in-Ok-None.ensures.asks c.in-Ok-None.ensures.agree c.in-Ok.ensures.asks

pub returns-in-Ok-clause-made : goal.returns-in-Ok-clause-made
returns-in-Ok-clause-made g c =
    let later = subst (λ (setup : Setup). MadeOfReads (g.F.Functions.meaning c.args.functions.now) setup.shape c.go_on.new.self.kept.round c.advance.new.self.kept.values c.go_on.new.self.kept.values (g.D.Disks.told c.advance.new.disks) (g.D.Disks.told c.go_on.new.disks)) c.in-Ok-None.ensures.same c.in-Ok.ensures.made in
    made_later (g.F.Functions.meaning c.args.functions.now) c.args.self.now.setup.shape c.go_on.new.self.kept.round c.args.self.now.kept.values c.advance.new.self.kept.values c.go_on.new.self.kept.values (g.D.Disks.told c.args.disks.now) (g.D.Disks.told c.advance.new.disks) (g.D.Disks.told c.go_on.new.disks) c.in-Ok-None.ensures.wrote_nothing c.in-Ok-None.ensures.old_values later

pub returns-in-Err-go_on-clause-asks : goal.returns-in-Err-go_on-clause-asks
returns-in-Err-go_on-clause-asks g c = ask_more c.args.self.now.kept.table.copies c.advance.new.self.kept.table.copies (g.D.Disks.told c.args.disks.now) (g.D.Disks.told c.advance.new.disks) (g.D.Disks.told c.go_on.new.disks) c.in-Ok-None.ensures.asks c.in-Ok-None.ensures.agree c.in-Err-go_on.ensures.asks

pub returns-in-Err-go_on-clause-made : goal.returns-in-Err-go_on-clause-made
returns-in-Err-go_on-clause-made g c =
    let later = subst (λ (setup : Setup). MadeOfReads (g.F.Functions.meaning c.args.functions.now) setup.shape c.go_on.new.self.kept.round c.advance.new.self.kept.values c.go_on.new.self.kept.values (g.D.Disks.told c.advance.new.disks) (g.D.Disks.told c.go_on.new.disks)) c.in-Ok-None.ensures.same c.in-Err-go_on.ensures.made in
    made_later (g.F.Functions.meaning c.args.functions.now) c.args.self.now.setup.shape c.go_on.new.self.kept.round c.args.self.now.kept.values c.advance.new.self.kept.values c.go_on.new.self.kept.values (g.D.Disks.told c.args.disks.now) (g.D.Disks.told c.advance.new.disks) (g.D.Disks.told c.go_on.new.disks) c.in-Ok-None.ensures.wrote_nothing c.in-Ok-None.ensures.old_values later

pub returns-in-Err-go_on-clause-agree_still : goal.returns-in-Err-go_on-clause-agree_still
returns-in-Err-go_on-clause-agree_still g c = refusal_weaker c.in-Err-go_on.fault (λ keep all. keep (c.in-Ok-None.ensures.agree all)) c.in-Err-go_on.ensures.agree_still

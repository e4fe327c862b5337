use Rattle.std.proofs.Common.{◌≡◌, IfSome, Some, subst}
use Rattle.run_model.specs.Plans.{gives}
use Rattle.run_model.specs.Turns.{turn}
use Rattle.valid_copies.specs.Calls.{Follows}
use Rattle.cluster_core.specs.Clusters.{IsRightAfter, finished_in}
use Rattle.cluster_core.specs.Turns.{decision_in, turned_to}
use Rattle.cluster_core.specs.Origins.{AreAnswers}
use Rattle.cluster_core.proofs.Refused.{refusal_weaker}
use Rattle.valid_copies.proofs.WrittenCalls.{ask_more}
use Rattle.cluster_core.specs.declared.cluster.Turned.{Turned}
use Rattle.cluster_core.proofs.ManyTurns.{calls_on, end_by_chain, fault_by_chain, left_on, less_left, one_more, open_runs, ran_to_end, ran_to_fault, right_on}
use Rattle.cluster_core.proofs.cluster.Cluster.all_turns.Goals as goal

pub turns-smaller : goal.turns-smaller
turns-smaller g c = less_left g.D.Disks (g.F.Functions.meaning c.args.functions.now) c.args.self.now c.turns.self c.next_turn.new.self c.args.disks.now c.turns.disks c.next_turn.new.disks c.turns.invariant c.in-Ok-Acted.field-0 c.in-Ok-Acted.ensures.made c.in-Ok-Acted.field-0-is c.in-Ok-Acted.ensures.turned c.in-Ok-Acted.ensures.same

pub turns-preserved : goal.turns-preserved
turns-preserved g c = one_more g.D.Disks (g.F.Functions.meaning c.args.functions.now) c.args.self.now c.turns.self c.next_turn.new.self c.args.disks.now c.turns.disks c.next_turn.new.disks c.turns.invariant c.in-Ok-Acted.field-0 c.in-Ok-Acted.ensures.made c.in-Ok-Acted.field-0-is c.in-Ok-Acted.ensures.turned c.in-Ok-Acted.ensures.same c.in-Ok-Acted.ensures.answers c.in-Ok-Acted.ensures.disks c.in-Ok-Acted.ensures.right c.in-Ok-Acted.ensures.calls c.in-Ok-Acted.ensures.agree c.in-Ok-Acted.ensures.asks

pub returns-in-Ok-Finished-clause-finished : goal.returns-in-Ok-Finished-clause-finished
returns-in-Ok-Finished-clause-finished g c =
    ran_to_end (g.F.Functions.meaning c.args.functions.now) c.args.self.now.state c.turns.self.state c.next_turn.new.self.state (g.D.Disks.told c.args.disks.now) (g.D.Disks.told c.turns.disks) (g.D.Disks.told c.next_turn.new.disks) (open_runs c.args.self.now c.requires.open c.requires.running) c.turns.invariant.ran c.in-Ok-Finished.ensures.made c.in-Ok-Finished.finished
    (subst (λ (t : Turned). Follows (turn c.turns.self.state.setup (decision_in c.turns.self.state) c.turns.self.state.plain) (g.D.Disks.told c.turns.disks) (g.D.Disks.told c.next_turn.new.disks) (gives (turned_to (finished_in t) c.next_turn.new.self.state.plain))) c.in-Ok-Finished.field-0-is c.in-Ok-Finished.ensures.turned)
    (subst (λ (t : Turned). IfSome (finished_in t) (λ it. it.rounds ≡ c.next_turn.new.self.state.plain.round)) c.in-Ok-Finished.field-0-is c.in-Ok-Finished.ensures.rounds)
    (subst (λ (t : Turned). IfSome (finished_in t) (λ it. AreAnswers c.turns.self.state.setup.shape it.parts (g.D.Disks.told c.turns.disks) (g.D.Disks.told c.next_turn.new.disks))) c.in-Ok-Finished.field-0-is c.in-Ok-Finished.ensures.parts)

pub returns-in-Ok-Finished-clause-disks : goal.returns-in-Ok-Finished-clause-disks
returns-in-Ok-Finished-clause-disks g c = left_on g.D.Disks (g.F.Functions.meaning c.args.functions.now) c.args.self.now c.turns.self c.args.disks.now c.turns.disks c.next_turn.new.disks c.turns.invariant c.in-Ok-Finished.ensures.disks

pub returns-in-Err-clause-refused : goal.returns-in-Err-clause-refused
returns-in-Err-clause-refused g c =
    ran_to_fault (g.F.Functions.meaning c.args.functions.now) c.args.self.now.state c.turns.self.state c.next_turn.new.self.state (g.D.Disks.told c.args.disks.now) (g.D.Disks.told c.turns.disks) (g.D.Disks.told c.next_turn.new.disks) (open_runs c.args.self.now c.requires.open c.requires.running) c.turns.invariant.ran c.in-Err.ensures.made c.in-Err.fault c.in-Err.ensures.refused

pub returns-in-Err-clause-disks : goal.returns-in-Err-clause-disks
returns-in-Err-clause-disks g c = left_on g.D.Disks (g.F.Functions.meaning c.args.functions.now) c.args.self.now c.turns.self c.args.disks.now c.turns.disks c.next_turn.new.disks c.turns.invariant c.in-Err.ensures.disks

pub returns-in-Ok-Finished-clause-calls : goal.returns-in-Ok-Finished-clause-calls
returns-in-Ok-Finished-clause-calls g c = calls_on g.D.Disks (g.F.Functions.meaning c.args.functions.now) c.args.self.now c.turns.self c.args.disks.now c.turns.disks c.next_turn.new.disks _ c.turns.invariant c.in-Ok-Finished.ensures.calls

pub returns-in-Err-clause-calls : goal.returns-in-Err-clause-calls
returns-in-Err-clause-calls g c = calls_on g.D.Disks (g.F.Functions.meaning c.args.functions.now) c.args.self.now c.turns.self c.args.disks.now c.turns.disks c.next_turn.new.disks _ c.turns.invariant c.in-Err.ensures.calls

pub returns-in-Ok-Finished-clause-by_chain : goal.returns-in-Ok-Finished-clause-by_chain
returns-in-Ok-Finished-clause-by_chain g c =
    let m = g.F.Functions.meaning c.args.functions.now in
    let right = subst (λ (t : Turned). IsRightAfter m c.turns.self.state (g.D.Disks.shows_damage c.turns.disks) (g.D.Disks.told c.turns.disks) (g.D.Disks.told c.next_turn.new.disks) c.next_turn.new.self.state.kept (finished_in t)) c.in-Ok-Finished.field-0-is c.in-Ok-Finished.ensures.right in
    end_by_chain m c.args.self.now.state c.next_turn.new.self.state (g.D.Disks.shows_damage c.args.disks.now) (g.D.Disks.told c.args.disks.now) (g.D.Disks.told c.next_turn.new.disks) c.in-Ok-Finished.finished (returns-in-Ok-Finished-clause-finished g c)
    (right_on g.D.Disks m c.args.self.now c.turns.self c.args.disks.now c.turns.disks c.next_turn.new.disks c.next_turn.new.self.state.kept (Some c.in-Ok-Finished.finished) c.turns.invariant right)

pub returns-in-Err-clause-by_chain : goal.returns-in-Err-clause-by_chain
returns-in-Err-clause-by_chain g c =
    fault_by_chain (g.F.Functions.meaning c.args.functions.now) c.args.self.now.state c.turns.self.state c.next_turn.new.self.state (g.D.Disks.told c.args.disks.now) (g.D.Disks.told c.turns.disks) (g.D.Disks.told c.next_turn.new.disks) (open_runs c.args.self.now c.requires.open c.requires.running) c.turns.invariant.ran c.in-Err.ensures.made (g.D.Disks.shows_damage c.args.disks.now) c.in-Err.fault c.in-Err.ensures.refused c.turns.invariant.right c.in-Err.ensures.chain

pub returns-in-Ok-Finished-clause-agree : goal.returns-in-Ok-Finished-clause-agree
returns-in-Ok-Finished-clause-agree g c = λ all. c.in-Ok-Finished.ensures.agree (c.turns.invariant.agree all)

pub returns-in-Ok-Finished-clause-asks : goal.returns-in-Ok-Finished-clause-asks
returns-in-Ok-Finished-clause-asks g c = ask_more c.args.self.now.state.kept.table.copies c.turns.self.state.kept.table.copies (g.D.Disks.told c.args.disks.now) (g.D.Disks.told c.turns.disks) (g.D.Disks.told c.next_turn.new.disks) c.turns.invariant.asks c.turns.invariant.agree c.in-Ok-Finished.ensures.asks

pub returns-in-Err-clause-agree_still : goal.returns-in-Err-clause-agree_still
returns-in-Err-clause-agree_still g c = refusal_weaker c.in-Err.fault (λ keep all. keep (c.turns.invariant.agree all)) c.in-Err.ensures.agree_still

pub returns-in-Err-clause-asks : goal.returns-in-Err-clause-asks
returns-in-Err-clause-asks g c = ask_more c.args.self.now.state.kept.table.copies c.turns.self.state.kept.table.copies (g.D.Disks.told c.args.disks.now) (g.D.Disks.told c.turns.disks) (g.D.Disks.told c.next_turn.new.disks) c.turns.invariant.asks c.turns.invariant.agree c.in-Err.ensures.asks

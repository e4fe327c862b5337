use Rattle.std.proofs.Common.{◌+◌, sym, ap, ◌∙◌, arith}
use Rattle.replica_table.specs.Sets.{members, members_from}
use Rattle.replica_table.proofs.Members.{from_end}
use Rattle.loop_scheduler.specs.steps.Choosing.{sets_with}
use Rattle.loop_scheduler.proofs.Choices.{lead, lead_in, lead_is, lead_out, lead_past}
use Rattle.loop_scheduler.proofs.choice.in_most.Goals.{then-has+then-most-count, then-has+else-most-count, else-has}
use Rattle.loop_scheduler.proofs.choice.in_most.Goals as goal

pub nodes-preserved : goal.nodes-preserved
nodes-preserved c = elim c.if-has.branch [
  | then-has+then-most-count w ↦
      (λ i. lead (sets_with c.args.sets.now) (w.best-is i) ((w.most-is ∙ w.sets_with-count.ensures) i) (members_from (c.nodes.node + 1) c.args.nodes.0))
      ∙ sym (lead_in (sets_with c.args.sets.now) c.nodes.best c.nodes.most c.args.nodes.0 c.nodes.node c.nodes-test.true (sym c.has.ensures ∙ w.if-has.true) (omega (arith, w.if-most-count.true, w.sets_with-count.ensures)))
      ∙ c.nodes.invariant
  | then-has+else-most-count w ↦
      (λ i. lead (sets_with c.args.sets.now) (w.best-is i) (w.most-is i) (members_from (c.nodes.node + 1) c.args.nodes.0))
      ∙ sym (lead_past (sets_with c.args.sets.now) c.nodes.best c.nodes.most c.args.nodes.0 c.nodes.node c.nodes-test.true (sym c.has.ensures ∙ w.if-has.true) (omega (arith, w.if-most-count.false, w.sets_with-count.ensures)))
      ∙ c.nodes.invariant
  | else-has w ↦
      (λ i. lead (sets_with c.args.sets.now) (w.best-is i) (w.most-is i) (members_from (c.nodes.node + 1) c.args.nodes.0))
      ∙ sym (lead_out (sets_with c.args.sets.now) c.nodes.best c.nodes.most c.args.nodes.0 c.nodes.node c.nodes-test.true (sym c.has.ensures ∙ w.if-has.false))
      ∙ c.nodes.invariant
]

pub returns : goal.returns
returns c = sym (ap (lead (sets_with c.args.sets.now) c.nodes.best c.nodes.most) (from_end c.args.nodes.0 c.nodes.node c.nodes-test.false)) ∙ c.nodes.invariant ∙ lead_is (sets_with c.args.sets.now) (members c.args.nodes.0)

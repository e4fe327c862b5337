use Rattle.std.proofs.Common.{◌≡◌, suc, ◌+◌, slice_get, sym, ap, ◌∙◌, arith}
use Rattle.replica_table.specs.Sets.{members_from}
use Rattle.replica_table.proofs.Members.{among_members, from_end, from_out, nth_here, nth_later}
use Rattle.replica_table.proofs.node_set.NodeSet.nth.Goals.{then-has_bit+else-left-eq0, else-has_bit}
use Rattle.replica_table.proofs.node_set.NodeSet.nth.Goals as goal

pub returns-then-left-eq0-clause-place : goal.returns-then-left-eq0-clause-place
returns-then-left-eq0-clause-place c = sym (nth_here c.args.self.now.0 c.nodes.node c.nodes.left c.nodes-test.true (sym c.has_bit.ensures ∙ c.if-has_bit.true) c.if-left-eq0.true) ∙ c.nodes.invariant

pub returns-then-left-eq0-clause-member : goal.returns-then-left-eq0-clause-member
returns-then-left-eq0-clause-member c = among_members c.args.self.now.0 c.nodes.node c.nodes-test.true ∙ sym c.has_bit.ensures ∙ c.if-has_bit.true

pub nodes-preserved : goal.nodes-preserved
nodes-preserved c = elim c.if-has_bit.branch [
  | then-has_bit+else-left-eq0 w ↦
      let one : c.nodes.left ≡ suc c.if-has_bit.left = omega (arith, w.left-is, w.if-left-eq0.false) in
      sym (nth_later c.args.self.now.0 c.nodes.node c.nodes.left c.if-has_bit.left c.nodes-test.true (sym c.has_bit.ensures ∙ w.if-has_bit.true) one) ∙ c.nodes.invariant
  | else-has_bit w ↦
      ap (slice_get (members_from (c.nodes.node + 1) c.args.self.now.0)) w.left-is
      ∙ sym (ap (λ ns. slice_get ns c.nodes.left) (from_out c.args.self.now.0 c.nodes.node c.nodes-test.true (sym c.has_bit.ensures ∙ w.if-has_bit.false)))
      ∙ c.nodes.invariant
]

pub returns-clause-place : goal.returns-clause-place
returns-clause-place c = sym (ap (λ ns. slice_get ns c.nodes.left) (from_end c.args.self.now.0 c.nodes.node c.nodes-test.false)) ∙ c.nodes.invariant

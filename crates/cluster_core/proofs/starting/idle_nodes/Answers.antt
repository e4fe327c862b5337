use Rattle.std.proofs.Common.{◌≡◌, ◌==◌, true, false, nat_lt, sym, ap, ◌∙◌, arith}
use Rattle.replica_table.specs.Sets.{but_one, members}
use Rattle.replica_table.specs.declared.node_set.NodeSet.{NodeSet}
use Rattle.run_model.specs.Lists.{number_of}
use Rattle.run_model.specs.declared.attempt.Attempt.{Attempt}
use Rattle.std.proofs.lemmas.Bool.{le-ltb, lt-ltb}
use Rattle.cluster_core.proofs.Nodes.{passed, passed_all, passed_kept, passed_none, passed_out}
use Rattle.cluster_core.proofs.starting.idle_nodes.Goals.{then-load-slots, else-load-slots}
use Rattle.cluster_core.proofs.starting.idle_nodes.Goals as goal

pub nodes-init : goal.nodes-init
nodes-init c = c.up-idle.ensures.nodes ∙ passed_none (λ n. nat_lt (number_of (λ (a : Attempt). n == a.node) c.args.running.now) c.args.slots) c.args.table.now.up

pub nodes-preserved : goal.nodes-preserved
nodes-preserved c = elim c.if-load-slots.branch [
  | then-load-slots w ↦
      let full : nat_lt (number_of (λ (a : Attempt). c.nodes.node == a.node) c.args.running.now) c.args.slots ≡ false = ap (λ n. nat_lt n c.args.slots) (sym c.load.ensures) ∙ le-ltb c.load.result c.args.slots w.if-load-slots.true in
      ap (λ (set : NodeSet). members set.0) w.idle-is ∙ w.without-idle.ensures ∙ ap (but_one c.nodes.node) c.nodes.invariant ∙ passed_out c.nodes.node (λ n. nat_lt (number_of (λ (a : Attempt). n == a.node) c.args.running.now) c.args.slots) c.args.table.now.up full
  | else-load-slots w ↦
      let free : nat_lt (number_of (λ (a : Attempt). c.nodes.node == a.node) c.args.running.now) c.args.slots ≡ true = ap (λ n. nat_lt n c.args.slots) (sym c.load.ensures) ∙ lt-ltb c.load.result c.args.slots w.if-load-slots.false in
      ap (λ (set : NodeSet). members set.0) w.idle-is ∙ c.nodes.invariant ∙ passed_kept c.nodes.node (λ n. nat_lt (number_of (λ (a : Attempt). n == a.node) c.args.running.now) c.args.slots) c.args.table.now.up free
]

pub returns : goal.returns
returns c =
    let end : c.nodes.node ≡ 64 = omega (arith, c.nodes-test.false, c.nodes.auto) in
    c.nodes.invariant ∙ ap (λ k. passed k (λ n. nat_lt (number_of (λ (a : Attempt). n == a.node) c.args.running.now) c.args.slots) c.args.table.now.up) end ∙ passed_all (λ n. nat_lt (number_of (λ (a : Attempt). n == a.node) c.args.running.now) c.args.slots) c.up-idle.result.0 c.args.table.now.up c.up-idle.ensures.nodes

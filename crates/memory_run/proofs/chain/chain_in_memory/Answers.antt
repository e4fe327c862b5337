use Rattle.std.proofs.Common.{◌+◌, sym, ◌∙◌}
use Rattle.memory_run.specs.steps.Inputs.{Serve}
use Rattle.memory_run.proofs.Rounds.{next_came, next_left}
use Rattle.memory_run.proofs.chain.chain_in_memory.Goals as goal

pub rounds-preserved : goal.rounds-preserved
rounds-preserved g c =
    let m = g.F.Functions.meaning c.args.functions.now in
    let shape = c.args.shape.now in
    let serves : Serve m shape c.args.tables c.deref.result.now c.deref-in-rounds.result.now = rw (c.deref.ensures.value, c.deref-in-rounds.ensures.value) c.in_ok-left.ensures.serve in
    let none = sym c.end_of.ensures ∙ c.in_default.is in
    let left = next_left c.in_ok-out.out c.rounds.invariant none (c.in_ok-out.ensures c.args.tables serves) in
    let far = c.in_ok-far.ensures c.args.tables c.rounds.round (c.rounds.round + 1) c.requires.tables c.rounds.invariant.left left in
    next_came c.in_ok-far.far c.decide-next-in-rounds.result c.in_ok-out.out c.rounds.invariant none left far c.decide-next-in-rounds.ensures

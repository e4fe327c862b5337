use Rattle.std.proofs.Common.{◌≡◌, false, refl, subst}
use Rattle.plain_job.specs.Distances.{distance}
use Rattle.plain_job.proofs.Rounds.{Judged, next_begins, chain_ends}
use Rattle.plain_job.proofs.chain.plain_chain.Goals as goal
use Rattle.plain_job.proofs.chain.plain_chain.Goals.{then-near-via-then-near, then-near-via-else-near+then-round-rounds}

pub returns-then-near : goal.returns-then-near
returns-then-near g c =
    let last : c.in_ok-near.near ≡ false → c.rounds.round ≡ c.args.shape.now.rounds =
    elim c.then-near.branch [
      | then-near-via-then-near w ↦ λ e. cc (w.if-near.true, e)
      | then-near-via-else-near+then-round-rounds w ↦ λ e. w.if-round-rounds.true
    ]
    in
    chain_ends c.in_ok-near.near _ c.rounds.invariant (record { parts_are = c.in_ok-parts.ensures; left_is = c.in_ok-left.ensures }) c.in_ok-near.ensures last refl refl c.end_of-end.ensures

pub rounds-preserved : goal.rounds-preserved
rounds-preserved g c =
    let far = subst (Judged c.args.shape.now c.rounds.round (distance (g.F.Functions.meaning c.args.functions.now) c.args.shape.now c.rounds.state c.in_ok-left.left)) c.if-near.false c.in_ok-near.ensures in
    next_begins c.rounds.invariant (record { parts_are = c.in_ok-parts.ensures; left_is = c.in_ok-left.ensures }) far c.if-round-rounds.false

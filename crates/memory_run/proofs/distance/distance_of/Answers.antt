use Rattle.std.proofs.Common.{sym, ap, ◌∙◌}
use Rattle.std.proofs.lemmas.Result.{IfOk-weaker}
use Rattle.memory_run.proofs.Distances.{parts_are, whole_is}
use Rattle.memory_run.proofs.distance.distance_of.Goals as goal

pub returns-then-not-partition_uses_round : goal.returns-then-not-partition_uses_round
returns-then-not-partition_uses_round g c =
    let f = c.args.functions.now in
    let m = g.F.Functions.meaning f in
    let keeps = ap m.keeps_key (sym c.len-last.ensures) ∙ sym c.keeps_key.ensures ∙ c.if-keeps_key.true in
    let fixed = ap m.partition_uses_round (sym c.len-last.ensures) ∙ sym c.partition_uses_round.ensures ∙ c.if-not-partition_uses_round.true in
    IfOk-weaker c.distance_by_parts.result _ _
    (λ far e tables i j t before after. rw (← parts_are c.requires.shape c.requires.fits tables t (g.met.F.Functions.round_law f) (g.met.F.Functions.key_law f) keeps fixed c.args.old.now c.args.new.now i j before after, ← c.as_slice.ensures, ← c.as_slice-then-not-partition_uses_round.ensures) e)
    c.distance_by_parts.ensures

pub returns-else-keeps_key : goal.returns-else-keeps_key
returns-else-keeps_key g c =
    IfOk-weaker c.distance_of_whole.result _ _
    (λ far e tables i j t before after. e ∙ whole_is c.requires.shape c.requires.fits tables t c.args.old.now c.args.new.now i j before after)
    c.distance_of_whole.ensures

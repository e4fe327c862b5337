use Rattle.std.proofs.Common.{◌≡◌, ap, ◌∙◌}
use Rattle.std.proofs.lemmas.Result.{IfOk-weaker}
use Rattle.plain_job.specs.Distances.{distance_by}
use Rattle.plain_job.proofs.Distances.{distance_sorted}
use Rattle.fixpoint_test.proofs.distance.part_distance.Goals as goal

pub returns : goal.returns
returns g c =
    let means = (g.F.Functions.meaning c.args.functions.now).distance in
    let same : distance_by means c.stream_in_order-old.result c.stream_in_order-new.result ≡ distance_by means c.args.old.now c.args.new.now =
    ap (λ rows. distance_by means rows c.stream_in_order-new.result) c.stream_in_order-old.ensures ∙ rw c.stream_in_order-new.ensures (distance_sorted means c.args.old.now c.args.new.now)
    in
    IfOk-weaker c.distance_in_order.result (λ far. far ≡ distance_by means c.stream_in_order-old.result c.stream_in_order-new.result) (λ far. far ≡ distance_by means c.args.old.now c.args.new.now) (λ far e. e ∙ same) c.distance_in_order.ensures

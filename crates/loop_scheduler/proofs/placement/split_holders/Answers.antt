use Rattle.std.proofs.Common.{◌≡◌, [], ◌∷◌, MatchOption, subst}
use Rattle.hal_base.specs.Shapes.{source_at}
use Rattle.hal_base.specs.declared.shape.Shape.{Shape}
use Rattle.node_names.specs.declared.name.Name.{Name}
use Rattle.run_model.specs.Sites.{kept_split}
use Rattle.run_model.specs.Tasks.{split}
use Rattle.loop_scheduler.proofs.Held.{split_found}
use Rattle.loop_scheduler.proofs.placement.split_holders.Goals as goal

pub returns : goal.returns
returns c =
    let file = subst (λ (it : Shape). MatchOption c.split_of.result (split it c.args.round c.args.step c.args.source c.args.number ≡ []) (λ (name : Name). split it c.args.round c.args.step c.args.source c.args.number ≡ name ∷ [])) c.shape.ensures.same c.split_of.ensures in
    let kept = subst (λ (it : Shape). MatchOption c.kept_block.result (kept_split (source_at it c.args.step c.args.source) c.args.number ≡ []) (λ (name : Name). kept_split (source_at it c.args.step c.args.source) c.args.number ≡ name ∷ [])) c.shape-2.ensures.same c.kept_block.ensures in
    split_found c.args.view.now c.idle.result.0 c.either.result.0 c.holders_if-files.result.0 c.holders_if-caches.result.0 c.both.result.0 c.split_of.result c.kept_block.result _ _
    c.idle.ensures.nodes c.idle.ensures.up c.holders_if-files.ensures file c.holders_if-caches.ensures kept c.either.ensures c.both.ensures

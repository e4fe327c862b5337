use Rattle.std.proofs.Common.{◌≡◌, suc, ◌<◌, ◌+◌, ◌-◌, ◌++◌, sym, ap, ◌∙◌, arith, length, length-append}
use Rattle.hal_base.specs.Shapes.{source_at, step_at}
use Rattle.hal_base.specs.declared.shape.Shape.{Shape}
use Rattle.run_model.specs.Tasks.{is_cached, source_count}
use Rattle.loop_scheduler.specs.steps.Choosing.{holders_of}
use Rattle.loop_scheduler.proofs.Held.{caches_from, caches_more, caches_past}
use Rattle.loop_scheduler.proofs.favoured.cache_holders.Goals.{then-is_cached, else-is_cached}
use Rattle.loop_scheduler.proofs.favoured.cache_holders.Goals as goal

pub sources-preserved : goal.sources-preserved
sources-preserved c =
    let count : c.source_count-source-end.result ≡ source_count (step_at c.args.view.now.shape c.args.step) = c.source_count-source-end.ensures ∙ ap (λ (it : Shape). source_count (step_at it c.args.step)) c.shape.ensures.same in
    let below : c.sources.source < source_count (step_at c.args.view.now.shape c.args.step) + 1 = omega (arith, count, c.sources-test.true) in
    let more : source_count (step_at c.args.view.now.shape c.args.step) + 1 - c.sources.source ≡ suc (source_count (step_at c.args.view.now.shape c.args.step) + 1 - (c.sources.source + 1)) = omega (arith, below) in
    let cached : is_cached (source_at c.args.view.now.shape c.args.step c.sources.source) ≡ c.is_cached.result = sym (c.is_cached.ensures ∙ ap (λ (it : Shape). is_cached (source_at it c.args.step c.sources.source)) c.shape-in-sources.ensures.same) in
    elim c.if-is_cached.branch [
      | then-is_cached w ↦ record {
        all =
            ap (λ sets. sets ++ holders_of c.args.view.now (caches_from c.args.view.now.shape c.args.step c.args.part (c.sources.source + 1) (source_count (step_at c.args.view.now.shape c.args.step) + 1 - (c.sources.source + 1)))) w.sets-is
            ∙ caches_more c.args.view.now c.args.step c.args.part c.sources.source _ _ c.sources.sets w.push.new.self _ more (cached ∙ w.if-is_cached.true) w.push.ensures w.where_is.ensures
            ∙ c.sources.invariant.all;
        few =
            let one : length w.push.new.self ≡ length c.sources.sets + 1 = ap length w.push.ensures ∙ length-append c.sources.sets _ in
            omega (arith, one, ap length w.sets-is, c.sources.invariant.few);
      }
      | else-is_cached w ↦ record {
        all =
            ap (λ sets. sets ++ holders_of c.args.view.now (caches_from c.args.view.now.shape c.args.step c.args.part (c.sources.source + 1) (source_count (step_at c.args.view.now.shape c.args.step) + 1 - (c.sources.source + 1)))) w.sets-is
            ∙ caches_past c.args.view.now c.args.step c.args.part c.sources.source _ _ c.sources.sets more (cached ∙ w.if-is_cached.false)
            ∙ c.sources.invariant.all;
        few = omega (arith, ap length w.sets-is, c.sources.invariant.few);
      }
    ]

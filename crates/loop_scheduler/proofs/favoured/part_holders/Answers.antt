use Rattle.std.proofs.Common.{◌≡◌, suc, ◌<◌, ◌+◌, ◌-◌, ap, ◌∙◌, arith, length, length-append}
use Rattle.hal_base.specs.declared.shape.Shape.{Shape}
use Rattle.node_names.specs.declared.name.Name.TheVariants.{Out}
use Rattle.replica_table.specs.Copies.{up_holders}
use Rattle.run_model.specs.Tasks.{last}
use Rattle.loop_scheduler.proofs.Held.{parts_more}
use Rattle.loop_scheduler.proofs.favoured.part_holders.Goals as goal

pub parts-preserved : goal.parts-preserved
parts-preserved c =
    let parts : c.shape-2.result.now.parts ≡ c.args.view.now.shape.parts = ap (λ (it : Shape). it.parts) c.shape-2.ensures.same in
    let below : c.parts.part < c.args.view.now.shape.parts = omega (arith, parts, c.parts-test.true) in
    let more : c.args.view.now.shape.parts - c.parts.part ≡ suc (c.args.view.now.shape.parts - (c.parts.part + 1)) = omega (arith, below) in
    record {
      all =
          parts_more c.args.view.now c.args.round c.parts.part (c.args.view.now.shape.parts - c.parts.part) (c.args.view.now.shape.parts - (c.parts.part + 1)) c.parts.sets c.push.new.self _ more c.push.ensures
          (c.where_is.ensures ∙ ap (λ j. up_holders (Out c.args.round j c.parts.part) c.args.view.now.up c.args.view.now.copies) (c.last_step-step.ensures ∙ ap last c.shape.ensures.same))
          ∙ c.parts.invariant.all;
      few = ap length c.push.ensures ∙ length-append c.parts.sets _ ∙ ap (λ n. n + 1) c.parts.invariant.few;
    }

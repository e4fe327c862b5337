use Rattle.std.proofs.Common.{◌≡◌, ◌+◌, ◌-◌, sym, ap, ◌∙◌, arith}
use Rattle.std.specs.List.{flat_map, list_all, range_with_len}
use Rattle.hal_base.specs.declared.shape.Shape.{Shape}
use Rattle.run_model.specs.Needs.{is_there}
use Rattle.loop_scheduler.proofs.Ranges.{testing_all_more, testing_all_stops}
use Rattle.cache_rebuild.specs.steps.Needing.{input_count, needed}
use Rattle.cache_rebuild.proofs.Inputs.{needs_by_input}
use Rattle.cache_rebuild.proofs.starts.has_needs.Goals as goal

pub returns-then-not-has_input : goal.returns-then-not-has_input
returns-then-not-has_input c = testing_all_stops (is_there c.args.view.now.copies c.args.view.now.up c.args.node) (needed c.args.view.now c.args.node c.args.task.now) c.inputs.input (c.input_count-input-end.result + 1) _ c.inputs-test.true (sym c.has_input.ensures ∙ c.if-not-has_input.true) c.inputs.invariant

pub inputs-preserved : goal.inputs-preserved
inputs-preserved c = testing_all_more (is_there c.args.view.now.copies c.args.view.now.up c.args.node) (needed c.args.view.now c.args.node c.args.task.now) c.inputs.input (c.input_count-input-end.result + 1) _ c.inputs-test.true (sym c.has_input.ensures ∙ c.if-not-has_input.false) c.inputs.invariant

pub inputs-init : goal.inputs-init
inputs-init c =
    let there = is_there c.args.view.now.copies c.args.view.now.up c.args.node in
    let from = needed c.args.view.now c.args.node c.args.task.now in
    let count : c.input_count-input-end.result + 1 - 1 ≡ input_count c.args.view.now.shape c.args.task.now = omega (arith, c.input_count-input-end.ensures ∙ ap (λ (shape : Shape). input_count shape c.args.task.now) c.shape.ensures.same) in
    ap (λ n. list_all there (flat_map from (range_with_len 1 n))) count ∙ ap (list_all there) (needs_by_input c.args.view.now c.args.node c.args.task.now)

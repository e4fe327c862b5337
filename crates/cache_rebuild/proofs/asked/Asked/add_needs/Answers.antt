use Rattle.std.proofs.Common.{◌≡◌, ◌+◌, ◌-◌, not, ◌||◌, ap, ◌∙◌, arith}
use Rattle.std.specs.List.{flat_map, range_with_len}
use Rattle.hal_base.specs.declared.shape.Shape.{Shape}
use Rattle.node_names.specs.declared.name.Name.{Name}
use Rattle.run_model.specs.Needs.{is_there, missing}
use Rattle.loop_scheduler.proofs.Ranges.{from_on}
use Rattle.cache_rebuild.specs.steps.Asking.{gone, makes_one}
use Rattle.cache_rebuild.specs.steps.Needing.{input_count, needed}
use Rattle.cache_rebuild.proofs.Asks.{asking_done, asking_more, flat_done, flat_more}
use Rattle.cache_rebuild.proofs.Inputs.{needs_by_input}
use Rattle.cache_rebuild.proofs.asked.Asked.add_needs.Goals as goal

pub inputs-init : goal.inputs-init
inputs-init c =
    let view = c.args.view.now in
    let from = needed view c.args.node c.args.task.now in
    let count : c.input_count-input-end.result + 1 - 1 ≡ input_count view.shape c.args.task.now = omega (arith, c.input_count-input-end.ensures ∙ ap (λ (shape : Shape). input_count shape c.args.task.now) c.shape.ensures.same) in
    λ t. ap (λ names. makes_one (gone view c.args.node names) t || makes_one c.args.self.now.names.keys t) (ap (λ n. flat_map from (range_with_len 1 n)) count ∙ needs_by_input view c.args.node c.args.task.now)

pub inputs-preserved : goal.inputs-preserved
inputs-preserved c =
    let view = c.args.view.now in
    let lacks = λ (name : Name). not (is_there view.copies view.up c.args.node name) in
    let from = needed view c.args.node c.args.task.now in
    let end = c.input_count-input-end.result + 1 in
    asking_more c.args.self.now.names.keys c.inputs.self.names.keys c.add_input.new.self.names.keys (gone view c.args.node (from c.inputs.input)) (gone view c.args.node (flat_map from (from_on (c.inputs.input + 1) end))) (gone view c.args.node (flat_map from (from_on c.inputs.input end))) (missing view c.args.node c.args.task.now)
    (flat_more lacks from c.inputs.input end c.inputs-test.true) c.in_ok-add_input.ensures c.inputs.invariant

pub returns : goal.returns
returns c =
    let view = c.args.view.now in
    let lacks = λ (name : Name). not (is_there view.copies view.up c.args.node name) in
    let from = needed view c.args.node c.args.task.now in
    let end = c.input_count-input-end.result + 1 in
    asking_done c.args.self.now.names.keys c.inputs.self.names.keys (gone view c.args.node (flat_map from (from_on c.inputs.input end))) (missing view c.args.node c.args.task.now)
    (flat_done lacks from c.inputs.input end c.inputs-test.false) c.inputs.invariant

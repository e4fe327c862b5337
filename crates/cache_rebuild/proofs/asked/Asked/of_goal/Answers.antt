use Rattle.std.proofs.Common.{◌≡◌, ℕ, ◌+◌, ◌-◌, ◌||◌, not, [], ◌∷◌, map, sym, ap, subst, ◌∙◌, arith}
use Rattle.std.specs.List.{range_with_len}
use Rattle.hal_base.specs.declared.shape.Shape.{Shape}
use Rattle.node_names.specs.declared.name.Name.{Name}
use Rattle.node_names.specs.declared.name.Name.TheVariants.{Out}
use Rattle.run_model.specs.Needs.{is_up}
use Rattle.run_model.specs.Tasks.{last, last_outs}
use Rattle.loop_scheduler.proofs.Ranges.{from_on}
use Rattle.cache_rebuild.specs.steps.Asking.{AsksMore, lost, makes_one}
use Rattle.cache_rebuild.proofs.Asks.{asking_done, asking_more, left_done, left_more, makes_none, parts_asked}
use Rattle.cache_rebuild.proofs.asked.Asked.of_goal.Goals as goal

pub parts-init : goal.parts-init
parts-init c =
    let view = c.args.view.now in
    let count : c.shape-2.result.now.parts - 0 ≡ view.shape.parts = omega (arith, ap (λ (shape : Shape). shape.parts) c.shape-2.ensures.same) in
    λ t k. makes_one (lost view (map (Out c.args.goal.now.round (last view.shape)) (range_with_len 0 (count k)))) t || (c.new-asked.ensures t ∙ sym (makes_none t)) k

pub parts-preserved : goal.parts-preserved
parts-preserved c =
    let view = c.args.view.now in
    let lacks = λ (name : Name). not (is_up view.copies view.up name) in
    let round = c.args.goal.now.round in
    let name = Out round (last view.shape) in
    let end = c.shape-2.result.now.parts in
    let step : c.last_step-step.result ≡ last view.shape = c.last_step-step.ensures ∙ ap last c.shape.ensures.same in
    let more = subst (λ (j : ℕ). AsksMore c.parts.asked.names.keys c.add_lost.new.self.names.keys (lost view (Out round j c.parts.part ∷ []))) step c.in_ok-add_lost.ensures in
    asking_more [] c.parts.asked.names.keys c.add_lost.new.self.names.keys (lost view (name c.parts.part ∷ [])) (lost view (map name (from_on (c.parts.part + 1) end))) (lost view (map name (from_on c.parts.part end))) (lost view (last_outs view.shape round))
    (left_more lacks name c.parts.part end c.parts-test.true) more c.parts.invariant

pub returns : goal.returns
returns c =
    let view = c.args.view.now in
    let lacks = λ (name : Name). not (is_up view.copies view.up name) in
    let round = c.args.goal.now.round in
    let name = Out round (last view.shape) in
    let end = c.shape-2.result.now.parts in
    parts_asked view round c.parts.asked.names.keys
    (asking_done [] c.parts.asked.names.keys (lost view (map name (from_on c.parts.part end))) (lost view (last_outs view.shape round)) (left_done lacks name c.parts.part end c.parts-test.false) c.parts.invariant)

use Rattle.std.proofs.Common.{◌≡◌, ◌+◌, ◌-◌, sym, subst, ◌∙◌, arith}
use Rattle.run_model.specs.Tasks.{tasks_until}
use Rattle.run_model.specs.Wanted.{wanted}
use Rattle.cache_rebuild.specs.Goals.{plain_goal}
use Rattle.cache_rebuild.specs.steps.Walking.{Comes}
use Rattle.cache_rebuild.proofs.Steps.{all_found, skip_rounds}
use Rattle.cache_rebuild.proofs.wanting.walk_rounds.Goals as goal

pub rounds-init : goal.rounds-init
rounds-init c = record {
  begun = c.requires;
  within = omega arith;
  comes = c.in_ok-look_through.ensures (wanted c.args.view.now (plain_goal c.args.goal.now)) c.in_ok-walk.ensures;
}

pub rounds-preserved : goal.rounds-preserved
rounds-preserved c =
    let view = c.args.view.now in
    let goal = plain_goal c.args.goal.now in
    let all = wanted view goal in
    let round = c.rounds.round in
    let before = c.in-Some.before in
    let least = c.in-Some.ensures.before.0 in
    let less = c.in-Some.ensures.before.1 in
    let within = c.rounds.invariant.within in
    let gap : before + (round - 1 - before) ≡ round - 1 = omega arith in
    let comes = skip_rounds view goal all (round - 1 - before) before c.rounds.walk (omega arith) (λ t l u. c.in-Some.ensures.last t l (omega arith)) (subst (λ n. Comes view goal (tasks_until view.shape n) all c.rounds.walk) (sym gap) c.rounds.invariant.comes) in
    record { begun = least; within = omega arith; comes = c.in_ok-look_through-2.ensures all comes }

pub returns : goal.returns
returns c =
    let view = c.args.view.now in
    let goal = plain_goal c.args.goal.now in
    let all = wanted view goal in
    let round = c.rounds.round in
    let within = c.rounds.invariant.within in
    let begun = c.rounds.invariant.begun in
    let gap : 0 + (round - 1) ≡ round - 1 = omega arith in
    c.into_tasks.ensures
    ∙ all_found view goal all c.rounds.walk (skip_rounds view goal all (round - 1) 0 c.rounds.walk (omega arith) (λ t l u. c.in_default.ensures.none t (omega arith) (omega arith)) (subst (λ n. Comes view goal (tasks_until view.shape n) all c.rounds.walk) (sym gap) c.rounds.invariant.comes))

use Rattle.std.proofs.Common.{◌≡◌, ◌-◌, inl, [], ◌∷◌, ◌++◌, refl, sym, ap, subst, ◌∙◌, append_assoc, arith}
use Rattle.std.proofs.lemmas.List.{append-nil, nil_from_length}
use Rattle.hal_base.specs.declared.shape.Shape.{Shape}
use Rattle.run_model.specs.Lists.{IsIn}
use Rattle.run_model.specs.Tasks.{tasks_of_round, tasks_until}
use Rattle.run_laws.proofs.Listing.{tasks_are}
use Rattle.run_laws.proofs.Members.{in_left, in_right}
use Rattle.run_laws.proofs.RoundWalks.{until_end}
use Rattle.cache_rebuild.specs.Goals.{plain_goal}
use Rattle.cache_rebuild.specs.steps.Walking.{Comes}
use Rattle.cache_rebuild.proofs.walk.Walk.look_through.Goals as goal

pub tasks-init : goal.tasks-init
tasks-init c =
    let shape = c.args.view.now.shape in
    let round = c.args.round in
    let items : c.into_vec-left.result.items ≡ tasks_of_round shape round = c.into_vec-left.ensures ∙ c.in_ok-round_tasks.ensures ∙ ap (λ (it : Shape). tasks_of_round it round) c.shape.ensures.same in
    let end = until_end shape round c.requires in
    record {
      tasks = λ t i. ((tasks_are shape round t).0 (subst (IsIn t) (sym end) (in_right t (tasks_until shape (round - 1)) (tasks_of_round shape round) (subst (IsIn t) items i)))).0;
      comes = λ all h. subst (λ ts. Comes c.args.view.now (plain_goal c.args.goal.now) ts all c.args.self.now) (end ∙ ap (λ ts. tasks_until shape (round - 1) ++ ts) (sym items)) h;
    }

pub look_at-requires : goal.look_at-requires
look_at-requires c = c.tasks.invariant.tasks c.in-Some.task (subst (IsIn c.in-Some.task) (sym c.in-Some.ensures.items) (in_right c.in-Some.task c.pop.new.self.items (c.in-Some.task ∷ []) (inl refl)))

pub tasks-preserved : goal.tasks-preserved
tasks-preserved c =
    let front = tasks_until c.args.view.now.shape (c.args.round - 1) in
    let rest = c.pop.new.self.items in
    let task = c.in-Some.task in
    record {
      tasks = λ t i. c.tasks.invariant.tasks t (subst (IsIn t) (sym c.in-Some.ensures.items) (in_left t rest (task ∷ []) i));
      comes = λ all h. c.in_ok-look_at.ensures (front ++ rest) all (subst (λ ts. Comes c.args.view.now (plain_goal c.args.goal.now) ts all c.tasks.self) (ap (λ ts. front ++ ts) c.in-Some.ensures.items ∙ sym (append_assoc front rest (task ∷ []))) (c.tasks.invariant.comes all h));
    }

pub returns : goal.returns
returns c =
    let front = tasks_until c.args.view.now.shape (c.args.round - 1) in
    let none : c.tasks.left.items ≡ [] = nil_from_length c.tasks.left.items (omega (arith, c.tasks.left.ok, c.in_default.ensures.cases)) in
    λ all h. subst (λ ts. Comes c.args.view.now (plain_goal c.args.goal.now) ts all c.tasks.self) (ap (λ ts. front ++ ts) none ∙ append-nil front) (c.tasks.invariant.comes all h)

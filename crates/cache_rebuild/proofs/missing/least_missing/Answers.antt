use Rattle.std.proofs.Common.{◌≡◌, ℕ, Option, None, inl, [], ◌∷◌, refl, sym, ap, subst, ◌∙◌, arith}
use Rattle.std.specs.List.{flat_map}
use Rattle.std.specs.Option.{option_map}
use Rattle.std.proofs.lemmas.List.{nil_from_length}
use Rattle.node_names.specs.declared.task.Task.{Task}
use Rattle.run_model.specs.Lists.{IsIn}
use Rattle.run_model.specs.Wanted.{block_in, missing_blocks, missing_of, wanted}
use Rattle.run_laws.proofs.Members.{in_left, in_right}
use Rattle.run_laws.proofs.Opening.{wanted_are_tasks}
use Rattle.cache_rebuild.specs.Goals.{block_at, plain_goal}
use Rattle.cache_rebuild.specs.steps.Blocks.{least_on}
use Rattle.cache_rebuild.proofs.LeastBlocks.{least_begins, least_more}
use Rattle.cache_rebuild.proofs.missing.least_missing.Goals as goal

pub tasks-init : goal.tasks-init
tasks-init c =
    let view = c.args.view.now in
    let goal = plain_goal c.args.goal.now in
    let items : c.into_vec-left.result.items ≡ wanted view goal = c.into_vec-left.ensures ∙ c.in_ok-wanted.ensures.tasks in
    let nothing : Option (ℕ × ℕ) = None in
    record {
      tasks = λ t i. (wanted_are_tasks view goal t (subst (IsIn t) items i)).0;
      least = ap (λ ts. least_on (flat_map (λ task. flat_map block_in (missing_of view task)) ts) (option_map block_at nothing)) items ∙ least_begins (missing_blocks view goal);
    }

pub with_missing-first-requires : goal.with_missing-first-requires
with_missing-first-requires c = c.tasks.invariant.tasks c.in-Some.task (subst (IsIn c.in-Some.task) (sym c.in-Some.ensures.items) (in_right c.in-Some.task c.pop.new.self.items (c.in-Some.task ∷ []) (inl refl)))

pub tasks-preserved : goal.tasks-preserved
tasks-preserved c =
    let view = c.args.view.now in
    let rest = c.pop.new.self.items in
    let task = c.in-Some.task in
    let blocks = λ (task : Task). flat_map block_in (missing_of view task) in
    record {
      tasks = λ t i. c.tasks.invariant.tasks t (subst (IsIn t) (sym c.in-Some.ensures.items) (in_left t rest (task ∷ []) i));
      least = ap (least_on (flat_map blocks rest)) c.with_missing-first.ensures ∙ least_more blocks c.tasks.left.items rest task (option_map block_at c.tasks.first) c.in-Some.ensures.items ∙ c.tasks.invariant.least;
    }

pub returns : goal.returns
returns c =
    let view = c.args.view.now in
    let blocks = λ (task : Task). flat_map block_in (missing_of view task) in
    let none : c.tasks.left.items ≡ [] = nil_from_length c.tasks.left.items (omega (arith, c.tasks.left.ok, c.in_default.ensures.cases)) in
    sym (ap (λ ts. least_on (flat_map blocks ts) (option_map block_at c.tasks.first)) none) ∙ c.tasks.invariant.least

use Rattle.std.proofs.Common.{◌≡◌, sym, ap, ◌∙◌, subst, arith, List, false}
use Rattle.std.specs.List.{list_any}
use Rattle.run_model.specs.Tasks.{is_task}
use Rattle.run_model.specs.declared.attempt.Failed.{Failed}
use Rattle.cluster_core.specs.Running.{IsFirst}
use Rattle.cluster_core.proofs.Places.{count_there, counted_there, failure_begun, one_of_none, there_is}
use Rattle.cluster_core.proofs.running.count_failure.Goals as goal

pub overflow_add-index_mut : goal.overflow_add-index_mut
overflow_add-index_mut c =
    let it : IsFirst (λ (f : Failed). is_task c.args.task.now f.task) c.args.failures.now.items c.in-Some.at = subst (λ (fs : List Failed). IsFirst (λ (f : Failed). is_task c.args.task.now f.task) fs c.in-Some.at) c.deref.ensures.value c.in-Some.ensures in
    let count = there_is c.args.task.now c.args.failures.now.items c.in-Some.at c.index_mut.result.now it c.index_mut.ensures.value in
    omega (arith, c.requires, count)

pub returns-in-Some-clause-counted : goal.returns-in-Some-clause-counted
returns-in-Some-clause-counted c =
    let it : IsFirst (λ (f : Failed). is_task c.args.task.now f.task) c.args.failures.now.items c.in-Some.at = subst (λ (fs : List Failed). IsFirst (λ (f : Failed). is_task c.args.task.now f.task) fs c.in-Some.at) c.deref.ensures.value c.in-Some.ensures in
    counted_there c.args.task.now c.args.failures.now.items c.in-Some.at c.index_mut.result.now it c.index_mut.ensures.value

pub returns-in-Some-clause-count : goal.returns-in-Some-clause-count
returns-in-Some-clause-count c =
    let it : IsFirst (λ (f : Failed). is_task c.args.task.now f.task) c.args.failures.now.items c.in-Some.at = subst (λ (fs : List Failed). IsFirst (λ (f : Failed). is_task c.args.task.now f.task) fs c.in-Some.at) c.deref.ensures.value c.in-Some.ensures in
    ap (λ (f : Failed). f.count) c.index.ensures ∙ count_there c.args.task.now c.args.failures.now.items c.in-Some.at c.index_mut.result.now _ it c.index_mut.ensures.value

pub returns-in_ok-push-in-None-clause-counted : goal.returns-in_ok-push-in-None-clause-counted
returns-in_ok-push-in-None-clause-counted c = c.in_ok-push-in-None.ensures.items ∙ sym (failure_begun c.args.task.now c.args.failures.now.items (subst (λ (fs : List Failed). list_any (λ (f : Failed). is_task c.args.task.now f.task) fs ≡ false) c.deref.ensures.value c.in-None.ensures))

pub returns-in_ok-push-in-None-clause-count : goal.returns-in_ok-push-in-None-clause-count
returns-in_ok-push-in-None-clause-count c = sym (one_of_none c.args.task.now c.args.failures.now.items (subst (λ (fs : List Failed). list_any (λ (f : Failed). is_task c.args.task.now f.task) fs ≡ false) c.deref.ensures.value c.in-None.ensures))

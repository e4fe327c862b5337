use Rattle.std.proofs.Common.{◌≡◌, ◌==◌, nat_lt, Option, Some, List, MatchOption, sym, ap, subst, ◌∙◌}
use Rattle.std.specs.List.{filter, find}
use Rattle.replica_table.specs.Sets.{members}
use Rattle.run_laws.specs.WithoutLoss.{Orderly}
use Rattle.run_model.specs.Lists.{number_of}
use Rattle.run_model.specs.Needs.{view_of}
use Rattle.run_model.specs.Start.{start_one, started}
use Rattle.run_model.specs.Tasks.{IsTask, tasks_of_round}
use Rattle.run_model.specs.declared.attempt.Attempt.{Attempt}
use Rattle.cluster_core.specs.Starting.{can_start}
use Rattle.cluster_core.specs.States.{Seen}
use Rattle.cluster_core.proofs.Inside.{kept_in, plain_in, setup_in}
use Rattle.cluster_core.proofs.Ready.{fits_of, none_starts, nowhere_starts, one_starts, task_found, view_is}
use Rattle.cluster_core.proofs.state.State.first_ready.Goals as goal

pub returns-in_err-task : goal.returns-in_err-task
returns-in_err-task c =
    let fits = fits_of c.self.inside.shape c.self.inside.schedule c.self.invariant.counted c.self.invariant.limits in
    let orderly : Orderly (setup_in c.self.inside) (plain_in c.self.inside) = subst (λ (s : Seen). Orderly s.setup s.plain) (sym c.self.view_is) c.requires.orderly in
    let idle : members c.idle_nodes-idle.result.0 ≡ filter (λ n. nat_lt (number_of (λ (a : Attempt). n == a.node) c.self.inside.running.items) c.self.inside.schedule.slots) c.self.inside.table.up = c.idle_nodes-idle.ensures ∙ ap (λ (running : List Attempt). filter (λ n. nat_lt (number_of (λ (a : Attempt). n == a.node) running) c.self.inside.schedule.slots) c.self.inside.table.up) c.deref.ensures.value in
    let view : c.new-view.result ≡ view_of (setup_in c.self.inside) (plain_in c.self.inside) = c.new-view.ensures ∙ view_is (setup_in c.self.inside) (kept_in c.self.inside) c.idle_nodes-idle.result.0 idle in
    let looked : c.find_ready.result ≡ find (can_start c.new-view.result c.self.inside.table c.self.inside.values.items c.self.inside.running.items) (tasks_of_round c.self.inside.shape c.self.inside.round) =
    c.find_ready.ensures
    ∙ ap (λ values. find (can_start c.new-view.result c.self.inside.table values c.deref-3.result.now) c.as_slice.result.now) c.deref-2.ensures.value
    ∙ ap (λ (running : List Attempt). find (can_start c.new-view.result c.self.inside.table c.self.inside.values.items running) c.as_slice.result.now) c.deref-3.ensures.value
    ∙ ap (find (can_start c.new-view.result c.self.inside.table c.self.inside.values.items c.self.inside.running.items)) (c.as_slice.ensures ∙ c.self.invariant.tasks_are) in
    let none = none_starts (setup_in c.self.inside) (kept_in c.self.inside) c.new-view.result fits orderly view (sym looked ∙ c.in_err-task.was) in
    subst (λ (o : Option Attempt). MatchOption o (start_one c.args.self.now.setup c.args.self.now.plain ≡ c.args.self.now.plain) (λ a. start_one c.args.self.now.setup c.args.self.now.plain ≡ started a.task (Some a.node) c.args.self.now.plain)) (sym c.from_residual.ensures)
    (subst (λ (s : Seen). start_one s.setup s.plain ≡ s.plain) c.self.view_is none)

pub site-requires : goal.site-requires
site-requires c =
    let fits = fits_of c.self.inside.shape c.self.inside.schedule c.self.invariant.counted c.self.invariant.limits in
    let orderly : Orderly (setup_in c.self.inside) (plain_in c.self.inside) = subst (λ (s : Seen). Orderly s.setup s.plain) (sym c.self.view_is) c.requires.orderly in
    let idle : members c.idle_nodes-idle.result.0 ≡ filter (λ n. nat_lt (number_of (λ (a : Attempt). n == a.node) c.self.inside.running.items) c.self.inside.schedule.slots) c.self.inside.table.up = c.idle_nodes-idle.ensures ∙ ap (λ (running : List Attempt). filter (λ n. nat_lt (number_of (λ (a : Attempt). n == a.node) running) c.self.inside.schedule.slots) c.self.inside.table.up) c.deref.ensures.value in
    let view : c.new-view.result ≡ view_of (setup_in c.self.inside) (plain_in c.self.inside) = c.new-view.ensures ∙ view_is (setup_in c.self.inside) (kept_in c.self.inside) c.idle_nodes-idle.result.0 idle in
    let looked : c.find_ready.result ≡ find (can_start c.new-view.result c.self.inside.table c.self.inside.values.items c.self.inside.running.items) (tasks_of_round c.self.inside.shape c.self.inside.round) =
    c.find_ready.ensures
    ∙ ap (λ values. find (can_start c.new-view.result c.self.inside.table values c.deref-3.result.now) c.as_slice.result.now) c.deref-2.ensures.value
    ∙ ap (λ (running : List Attempt). find (can_start c.new-view.result c.self.inside.table c.self.inside.values.items running) c.as_slice.result.now) c.deref-3.ensures.value
    ∙ ap (find (can_start c.new-view.result c.self.inside.table c.self.inside.values.items c.self.inside.running.items)) (c.as_slice.ensures ∙ c.self.invariant.tasks_are) in
    let task : IsTask c.self.inside.shape c.in_ok-task.task = task_found (setup_in c.self.inside) (kept_in c.self.inside) c.new-view.result c.in_ok-task.task orderly.reached.time.begun (sym looked ∙ c.in_ok-task.was) in
    rw view task

pub returns-in-Some : goal.returns-in-Some
returns-in-Some c =
    let fits = fits_of c.self.inside.shape c.self.inside.schedule c.self.invariant.counted c.self.invariant.limits in
    let orderly : Orderly (setup_in c.self.inside) (plain_in c.self.inside) = subst (λ (s : Seen). Orderly s.setup s.plain) (sym c.self.view_is) c.requires.orderly in
    let idle : members c.idle_nodes-idle.result.0 ≡ filter (λ n. nat_lt (number_of (λ (a : Attempt). n == a.node) c.self.inside.running.items) c.self.inside.schedule.slots) c.self.inside.table.up = c.idle_nodes-idle.ensures ∙ ap (λ (running : List Attempt). filter (λ n. nat_lt (number_of (λ (a : Attempt). n == a.node) running) c.self.inside.schedule.slots) c.self.inside.table.up) c.deref.ensures.value in
    let view : c.new-view.result ≡ view_of (setup_in c.self.inside) (plain_in c.self.inside) = c.new-view.ensures ∙ view_is (setup_in c.self.inside) (kept_in c.self.inside) c.idle_nodes-idle.result.0 idle in
    let looked : c.find_ready.result ≡ find (can_start c.new-view.result c.self.inside.table c.self.inside.values.items c.self.inside.running.items) (tasks_of_round c.self.inside.shape c.self.inside.round) =
    c.find_ready.ensures
    ∙ ap (λ values. find (can_start c.new-view.result c.self.inside.table values c.deref-3.result.now) c.as_slice.result.now) c.deref-2.ensures.value
    ∙ ap (λ (running : List Attempt). find (can_start c.new-view.result c.self.inside.table c.self.inside.values.items running) c.as_slice.result.now) c.deref-3.ensures.value
    ∙ ap (find (can_start c.new-view.result c.self.inside.table c.self.inside.values.items c.self.inside.running.items)) (c.as_slice.ensures ∙ c.self.invariant.tasks_are) in
    let one = one_starts (setup_in c.self.inside) (kept_in c.self.inside) c.new-view.result c.in_ok-task.task c.in-Some.node fits orderly view (sym looked ∙ c.in_ok-task.was) (sym c.site.ensures.place ∙ c.in-Some.is) in
    subst (λ (s : Seen). start_one s.setup s.plain ≡ started c.in_ok-task.task (Some c.in-Some.node) s.plain) c.self.view_is one

pub returns-in-None : goal.returns-in-None
returns-in-None c =
    let fits = fits_of c.self.inside.shape c.self.inside.schedule c.self.invariant.counted c.self.invariant.limits in
    let orderly : Orderly (setup_in c.self.inside) (plain_in c.self.inside) = subst (λ (s : Seen). Orderly s.setup s.plain) (sym c.self.view_is) c.requires.orderly in
    let idle : members c.idle_nodes-idle.result.0 ≡ filter (λ n. nat_lt (number_of (λ (a : Attempt). n == a.node) c.self.inside.running.items) c.self.inside.schedule.slots) c.self.inside.table.up = c.idle_nodes-idle.ensures ∙ ap (λ (running : List Attempt). filter (λ n. nat_lt (number_of (λ (a : Attempt). n == a.node) running) c.self.inside.schedule.slots) c.self.inside.table.up) c.deref.ensures.value in
    let view : c.new-view.result ≡ view_of (setup_in c.self.inside) (plain_in c.self.inside) = c.new-view.ensures ∙ view_is (setup_in c.self.inside) (kept_in c.self.inside) c.idle_nodes-idle.result.0 idle in
    let looked : c.find_ready.result ≡ find (can_start c.new-view.result c.self.inside.table c.self.inside.values.items c.self.inside.running.items) (tasks_of_round c.self.inside.shape c.self.inside.round) =
    c.find_ready.ensures
    ∙ ap (λ values. find (can_start c.new-view.result c.self.inside.table values c.deref-3.result.now) c.as_slice.result.now) c.deref-2.ensures.value
    ∙ ap (λ (running : List Attempt). find (can_start c.new-view.result c.self.inside.table c.self.inside.values.items running) c.as_slice.result.now) c.deref-3.ensures.value
    ∙ ap (find (can_start c.new-view.result c.self.inside.table c.self.inside.values.items c.self.inside.running.items)) (c.as_slice.ensures ∙ c.self.invariant.tasks_are) in
    let none = nowhere_starts (setup_in c.self.inside) (kept_in c.self.inside) c.new-view.result view c.in-None.ensures.none in
    subst (λ (s : Seen). start_one s.setup s.plain ≡ s.plain) c.self.view_is none

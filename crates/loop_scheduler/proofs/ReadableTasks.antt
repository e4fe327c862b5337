-- A task can be read where each of its files lies on an up node.
use Rattle.std.proofs.Common.{◌≡◌, inl, inr, refl, Bool, true, ◌&&◌, List, [], ◌∷◌, sym, ap, ◌∙◌}
use Rattle.std.specs.List.{flat_map, list_all}
use Rattle.std.proofs.lemmas.List.Folds.{list_all-append}
use Rattle.node_names.specs.declared.name.Name.{Name}
use Rattle.node_names.specs.declared.task.Task.{Task}
use Rattle.run_model.specs.Lists.{IsIn}
use Rattle.run_model.specs.Needs.{Input, View, inputs, is_up}
use Rattle.loop_scheduler.specs.Reads.{can_read}
use Rattle.loop_scheduler.proofs.Choices.{and_left, and_right}

passes : {A : Type 0} (test : A → Bool) (x : A) (xs : List A) → list_all test xs ≡ true → IsIn x xs → test x ≡ true
passes test x [] e i = absurd i
passes test x (y ∷ xs) e (inl same) = ap test same ∙ and_left (test y) (list_all test xs) e
passes test x (y ∷ xs) e (inr i) = passes test x xs (and_right (test y) (list_all test xs) e) i

all_pass : {A : Type 0} (test : A → Bool) (xs : List A) → ((x : A) → IsIn x xs → test x ≡ true) → list_all test xs ≡ true
all_pass test [] h = refl
all_pass test (x ∷ xs) h = (λ i. h x (inl refl) i && all_pass test xs (λ y j. h y (inr j)) i)

of_inputs : (test : Name → Bool) (it : Input) (its : List Input) → list_all test (flat_map (λ (one : Input). one.files) its) ≡ true → IsIn it its → list_all test it.files ≡ true
of_inputs test it [] e i = absurd i
of_inputs test it (one ∷ its) e (inl same) =
    ap (λ (them : Input). list_all test them.files) same
    ∙ and_left (list_all test one.files) (list_all test (flat_map (λ (it : Input). it.files) its)) (sym (list_all-append test one.files (flat_map (λ (it : Input). it.files) its)) ∙ e)
of_inputs test it (one ∷ its) e (inr i) =
    of_inputs test it its (and_right (list_all test one.files) (list_all test (flat_map (λ (it : Input). it.files) its)) (sym (list_all-append test one.files (flat_map (λ (it : Input). it.files) its)) ∙ e)) i

to_inputs : (test : Name → Bool) (its : List Input) → ((it : Input) → IsIn it its → list_all test it.files ≡ true) → list_all test (flat_map (λ (one : Input). one.files) its) ≡ true
to_inputs test [] h = refl
to_inputs test (one ∷ its) h =
    list_all-append test one.files (flat_map (λ (it : Input). it.files) its)
    ∙ (λ i. h one (inl refl) i && to_inputs test its (λ it j. h it (inr j)) i)

-- where a task can be read, each of its files lies on an up node
pub each_is_up : (view : View) (task : Task) → can_read view task ≡ true → (it : Input) (name : Name) → IsIn it (inputs view.shape task) → IsIn name it.files → is_up view.copies view.up name ≡ true
each_is_up view task e it name i j = passes (is_up view.copies view.up) name it.files (of_inputs (is_up view.copies view.up) it (inputs view.shape task) e i) j

-- and the other way round
pub readable_by_each : (view : View) (task : Task) → ((it : Input) (name : Name) → IsIn it (inputs view.shape task) → IsIn name it.files → is_up view.copies view.up name ≡ true) → can_read view task ≡ true
readable_by_each view task h = to_inputs (is_up view.copies view.up) (inputs view.shape task) (λ it i. all_pass (is_up view.copies view.up) it.files (λ name j. h it name i j))

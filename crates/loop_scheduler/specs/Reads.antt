-- The files that an attempt at a task reads where no cache stands for them.
use Rattle.std.specs.Prelude.{Bool, List, map}
use Rattle.std.specs.List.{flat_map, list_all}
use Rattle.hal_base.specs.declared.shape.Shape.{Shape}
use Rattle.node_names.specs.declared.name.Name.{Name}
use Rattle.node_names.specs.declared.task.Task.{Task}
use Rattle.run_model.specs.Needs.{Input, View, inputs, is_up}

-- the files of each input of a task
abbrev pub files_of : Shape → Task → List (List Name)
files_of shape task = map (λ (it : Input). it.files) (inputs shape task)

-- each file of each input of a task lies on an up node
abbrev pub can_read : View → Task → Bool
can_read view task = list_all (is_up view.copies view.up) (flat_map (λ (it : Input). it.files) (inputs view.shape task))

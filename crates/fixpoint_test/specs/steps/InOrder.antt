-- The groups of a key, how far apart they are, and records in order.
use Rattle.std.specs.Prelude.{◌≡◌, ℕ, List, Option, None, Some}
use Rattle.hal_base.specs.declared.value.Value.{Value}
use Rattle.hal_base.specs.declared.record.Record.{Record}
use Rattle.hal_base.specs.Order.{record_cmp}
use Rattle.hal_base.specs.Sorted.{sorted}
use Rattle.plain_job.specs.steps.Groups.{far_between}
use Rattle.group_reduce.specs.declared.KeyGroups.{KeyGroups}

-- how far the two groups of a key are from each other
abbrev pub far_of : (Value → List (List Value) → List (List Value) → ℕ) → KeyGroups → ℕ
far_of far next = far_between far next.key next.groups

-- a copy of the records in order, which is left out where they are so already
abbrev pub IsInOrder : List Record → Option (List Record) → Type 0
IsInOrder rows None = rows ≡ sorted record_cmp rows
IsInOrder rows (Some copy) = copy ≡ sorted record_cmp rows

use Rattle.std.proofs.Common.{◌≡◌, ◌++◌, map}
use Rattle.std.specs.List.{AllByRecursion}
use Rattle.hal_base.specs.Order.{record_cmp}
use Rattle.hal_base.specs.Sorted.{Ascending, sorted}
use Rattle.plain_job.specs.Chain.{together}
use Rattle.task_outputs.proofs.reducing.merged.Given as goal

-- the streams so far, and those of the sections that are left, are all streams
abbrev pub invariant-inputs : goal.invariant-inputs
invariant-inputs l = record {
  in_order : AllByRecursion (AllByRecursion (Ascending record_cmp)) l.sections-iterator.rest.items;
  all : l.streams.items ++ map (sorted record_cmp) (map together l.sections-iterator.rest.items) ≡ map (sorted record_cmp) (map together l.fn.inputs.items);
}

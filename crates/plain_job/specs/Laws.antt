-- Laws of jobs, which tell what may be done to their streams beforehand.
use Rattle.std.specs.Prelude.{◌≡◌, Bool, true, List, map}
use Rattle.std.specs.List.{filter}
use Rattle.hal_base.specs.declared.value.Value.{Value}
use Rattle.hal_base.specs.declared.record.Record.{Record}
use Rattle.hal_base.specs.Order.{record_cmp}
use Rattle.hal_base.specs.Sorted.{sorted}
use Rattle.plain_job.specs.Job.{job}

-- the records whose keys are chosen
abbrev pub part : (Value → Bool) → List Record → List Record
part chosen rows = filter (λ row. chosen row.key) rows

-- the job of the chosen keys is the whole job over the records with chosen keys
abbrev pub PartsMakeTheJob : Type 0
PartsMakeTheJob = (reduce : Value → List (List (List Value)) → List Record) (chosen : Value → Bool) (streams : List (List Record)) → job reduce chosen streams ≡ job reduce (λ _. true) (map (part chosen) streams)

-- a job reads each stream as if it were sorted
abbrev pub SortingKeepsTheJob : Type 0
SortingKeepsTheJob = (reduce : Value → List (List (List Value)) → List Record) (chosen : Value → Bool) (streams : List (List Record)) → job reduce chosen (map (sorted record_cmp) streams) ≡ job reduce chosen streams

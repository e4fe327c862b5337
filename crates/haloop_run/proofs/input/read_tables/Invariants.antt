use Rattle.hal_outside.specs.Told.{FileMap}
use Rattle.hal_outside.specs.Calls.{OnlyReads, Tells}
use Rattle.std.specs.List.{AllByRecursion}
use Rattle.haloop_run.specs.Inputs.{tables_of}
use Rattle.haloop_run.specs.steps.Runs.{AreFew}
use Rattle.haloop_run.proofs.Tables.{FitSoFar, HaveFirst}
use Rattle.haloop_run.proofs.input.read_tables.Given as goal

abbrev pub invariant-tables : goal.invariant-tables
invariant-tables g l =
    OnlyReads g.F.Files l.initial.files l.files
    × FitSoFar l.schema-items l.at l.tables
    × AllByRecursion AreFew l.tables
    × ((told : FileMap) → Tells g.F.Files l.initial.files told → HaveFirst (tables_of l.program) l.at l.tables told)

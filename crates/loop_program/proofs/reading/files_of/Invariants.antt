use Rattle.std.proofs.Common.{◌≡◌, map, take}
use Rattle.program_sketch.specs.declared.sketch.TableSketch.{TableSketch}
use Rattle.loop_program.proofs.reading.files_of.Given as goal

abbrev pub invariant-tables : goal.invariant-tables
invariant-tables l = l.files ≡ map (λ (table : TableSketch). table.file) (take l.table-index l.tables)

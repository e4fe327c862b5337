use Rattle.std.proofs.Common.{◌≡◌, map, take}
use Rattle.program_sketch.specs.declared.sketch.TableSketch.{TableSketch}
use Rattle.loop_program.proofs.reading.names_of.Given as goal

abbrev pub invariant-tables : goal.invariant-tables
invariant-tables l = l.names ≡ map (λ (table : TableSketch). table.name.text) (take l.table-index l.tables)

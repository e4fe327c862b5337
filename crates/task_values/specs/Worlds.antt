-- What the values of names rest on: functions and tables that fit the shape, and blocks enough for each table.
use Rattle.std.specs.Prelude.{ℕ, ◌*◌, ◌≤◌, length}
use Rattle.std.specs.List.{slice_index}
use Rattle.hal_base.specs.Meaning.{KeyLaw, RoundLaw}
use Rattle.hal_base.specs.Shapes.{IsWellFormed}
use Rattle.plain_job.specs.Chain.{table_at}
use Rattle.plain_job.specs.Fit.{FunctionsFit, TablesFit}
use Rattle.name_values.specs.Values.{World}

-- there are blocks enough for each table
abbrev pub HasBlocks : World → Type 0
HasBlocks w = (t : ℕ) → length (table_at w.tables t) ≤ slice_index w.shape.blocks t * w.block

-- functions and tables fit a shape with blocks enough, and the functions keep their laws
pub record WorldFits (w : World) : Type 0 where
  pub well_formed : IsWellFormed w.shape
  pub functions : FunctionsFit w.means w.shape
  pub tables : TablesFit w.shape w.tables
  pub blocks : HasBlocks w
  pub rounds : RoundLaw w.means
  pub keys : KeyLaw w.means

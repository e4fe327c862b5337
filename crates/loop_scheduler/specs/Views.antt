-- What placement looks at, over a table of copies.
use Rattle.std.specs.Prelude.{◌≡◌, ℕ, true, List, length}
use Rattle.std.specs.List.{filter}
use Rattle.hal_base.specs.Shapes.{IsWellFormed}
use Rattle.hal_base.specs.declared.shape.Shape.{Shape}
use Rattle.replica_table.specs.Copies.{Replicas}
use Rattle.replica_table.specs.Sets.{among}
use Rattle.run_model.specs.Needs.{View}
use Rattle.run_model.specs.State.{bare}

-- a shape within its limits, with a number of blocks for each table
pub record IsCounted (shape : Shape) : Type 0 where
  pub well_formed : IsWellFormed shape
  pub blocks : length shape.blocks ≡ length shape.tables

-- each of the nodes is one of the others
abbrev pub AreAmong : List ℕ → List ℕ → Type 0
AreAmong nodes others = (node : ℕ) → among node nodes ≡ true → among node others ≡ true

-- the view of a shape and a table, where these nodes are called idle: of them, those that are up count
abbrev pub view_over : Shape → Replicas → List ℕ → View
view_over shape replicas idle = record { shape = shape; copies = bare replicas.copies; up = replicas.up; idle = filter (λ node. among node replicas.up) idle }

-- A list that has been added to.
use Rattle.std.specs.Prelude.{◌≡◌, List, ◌++◌}
use Rattle.hal_base.specs.declared.record.Record.{Record}

-- the records that were there still stand in front
abbrev pub Extends : List Record → List Record → Type 0
Extends old new = (more : List Record) × (new ≡ old ++ more)

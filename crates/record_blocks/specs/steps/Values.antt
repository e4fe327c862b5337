-- What a record keeps that was written.
use Rattle.std.specs.List.{AllByRecursion}
use Rattle.hal_base.specs.declared.record.Record.{Record}
use Rattle.hal_base.specs.Values.{IsValue}

-- the key and the fields are values
abbrev pub AreValues : Record → Type 0
AreValues row = IsValue row.key × AllByRecursion IsValue row.fields

-- The orders of values and of records.
use Rattle.std.specs.declared.cmp.Ordering.{Ordering}
use Rattle.std.specs.declared.cmp.Ordering.TheVariants.{Less, Greater}
use Rattle.std.specs.Ordering.{nat_cmp, int_cmp, ordering_then}
use Rattle.std.specs.Cmp.Lexicographic.{slice_cmp}
use Rattle.hal_base.specs.declared.value.Value.{Value}
use Rattle.hal_base.specs.declared.value.Value.TheVariants.{Int, Text}
use Rattle.hal_base.specs.declared.record.Record.{Record}

-- numbers by value, texts by bytes, and each number before each text
abbrev pub value_cmp : Value → Value → Ordering
value_cmp (Int x) (Int y) = int_cmp x y
value_cmp (Int _) (Text _) = Less
value_cmp (Text _) (Int _) = Greater
value_cmp (Text s) (Text t) = slice_cmp nat_cmp s t

-- by key, and then by the fields from left to right
abbrev pub record_cmp : Record → Record → Ordering
record_cmp a b = ordering_then (value_cmp a.key b.key) (slice_cmp value_cmp a.fields b.fields)

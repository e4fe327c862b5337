use Rattle.std.proofs.Common.{◌≡◌, ◌-◌, ◌^◌, List, min, length, drop, arith}
use Rattle.std.specs.List.{flat_map}
use Rattle.std.proofs.lemmas.List.{at_drop_all}
use Rattle.hal_base.specs.declared.record.Record.{Record}
use Rattle.record_blocks.specs.Blocks.{record_bytes}
use Rattle.record_blocks.proofs.encoding.sum_of_sizes.Goals as goal

pub returns : goal.returns
returns c =
    let rows = c.as_slice-row-items.result.now in
    let none : length (flat_map record_bytes (drop c.rows.row-index rows)) ≡ 0 = at_drop_all (λ (xs : List Record). length (flat_map record_bytes xs)) rows c.rows.row-index c.rows-test.false in
    let all : c.rows.size ≡ min (length (flat_map record_bytes rows)) (2 ^ 64 - 1) = omega (arith, none, c.rows.invariant.whole, c.rows.invariant.fits) in
    rw (← c.as_slice-row-items.ensures) all

use Rattle.std.specs.Prelude.{◌≡◌, drop}
use Rattle.hal_base.specs.Parts.{text_number}
use Rattle.hal_base.proofs.part.text_number.Given as goal

abbrev pub invariant-bytes : goal.invariant-bytes
invariant-bytes l = text_number l.number (drop l.byte-index l.bytes) ≡ text_number 0 l.fn.bytes

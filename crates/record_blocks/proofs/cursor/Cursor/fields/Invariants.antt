use Rattle.std.proofs.Common.{◌≡◌, ◌≤◌, length, drop}
use Rattle.record_blocks.specs.steps.Decoders as decoders
use Rattle.record_blocks.specs.steps.Decoders.{with_front}
use Rattle.record_blocks.proofs.cursor.Cursor.fields.Given as goal

abbrev pub invariant-kinds : goal.invariant-kinds
invariant-kinds l = (with_front l.fields (decoders.values (drop l.kind-index l.kind-items) l.self) ≡ decoders.values l.fn.kinds l.fn.self) × (length l.fields ≡ l.kind-index) × (length l.kind-items ≤ 7)

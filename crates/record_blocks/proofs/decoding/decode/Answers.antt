use Rattle.std.proofs.Common.{Err, arith}
use Rattle.record_blocks.specs.Blocks.{block_text, FitBlock}
use Rattle.record_blocks.specs.steps.Decoders.{block, DecodesWhole}
use Rattle.record_blocks.specs.declared.fault.TextFault.TheVariants as fault
use Rattle.record_blocks.proofs.ExactDecoders.{are_bytes, block_exact, whole_found, whole_again}
use Rattle.record_blocks.proofs.decoding.decode.Goals as goal

pub returns-in-Ok : goal.returns-in-Ok
returns-in-Ok c =
    let f = whole_found (block_text c.args.schema.now) (FitBlock c.args.schema.now) (block c.args.schema.now) c.args.bytes.now c.in-Ok.rows (block_exact c.args.schema.now) (are_bytes c.args.bytes.now (λ i. omega (arith, c.type_inv.bytes i))) c.in-Ok.ensures in
    record { records = f.0; text = f.1 }

pub returns-in-Err-Malformed : goal.returns-in-Err-Malformed
returns-in-Err-Malformed c =
    let none : DecodesWhole (block c.args.schema.now c.args.bytes.now) (Err fault.Malformed) = rw c.in-Err-Malformed.field-0-is at c.in-Err-Malformed.ensures in
    λ rows is. none rows (whole_again (block_text c.args.schema.now) (FitBlock c.args.schema.now) (block c.args.schema.now) c.args.bytes.now rows (block_exact c.args.schema.now) is.records is.text)

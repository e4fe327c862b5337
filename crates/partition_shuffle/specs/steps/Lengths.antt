-- What a section keeps that was written.
use Rattle.std.specs.Prelude.{◌<◌, ◌^◌, List, length}
use Rattle.hal_base.specs.declared.record.Record.{Record}
use Rattle.hal_base.specs.declared.fields.Schema.{Schema}
use Rattle.record_blocks.specs.Blocks.{FitBlock, block_text}

-- records that a block can have, with a text of fewer than 2 ^ 64 bytes
pub record IsShort (schema : Schema) (rows : List Record) : Type 0 where
  pub fits : FitBlock schema rows
  pub short : length (block_text schema rows) < 2 ^ 64

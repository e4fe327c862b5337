use Rattle.hal_base.proofs.LineLaws.{text_stands}
use Rattle.hal_base.proofs.table.a_table_is_read_from_its_lines.Goals as goal

pub returns : goal.returns
returns c = text_stands

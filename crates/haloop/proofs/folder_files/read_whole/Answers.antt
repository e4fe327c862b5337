use Rattle.std.proofs.Common.{rules, ◌<◌, length}
use Rattle.haloop.proofs.Reading.{all_read}
use Rattle.haloop.proofs.folder_files.read_whole.Goals as goal

pub returns-clause-whole : goal.returns-clause-whole
returns-clause-whole g c =
    let given = rw (c.take.ensures.limit, c.take.ensures.inner, c.in_ok-bytes.ensures.items) at c.in_ok-read_to_end.ensures.bytes in
    let short : length c.read_to_end.new.buf.items < 68719476737 = search rules in
    all_read (g.F.Read.remaining c.args.file) 68719476737 c.read_to_end.new.buf.items given short

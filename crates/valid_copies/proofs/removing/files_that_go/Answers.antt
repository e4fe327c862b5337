use Rattle.replica_table.specs.Sets.{members}
use Rattle.valid_copies.proofs.SortedFiles.{cleared_are}
use Rattle.valid_copies.proofs.removing.files_that_go.Goals as goal

pub returns-in-Ok : goal.returns-in-Ok
returns-in-Ok c =
    let test = c.names_that_go-leaving.ensures in
    rw (c.sort_files.ensures, c.in-Ok.ensures.listed, test.shape, test.round, test.before, test.kept) (cleared_are c.args.shape.now c.args.keep c.args.round (members c.args.nodes.0) c.args.table.now.nodes c.args.table.now.copies c.in-Ok.ensures.order)

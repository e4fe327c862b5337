use Rattle.std.proofs.Common.{◌≡◌, Option, Some, sym, subst}
use Rattle.std.specs.Prelude.{IfSome, option_map}
use Rattle.replica_table.specs.Copies.{held}
use Rattle.node_files.specs.declared.files.FileRef.{FileRef}
use Rattle.valid_copies.proofs.FirstFiles.{first_is, first_kept, first_tried}
use Rattle.valid_copies.specs.Files.{Desk, IsFirstTry, try_of}
use Rattle.valid_copies.specs.Readings.{IsFile}
use Rattle.valid_copies.proofs.tries.first_try.Goals as goal

pub returns-clause-first : goal.returns-clause-first
returns-clause-first c =
    let seen : Desk = record { shape = c.desk.inside.shape.now; table = c.desk.inside.table.now; own = c.desk.inside.own; part = c.desk.inside.part } in
    subst (λ (d : Desk). IsFirstTry d c.args.name.now (option_map try_of c.first_file.result)) c.desk.view_is
    (subst (λ (file : Option FileRef). IsFirstTry seen c.args.name.now (option_map try_of file)) (sym c.first_file.ensures) (first_tried seen c.args.name.now))

pub returns-clause-kept : goal.returns-clause-kept
returns-clause-kept c =
    let seen : Desk = record { shape = c.desk.inside.shape.now; table = c.desk.inside.table.now; own = c.desk.inside.own; part = c.desk.inside.part } in
    subst (λ (d : Desk). IfSome c.first_file.result (λ (it : FileRef). held it.name it.node d.table.copies ≡ Some it.digest)) c.desk.view_is
    (subst (λ (file : Option FileRef). IfSome file (λ (it : FileRef). held it.name it.node seen.table.copies ≡ Some it.digest)) (sym c.first_file.ensures) (first_kept seen.table seen.own c.args.name.now))

pub returns-clause-file : goal.returns-clause-file
returns-clause-file c = λ f. subst (λ (file : Option FileRef). IfSome file (λ (it : FileRef). IsFile it.name)) (sym c.first_file.ensures) (first_is c.desk.inside.table.now c.desk.inside.own c.args.name.now f)

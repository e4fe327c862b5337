use Rattle.std.proofs.Common.{refl}
use Rattle.hal_base.specs.declared.record.Record.{Record}
use Rattle.std.proofs.Common.{List}
use Rattle.cluster_core.proofs.PartReads.{none_left, none_read, part_read, part_stopped, part_value}
use Rattle.valid_copies.proofs.Rightly.{works_none}
use Rattle.valid_copies.proofs.Adding.{such_none}
use Rattle.valid_copies.specs.LastWrites.{AsksForCopy}
use Rattle.cluster_core.proofs.Origins.{part_answers}
use Rattle.cluster_core.proofs.parts.read_part.Goals as goal

pub returns-in_default-clause-read : goal.returns-in_default-clause-read
returns-in_default-clause-read g c = none_read (List Record) c.args.table.now c.args.name.now (g.D.Disks.told c.args.disks.now) c.in_default.ensures.none

pub returns-in-Ok-Some-clause-read : goal.returns-in-Ok-Some-clause-read
returns-in-Ok-Some-clause-read g c =
    let found = rw c.in-Ok-Some.field-0-is at c.in-Ok-Some.ensures.found in
    part_read (record { shape = c.args.shape.now; table = c.args.table.now; own = c.in-Some.file.node; part = 0 }) c.args.name.now c.in-Some.file.digest c.in-Some.ensures.lowest.lowest c.in-Some.ensures.lowest.kept (g.D.Disks.shows_damage c.args.disks.now) (g.D.Disks.told c.args.disks.now) (g.D.Disks.told c.read_need.new.disks) _ c.in-Ok-Some.found.rows found.1

pub returns-in-Ok-Some-clause-value : goal.returns-in-Ok-Some-clause-value
returns-in-Ok-Some-clause-value g c =
    let found = rw c.in-Ok-Some.field-0-is at c.in-Ok-Some.ensures.found in
    part_value (record { shape = c.args.shape.now; table = c.args.table.now; own = c.in-Some.file.node; part = 0 }) c.args.name.now c.in-Some.file.digest c.in-Some.ensures.lowest.lowest c.in-Some.ensures.lowest.kept (g.D.Disks.shows_damage c.args.disks.now) (g.D.Disks.told c.args.disks.now) (g.D.Disks.told c.read_need.new.disks) _ found.1 refl

pub returns-in-Ok-None-clause-read : goal.returns-in-Ok-None-clause-read
returns-in-Ok-None-clause-read g c =
    let found = rw c.in-Ok-None.field-0-is at c.in-Ok-None.ensures.found in
    absurd (none_left (record { shape = c.args.shape.now; table = c.args.table.now; own = c.in-Some.file.node; part = 0 }) c.args.name.now c.in-Some.file.digest c.in-Some.ensures.lowest.lowest c.in-Some.ensures.lowest.kept found.0)

pub returns-in-Err-clause-stopped : goal.returns-in-Err-clause-stopped
returns-in-Err-clause-stopped g c = part_stopped (record { shape = c.args.shape.now; table = c.args.table.now; own = c.in-Some.file.node; part = 0 }) c.args.name.now c.in-Some.file.digest c.in-Some.ensures.lowest.lowest c.in-Some.ensures.lowest.kept (g.D.Disks.told c.args.disks.now) (g.D.Disks.told c.read_need.new.disks) c.in-Err.fault c.in-Err.ensures.stopped

pub returns-in_default-clause-calls : goal.returns-in_default-clause-calls
returns-in_default-clause-calls g c = λ w s. works_none g.D.Disks w c.args.disks.now (Unit {0}) tt

pub returns-in_default-clause-asked : goal.returns-in_default-clause-asked
returns-in_default-clause-asked g c = such_none (AsksForCopy c.args.table.now.copies) (g.D.Disks.told c.args.disks.now)

pub returns-in-Ok-Some-clause-answers : goal.returns-in-Ok-Some-clause-answers
returns-in-Ok-Some-clause-answers g c =
    let found = rw c.in-Ok-Some.field-0-is at c.in-Ok-Some.ensures.found in
    part_answers (record { shape = c.args.shape.now; table = c.args.table.now; own = c.in-Some.file.node; part = 0 }) (g.D.Disks.shows_damage c.args.disks.now) (g.D.Disks.told c.args.disks.now) (g.D.Disks.told c.read_need.new.disks) c.args.name.now (record { file = c.in-Ok-Some.found.file; bytes = found.0; rows = c.in-Ok-Some.found.rows }) refl found.1

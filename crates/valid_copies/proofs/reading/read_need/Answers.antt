use Rattle.std.proofs.Common.{subst}
use Rattle.valid_copies.specs.Readings.{StandsFor}
use Rattle.valid_copies.proofs.Adding.{such_none}
use Rattle.valid_copies.specs.LastWrites.{AsksForCopy}
use Rattle.valid_copies.proofs.Coming.{Asks, came_one, failed_one, fetched_added, missed_one, stopped_one}
use Rattle.valid_copies.specs.Files.{Any, Desk}
use Rattle.hal_outside.specs.DiskCalls as disk
use Rattle.valid_copies.proofs.Rightly.{works_none, works_so}
use Rattle.valid_copies.proofs.reading.read_need.Goals as goal

pub returns-in-Ok-clause-found : goal.returns-in-Ok-clause-found
returns-in-Ok-clause-found g c =
    let asks : Asks c.args.desk.now c.args.name.now c.in-Some.file = record { first = c.in-Some.ensures.first; kept = c.in-Some.ensures.kept } in
    let done = rw c.in-Ok-Bytes.field-0-is at c.in-Ok-Bytes.ensures.done in
    let text = rw c.in-Ok-Bytes.field-0-is at c.in-Ok-Bytes.ensures.text in
    let rows = subst (λ (d : Desk). StandsFor d.shape c.in-Some.file.name c.in-Ok-Bytes.bytes.items d.part c.in-Ok.rows) c.desk.view_is (subst (λ bytes. StandsFor c.desk.inside.shape.now c.in-Some.file.name bytes c.desk.inside.part c.in-Ok.rows) c.as_slice.ensures.value c.in-Ok.ensures) in
    (c.in-Ok-Bytes.bytes.items, came_one c.args.desk.now _ _ _ c.args.name.now c.in-Some.file c.in-Ok-Bytes.bytes c.in-Ok.rows asks rows done text)

pub returns-in-Ok-Bytes-clause-stopped : goal.returns-in-Ok-Bytes-clause-stopped
returns-in-Ok-Bytes-clause-stopped g c =
    let done = rw c.in-Ok-Bytes.field-0-is at c.in-Ok-Bytes.ensures.done in
    stopped_one c.args.desk.now Any _ _ c.args.name.now c.in-Some.file (disk.Same c.in-Ok-Bytes.bytes.items) (record { first = c.in-Some.ensures.first; kept = c.in-Some.ensures.kept }) tt (fetched_added c.in-Some.file c.in-Ok-Bytes.bytes _ _ done)

pub returns-in-Ok-Missed-clause-stopped : goal.returns-in-Ok-Missed-clause-stopped
returns-in-Ok-Missed-clause-stopped g c =
    let done = rw c.in-Ok-Missed.field-0-is at c.in-Ok-Missed.ensures.done in
    missed_one c.args.desk.now _ _ c.args.name.now c.in-Some.file (record { first = c.in-Some.ensures.first; kept = c.in-Some.ensures.kept }) done

pub returns-in-Err-Device-clause-stopped : goal.returns-in-Err-Device-clause-stopped
returns-in-Err-Device-clause-stopped g c = failed_one c.args.desk.now _ _ c.args.name.now c.in-Some.file _ (record { first = c.in-Some.ensures.first; kept = c.in-Some.ensures.kept }) c.in-Err-Device.ensures.failed

pub returns-clause-stopped : goal.returns-clause-stopped
returns-clause-stopped g c = failed_one c.args.desk.now _ _ c.args.name.now c.in-Some.file _ (record { first = c.in-Some.ensures.first; kept = c.in-Some.ensures.kept }) c.in-Err-Memory.ensures.failed

pub returns-in_default-clause-calls : goal.returns-in_default-clause-calls
returns-in_default-clause-calls g c = λ w s. works_none g.D.Disks w c.args.disks.now (Unit {0}) tt

pub returns-in-Ok-clause-calls : goal.returns-in-Ok-clause-calls
returns-in-Ok-clause-calls g c = λ w s. works_so g.D.Disks w c.args.disks.now c.fetch_copy.new.disks _ _ (λ _. tt) (c.in-Ok-Bytes.ensures.calls w c.args.desk.now.table.copies s c.in-Some.ensures.kept)

pub returns-in-Ok-Bytes-clause-calls : goal.returns-in-Ok-Bytes-clause-calls
returns-in-Ok-Bytes-clause-calls g c = λ w s. works_so g.D.Disks w c.args.disks.now c.fetch_copy.new.disks _ _ (λ _. tt) (c.in-Ok-Bytes.ensures.calls w c.args.desk.now.table.copies s c.in-Some.ensures.kept)

pub returns-in-Ok-Missed-clause-calls : goal.returns-in-Ok-Missed-clause-calls
returns-in-Ok-Missed-clause-calls g c = λ w s. (rw c.in-Ok-Missed.field-0-is at c.in-Ok-Missed.ensures.calls) w c.args.desk.now.table.copies s c.in-Some.ensures.kept

pub returns-in-Err-Device-clause-calls : goal.returns-in-Err-Device-clause-calls
returns-in-Err-Device-clause-calls g c = λ w s. c.in-Err-Device.ensures.calls w c.args.desk.now.table.copies s c.in-Some.ensures.kept

pub returns-clause-calls : goal.returns-clause-calls
returns-clause-calls g c = λ w s. c.in-Err-Memory.ensures.calls w c.args.desk.now.table.copies s c.in-Some.ensures.kept

pub returns-in_default-clause-asked : goal.returns-in_default-clause-asked
returns-in_default-clause-asked g c = such_none (AsksForCopy c.args.desk.now.table.copies) (g.D.Disks.told c.args.disks.now)

pub returns-in-Ok-clause-asked : goal.returns-in-Ok-clause-asked
returns-in-Ok-clause-asked g c = c.in-Ok-Bytes.ensures.asked c.args.desk.now.table.copies c.in-Some.ensures.kept

pub returns-in-Ok-Bytes-clause-asked : goal.returns-in-Ok-Bytes-clause-asked
returns-in-Ok-Bytes-clause-asked g c = c.in-Ok-Bytes.ensures.asked c.args.desk.now.table.copies c.in-Some.ensures.kept

pub returns-in-Ok-Missed-clause-asked : goal.returns-in-Ok-Missed-clause-asked
returns-in-Ok-Missed-clause-asked g c = c.in-Ok-Missed.ensures.asked c.args.desk.now.table.copies c.in-Some.ensures.kept

pub returns-in-Err-Device-clause-asked : goal.returns-in-Err-Device-clause-asked
returns-in-Err-Device-clause-asked g c = c.in-Err-Device.ensures.asked c.args.desk.now.table.copies c.in-Some.ensures.kept

pub returns-clause-asked : goal.returns-clause-asked
returns-clause-asked g c = c.in-Err-Memory.ensures.asked c.args.desk.now.table.copies c.in-Some.ensures.kept

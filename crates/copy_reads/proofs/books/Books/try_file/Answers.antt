use Rattle.std.proofs.Common.{inr}
use Rattle.hal_outside.specs.DiskCalls as disk
use Rattle.valid_copies.proofs.Coming.{fetched_added}
use Rattle.copy_reads.proofs.Keeps.{miss_keeps}
use Rattle.copy_reads.proofs.books.Books.try_file.Goals as goal

pub returns-in-Ok-Bytes-clause-stopped : goal.returns-in-Ok-Bytes-clause-stopped
returns-in-Ok-Bytes-clause-stopped g c =
    let done = rw c.in-Ok-Bytes.field-0-is at c.in-Ok-Bytes.ensures.done in
    record { answer = disk.Same c.in-Ok-Bytes.bytes.items; asked = inr (fetched_added c.args.file.now c.in-Ok-Bytes.bytes (g.D.Disks.told c.args.disks.now) (g.D.Disks.told c.fetch_copy.new.disks) done) }

pub returns-then-self-lt-MOST_MISSES-clause-keeps : goal.returns-then-self-lt-MOST_MISSES-clause-keeps
returns-then-self-lt-MOST_MISSES-clause-keeps g c =
    miss_keeps g.D.Disks c.args.file.now c.args.self.now c.note_miss.new.self c.args.disks.now c.fetch_copy.new.disks c.in-Ok-note_miss.ensures.struck c.in-Ok-Missed.ensures.valid (c.in-Ok-Missed.ensures.asked c.args.self.now.table.copies c.requires.kept)
    (rw c.in-Ok-Missed.field-0-is at c.in-Ok-Missed.ensures.done) c.in-Ok-Missed.ensures.faults_stay c.in-Ok-Missed.ensures.misses_stay c.in-Ok-Missed.ensures.damage_shown c.in-Ok-Missed.ensures.soundness_kept

pub returns-in-Ok-note_miss-clause-keeps : goal.returns-in-Ok-note_miss-clause-keeps
returns-in-Ok-note_miss-clause-keeps g c =
    miss_keeps g.D.Disks c.args.file.now c.args.self.now c.note_miss.new.self c.args.disks.now c.fetch_copy.new.disks c.in-Ok-note_miss.ensures.struck c.in-Ok-Missed.ensures.valid (c.in-Ok-Missed.ensures.asked c.args.self.now.table.copies c.requires.kept)
    (rw c.in-Ok-Missed.field-0-is at c.in-Ok-Missed.ensures.done) c.in-Ok-Missed.ensures.faults_stay c.in-Ok-Missed.ensures.misses_stay c.in-Ok-Missed.ensures.damage_shown c.in-Ok-Missed.ensures.soundness_kept

use Rattle.std.proofs.Common.{refl, subst}
use Rattle.valid_copies.proofs.Rightly.{works_more, works_none, works_so}
use Rattle.valid_copies.specs.Files.{try_of}
use Rattle.copy_reads.specs.Needs.{IsLastRead}
use Rattle.copy_reads.specs.Readers.{tries_by}
use Rattle.copy_reads.proofs.Keeps.{keeps_more, keeps_none}
use Rattle.copy_reads.proofs.Tries.{last_read, none_leads, read_added, read_calls, reader_goes_on, some_cluster, some_leads, tried_named, tries_more, tries_none, tries_stopped}
use Rattle.copy_reads.proofs.books.Books.read_need.Goals as goal

pub tries-init : goal.tries-init
tries-init g c = record {
  so_far = tries_none (tries_by c.args.reader c.args.name.now) c.args.self.now _ c.requires.counted;
  keeps = keeps_none g.D.Disks c.args.self.now c.args.disks.now;
  right = λ w s. works_none g.D.Disks w c.args.disks.now (Unit {0}) tt;
}

pub tries-preserved : goal.tries-preserved
tries-preserved g c =
    let s = c.tries.invariant.so_far in
    let missed = rw c.in-Ok-None.field-0-is at c.in-Ok-None.ensures.tried in
    record {
      so_far = tries_more (tries_by c.args.reader c.args.name.now) c.args.self.now c.tries.self _ _ c.tries.invariant.keeps.up s (reader_goes_on c.args.reader c.args.name.now) c.first_file.ensures.order c.in-Some.file c.in-Some.ensures.first (g.D.Disks.told c.try_file.new.disks) c.try_file.new.self missed c.in-Ok-None.ensures.counted;
      keeps = keeps_more g.D.Disks c.args.self.now c.tries.self c.try_file.new.self c.args.disks.now c.tries.disks c.try_file.new.disks c.tries.invariant.keeps c.in-Ok-None.ensures.keeps;
      right = λ w st. works_so g.D.Disks w c.args.disks.now c.try_file.new.disks _ _ (λ _. tt) (works_more g.D.Disks w c.args.disks.now c.tries.disks c.try_file.new.disks _ _ (c.tries.invariant.right w st) (c.in-Ok-None.ensures.calls w (c.tries.invariant.keeps.valid w st)));
    }

pub returns-in_default-clause-read : goal.returns-in_default-clause-read
returns-in_default-clause-read g c =
    let s = c.tries.invariant.so_far in
    record {
      calls = s.missed;
      added = s.added;
      leads = none_leads (tries_by c.args.reader c.args.name.now) c.args.self.now c.tries.self _ _ c.tries.invariant.keeps.up s c.in_default.ensures.first;
      by = s.all_missed;
    }

pub returns-in-Ok-Some-clause-read : goal.returns-in-Ok-Some-clause-read
returns-in-Ok-Some-clause-read g c =
    let s = c.tries.invariant.so_far in
    let read = rw c.in-Ok-Some.field-0-is at c.in-Ok-Some.ensures.tried in
    let named = tried_named c.args.reader c.args.name.now (some_cluster c.tries.self) (try_of c.in-Some.file) (c.in-Some.ensures.first (some_cluster c.tries.self) (record { copies = refl; up = refl; journal = refl })) in
    record {
      calls = read_calls (tries_by c.args.reader c.args.name.now) c.args.self.now c.tries.self _ _ c.tries.invariant.keeps.up s (reader_goes_on c.args.reader c.args.name.now) c.first_file.ensures.order c.in-Some.file c.in-Some.ensures.first (g.D.Disks.told c.try_file.new.disks) c.args.shape.now c.part.result (g.D.Disks.shows_damage c.args.disks.now) (g.D.Disks.shows_damage c.tries.disks) c.in-Ok-Some.rows c.try_file.new.self read;
      added = read_added (tries_by c.args.reader c.args.name.now) c.args.self.now c.tries.self _ _ c.tries.invariant.keeps.up s (reader_goes_on c.args.reader c.args.name.now) c.first_file.ensures.order c.in-Some.file c.in-Some.ensures.first (g.D.Disks.told c.try_file.new.disks) c.args.shape.now c.part.result (g.D.Disks.shows_damage c.args.disks.now) (g.D.Disks.shows_damage c.tries.disks) c.in-Ok-Some.rows c.try_file.new.self read;
      leads = some_leads (tries_by c.args.reader c.args.name.now) c.args.self.now c.tries.self _ _ c.tries.invariant.keeps.up s (reader_goes_on c.args.reader c.args.name.now) c.first_file.ensures.order c.in-Some.file c.in-Some.ensures.first (g.D.Disks.told c.try_file.new.disks) c.args.shape.now c.part.result (g.D.Disks.shows_damage c.args.disks.now) (g.D.Disks.shows_damage c.tries.disks) c.in-Ok-Some.rows c.try_file.new.self read;
      by = subst (λ part. IsLastRead c.args.shape.now part (g.D.Disks.shows_damage c.args.disks.now) c.args.name.now c.args.self.now (g.D.Disks.told c.args.disks.now) (read_calls (tries_by c.args.reader c.args.name.now) c.args.self.now c.tries.self _ _ c.tries.invariant.keeps.up s (reader_goes_on c.args.reader c.args.name.now) c.first_file.ensures.order c.in-Some.file c.in-Some.ensures.first (g.D.Disks.told c.try_file.new.disks) c.args.shape.now c.part.result (g.D.Disks.shows_damage c.args.disks.now) (g.D.Disks.shows_damage c.tries.disks) c.in-Ok-Some.rows c.try_file.new.self read) (record { file = c.in-Some.file; rows = c.in-Ok-Some.rows })) c.part.ensures
          (last_read (tries_by c.args.reader c.args.name.now) c.args.self.now c.tries.self _ _ c.tries.invariant.keeps.up s (reader_goes_on c.args.reader c.args.name.now) c.first_file.ensures.order c.in-Some.file c.in-Some.ensures.first (g.D.Disks.told c.try_file.new.disks) c.args.shape.now c.part.result (g.D.Disks.shows_damage c.args.disks.now) (g.D.Disks.shows_damage c.tries.disks) c.in-Ok-Some.rows c.try_file.new.self read c.args.name.now named c.tries.invariant.keeps.damage_shown c.tries.invariant.keeps.valid);
    }

pub returns-in-Ok-Some-clause-keeps : goal.returns-in-Ok-Some-clause-keeps
returns-in-Ok-Some-clause-keeps g c = keeps_more g.D.Disks c.args.self.now c.tries.self c.try_file.new.self c.args.disks.now c.tries.disks c.try_file.new.disks c.tries.invariant.keeps c.in-Ok-Some.ensures.keeps

pub returns-in-Ok-Some-clause-calls : goal.returns-in-Ok-Some-clause-calls
returns-in-Ok-Some-clause-calls g c = λ w st. works_so g.D.Disks w c.args.disks.now c.try_file.new.disks _ _ (λ _. tt) (works_more g.D.Disks w c.args.disks.now c.tries.disks c.try_file.new.disks _ _ (c.tries.invariant.right w st) (c.in-Ok-Some.ensures.calls w (c.tries.invariant.keeps.valid w st)))

pub returns-in-Err-clause-stopped : goal.returns-in-Err-clause-stopped
returns-in-Err-clause-stopped g c =
    let s = c.tries.invariant.so_far in
    tries_stopped (tries_by c.args.reader c.args.name.now) c.args.self.now c.tries.self _ _ c.tries.invariant.keeps.up s (reader_goes_on c.args.reader c.args.name.now) c.first_file.ensures.order c.in-Some.file c.in-Some.ensures.first (g.D.Disks.told c.try_file.new.disks) c.try_file.new.self c.in-Err.fault c.in-Err.ensures.stopped c.in-Err.ensures.full

pub returns-in-Err-clause-keeps : goal.returns-in-Err-clause-keeps
returns-in-Err-clause-keeps g c = keeps_more g.D.Disks c.args.self.now c.tries.self c.try_file.new.self c.args.disks.now c.tries.disks c.try_file.new.disks c.tries.invariant.keeps c.in-Err.ensures.keeps

pub returns-in-Err-clause-calls : goal.returns-in-Err-clause-calls
returns-in-Err-clause-calls g c = λ w st. works_so g.D.Disks w c.args.disks.now c.try_file.new.disks _ _ (λ it. it.1) (works_more g.D.Disks w c.args.disks.now c.tries.disks c.try_file.new.disks _ _ (c.tries.invariant.right w st) (c.in-Err.ensures.calls w (c.tries.invariant.keeps.valid w st)))

use Rattle.std.proofs.Common.{sym, subst, arith}
use Rattle.std.specs.List.{AllByRecursion}
use Rattle.valid_copies.proofs.Coming.{SoFar, so_far_memory, so_far_more, so_far_none, so_far_stopped}
use Rattle.valid_copies.proofs.Coming.{puts_more, puts_none}
use Rattle.valid_copies.proofs.Adding.{such_more, such_none}
use Rattle.valid_copies.specs.LastWrites.{AsksForCopy}
use Rattle.valid_copies.specs.Readings.{IsFile}
use Rattle.valid_copies.proofs.Rightly.{works_more, works_none}
use Rattle.valid_copies.proofs.reading.read_all.Goals as goal

pub names-init : goal.names-init
names-init g c = record {
  so_far = subst (SoFar c.args.desk.now _ _ _ _ _ _ c.args.names.now c.args.names.now c.args.files.now.items c.args.files.now.items) (sym c.new-lists.ensures) (so_far_none c.args.desk.now _ _ _ c.args.names.now c.args.files.now.items);
  faults = omega arith;
  misses = omega arith;
  puts = puts_none (g.D.Disks.told c.args.disks.now);
  all_files = c.requires.all_files;
  asked = such_none (AsksForCopy c.args.desk.now.table.copies) (g.D.Disks.told c.args.disks.now);
  right = λ w s. works_none g.D.Disks w c.args.disks.now (Unit {0}) tt;
}

pub names-preserved : goal.names-preserved
names-preserved g c =
    let found = rw c.in-Ok-Some.field-0-is at c.in-Ok-Some.ensures.found in
    let all = subst (AllByRecursion IsFile) c.in-Some.ensures.cases.0 c.names.invariant.all_files in
    record {
      so_far = so_far_more c.args.desk.now _ _ _ _ _ _ c.args.names.now c.names.rest.now c.args.files.now.items c.names.files.items c.names.lists c.names.invariant.so_far _ _ _ c.in-Some.name.now c.in-Some.others.now c.in-Ok-Some.found c.keep.new.files.items c.keep.new.lists
          c.in-Some.ensures.cases.0 found c.in-Ok-Some.ensures.damage_shown c.in-Ok-Some.ensures.valid c.in-Ok-Some.ensures.soundness_kept c.in-Ok.ensures.files c.in-Ok.ensures.lists;
      faults = omega (arith, c.names.invariant.faults, c.in-Ok-Some.ensures.faults_stay);
      misses = omega (arith, c.names.invariant.misses, c.in-Ok-Some.ensures.misses_stay);
      puts = puts_more (g.D.Disks.told c.args.disks.now) (g.D.Disks.told c.names.disks) _ c.names.invariant.puts c.in-Ok-Some.ensures.puts_stay;
      all_files = all.1;
      asked = such_more (AsksForCopy c.args.desk.now.table.copies) (g.D.Disks.told c.args.disks.now) (g.D.Disks.told c.names.disks) _ c.names.invariant.asked c.in-Ok-Some.ensures.asked;
      right = λ w s. works_more g.D.Disks w c.args.disks.now c.names.disks c.read_need.new.disks _ _ (c.names.invariant.right w s) (c.in-Ok-Some.ensures.calls w (c.names.invariant.so_far.stands w c.args.desk.now.table.copies s));
    }

pub returns-in-Err-keep-clause-stopped : goal.returns-in-Err-keep-clause-stopped
returns-in-Err-keep-clause-stopped g c =
    let found = rw c.in-Ok-Some.field-0-is at c.in-Ok-Some.ensures.found in
    so_far_memory c.args.desk.now _ _ _ _ _ _ c.args.names.now c.names.rest.now c.args.files.now.items c.names.files.items c.names.lists c.names.invariant.so_far _ c.in-Some.name.now c.in-Some.others.now c.in-Ok-Some.found c.in-Some.ensures.cases.0 found

pub returns-in-Err-clause-stopped : goal.returns-in-Err-clause-stopped
returns-in-Err-clause-stopped g c = so_far_stopped c.args.desk.now _ _ _ _ _ _ c.args.names.now c.names.rest.now c.args.files.now.items c.names.files.items c.names.lists c.names.invariant.so_far _ c.in-Some.name.now c.in-Some.others.now c.in-Err.fault c.in-Some.ensures.cases.0 c.in-Err.ensures.stopped

pub returns-in-Err-keep-clause-calls : goal.returns-in-Err-keep-clause-calls
returns-in-Err-keep-clause-calls g c = λ w s. works_more g.D.Disks w c.args.disks.now c.names.disks c.read_need.new.disks _ _ (c.names.invariant.right w s) (c.in-Ok-Some.ensures.calls w (c.names.invariant.so_far.stands w c.args.desk.now.table.copies s))

pub returns-in-Ok-None-clause-calls : goal.returns-in-Ok-None-clause-calls
returns-in-Ok-None-clause-calls g c = λ w s. works_more g.D.Disks w c.args.disks.now c.names.disks c.read_need.new.disks _ _ (c.names.invariant.right w s) (c.in-Ok-None.ensures.calls w (c.names.invariant.so_far.stands w c.args.desk.now.table.copies s))

pub returns-in-Err-clause-calls : goal.returns-in-Err-clause-calls
returns-in-Err-clause-calls g c = λ w s. works_more g.D.Disks w c.args.disks.now c.names.disks c.read_need.new.disks _ _ (c.names.invariant.right w s) (c.in-Err.ensures.calls w (c.names.invariant.so_far.stands w c.args.desk.now.table.copies s))

pub returns-in-Err-keep-clause-asked : goal.returns-in-Err-keep-clause-asked
returns-in-Err-keep-clause-asked g c = such_more (AsksForCopy c.args.desk.now.table.copies) (g.D.Disks.told c.args.disks.now) (g.D.Disks.told c.names.disks) _ c.names.invariant.asked c.in-Ok-Some.ensures.asked

pub returns-in-Ok-None-clause-asked : goal.returns-in-Ok-None-clause-asked
returns-in-Ok-None-clause-asked g c = such_more (AsksForCopy c.args.desk.now.table.copies) (g.D.Disks.told c.args.disks.now) (g.D.Disks.told c.names.disks) _ c.names.invariant.asked c.in-Ok-None.ensures.asked

pub returns-in-Err-clause-asked : goal.returns-in-Err-clause-asked
returns-in-Err-clause-asked g c = such_more (AsksForCopy c.args.desk.now.table.copies) (g.D.Disks.told c.args.disks.now) (g.D.Disks.told c.names.disks) _ c.names.invariant.asked c.in-Err.ensures.asked

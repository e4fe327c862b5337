use Rattle.std.proofs.Common.{sym, ap, subst, arith}
use Rattle.std.specs.List.{AllByRecursion}
use Rattle.valid_copies.proofs.InputReads.{InputsSoFar, inputs_memory, inputs_more, inputs_none, inputs_starved, inputs_stopped}
use Rattle.valid_copies.specs.Files.{AllRead, StarvedAt, StoppedBy}
use Rattle.valid_copies.specs.Inputs.{names_in}
use Rattle.valid_copies.proofs.Coming.{puts_more, puts_none}
use Rattle.valid_copies.proofs.Adding.{such_more, such_none}
use Rattle.valid_copies.specs.LastWrites.{AsksForCopy}
use Rattle.valid_copies.specs.Readings.{IsFile}
use Rattle.valid_copies.proofs.Rightly.{works_more, works_none}
use Rattle.valid_copies.proofs.inputs.read_inputs.Goals as goal

pub inputs-init : goal.inputs-init
inputs-init g c = record {
  so_far = subst (InputsSoFar c.args.desk.now _ _ _ _ _ _ (names_in c.args.inputs.now) (names_in c.args.inputs.now) c.args.files.now.items c.args.files.now.items) (sym c.new-lists.ensures.items) (inputs_none c.args.desk.now _ _ _ (names_in c.args.inputs.now) c.args.files.now.items);
  faults = omega arith;
  misses = omega arith;
  puts = puts_none (g.D.Disks.told c.args.disks.now);
  all_files = c.requires.all_files;
  asked = such_none (AsksForCopy c.args.desk.now.table.copies) (g.D.Disks.told c.args.disks.now);
  right = λ w s. works_none g.D.Disks w c.args.disks.now (Unit {0}) tt;
}

pub inputs-preserved : goal.inputs-preserved
inputs-preserved g c =
    let split = ap names_in c.in-Some.ensures.cases.0 in
    let answer = rw c.in-Ok-Some.field-0-is at c.in-Ok-Some.ensures.read in
    let read = subst (λ names. AllRead c.args.desk.now (g.D.Disks.shows_damage c.inputs.disks) (g.D.Disks.told c.inputs.disks) names c.inputs.files.items c.read_all.new.files.items (g.D.Disks.told c.read_all.new.disks) c.in-Ok-Some.parts) c.as_slice.ensures.value answer in
    let all = subst (AllByRecursion (AllByRecursion IsFile)) split c.inputs.invariant.all_files in
    record {
      so_far = inputs_more c.args.desk.now _ _ _ _ _ _ (names_in c.args.inputs.now) (names_in c.inputs.rest.now) c.args.files.now.items c.inputs.files.items c.inputs.lists.items c.inputs.invariant.so_far _ _ _ c.in-Some.names.now.items (names_in c.in-Some.others.now) c.read_all.new.files.items c.in-Ok-Some.parts c.keep_parts.new.lists.items
          split read c.in-Ok-Some.ensures.damage_shown c.in-Ok-Some.ensures.valid c.in-Ok-Some.ensures.soundness_kept c.in-Ok.ensures;
      faults = omega (arith, c.inputs.invariant.faults, c.in-Ok-Some.ensures.faults_stay);
      misses = omega (arith, c.inputs.invariant.misses, c.in-Ok-Some.ensures.misses_stay);
      puts = puts_more (g.D.Disks.told c.args.disks.now) (g.D.Disks.told c.inputs.disks) _ c.inputs.invariant.puts c.in-Ok-Some.ensures.puts_stay;
      all_files = all.1;
      asked = such_more (AsksForCopy c.args.desk.now.table.copies) (g.D.Disks.told c.args.disks.now) (g.D.Disks.told c.inputs.disks) _ c.inputs.invariant.asked c.in-Ok-Some.ensures.asked;
      right = λ w s. works_more g.D.Disks w c.args.disks.now c.inputs.disks c.read_all.new.disks _ _ (c.inputs.invariant.right w s) (c.in-Ok-Some.ensures.calls w (c.inputs.invariant.so_far.stands w c.args.desk.now.table.copies s));
    }

pub returns-in-Err-keep_parts-clause-stopped : goal.returns-in-Err-keep_parts-clause-stopped
returns-in-Err-keep_parts-clause-stopped g c =
    let split = ap names_in c.in-Some.ensures.cases.0 in
    let answer = rw c.in-Ok-Some.field-0-is at c.in-Ok-Some.ensures.read in
    let read = subst (λ names. AllRead c.args.desk.now (g.D.Disks.shows_damage c.inputs.disks) (g.D.Disks.told c.inputs.disks) names c.inputs.files.items c.read_all.new.files.items (g.D.Disks.told c.read_all.new.disks) c.in-Ok-Some.parts) c.as_slice.ensures.value answer in
    inputs_memory c.args.desk.now _ _ _ _ _ _ (names_in c.args.inputs.now) (names_in c.inputs.rest.now) c.args.files.now.items c.inputs.files.items c.inputs.lists.items c.inputs.invariant.so_far _ c.in-Some.names.now.items (names_in c.in-Some.others.now) c.read_all.new.files.items c.in-Ok-Some.parts split read

pub returns-in-Ok-None-clause-read : goal.returns-in-Ok-None-clause-read
returns-in-Ok-None-clause-read g c =
    let split = ap names_in c.in-Some.ensures.cases.0 in
    let answer = rw c.in-Ok-None.field-0-is at c.in-Ok-None.ensures.read in
    let starved = subst (λ names. StarvedAt c.args.desk.now (g.D.Disks.shows_damage c.inputs.disks) (g.D.Disks.told c.inputs.disks) names (g.D.Disks.told c.read_all.new.disks)) c.as_slice.ensures.value answer in
    inputs_starved c.args.desk.now _ _ _ _ _ _ (names_in c.args.inputs.now) (names_in c.inputs.rest.now) c.args.files.now.items c.inputs.files.items c.inputs.lists.items c.inputs.invariant.so_far _ c.in-Some.names.now.items (names_in c.in-Some.others.now) split starved

pub returns-in-Err-clause-stopped : goal.returns-in-Err-clause-stopped
returns-in-Err-clause-stopped g c =
    let split = ap names_in c.in-Some.ensures.cases.0 in
    let stopped = subst (λ names. StoppedBy c.args.desk.now (g.D.Disks.told c.inputs.disks) names (g.D.Disks.told c.read_all.new.disks) c.in-Err.fault) c.as_slice.ensures.value c.in-Err.ensures.stopped in
    inputs_stopped c.args.desk.now _ _ _ _ _ _ (names_in c.args.inputs.now) (names_in c.inputs.rest.now) c.args.files.now.items c.inputs.files.items c.inputs.lists.items c.inputs.invariant.so_far _ c.in-Some.names.now.items (names_in c.in-Some.others.now) c.in-Err.fault split stopped

pub returns-in-Err-keep_parts-clause-calls : goal.returns-in-Err-keep_parts-clause-calls
returns-in-Err-keep_parts-clause-calls g c = λ w s. works_more g.D.Disks w c.args.disks.now c.inputs.disks c.read_all.new.disks _ _ (c.inputs.invariant.right w s) (c.in-Ok-Some.ensures.calls w (c.inputs.invariant.so_far.stands w c.args.desk.now.table.copies s))

pub returns-in-Ok-None-clause-calls : goal.returns-in-Ok-None-clause-calls
returns-in-Ok-None-clause-calls g c = λ w s. works_more g.D.Disks w c.args.disks.now c.inputs.disks c.read_all.new.disks _ _ (c.inputs.invariant.right w s) (c.in-Ok-None.ensures.calls w (c.inputs.invariant.so_far.stands w c.args.desk.now.table.copies s))

pub returns-in-Err-clause-calls : goal.returns-in-Err-clause-calls
returns-in-Err-clause-calls g c = λ w s. works_more g.D.Disks w c.args.disks.now c.inputs.disks c.read_all.new.disks _ _ (c.inputs.invariant.right w s) (c.in-Err.ensures.calls w (c.inputs.invariant.so_far.stands w c.args.desk.now.table.copies s))

pub returns-in-Err-keep_parts-clause-asked : goal.returns-in-Err-keep_parts-clause-asked
returns-in-Err-keep_parts-clause-asked g c = such_more (AsksForCopy c.args.desk.now.table.copies) (g.D.Disks.told c.args.disks.now) (g.D.Disks.told c.inputs.disks) _ c.inputs.invariant.asked c.in-Ok-Some.ensures.asked

pub returns-in-Ok-None-clause-asked : goal.returns-in-Ok-None-clause-asked
returns-in-Ok-None-clause-asked g c = such_more (AsksForCopy c.args.desk.now.table.copies) (g.D.Disks.told c.args.disks.now) (g.D.Disks.told c.inputs.disks) _ c.inputs.invariant.asked c.in-Ok-None.ensures.asked

pub returns-in-Err-clause-asked : goal.returns-in-Err-clause-asked
returns-in-Err-clause-asked g c = such_more (AsksForCopy c.args.desk.now.table.copies) (g.D.Disks.told c.args.disks.now) (g.D.Disks.told c.inputs.disks) _ c.inputs.invariant.asked c.in-Err.ensures.asked

use Rattle.std.proofs.Common.{subst, sym}
use Rattle.std.specs.List.{AllByRecursion}
use Rattle.valid_copies.proofs.Rightly.{works_more, works_none, works_so}
use Rattle.valid_copies.specs.Readings.{IsFile}
use Rattle.copy_reads.proofs.Keeps.{keeps_more, keeps_none}
use Rattle.copy_reads.proofs.PartLoops.{PartsSoFar, parts_left, parts_memory, parts_more, parts_none, parts_stopped}
use Rattle.copy_reads.proofs.books.Books.read_parts.Goals as goal

pub names-init : goal.names-init
names-init g c = record {
  so_far = subst (PartsSoFar c.args.shape.now _ c.args.self.now c.args.self.now c.args.names.now c.args.names.now _ _) (sym c.new-lists.ensures) (parts_none c.args.shape.now _ c.args.self.now c.args.names.now _ c.requires.counted);
  keeps = keeps_none g.D.Disks c.args.self.now c.args.disks.now;
  all_files = c.requires.all_files;
  right = λ w s. works_none g.D.Disks w c.args.disks.now (Unit {0}) tt;
}

pub names-preserved : goal.names-preserved
names-preserved g c =
    let found = rw c.in-Ok-Some.field-0-is at c.in-Ok-Some.ensures.read in
    let all = subst (AllByRecursion IsFile) c.in-Some.ensures.cases.0 c.names.invariant.all_files in
    record {
      so_far = parts_more c.args.shape.now (g.D.Disks.shows_damage c.args.disks.now) (g.D.Disks.shows_damage c.names.disks) c.args.self.now c.names.self c.args.names.now c.names.rest.now _ _ c.names.lists c.names.invariant.so_far c.names.invariant.keeps.up c.names.invariant.keeps.damage_shown c.names.invariant.keeps.valid c.read_need.new.self (g.D.Disks.told c.read_need.new.disks) c.in-Some.name.now c.in-Some.others.now c.in-Some.ensures.cases.0 c.in-Ok-Some.found found c.push.new.self c.in-Ok-Some.ensures.counted c.in-Ok.ensures.ok;
      keeps = keeps_more g.D.Disks c.args.self.now c.names.self c.read_need.new.self c.args.disks.now c.names.disks c.read_need.new.disks c.names.invariant.keeps c.in-Ok-Some.ensures.keeps;
      all_files = all.1;
      right = λ w st. works_so g.D.Disks w c.args.disks.now c.read_need.new.disks _ _ (λ _. tt) (works_more g.D.Disks w c.args.disks.now c.names.disks c.read_need.new.disks _ _ (c.names.invariant.right w st) (c.in-Ok-Some.ensures.calls w (c.names.invariant.keeps.valid w st)));
    }

pub returns-in-Err-push-clause-stopped : goal.returns-in-Err-push-clause-stopped
returns-in-Err-push-clause-stopped g c =
    let found = rw c.in-Ok-Some.field-0-is at c.in-Ok-Some.ensures.read in
    parts_memory c.args.shape.now (g.D.Disks.shows_damage c.args.disks.now) (g.D.Disks.shows_damage c.names.disks) c.args.self.now c.names.self c.args.names.now c.names.rest.now _ _ c.names.lists c.names.invariant.so_far c.names.invariant.keeps.up c.names.invariant.keeps.damage_shown c.names.invariant.keeps.valid c.read_need.new.self (g.D.Disks.told c.read_need.new.disks) c.in-Some.name.now c.in-Some.others.now c.in-Some.ensures.cases.0 c.in-Ok-Some.found found

pub returns-in-Err-push-clause-keeps : goal.returns-in-Err-push-clause-keeps
returns-in-Err-push-clause-keeps g c = keeps_more g.D.Disks c.args.self.now c.names.self c.read_need.new.self c.args.disks.now c.names.disks c.read_need.new.disks c.names.invariant.keeps c.in-Ok-Some.ensures.keeps

pub returns-in-Err-push-clause-calls : goal.returns-in-Err-push-clause-calls
returns-in-Err-push-clause-calls g c = λ w st. works_so g.D.Disks w c.args.disks.now c.read_need.new.disks _ _ (λ _. tt) (works_more g.D.Disks w c.args.disks.now c.names.disks c.read_need.new.disks _ _ (c.names.invariant.right w st) (c.in-Ok-Some.ensures.calls w (c.names.invariant.keeps.valid w st)))

pub returns-in-Ok-None-clause-read : goal.returns-in-Ok-None-clause-read
returns-in-Ok-None-clause-read g c =
    let none = rw c.in-Ok-None.field-0-is at c.in-Ok-None.ensures.read in
    parts_left c.args.shape.now (g.D.Disks.shows_damage c.args.disks.now) (g.D.Disks.shows_damage c.names.disks) c.args.self.now c.names.self c.args.names.now c.names.rest.now _ _ c.names.lists c.names.invariant.so_far c.names.invariant.keeps.up c.names.invariant.keeps.damage_shown c.names.invariant.keeps.valid c.read_need.new.self (g.D.Disks.told c.read_need.new.disks) c.in-Some.name.now c.in-Some.others.now c.in-Some.ensures.cases.0 none

pub returns-in-Ok-None-clause-keeps : goal.returns-in-Ok-None-clause-keeps
returns-in-Ok-None-clause-keeps g c = keeps_more g.D.Disks c.args.self.now c.names.self c.read_need.new.self c.args.disks.now c.names.disks c.read_need.new.disks c.names.invariant.keeps c.in-Ok-None.ensures.keeps

pub returns-in-Ok-None-clause-calls : goal.returns-in-Ok-None-clause-calls
returns-in-Ok-None-clause-calls g c = λ w st. works_so g.D.Disks w c.args.disks.now c.read_need.new.disks _ _ (λ _. tt) (works_more g.D.Disks w c.args.disks.now c.names.disks c.read_need.new.disks _ _ (c.names.invariant.right w st) (c.in-Ok-None.ensures.calls w (c.names.invariant.keeps.valid w st)))

pub returns-in-Err-clause-stopped : goal.returns-in-Err-clause-stopped
returns-in-Err-clause-stopped g c =
    let stopped = c.in-Err.ensures.stopped in
    parts_stopped c.args.shape.now (g.D.Disks.shows_damage c.args.disks.now) (g.D.Disks.shows_damage c.names.disks) c.args.self.now c.names.self c.args.names.now c.names.rest.now _ _ c.names.lists c.names.invariant.so_far c.names.invariant.keeps.up c.names.invariant.keeps.damage_shown c.names.invariant.keeps.valid c.read_need.new.self (g.D.Disks.told c.read_need.new.disks) c.in-Some.name.now c.in-Some.others.now c.in-Some.ensures.cases.0 c.in-Err.fault stopped

pub returns-in-Err-clause-keeps : goal.returns-in-Err-clause-keeps
returns-in-Err-clause-keeps g c = keeps_more g.D.Disks c.args.self.now c.names.self c.read_need.new.self c.args.disks.now c.names.disks c.read_need.new.disks c.names.invariant.keeps c.in-Err.ensures.keeps

pub returns-in-Err-clause-calls : goal.returns-in-Err-clause-calls
returns-in-Err-clause-calls g c = λ w st. works_so g.D.Disks w c.args.disks.now c.read_need.new.disks _ _ (λ p. p) (works_more g.D.Disks w c.args.disks.now c.names.disks c.read_need.new.disks _ _ (c.names.invariant.right w st) (c.in-Err.ensures.calls w (c.names.invariant.keeps.valid w st)))

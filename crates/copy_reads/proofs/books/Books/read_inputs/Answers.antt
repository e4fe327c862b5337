use Rattle.std.proofs.Common.{ap, subst, sym}
use Rattle.std.specs.List.{AllByRecursion}
use Rattle.valid_copies.proofs.Rightly.{works_more, works_none, works_so}
use Rattle.valid_copies.specs.Readings.{IsFile}
use Rattle.copy_reads.proofs.Keeps.{keeps_more, keeps_none}
use Rattle.run_model.specs.Plans.{gives}
use Rattle.run_model.specs.Reading.{starved}
use Rattle.valid_copies.specs.Inputs.{names_in}
use Rattle.copy_reads.specs.Books.{with_books}
use Rattle.copy_reads.specs.Inputs.{AllFilesRead, FilesStopped, OfFiles}
use Rattle.copy_reads.specs.Needs.{Goes}
use Rattle.copy_reads.proofs.InputLoops.{InputsSoFar, inputs_memory, inputs_more, inputs_none, inputs_starved, inputs_stopped}
use Rattle.copy_reads.proofs.books.Books.read_inputs.Goals as goal

pub inputs-init : goal.inputs-init
inputs-init g c = record {
  so_far = subst (InputsSoFar c.args.shape.now _ c.args.own c.args.part c.args.self.now c.args.self.now (names_in c.args.inputs.now) (names_in c.args.inputs.now) _ _ c.args.files.now.items c.args.files.now.items) (sym c.new-lists.ensures.items) (inputs_none c.args.shape.now _ c.args.own c.args.part c.args.self.now (names_in c.args.inputs.now) _ c.args.files.now.items c.requires.counted);
  keeps = keeps_none g.D.Disks c.args.self.now c.args.disks.now;
  all_files = c.requires.all_files;
  right = λ w s. works_none g.D.Disks w c.args.disks.now (Unit {0}) tt;
}

pub inputs-preserved : goal.inputs-preserved
inputs-preserved g c =
    let found = subst (λ names. AllFilesRead c.args.shape.now (g.D.Disks.shows_damage c.inputs.disks) c.args.own c.args.part names c.inputs.self c.read_files.new.self (g.D.Disks.told c.inputs.disks) (g.D.Disks.told c.read_files.new.disks) c.inputs.files.items c.read_files.new.files.items c.in-Ok-Some.parts) c.as_slice.ensures.value (rw c.in-Ok-Some.field-0-is at c.in-Ok-Some.ensures.read) in
    let all = subst (AllByRecursion (AllByRecursion IsFile)) (ap names_in c.in-Some.ensures.cases.0) c.inputs.invariant.all_files in
    record {
      so_far = inputs_more c.args.shape.now (g.D.Disks.shows_damage c.args.disks.now) (g.D.Disks.shows_damage c.inputs.disks) c.args.own c.args.part c.args.self.now c.inputs.self (names_in c.args.inputs.now) (names_in c.inputs.rest.now) _ _ c.args.files.now.items c.inputs.files.items c.inputs.lists.items c.inputs.invariant.so_far c.inputs.invariant.keeps.up c.inputs.invariant.keeps.damage_shown c.inputs.invariant.keeps.valid c.read_files.new.self (g.D.Disks.told c.read_files.new.disks) c.in-Some.names.now.items (names_in c.in-Some.others.now) (ap names_in c.in-Some.ensures.cases.0) c.read_files.new.files.items c.in-Ok-Some.parts found c.keep_parts.new.lists.items c.in-Ok-Some.ensures.counted c.in-Ok.ensures;
      keeps = keeps_more g.D.Disks c.args.self.now c.inputs.self c.read_files.new.self c.args.disks.now c.inputs.disks c.read_files.new.disks c.inputs.invariant.keeps c.in-Ok-Some.ensures.keeps;
      all_files = all.1;
      right = λ w st. works_so g.D.Disks w c.args.disks.now c.read_files.new.disks _ _ (λ _. tt) (works_more g.D.Disks w c.args.disks.now c.inputs.disks c.read_files.new.disks _ _ (c.inputs.invariant.right w st) (c.in-Ok-Some.ensures.calls w (c.inputs.invariant.keeps.valid w st)));
    }

pub returns-in-Err-keep_parts-clause-stopped : goal.returns-in-Err-keep_parts-clause-stopped
returns-in-Err-keep_parts-clause-stopped g c =
    let found = subst (λ names. AllFilesRead c.args.shape.now (g.D.Disks.shows_damage c.inputs.disks) c.args.own c.args.part names c.inputs.self c.read_files.new.self (g.D.Disks.told c.inputs.disks) (g.D.Disks.told c.read_files.new.disks) c.inputs.files.items c.read_files.new.files.items c.in-Ok-Some.parts) c.as_slice.ensures.value (rw c.in-Ok-Some.field-0-is at c.in-Ok-Some.ensures.read) in
    inputs_memory c.args.shape.now (g.D.Disks.shows_damage c.args.disks.now) (g.D.Disks.shows_damage c.inputs.disks) c.args.own c.args.part c.args.self.now c.inputs.self (names_in c.args.inputs.now) (names_in c.inputs.rest.now) _ _ c.args.files.now.items c.inputs.files.items c.inputs.lists.items c.inputs.invariant.so_far c.inputs.invariant.keeps.up c.inputs.invariant.keeps.damage_shown c.inputs.invariant.keeps.valid c.read_files.new.self (g.D.Disks.told c.read_files.new.disks) c.in-Some.names.now.items (names_in c.in-Some.others.now) (ap names_in c.in-Some.ensures.cases.0) c.read_files.new.files.items c.in-Ok-Some.parts found

pub returns-in-Err-keep_parts-clause-keeps : goal.returns-in-Err-keep_parts-clause-keeps
returns-in-Err-keep_parts-clause-keeps g c = keeps_more g.D.Disks c.args.self.now c.inputs.self c.read_files.new.self c.args.disks.now c.inputs.disks c.read_files.new.disks c.inputs.invariant.keeps c.in-Ok-Some.ensures.keeps

pub returns-in-Err-keep_parts-clause-calls : goal.returns-in-Err-keep_parts-clause-calls
returns-in-Err-keep_parts-clause-calls g c = λ w st. works_so g.D.Disks w c.args.disks.now c.read_files.new.disks _ _ (λ _. tt) (works_more g.D.Disks w c.args.disks.now c.inputs.disks c.read_files.new.disks _ _ (c.inputs.invariant.right w st) (c.in-Ok-Some.ensures.calls w (c.inputs.invariant.keeps.valid w st)))

pub returns-in-Ok-None-clause-read : goal.returns-in-Ok-None-clause-read
returns-in-Ok-None-clause-read g c =
    let none = subst (λ names. OfFiles (λ r plan. Goes plan (g.D.Disks.told c.inputs.disks) (g.D.Disks.told c.read_files.new.disks) (gives (starved (with_books c.read_files.new.self r.cluster)))) c.inputs.self c.args.own names) c.as_slice.ensures.value (rw c.in-Ok-None.field-0-is at c.in-Ok-None.ensures.read) in
    inputs_starved c.args.shape.now (g.D.Disks.shows_damage c.args.disks.now) (g.D.Disks.shows_damage c.inputs.disks) c.args.own c.args.part c.args.self.now c.inputs.self (names_in c.args.inputs.now) (names_in c.inputs.rest.now) _ _ c.args.files.now.items c.inputs.files.items c.inputs.lists.items c.inputs.invariant.so_far c.inputs.invariant.keeps.up c.inputs.invariant.keeps.damage_shown c.inputs.invariant.keeps.valid c.read_files.new.self (g.D.Disks.told c.read_files.new.disks) c.in-Some.names.now.items (names_in c.in-Some.others.now) (ap names_in c.in-Some.ensures.cases.0) none

pub returns-in-Ok-None-clause-keeps : goal.returns-in-Ok-None-clause-keeps
returns-in-Ok-None-clause-keeps g c = keeps_more g.D.Disks c.args.self.now c.inputs.self c.read_files.new.self c.args.disks.now c.inputs.disks c.read_files.new.disks c.inputs.invariant.keeps c.in-Ok-None.ensures.keeps

pub returns-in-Ok-None-clause-calls : goal.returns-in-Ok-None-clause-calls
returns-in-Ok-None-clause-calls g c = λ w st. works_so g.D.Disks w c.args.disks.now c.read_files.new.disks _ _ (λ _. tt) (works_more g.D.Disks w c.args.disks.now c.inputs.disks c.read_files.new.disks _ _ (c.inputs.invariant.right w st) (c.in-Ok-None.ensures.calls w (c.inputs.invariant.keeps.valid w st)))

pub returns-in-Err-clause-stopped : goal.returns-in-Err-clause-stopped
returns-in-Err-clause-stopped g c =
    let stopped = subst (λ names. FilesStopped c.args.own names c.inputs.self c.read_files.new.self (g.D.Disks.told c.inputs.disks) (g.D.Disks.told c.read_files.new.disks) c.in-Err.fault) c.as_slice.ensures.value c.in-Err.ensures.stopped in
    inputs_stopped c.args.shape.now (g.D.Disks.shows_damage c.args.disks.now) (g.D.Disks.shows_damage c.inputs.disks) c.args.own c.args.part c.args.self.now c.inputs.self (names_in c.args.inputs.now) (names_in c.inputs.rest.now) _ _ c.args.files.now.items c.inputs.files.items c.inputs.lists.items c.inputs.invariant.so_far c.inputs.invariant.keeps.up c.inputs.invariant.keeps.damage_shown c.inputs.invariant.keeps.valid c.read_files.new.self (g.D.Disks.told c.read_files.new.disks) c.in-Some.names.now.items (names_in c.in-Some.others.now) (ap names_in c.in-Some.ensures.cases.0) c.in-Err.fault stopped

pub returns-in-Err-clause-keeps : goal.returns-in-Err-clause-keeps
returns-in-Err-clause-keeps g c = keeps_more g.D.Disks c.args.self.now c.inputs.self c.read_files.new.self c.args.disks.now c.inputs.disks c.read_files.new.disks c.inputs.invariant.keeps c.in-Err.ensures.keeps

pub returns-in-Err-clause-calls : goal.returns-in-Err-clause-calls
returns-in-Err-clause-calls g c = λ w st. works_so g.D.Disks w c.args.disks.now c.read_files.new.disks _ _ (λ p. p) (works_more g.D.Disks w c.args.disks.now c.inputs.disks c.read_files.new.disks _ _ (c.inputs.invariant.right w st) (c.in-Err.ensures.calls w (c.inputs.invariant.keeps.valid w st)))

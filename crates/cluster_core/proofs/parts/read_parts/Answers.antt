use Rattle.std.proofs.Common.{None, Some, List, arith, subst, sym, ◌∷◌, []}
use Rattle.hal_base.specs.declared.record.Record.{Record}
use Rattle.node_names.specs.declared.name.Name.TheVariants.{Out}
use Rattle.cluster_core.specs.Parts.{IsValueOf, PartFollows, PartStopped}
use Rattle.valid_copies.proofs.Coming.{puts_more, puts_none}
use Rattle.cluster_core.proofs.PartLoops.{parts_memory, parts_more, parts_starve, parts_stop, PartsSoFar, parts_none}
use Rattle.valid_copies.proofs.Rightly.{works_more, works_none}
use Rattle.valid_copies.proofs.Adding.{such_more, such_none}
use Rattle.valid_copies.specs.LastWrites.{AsksForCopy}
use Rattle.cluster_core.proofs.Origins.{answers_more, no_answers}
use Rattle.cluster_core.specs.Origins.{AreAnswers}
use Rattle.cluster_core.proofs.parts.read_parts.Goals as goal

pub returns-in-Err-push-clause-stopped : goal.returns-in-Err-push-clause-stopped
returns-in-Err-push-clause-stopped g c =
    let follows = subst (λ j. PartFollows c.args.table.now (Out c.args.round j c.parts.part) (g.D.Disks.told c.parts.disks) (g.D.Disks.told c.read_part.new.disks) (Some c.in-Ok-Some.rows)) c.last_step-step.ensures (rw c.in-Ok-Some.field-0-is at c.in-Ok-Some.ensures.read) in
    parts_memory c.args.shape.now c.args.table.now c.args.round (g.D.Disks.shows_damage c.args.disks.now) (g.D.Disks.shows_damage c.parts.disks) (g.D.Disks.told c.args.disks.now) (g.D.Disks.told c.parts.disks) c.parts.part c.parts.parts c.parts.invariant.so_far (g.D.Disks.told c.read_part.new.disks) c.in-Ok-Some.rows c.parts-test.true follows

pub returns-in-Ok-None-clause-read : goal.returns-in-Ok-None-clause-read
returns-in-Ok-None-clause-read g c =
    let follows = subst (λ j. PartFollows {A = List Record} c.args.table.now (Out c.args.round j c.parts.part) (g.D.Disks.told c.parts.disks) (g.D.Disks.told c.read_part.new.disks) None) c.last_step-step.ensures (rw c.in-Ok-None.field-0-is at c.in-Ok-None.ensures.read) in
    parts_starve c.args.shape.now c.args.table.now c.args.round (g.D.Disks.shows_damage c.args.disks.now) (g.D.Disks.shows_damage c.parts.disks) (g.D.Disks.told c.args.disks.now) (g.D.Disks.told c.parts.disks) c.parts.part c.parts.parts c.parts.invariant.so_far (g.D.Disks.told c.read_part.new.disks) c.parts-test.true follows

pub returns-in-Err-clause-stopped : goal.returns-in-Err-clause-stopped
returns-in-Err-clause-stopped g c =
    let stopped = subst (λ j. PartStopped c.args.table.now (Out c.args.round j c.parts.part) (g.D.Disks.told c.parts.disks) (g.D.Disks.told c.read_part.new.disks) c.in-Err.fault) c.last_step-step.ensures c.in-Err.ensures.stopped in
    parts_stop c.args.shape.now c.args.table.now c.args.round (g.D.Disks.shows_damage c.args.disks.now) (g.D.Disks.shows_damage c.parts.disks) (g.D.Disks.told c.args.disks.now) (g.D.Disks.told c.parts.disks) c.parts.part c.parts.parts c.parts.invariant.so_far (g.D.Disks.told c.read_part.new.disks) c.in-Err.fault c.parts-test.true stopped

pub parts-preserved : goal.parts-preserved
parts-preserved g c =
    let follows = subst (λ j. PartFollows c.args.table.now (Out c.args.round j c.parts.part) (g.D.Disks.told c.parts.disks) (g.D.Disks.told c.read_part.new.disks) (Some c.in-Ok-Some.rows)) c.last_step-step.ensures (rw c.in-Ok-Some.field-0-is at c.in-Ok-Some.ensures.read) in
    let value = subst (λ j. IsValueOf c.args.shape.now c.args.table.now (g.D.Disks.shows_damage c.parts.disks) (g.D.Disks.told c.parts.disks) (Out c.args.round j c.parts.part) (Some c.in-Ok-Some.rows)) c.last_step-step.ensures (rw c.in-Ok-Some.field-0-is at c.in-Ok-Some.ensures.value) in
    record {
      so_far = parts_more c.args.shape.now c.args.table.now c.args.round (g.D.Disks.shows_damage c.args.disks.now) (g.D.Disks.shows_damage c.parts.disks) (g.D.Disks.told c.args.disks.now) (g.D.Disks.told c.parts.disks) c.parts.part c.parts.parts c.parts.invariant.so_far (g.D.Disks.shows_damage c.read_part.new.disks) (g.D.Disks.told c.read_part.new.disks) c.in-Ok-Some.rows _ c.parts-test.true follows value c.in-Ok-Some.ensures.damage_shown c.in-Ok-Some.ensures.valid c.in-Ok.ensures.ok;
      faults = omega (arith, c.parts.invariant.faults, c.in-Ok-Some.ensures.faults_stay);
      misses = omega (arith, c.parts.invariant.misses, c.in-Ok-Some.ensures.misses_stay);
      puts = puts_more (g.D.Disks.told c.args.disks.now) (g.D.Disks.told c.parts.disks) (g.D.Disks.told c.read_part.new.disks) c.parts.invariant.puts c.in-Ok-Some.ensures.puts_stay;
      asked = such_more (AsksForCopy c.args.table.now.copies) (g.D.Disks.told c.args.disks.now) (g.D.Disks.told c.parts.disks) (g.D.Disks.told c.read_part.new.disks) c.parts.invariant.asked c.in-Ok-Some.ensures.asked;
      answers = subst (λ ps. AreAnswers c.args.shape.now ps (g.D.Disks.told c.args.disks.now) (g.D.Disks.told c.read_part.new.disks)) (sym c.in-Ok.ensures.ok) (answers_more c.args.shape.now c.parts.parts (c.in-Ok-Some.rows ∷ []) (g.D.Disks.told c.args.disks.now) (g.D.Disks.told c.parts.disks) (g.D.Disks.told c.read_part.new.disks) c.parts.invariant.answers (rw c.in-Ok-Some.field-0-is at c.in-Ok-Some.ensures.answers));
      right = λ w s. works_more g.D.Disks w c.args.disks.now c.parts.disks c.read_part.new.disks _ _ (c.parts.invariant.right w s) (c.in-Ok-Some.ensures.calls w (c.parts.invariant.so_far.stands w c.args.table.now.copies s));
      soundness = λ s. c.in-Ok-Some.ensures.soundness_kept (c.parts.invariant.soundness s);
    }

pub returns-in-Err-push-clause-calls : goal.returns-in-Err-push-clause-calls
returns-in-Err-push-clause-calls g c = λ w s. works_more g.D.Disks w c.args.disks.now c.parts.disks c.read_part.new.disks _ _ (c.parts.invariant.right w s) (c.in-Ok-Some.ensures.calls w (c.parts.invariant.so_far.stands w c.args.table.now.copies s))

pub returns-in-Ok-None-clause-calls : goal.returns-in-Ok-None-clause-calls
returns-in-Ok-None-clause-calls g c = λ w s. works_more g.D.Disks w c.args.disks.now c.parts.disks c.read_part.new.disks _ _ (c.parts.invariant.right w s) (c.in-Ok-None.ensures.calls w (c.parts.invariant.so_far.stands w c.args.table.now.copies s))

pub returns-in-Err-clause-calls : goal.returns-in-Err-clause-calls
returns-in-Err-clause-calls g c = λ w s. works_more g.D.Disks w c.args.disks.now c.parts.disks c.read_part.new.disks _ _ (c.parts.invariant.right w s) (c.in-Err.ensures.calls w (c.parts.invariant.so_far.stands w c.args.table.now.copies s))

pub parts-init : goal.parts-init
parts-init g c = record {
  so_far = subst (PartsSoFar c.args.shape.now c.args.table.now c.args.round _ _ _ _ 0) (sym c.new-parts.ensures) (parts_none c.args.shape.now c.args.table.now c.args.round _ _);
  faults = omega arith;
  misses = omega arith;
  puts = puts_none (g.D.Disks.told c.args.disks.now);
  asked = such_none (AsksForCopy c.args.table.now.copies) (g.D.Disks.told c.args.disks.now);
  answers = subst (λ ps. AreAnswers c.args.shape.now ps (g.D.Disks.told c.args.disks.now) (g.D.Disks.told c.args.disks.now)) (sym c.new-parts.ensures) (no_answers c.args.shape.now (g.D.Disks.told c.args.disks.now));
  right = λ w s. works_none g.D.Disks w c.args.disks.now (Unit {0}) tt;
  soundness = λ s. s;
}

pub returns-in-Err-push-clause-asked : goal.returns-in-Err-push-clause-asked
returns-in-Err-push-clause-asked g c = such_more (AsksForCopy c.args.table.now.copies) (g.D.Disks.told c.args.disks.now) (g.D.Disks.told c.parts.disks) (g.D.Disks.told c.read_part.new.disks) c.parts.invariant.asked c.in-Ok-Some.ensures.asked

pub returns-in-Ok-None-clause-asked : goal.returns-in-Ok-None-clause-asked
returns-in-Ok-None-clause-asked g c = such_more (AsksForCopy c.args.table.now.copies) (g.D.Disks.told c.args.disks.now) (g.D.Disks.told c.parts.disks) (g.D.Disks.told c.read_part.new.disks) c.parts.invariant.asked c.in-Ok-None.ensures.asked

pub returns-in-Err-clause-asked : goal.returns-in-Err-clause-asked
returns-in-Err-clause-asked g c = such_more (AsksForCopy c.args.table.now.copies) (g.D.Disks.told c.args.disks.now) (g.D.Disks.told c.parts.disks) (g.D.Disks.told c.read_part.new.disks) c.parts.invariant.asked c.in-Err.ensures.asked

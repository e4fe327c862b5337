use Rattle.valid_copies.proofs.Removals.{others_stop, removed_more, removed_stops}
use Rattle.valid_copies.proofs.Others.{tells_on}
use Rattle.valid_copies.proofs.Steady.{steady_more}
use Rattle.hal_outside.specs.DiskCalls.{Remove}
use Rattle.hal_outside.specs.DiskTold.{Done}
use Rattle.valid_copies.proofs.removing.remove_files.Goals as goal

pub files-preserved : goal.files-preserved
files-preserved g c = record {
  so_far = removed_more _ _ _ c.args.files.now c.files.rest.now c.files.invariant.so_far c.in-Some.file.now c.in-Some.others.now c.in-Some.ensures.cases.0 c.in-Ok.ensures.done;
  steady = steady_more _ _ _ _ _ _ _ _ _ _ _ _ _ _ _ c.files.invariant.steady (record {
    faults = c.in-Ok.ensures.faults_stay;
    misses = c.in-Ok.ensures.misses_stay;
    not_missed = c.in-Ok.ensures.not_missed;
    tells = tells_on (Done (Remove c.in-Some.file.now.node c.in-Some.file.now.name)) (g.D.Disks.told c.files.disks) (g.D.Disks.told c.remove.new.self) c.in-Ok.ensures.done;
    shown = c.in-Ok.ensures.damage_shown;
    soundness = c.in-Ok.ensures.soundness_kept;
  });
}

pub returns-in-Err-Device-clause-begun : goal.returns-in-Err-Device-clause-begun
returns-in-Err-Device-clause-begun g c = removed_stops _ _ _ c.args.files.now c.files.rest.now c.files.invariant.so_far c.in-Some.file.now c.in-Some.others.now c.in-Some.ensures.cases.0 c.in-Err-Device.ensures.failed

pub returns-in-Err-Device-clause-others : goal.returns-in-Err-Device-clause-others
returns-in-Err-Device-clause-others g c = others_stop _ _ _ c.args.files.now c.files.rest.now c.files.invariant.so_far c.in-Some.file.now c.in-Some.others.now c.in-Some.ensures.cases.0 c.in-Err-Device.ensures.failed

pub returns-in-Err-Memory-clause-begun : goal.returns-in-Err-Memory-clause-begun
returns-in-Err-Memory-clause-begun g c = removed_stops _ _ _ c.args.files.now c.files.rest.now c.files.invariant.so_far c.in-Some.file.now c.in-Some.others.now c.in-Some.ensures.cases.0 c.in-Err-Memory.ensures.failed

pub returns-in-Err-Memory-clause-others : goal.returns-in-Err-Memory-clause-others
returns-in-Err-Memory-clause-others g c = others_stop _ _ _ c.args.files.now c.files.rest.now c.files.invariant.so_far c.in-Some.file.now c.in-Some.others.now c.in-Some.ensures.cases.0 c.in-Err-Memory.ensures.failed

use Rattle.std.proofs.Common.{◌≡◌, ◌∙◌, [], sym, ap, subst}
use Rattle.std.specs.List.{AllByRecursion}
use Rattle.run_model.specs.Plans.{gives}
use Rattle.run_model.specs.Reading.{nothing_read, starved}
use Rattle.run_model.specs.State.{PlainCluster}
use Rattle.valid_copies.specs.Calls.{Follows}
use Rattle.valid_copies.specs.Inputs.{InputsRead, InputsStopped, OfPlan, counted_files, names_in}
use Rattle.valid_copies.specs.ReadCounts.{read_so_far}
use Rattle.valid_copies.specs.Readings.{IsFile}
use Rattle.cluster_core.specs.Disks.{Leaves}
use Rattle.cluster_core.specs.Finishing.{CanFinish, desk_of}
use Rattle.cluster_core.specs.States.{Seen}
use Rattle.cluster_core.proofs.DisksLeft.{beyond_puts}
use Rattle.cluster_core.proofs.Inside.{kept_in, seen_in, setup_in}
use Rattle.cluster_core.proofs.Needs.{files_are, has_read, has_stopped, is_starved}
use Rattle.name_values.specs.Values.{World}
use Rattle.valid_copies.specs.RightCalls.{RightWork}
use Rattle.valid_copies.specs.Stands.{Stands}
use Rattle.valid_copies.proofs.Rightly.{works_none}
use Rattle.valid_copies.specs.Faults as work
use Rattle.cluster_core.proofs.state.State.read_needs.Goals as goal

pub read_inputs-read-requires-clause-all_files : goal.read_inputs-read-requires-clause-all_files
read_inputs-read-requires-clause-all_files g c = subst (AllByRecursion (AllByRecursion IsFile)) (sym (ap names_in c.as_slice.ensures.value ∙ c.in-Ok.ensures)) (files_are c.self.inside.shape c.args.attempt.now.task)

pub returns-in-Ok-Some-clause-read : goal.returns-in-Ok-Some-clause-read
returns-in-Ok-Some-clause-read g c =
    let can : CanFinish (setup_in c.self.inside) c.args.attempt.now = subst (λ (s : Seen). CanFinish s.setup c.args.attempt.now) (sym c.self.view_is) c.requires.can in
    let names = ap names_in c.as_slice.ensures.value ∙ c.in-Ok.ensures in
    let answer = rw c.in-Ok-Some.field-0-is at c.in-Ok-Some.ensures.read in
    let own = subst (λ p. InputsRead (record { shape = c.self.inside.shape; table = c.self.inside.table; own = c.args.attempt.now.node; part = p }) (g.D.Disks.shows_damage c.args.disks.now) (g.D.Disks.told c.args.disks.now) (names_in c.as_slice.result.now) c.new-files.result.items c.read_inputs-read.new.files.items (g.D.Disks.told c.read_inputs-read.new.disks) c.in-Ok-Some.lists.items) c.part_in.ensures answer in
    let fresh = subst (λ files. InputsRead (desk_of (seen_in c.self.inside) c.args.attempt.now) (g.D.Disks.shows_damage c.args.disks.now) (g.D.Disks.told c.args.disks.now) (names_in c.as_slice.result.now) files c.read_inputs-read.new.files.items (g.D.Disks.told c.read_inputs-read.new.disks) c.in-Ok-Some.lists.items) c.new-files.ensures.items own in
    let read = subst (λ names. InputsRead (desk_of (seen_in c.self.inside) c.args.attempt.now) (g.D.Disks.shows_damage c.args.disks.now) (g.D.Disks.told c.args.disks.now) names [] c.read_inputs-read.new.files.items (g.D.Disks.told c.read_inputs-read.new.disks) c.in-Ok-Some.lists.items) names fresh in
    rw (sym c.self.view_is) (has_read (setup_in c.self.inside) (kept_in c.self.inside) can.caches c.args.attempt.now _ _ _ c.read_inputs-read.new.files.items c.in-Ok-Some.lists.items c.count_reads.result read (subst (λ files. (p : PlainCluster) → counted_files c.args.attempt.now.node files (nothing_read p) ≡ read_so_far c.count_reads.result p) c.as_slice-in-Ok-Some.ensures.value c.count_reads.ensures))

pub returns-in-Ok-None-clause-read : goal.returns-in-Ok-None-clause-read
returns-in-Ok-None-clause-read g c =
    let can : CanFinish (setup_in c.self.inside) c.args.attempt.now = subst (λ (s : Seen). CanFinish s.setup c.args.attempt.now) (sym c.self.view_is) c.requires.can in
    let names = ap names_in c.as_slice.ensures.value ∙ c.in-Ok.ensures in
    let answer = rw c.in-Ok-None.field-0-is at c.in-Ok-None.ensures.read in
    let own = subst (λ p. OfPlan (λ v plan. Follows plan (g.D.Disks.told c.args.disks.now) (g.D.Disks.told c.read_inputs-read.new.disks) (gives (starved v))) (record { shape = c.self.inside.shape; table = c.self.inside.table; own = c.args.attempt.now.node; part = p }) (names_in c.as_slice.result.now)) c.part_in.ensures answer in
    let read = subst (λ names. OfPlan (λ v plan. Follows plan (g.D.Disks.told c.args.disks.now) (g.D.Disks.told c.read_inputs-read.new.disks) (gives (starved v))) (desk_of (seen_in c.self.inside) c.args.attempt.now) names) names own in
    rw (sym c.self.view_is) (is_starved (setup_in c.self.inside) (kept_in c.self.inside) can.caches c.args.attempt.now _ _ read)

pub returns-clause-stopped : goal.returns-clause-stopped
returns-clause-stopped g c =
    let can : CanFinish (setup_in c.self.inside) c.args.attempt.now = subst (λ (s : Seen). CanFinish s.setup c.args.attempt.now) (sym c.self.view_is) c.requires.can in
    let names = ap names_in c.as_slice.ensures.value ∙ c.in-Ok.ensures in
    let own = subst (λ p. InputsStopped (record { shape = c.self.inside.shape; table = c.self.inside.table; own = c.args.attempt.now.node; part = p }) (g.D.Disks.told c.args.disks.now) (names_in c.as_slice.result.now) (g.D.Disks.told c.read_inputs-read.new.disks) c.in-Err-read.fault) c.part_in.ensures c.in-Err-read.ensures.stopped in
    let stopped = subst (λ names. InputsStopped (desk_of (seen_in c.self.inside) c.args.attempt.now) (g.D.Disks.told c.args.disks.now) names (g.D.Disks.told c.read_inputs-read.new.disks) c.in-Err-read.fault) names own in
    rw (sym c.self.view_is) (has_stopped (setup_in c.self.inside) (kept_in c.self.inside) can.caches c.args.attempt.now _ _ c.in-Err-read.fault stopped)

pub returns-in-Ok-Some-clause-disks : goal.returns-in-Ok-Some-clause-disks
returns-in-Ok-Some-clause-disks g c =
    let left : Leaves g.D.Disks c.self.inside.schedule.nodes c.args.disks.now c.read_inputs-read.new.disks = record {
      faults_stay = c.read_inputs-read.ensures.faults_stay;
      misses_stay = c.read_inputs-read.ensures.misses_stay;
      damage_shown = c.read_inputs-read.ensures.damage_shown;
      soundness_kept = c.read_inputs-read.ensures.soundness_kept;
      others = beyond_puts c.self.inside.schedule.nodes (g.D.Disks.told c.args.disks.now) (g.D.Disks.told c.read_inputs-read.new.disks) c.read_inputs-read.ensures.puts_stay;
    } in
    rw (sym c.self.view_is) left

pub returns-in-Ok-None-clause-disks : goal.returns-in-Ok-None-clause-disks
returns-in-Ok-None-clause-disks g c =
    let left : Leaves g.D.Disks c.self.inside.schedule.nodes c.args.disks.now c.read_inputs-read.new.disks = record {
      faults_stay = c.read_inputs-read.ensures.faults_stay;
      misses_stay = c.read_inputs-read.ensures.misses_stay;
      damage_shown = c.read_inputs-read.ensures.damage_shown;
      soundness_kept = c.read_inputs-read.ensures.soundness_kept;
      others = beyond_puts c.self.inside.schedule.nodes (g.D.Disks.told c.args.disks.now) (g.D.Disks.told c.read_inputs-read.new.disks) c.read_inputs-read.ensures.puts_stay;
    } in
    rw (sym c.self.view_is) left

pub returns-clause-disks : goal.returns-clause-disks
returns-clause-disks g c =
    let left : Leaves g.D.Disks c.self.inside.schedule.nodes c.args.disks.now c.read_inputs-read.new.disks = record {
      faults_stay = c.read_inputs-read.ensures.faults_stay;
      misses_stay = c.read_inputs-read.ensures.misses_stay;
      damage_shown = c.read_inputs-read.ensures.damage_shown;
      soundness_kept = c.read_inputs-read.ensures.soundness_kept;
      others = beyond_puts c.self.inside.schedule.nodes (g.D.Disks.told c.args.disks.now) (g.D.Disks.told c.read_inputs-read.new.disks) c.read_inputs-read.ensures.puts_stay;
    } in
    rw (sym c.self.view_is) left

pub returns-in-Ok-Some-clause-calls : goal.returns-in-Ok-Some-clause-calls
returns-in-Ok-Some-clause-calls g c = subst (λ (s : Seen). (w : World) → Stands w s.kept.table.copies (g.D.Disks.told c.args.disks.now) → RightWork g.D.Disks w c.args.disks.now c.read_inputs-read.new.disks (Unit {0})) c.self.view_is c.in-Ok-Some.ensures.calls

pub returns-in-Ok-None-clause-calls : goal.returns-in-Ok-None-clause-calls
returns-in-Ok-None-clause-calls g c = subst (λ (s : Seen). (w : World) → Stands w s.kept.table.copies (g.D.Disks.told c.args.disks.now) → RightWork g.D.Disks w c.args.disks.now c.read_inputs-read.new.disks (Unit {0})) c.self.view_is c.in-Ok-None.ensures.calls

pub returns-clause-calls : goal.returns-clause-calls
returns-clause-calls g c = subst (λ (s : Seen). (w : World) → Stands w s.kept.table.copies (g.D.Disks.told c.args.disks.now) → RightWork g.D.Disks w c.args.disks.now c.read_inputs-read.new.disks (work.AtMissed c.in-Err-read.fault ⊥)) c.self.view_is c.in-Err-read.ensures.calls

pub returns-in-Err-clause-calls : goal.returns-in-Err-clause-calls
returns-in-Err-clause-calls g c = λ w s. works_none g.D.Disks w c.args.disks.now (Unit {0}) tt

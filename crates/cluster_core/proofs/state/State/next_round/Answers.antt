use Rattle.std.proofs.Common.{◌+◌, sym, subst, ap}
use Rattle.run_model.specs.Advance.{next_round}
use Rattle.run_model.specs.Plans.{gives}
use Rattle.run_model.specs.Removals.{clear}
use Rattle.run_model.specs.State.{Setup, with_copies}
use Rattle.valid_copies.specs.Calls.{Begun, Follows}
use Rattle.cluster_core.specs.States.{Seen}
use Rattle.cluster_core.proofs.Onward.{begun_so_far}
use Rattle.cluster_core.proofs.RoundChanges.{clears_begun, clears_follows, moves_on, same_copies, stopped_by, to_clear}
use Rattle.cluster_core.proofs.state.State.next_round.Goals as goal

pub returns-in-Err-clear_up-clause-stopped : goal.returns-in-Err-clear_up-clause-stopped
returns-in-Err-clear_up-clause-stopped g c =
    let old = c.args.self.now in
    let left = c.drop_running.new.self in
    let before = g.D.Disks.told c.args.disks.now in
    let after = g.D.Disks.told c.clear_up.new.disks in
    let dropped = c.in-Ok-drop_running.ensures.dropped in
    let round = ap (λ (s : Seen). s.plain.round + 1) (sym c.self.view_is) in
    let begun = c.in-Err-clear_up.ensures.stopped (to_clear old.plain) round (same_copies old.setup old.plain left.plain before after dropped) in
    stopped_by (next_round old.setup old.plain) before after c.in-Err-clear_up.fault c.in-Err-clear_up.ensures.missed
    (clears_begun old.setup old.plain left.plain before after dropped (subst (λ (setup : Setup). Begun (clear setup left.plain.up (to_clear old.plain)) before after) c.in-Ok-drop_running.ensures.same begun))

pub returns-in-Ok-enter-clause-begun : goal.returns-in-Ok-enter-clause-begun
returns-in-Ok-enter-clause-begun g c =
    let old = c.args.self.now in
    let left = c.drop_running.new.self in
    let cleared = c.clear_up.new.self in
    let before = g.D.Disks.told c.args.disks.now in
    let after = g.D.Disks.told c.clear_up.new.disks in
    let dropped = c.in-Ok-drop_running.ensures.dropped in
    let round = ap (λ (s : Seen). s.plain.round + 1) (sym c.self.view_is) in
    let follows = c.in-Ok-clear_up.ensures.cleared (to_clear old.plain) round (same_copies old.setup old.plain left.plain before after dropped) in
    moves_on old.setup old.plain left.plain before after dropped cleared.plain.copies cleared.plain c.enter.new.self.plain c.in-Ok-clear_up.ensures.others c.in-Ok-enter.ensures.entered
    (subst (λ (setup : Setup). Follows (clear setup left.plain.up (to_clear old.plain)) before after (gives (with_copies cleared.plain.copies (to_clear old.plain)))) c.in-Ok-drop_running.ensures.same follows)

pub returns-in-Err-enter-clause-stopped : goal.returns-in-Err-enter-clause-stopped
returns-in-Err-enter-clause-stopped g c =
    let old = c.args.self.now in
    let left = c.drop_running.new.self in
    let cleared = c.clear_up.new.self in
    let before = g.D.Disks.told c.args.disks.now in
    let after = g.D.Disks.told c.clear_up.new.disks in
    let dropped = c.in-Ok-drop_running.ensures.dropped in
    let round = ap (λ (s : Seen). s.plain.round + 1) (sym c.self.view_is) in
    let follows = c.in-Ok-clear_up.ensures.cleared (to_clear old.plain) round (same_copies old.setup old.plain left.plain before after dropped) in
    let same = subst (λ (setup : Setup). Follows (clear setup left.plain.up (to_clear old.plain)) before after (gives (with_copies cleared.plain.copies (to_clear old.plain)))) c.in-Ok-drop_running.ensures.same follows in
    begun_so_far (next_round old.setup old.plain) _ before after (clears_follows old.setup old.plain left.plain before after dropped cleared.plain.copies same)

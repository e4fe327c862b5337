use Rattle.std.proofs.Common.{◌≡◌, ◌-◌, suc, [], ◌∷◌, sym, subst, ◌∙◌, arith}
use Rattle.hal_outside.specs.DiskCalls as disk
use Rattle.name_values.specs.Values.{World, value_of}
use Rattle.valid_copies.proofs.Others.{tells_on}
use Rattle.valid_copies.proofs.Steady.{steady_more}
use Rattle.valid_copies.proofs.Written.{others_stop, writing_ends, writing_more, writing_skips, writing_stops}
use Rattle.valid_copies.specs.Calls.{AddedAtMost}
use Rattle.valid_copies.specs.Readings.{IsTextOf}
use Rattle.valid_copies.specs.Stands.{OthersStay, Stands}
use Rattle.valid_copies.specs.Writes.{Wrote, write_at}
use Rattle.valid_copies.specs.steps.Further.{Further}
use Rattle.valid_copies.proofs.Rightly.{works_more, works_wrote}
use Rattle.valid_copies.specs.Faults.{AtMissed}
use Rattle.valid_copies.specs.RightCalls.{RightWork}
use Rattle.valid_copies.proofs.writing.write_between.Goals as goal
use Rattle.valid_copies.proofs.writing.write_between.Goals.{then-left-gt0+then-may_get+in-Ok, else-left-gt0, else-left-gt0-via-then-left-gt0+else-may_get, else-left-gt0-via-else-left-gt0}

pub returns-in-Err-clause-begun : goal.returns-in-Err-clause-begun
returns-in-Err-clause-begun g c =
    let some : c.nodes.left ≡ suc (c.nodes.left - 1) = omega (arith, c.if-left-gt0.true) in
    let added = subst (λ (f : Further). AddedAtMost (g.D.Disks.told c.nodes.disks) [] (disk.Write c.nodes.node f.name f.bytes) (g.D.Disks.told c.write_copy.new.disks)) c.further.view_is c.in-Err.ensures.begun in
    writing_stops _ _ _ _ c.args.further.now _ c.args.to c.args.most c.nodes.left c.nodes.node c.nodes-test.true c.nodes.invariant.so_far (c.nodes.left - 1) some (sym c.may_get.ensures ∙ c.if-may_get.true) _ _ added c.in-Err.ensures.table_kept

pub returns-in-Err-clause-others : goal.returns-in-Err-clause-others
returns-in-Err-clause-others g c =
    let some : c.nodes.left ≡ suc (c.nodes.left - 1) = omega (arith, c.if-left-gt0.true) in
    others_stop _ _ _ _ c.args.further.now _ c.args.to c.args.most c.nodes.left c.nodes.node c.nodes-test.true c.nodes.invariant.so_far (c.nodes.left - 1) some (sym c.may_get.ensures ∙ c.if-may_get.true) _ c.in-Err.ensures.others

pub nodes-preserved : goal.nodes-preserved
nodes-preserved g c = elim c.if-left-gt0.branch [
  | then-left-gt0+then-may_get+in-Ok w ↦
      let some : c.nodes.left ≡ suc (c.nodes.left - 1) = omega (arith, w.if-left-gt0.true) in
      let wrote = subst (λ (f : Further). Wrote (g.D.Disks.told c.nodes.disks) c.nodes.table (write_at c.nodes.node f.name f.bytes ∷ []) w.write_copy.new.table (g.D.Disks.told w.write_copy.new.disks)) c.further.view_is w.in-Ok.ensures.written in
      let valid = subst (λ (f : Further). (world : World) → IsTextOf world.shape f.name f.bytes (value_of world f.name) → Stands world c.nodes.table.copies (g.D.Disks.told c.nodes.disks) → Stands world w.write_copy.new.table.copies (g.D.Disks.told w.write_copy.new.disks)) c.further.view_is w.in-Ok.ensures.valid in
      rw (w.disks-is, w.table-is, w.left-is) (record {
        so_far = writing_more _ _ _ _ c.args.further.now _ c.args.to c.args.most c.nodes.left c.nodes.node c.nodes-test.true c.nodes.invariant.so_far (c.nodes.left - 1) some (sym w.may_get.ensures ∙ w.if-may_get.true) _ _ wrote w.in-Ok.ensures.others valid;
        steady = steady_more _ _ _ _ _ _ _ _ _ _ _ _ _ _ _ c.nodes.invariant.steady (record {
          faults = w.in-Ok.ensures.faults_stay;
          misses = w.in-Ok.ensures.misses_stay;
          not_missed = w.in-Ok.ensures.not_missed;
          tells = tells_on (OthersStay (c.nodes.node ∷ [])) (g.D.Disks.told c.nodes.disks) (g.D.Disks.told w.write_copy.new.disks) w.in-Ok.ensures.others;
          shown = w.in-Ok.ensures.damage_shown;
          soundness = w.in-Ok.ensures.soundness_kept;
        });
      })
  | else-left-gt0 w ↦ rw (w.disks-is, w.table-is, w.left-is) (elim w.else-left-gt0.branch [
    | else-left-gt0-via-then-left-gt0+else-may_get v ↦ record {
      so_far = writing_skips _ _ _ _ c.args.further.now _ c.args.to c.args.most c.nodes.left c.nodes.node c.nodes-test.true c.nodes.invariant.so_far (sym v.may_get.ensures ∙ v.if-may_get.false);
      steady = c.nodes.invariant.steady;
    }
    | else-left-gt0-via-else-left-gt0 v ↦ record {
      so_far = writing_ends _ _ _ _ c.args.further.now _ c.args.to c.args.most c.nodes.left c.nodes.node c.nodes-test.true c.nodes.invariant.so_far (omega (arith, v.if-left-gt0.false));
      steady = c.nodes.invariant.steady;
    }
  ])
]

pub returns-clause-calls : goal.returns-clause-calls
returns-clause-calls g c = λ w is. works_wrote g.D.Disks w c.args.disks.now c.nodes.disks c.args.table.now c.nodes.table c.nodes.invariant.so_far.taken c.args.further.now.name c.args.further.now.bytes is c.nodes.invariant.so_far.wrote c.nodes.invariant.steady.soundness c.nodes.invariant.steady.not_missed

pub returns-in-Err-clause-calls : goal.returns-in-Err-clause-calls
returns-in-Err-clause-calls g c = λ w is.
    let last = subst (λ (f : Further). (w : World) → IsTextOf w.shape f.name f.bytes (value_of w f.name) → RightWork g.D.Disks w c.nodes.disks c.write_copy.new.disks (AtMissed c.in-Err.fault ⊥)) c.further.view_is c.in-Err.ensures.calls in
    works_more g.D.Disks w c.args.disks.now c.nodes.disks c.write_copy.new.disks _ _
    (works_wrote g.D.Disks w c.args.disks.now c.nodes.disks c.args.table.now c.nodes.table c.nodes.invariant.so_far.taken c.args.further.now.name c.args.further.now.bytes is c.nodes.invariant.so_far.wrote c.nodes.invariant.steady.soundness c.nodes.invariant.steady.not_missed)
    (last w is)

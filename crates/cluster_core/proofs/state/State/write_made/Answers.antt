use Rattle.std.proofs.Common.{◌≡◌, ◌∷◌, [], sym, ap, subst, ◌∙◌, true, false}
use Rattle.run_model.specs.Attempts.{nodes_for}
use Rattle.replica_table.specs.Copies.{Replicas, holders}
use Rattle.std.proofs.lemmas.Result.{on_err_weaker, on_ok_weaker}
use Rattle.cluster_core.specs.Disks.{Leaves}
use Rattle.cluster_core.specs.Finishing.{BeganToWrite, CanFinish, goes_further}
use Rattle.valid_copies.specs.Writes.{writes_at, write_at}
use Rattle.cluster_core.specs.States.{Seen}
use Rattle.cluster_core.proofs.Inside.{kept_in, setup_in}
use Rattle.cluster_core.proofs.Left.{beyond, leaves_more}
use Rattle.cluster_core.proofs.Writing.{began_here, began_there, further_within, goes_there, nodes_stay, wrote_all, wrote_here}
use Rattle.valid_copies.proofs.Rightly.{works_more}
use Rattle.cluster_core.proofs.Keeping.{some_stand}
use Rattle.valid_copies.specs.Stands.{Stands}
use Rattle.valid_copies.proofs.WrittenCalls.{ask_more, at_most_asks, at_most_such, wrote_keep, wrote_such, writes_ask, writes_such}
use Rattle.valid_copies.proofs.Digests.{digests_wrote}
use Rattle.valid_copies.proofs.Adding.{such_more}
use Rattle.valid_copies.specs.LastWrites.{AsksByDigests, IsWriteOf, KeepsDigests}
use Rattle.cluster_core.proofs.state.State.write_made.Goals as goal

pub returns-in-Err-clause-begun : goal.returns-in-Err-clause-begun
returns-in-Err-clause-begun g c =
    let can : CanFinish (setup_in c.self.inside) c.args.attempt.now = subst (λ (s : Seen). CanFinish s.setup c.args.attempt.now) (sym c.self.view_is) c.requires.can in
    subst (λ (s : Seen). BeganToWrite s.setup c.args.attempt.now s.plain (g.D.Disks.told c.args.disks.now) (g.D.Disks.told c.write_copy.new.disks)) c.self.view_is
    (began_here (setup_in c.self.inside) can.caches c.args.attempt.now (kept_in c.self.inside) c.args.name.now c.args.bytes.now c.requires.name _ _ c.in-Err.ensures.begun)

pub returns-then-not-goes_further-clause-written : goal.returns-then-not-goes_further-clause-written
returns-then-not-goes_further-clause-written g c =
    let can : CanFinish (setup_in c.self.inside) c.args.attempt.now = subst (λ (s : Seen). CanFinish s.setup c.args.attempt.now) (sym c.self.view_is) c.requires.can in
    let goes : goes_further (setup_in c.self.inside) c.args.attempt.now.task ≡ false = sym c.goes_further.ensures ∙ c.if-not-goes_further.true in
    rw (sym c.self.view_is) (wrote_here (setup_in c.self.inside) can.caches c.args.attempt.now (kept_in c.self.inside) c.args.name.now c.args.bytes.now c.requires.name c.write_copy.new.table _ _ c.in-Ok.ensures.written goes)

pub returns-clause-written : goal.returns-clause-written
returns-clause-written g c =
    let can : CanFinish (setup_in c.self.inside) c.args.attempt.now = subst (λ (s : Seen). CanFinish s.setup c.args.attempt.now) (sym c.self.view_is) c.requires.can in
    let goes : goes_further (setup_in c.self.inside) c.args.attempt.now.task ≡ true = sym c.goes_further.ensures ∙ c.if-not-goes_further.false in
    let nodes = nodes_for (setup_in c.self.inside) c.args.attempt.now.node c.write_copy.new.table.up (holders c.args.name.now c.write_copy.new.table) in
    let go = goes_there (setup_in c.self.inside) can.caches c.args.attempt.now (kept_in c.self.inside) c.args.name.now c.args.bytes.now c.requires.name c.write_copy.new.table _ _ c.in-Ok.ensures.written goes in
    rw (sym c.self.view_is) (on_ok_weaker c.write_further.result (λ w. wrote_all (setup_in c.self.inside) can.caches c.args.attempt.now (kept_in c.self.inside) c.args.name.now c.args.bytes.now c.requires.name c.write_copy.new.table _ _ c.in-Ok.ensures.written nodes c.write_further.new.table _ go (w c.self.inside.shape)) c.write_further.ensures.written)

pub returns-clause-begun : goal.returns-clause-begun
returns-clause-begun g c =
    let can : CanFinish (setup_in c.self.inside) c.args.attempt.now = subst (λ (s : Seen). CanFinish s.setup c.args.attempt.now) (sym c.self.view_is) c.requires.can in
    let goes : goes_further (setup_in c.self.inside) c.args.attempt.now.task ≡ true = sym c.goes_further.ensures ∙ c.if-not-goes_further.false in
    rw (sym c.self.view_is) (on_err_weaker c.write_further.result (λ some. began_there (setup_in c.self.inside) can.caches c.args.attempt.now (kept_in c.self.inside) c.args.name.now c.args.bytes.now c.requires.name c.write_copy.new.table _ _ c.in-Ok.ensures.written c.write_further.new.table _ goes (some c.self.inside.shape)) c.write_further.ensures.begun)

pub invariant_of-self-3 : goal.invariant_of-self-3
invariant_of-self-3 g c =
    let nodes = nodes_stay c.write_further.result c.write_copy.new.table c.write_further.new.table (λ shape. writes_at (nodes_for (record { shape = shape; schedule = c.self.inside.schedule }) c.args.attempt.now.node c.write_copy.new.table.up (holders c.args.name.now c.write_copy.new.table)) c.args.name.now c.args.bytes.now) _ _ c.self.inside.shape c.write_further.ensures.written c.write_further.ensures.begun in
    record {
      counted = c.self.invariant.counted;
      limits = c.self.invariant.limits;
      nodes = nodes ∙ ap (λ (t : Replicas). t.nodes) c.in-Ok.ensures.written.table ∙ c.self.invariant.nodes;
      tests = c.self.invariant.tests;
      tasks_are = c.self.invariant.tasks_are;
    }

pub returns-clause-disks : goal.returns-clause-disks
returns-clause-disks g c =
    let can : CanFinish (setup_in c.self.inside) c.args.attempt.now = subst (λ (s : Seen). CanFinish s.setup c.args.attempt.now) (sym c.self.view_is) c.requires.can in
    let nodes = c.self.inside.schedule.nodes in
    let own : Leaves g.D.Disks nodes c.args.disks.now c.write_copy.new.disks = record {
      faults_stay = c.in-Ok.ensures.faults_stay;
      misses_stay = c.in-Ok.ensures.misses_stay;
      damage_shown = c.in-Ok.ensures.damage_shown;
      soundness_kept = c.in-Ok.ensures.soundness_kept;
      others = beyond nodes (c.args.attempt.now.node ∷ []) _ _ (can.node, tt) c.in-Ok.ensures.others;
    } in
    let more : Leaves g.D.Disks nodes c.write_copy.new.disks c.write_further.new.disks = record {
      faults_stay = c.write_further.ensures.faults_stay;
      misses_stay = c.write_further.ensures.misses_stay;
      damage_shown = c.write_further.ensures.damage_shown;
      soundness_kept = c.write_further.ensures.soundness_kept;
      others = beyond nodes (nodes_for (setup_in c.self.inside) c.args.attempt.now.node c.write_copy.new.table.up (holders c.args.name.now c.write_copy.new.table)) _ _ (further_within (setup_in c.self.inside) c.args.attempt.now.node c.write_copy.new.table.up (holders c.args.name.now c.write_copy.new.table) can.node) (c.write_further.ensures.others c.self.inside.shape);
    } in
    rw (sym c.self.view_is) (leaves_more g.D.Disks nodes c.args.disks.now c.write_copy.new.disks c.write_further.new.disks own more)

pub returns-clause-calls : goal.returns-clause-calls
returns-clause-calls g c = λ w is. works_more g.D.Disks w c.args.disks.now c.write_copy.new.disks c.write_further.new.disks _ _ (c.in-Ok.ensures.calls w is) (c.write_further.ensures.calls w is)

pub returns-clause-digests : goal.returns-clause-digests
returns-clause-digests g c =
    let own = c.write_copy.new.table in
    let further = nodes_for (setup_in c.self.inside) c.args.attempt.now.node own.up (holders c.args.name.now own) in
    let between = g.D.Disks.told c.write_copy.new.disks in
    on_err_weaker c.write_further.result
    (λ some w text s. some_stand w c.args.name.now c.args.bytes.now text further own c.write_further.new.table between (g.D.Disks.told c.write_further.new.disks) between (some c.self.inside.shape)
    (c.in-Ok.ensures.valid w text (subst (λ (x : Seen). Stands w x.kept.table.copies (g.D.Disks.told c.args.disks.now)) (sym c.self.view_is) s)))
    c.write_further.ensures.begun

pub returns-in-Err-clause-asks : goal.returns-in-Err-clause-asks
returns-in-Err-clause-asks g c = at_most_asks c.args.self.now.kept.table.copies (g.D.Disks.told c.args.disks.now) (g.D.Disks.told c.write_copy.new.disks) (write_at c.args.attempt.now.node c.args.name.now c.args.bytes.now) c.in-Err.ensures.begun

pub returns-in-Err-clause-wrote : goal.returns-in-Err-clause-wrote
returns-in-Err-clause-wrote g c = at_most_such c.args.name.now c.args.bytes.now (g.D.Disks.told c.args.disks.now) (g.D.Disks.told c.write_copy.new.disks) c.args.attempt.now.node c.in-Err.ensures.begun

pub returns-then-not-goes_further-clause-agree : goal.returns-then-not-goes_further-clause-agree
returns-then-not-goes_further-clause-agree g c = subst (λ (s : Seen). KeepsDigests s.kept.table.copies c.write_copy.new.table.copies (g.D.Disks.told c.args.disks.now) (g.D.Disks.told c.write_copy.new.disks)) c.self.view_is (wrote_keep (g.D.Disks.told c.args.disks.now) (g.D.Disks.told c.write_copy.new.disks) c.self.inside.table c.write_copy.new.table (write_at c.args.attempt.now.node c.args.name.now c.args.bytes.now ∷ []) c.in-Ok.ensures.written)

pub returns-then-not-goes_further-clause-asks : goal.returns-then-not-goes_further-clause-asks
returns-then-not-goes_further-clause-asks g c = subst (λ (s : Seen). AsksByDigests s.kept.table.copies (g.D.Disks.told c.args.disks.now) (g.D.Disks.told c.write_copy.new.disks)) c.self.view_is (λ agree. (digests_wrote (g.D.Disks.told c.args.disks.now) (g.D.Disks.told c.write_copy.new.disks) c.self.inside.table c.write_copy.new.table (write_at c.args.attempt.now.node c.args.name.now c.args.bytes.now ∷ []) c.in-Ok.ensures.written agree).0)

pub returns-then-not-goes_further-clause-wrote : goal.returns-then-not-goes_further-clause-wrote
returns-then-not-goes_further-clause-wrote g c = wrote_such c.args.name.now c.args.bytes.now (g.D.Disks.told c.args.disks.now) (g.D.Disks.told c.write_copy.new.disks) c.self.inside.table c.write_copy.new.table (c.args.attempt.now.node ∷ []) c.in-Ok.ensures.written

pub returns-clause-agree : goal.returns-clause-agree
returns-clause-agree g c =
    on_ok_weaker c.write_further.result (λ w. subst (λ (s : Seen). KeepsDigests s.kept.table.copies c.write_further.new.table.copies (g.D.Disks.told c.args.disks.now) (g.D.Disks.told c.write_further.new.disks)) c.self.view_is (λ agree. wrote_keep (g.D.Disks.told c.write_copy.new.disks) (g.D.Disks.told c.write_further.new.disks) c.write_copy.new.table c.write_further.new.table (writes_at (nodes_for (setup_in c.self.inside) c.args.attempt.now.node c.write_copy.new.table.up (holders c.args.name.now c.write_copy.new.table)) c.args.name.now c.args.bytes.now) (w c.self.inside.shape) (wrote_keep (g.D.Disks.told c.args.disks.now) (g.D.Disks.told c.write_copy.new.disks) c.self.inside.table c.write_copy.new.table (write_at c.args.attempt.now.node c.args.name.now c.args.bytes.now ∷ []) c.in-Ok.ensures.written agree))) c.write_further.ensures.written

pub returns-clause-asks : goal.returns-clause-asks
returns-clause-asks g c =
    subst (λ (s : Seen). AsksByDigests s.kept.table.copies (g.D.Disks.told c.args.disks.now) (g.D.Disks.told c.write_further.new.disks)) c.self.view_is
    (ask_more c.self.inside.table.copies c.write_copy.new.table.copies (g.D.Disks.told c.args.disks.now) (g.D.Disks.told c.write_copy.new.disks) (g.D.Disks.told c.write_further.new.disks) (λ agree. (digests_wrote (g.D.Disks.told c.args.disks.now) (g.D.Disks.told c.write_copy.new.disks) c.self.inside.table c.write_copy.new.table (write_at c.args.attempt.now.node c.args.name.now c.args.bytes.now ∷ []) c.in-Ok.ensures.written agree).0) (wrote_keep (g.D.Disks.told c.args.disks.now) (g.D.Disks.told c.write_copy.new.disks) c.self.inside.table c.write_copy.new.table (write_at c.args.attempt.now.node c.args.name.now c.args.bytes.now ∷ []) c.in-Ok.ensures.written)
    (writes_ask c.write_further.result (g.D.Disks.told c.write_copy.new.disks) (g.D.Disks.told c.write_further.new.disks) c.write_copy.new.table c.write_further.new.table (writes_at (nodes_for (setup_in c.self.inside) c.args.attempt.now.node c.write_copy.new.table.up (holders c.args.name.now c.write_copy.new.table)) c.args.name.now c.args.bytes.now) (on_ok_weaker c.write_further.result (λ w. w c.self.inside.shape) c.write_further.ensures.written) (on_err_weaker c.write_further.result (λ w. w c.self.inside.shape) c.write_further.ensures.begun)))

pub returns-clause-wrote : goal.returns-clause-wrote
returns-clause-wrote g c =
    such_more (IsWriteOf c.args.name.now c.args.bytes.now) (g.D.Disks.told c.args.disks.now) (g.D.Disks.told c.write_copy.new.disks) (g.D.Disks.told c.write_further.new.disks)
    (wrote_such c.args.name.now c.args.bytes.now (g.D.Disks.told c.args.disks.now) (g.D.Disks.told c.write_copy.new.disks) c.self.inside.table c.write_copy.new.table (c.args.attempt.now.node ∷ []) c.in-Ok.ensures.written)
    (writes_such c.args.name.now c.args.bytes.now (g.D.Disks.told c.write_copy.new.disks) (g.D.Disks.told c.write_further.new.disks) c.write_further.result c.write_copy.new.table c.write_further.new.table (nodes_for (setup_in c.self.inside) c.args.attempt.now.node c.write_copy.new.table.up (holders c.args.name.now c.write_copy.new.table)) (on_ok_weaker c.write_further.result (λ w. w c.self.inside.shape) c.write_further.ensures.written) (on_err_weaker c.write_further.result (λ w. w c.self.inside.shape) c.write_further.ensures.begun))

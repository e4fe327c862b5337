use Rattle.std.proofs.Common.{None, sym, subst, inl, refl}
use Rattle.std.proofs.lemmas.Result.{on_ok_weaker}
use Rattle.name_values.specs.Values.{value_of}
use Rattle.valid_copies.specs.Readings.{IsTextOf}
use Rattle.cluster_core.specs.declared.output.Output.TheVariants.{File, Value}
use Rattle.cluster_core.specs.Outputs.{IsMade}
use Rattle.cluster_core.specs.States.{Seen}
use Rattle.cluster_core.proofs.StaysRight.{file_stays, value_stays}
use Rattle.valid_copies.proofs.Rightly.{works_none}
use Rattle.std.proofs.lemmas.Result.{on_err_weaker}
use Rattle.cluster_core.proofs.Keeping.{untold}
use Rattle.cluster_core.proofs.Origins.{file_completed, value_completed}
use Rattle.valid_copies.proofs.WrittenCalls.{none_ask, same_keep}
use Rattle.valid_copies.specs.Calls.{CallsHave}
use Rattle.valid_copies.specs.LastWrites.{IsWriteOf}
use Rattle.cluster_core.proofs.state.State.complete.Goals as goal

pub returns-in-Ok-File-clause-right : goal.returns-in-Ok-File-clause-right
returns-in-Ok-File-clause-right g c =
    let read = rw c.in-Ok-File.field-0-is at c.in-Ok-File.ensures in
    let made = subst (λ (s : Seen). IsMade (g.F.Functions.meaning c.args.functions.now) s.setup.shape c.args.attempt.now.task c.args.read.lists.items (File c.in-Ok-File.name c.in-Ok-File.bytes)) c.self.view_is read in
    on_ok_weaker c.commit_file.result
    (λ valid w right. file_stays w c.args.self.now.kept c.commit_file.new.self.kept (g.D.Disks.told c.args.disks.now) (g.D.Disks.told c.commit_file.new.disks) c.commit_file.ensures.values c.commit_file.ensures.round
    (valid w (subst (λ bytes. IsTextOf w.shape c.in-Ok-File.name bytes (value_of w c.in-Ok-File.name)) (sym c.as_slice.ensures.value) (right (File c.in-Ok-File.name c.in-Ok-File.bytes) made))))
    c.commit_file.ensures.valid

pub returns-in-Ok-clause-right : goal.returns-in-Ok-clause-right
returns-in-Ok-clause-right g c =
    let read = rw c.in-Ok-Value.field-0-is at c.in-Ok-Value.ensures in
    let made = subst (λ (s : Seen). IsMade (g.F.Functions.meaning c.args.functions.now) s.setup.shape c.args.attempt.now.task c.args.read.lists.items (Value c.in-Ok-Value.part c.in-Ok-Value.value)) c.self.view_is read in
    λ w right. value_stays w c.args.self.now.kept c.commit_value.new.self.kept (g.D.Disks.told c.args.disks.now) c.in-Ok-Value.part c.in-Ok-Value.value c.commit_value.ensures.table c.commit_value.ensures.values c.commit_value.ensures.round (right (Value c.in-Ok-Value.part c.in-Ok-Value.value) made)

pub returns-in-Ok-File-clause-calls : goal.returns-in-Ok-File-clause-calls
returns-in-Ok-File-clause-calls g c =
    let read = rw c.in-Ok-File.field-0-is at c.in-Ok-File.ensures in
    let made = subst (λ (s : Seen). IsMade (g.F.Functions.meaning c.args.functions.now) s.setup.shape c.args.attempt.now.task c.args.read.lists.items (File c.in-Ok-File.name c.in-Ok-File.bytes)) c.self.view_is read in
    λ w right. c.commit_file.ensures.calls w (subst (λ bytes. IsTextOf w.shape c.in-Ok-File.name bytes (value_of w c.in-Ok-File.name)) (sym c.as_slice.ensures.value) (right (File c.in-Ok-File.name c.in-Ok-File.bytes) made))

pub returns-in-Ok-clause-calls : goal.returns-in-Ok-clause-calls
returns-in-Ok-clause-calls g c = λ w right. works_none g.D.Disks w c.args.disks.now (Unit {0}) tt

pub returns-in-Ok-File-clause-keeps : goal.returns-in-Ok-File-clause-keeps
returns-in-Ok-File-clause-keeps g c =
    let read = rw c.in-Ok-File.field-0-is at c.in-Ok-File.ensures in
    let made = subst (λ (s : Seen). IsMade (g.F.Functions.meaning c.args.functions.now) s.setup.shape c.args.attempt.now.task c.args.read.lists.items (File c.in-Ok-File.name c.in-Ok-File.bytes)) c.self.view_is read in
    on_err_weaker c.commit_file.result
    (λ valid w right. file_stays w c.args.self.now.kept c.commit_file.new.self.kept (g.D.Disks.told c.args.disks.now) None c.commit_file.ensures.values c.commit_file.ensures.round
    (valid w (subst (λ bytes. IsTextOf w.shape c.in-Ok-File.name bytes (value_of w c.in-Ok-File.name)) (sym c.as_slice.ensures.value) (right (File c.in-Ok-File.name c.in-Ok-File.bytes) made))))
    c.commit_file.ensures.digests

pub returns-in-Err-commit_value-clause-keeps : goal.returns-in-Err-commit_value-clause-keeps
returns-in-Err-commit_value-clause-keeps g c =
    let read = rw c.in-Ok-Value.field-0-is at c.in-Ok-Value.ensures in
    let made = subst (λ (s : Seen). IsMade (g.F.Functions.meaning c.args.functions.now) s.setup.shape c.args.attempt.now.task c.args.read.lists.items (Value c.in-Ok-Value.part c.in-Ok-Value.value)) c.self.view_is read in
    λ w right stands. untold w c.commit_value.new.self.kept (g.D.Disks.told c.args.disks.now) (value_stays w c.args.self.now.kept c.commit_value.new.self.kept (g.D.Disks.told c.args.disks.now) c.in-Ok-Value.part c.in-Ok-Value.value c.commit_value.ensures.table c.commit_value.ensures.values c.commit_value.ensures.round (right (Value c.in-Ok-Value.part c.in-Ok-Value.value) made) stands)

pub returns-in-Ok-File-clause-made : goal.returns-in-Ok-File-clause-made
returns-in-Ok-File-clause-made g c =
    let read = rw c.in-Ok-File.field-0-is at c.in-Ok-File.ensures in
    let wrote = subst (λ bytes. CallsHave (IsWriteOf c.in-Ok-File.name bytes) (g.D.Disks.told c.args.disks.now) (g.D.Disks.told c.commit_file.new.disks)) c.as_slice.ensures.value c.commit_file.ensures.wrote in
    file_completed (g.F.Functions.meaning c.args.functions.now) c.args.self.now.setup.shape c.args.attempt.now.task c.args.read.lists.items c.args.self.now.kept.values c.commit_file.new.self.kept.values c.in-Ok-File.name c.in-Ok-File.bytes (g.D.Disks.told c.args.disks.now) (g.D.Disks.told c.commit_file.new.disks) (subst (λ (s : Seen). IsMade (g.F.Functions.meaning c.args.functions.now) s.setup.shape c.args.attempt.now.task c.args.read.lists.items (File c.in-Ok-File.name c.in-Ok-File.bytes)) c.self.view_is read) wrote c.commit_file.ensures.values

pub returns-in-Ok-clause-made : goal.returns-in-Ok-clause-made
returns-in-Ok-clause-made g c =
    let read = rw c.in-Ok-Value.field-0-is at c.in-Ok-Value.ensures in
    value_completed (g.F.Functions.meaning c.args.functions.now) c.args.self.now.setup.shape c.args.attempt.now.task c.args.read.lists.items c.args.self.now.kept.values c.commit_value.new.self.kept.values c.in-Ok-Value.part c.in-Ok-Value.value (g.D.Disks.told c.args.disks.now) (subst (λ (s : Seen). IsMade (g.F.Functions.meaning c.args.functions.now) s.setup.shape c.args.attempt.now.task c.args.read.lists.items (Value c.in-Ok-Value.part c.in-Ok-Value.value)) c.self.view_is read) c.commit_value.ensures.values

pub returns-in-Err-commit_value-clause-made : goal.returns-in-Err-commit_value-clause-made
returns-in-Err-commit_value-clause-made g c =
    let read = rw c.in-Ok-Value.field-0-is at c.in-Ok-Value.ensures in
    value_completed (g.F.Functions.meaning c.args.functions.now) c.args.self.now.setup.shape c.args.attempt.now.task c.args.read.lists.items c.args.self.now.kept.values c.commit_value.new.self.kept.values c.in-Ok-Value.part c.in-Ok-Value.value (g.D.Disks.told c.args.disks.now) (subst (λ (s : Seen). IsMade (g.F.Functions.meaning c.args.functions.now) s.setup.shape c.args.attempt.now.task c.args.read.lists.items (Value c.in-Ok-Value.part c.in-Ok-Value.value)) c.self.view_is read) c.commit_value.ensures.values

pub returns-in-Ok-clause-agree : goal.returns-in-Ok-clause-agree
returns-in-Ok-clause-agree g c = same_keep c.args.self.now.kept.table c.commit_value.new.self.kept.table (g.D.Disks.told c.args.disks.now) c.commit_value.ensures.table

pub returns-in-Ok-clause-asks : goal.returns-in-Ok-clause-asks
returns-in-Ok-clause-asks g c = none_ask c.args.self.now.kept.table.copies (g.D.Disks.told c.args.disks.now)

pub returns-in-Err-commit_value-clause-asks : goal.returns-in-Err-commit_value-clause-asks
returns-in-Err-commit_value-clause-asks g c = none_ask c.args.self.now.kept.table.copies (g.D.Disks.told c.args.disks.now)

pub returns-in-Err-clause-asks : goal.returns-in-Err-clause-asks
returns-in-Err-clause-asks g c = none_ask c.args.self.now.kept.table.copies (g.D.Disks.told c.args.disks.now)

pub returns-in-Err-clause-made : goal.returns-in-Err-clause-made
returns-in-Err-clause-made g c = inl (refl, refl)

-- Calls that are right, in what a turn does, and over many turns.
use Rattle.std.proofs.Common.{◌≡◌, List, None, Result, Ok, Err, IfErr, refl, sym, subst}
use Rattle.hal_base.specs.Meaning.{Meaning}
use Rattle.hal_base.specs.declared.record.Record.{Record}
use Rattle.hal_outside.specs.declared.disks.Disks.{Ghosts as Disks}
use Rattle.hal_outside.specs.Told.{OnTold}
use Rattle.name_values.specs.Values.{World}
use Rattle.run_laws.specs.States.{IsNow}
use Rattle.run_model.specs.State.{Setup}
use Rattle.run_model.specs.declared.attempt.Attempt.{Attempt}
use Rattle.valid_copies.proofs.Others.{tells_on}
use Rattle.valid_copies.proofs.Rightly.{works_more, works_none, works_so}
use Rattle.valid_copies.specs.Faults as work
use Rattle.valid_copies.specs.RightCalls.{RightCalls, RightWork}
use Rattle.valid_copies.specs.Stands.{Stands}
use Rattle.valid_copies.specs.declared.fault.WorkFault.{WorkFault}
use Rattle.valid_copies.specs.declared.fault.WorkFault.TheVariants.{Device, Memory, Missed}
use Rattle.valid_copies.specs.declared.inputs.ReadCounts.{ReadCounts}
use Rattle.cluster_core.proofs.Making.{made_right}
use Rattle.cluster_core.proofs.Rightness.{same_stands}
use Rattle.cluster_core.specs.Faults.{AtMissed, core_fault_of}
use Rattle.cluster_core.specs.Finishing.{CanFinish, HasRead}
use Rattle.cluster_core.specs.Outputs.{IsMade, IsRightOutput}
use Rattle.cluster_core.specs.States.{Kept, Seen}
use Rattle.cluster_core.specs.Turns.{IsRight, Rightly}
use Rattle.cluster_core.specs.Works.{CallsRight, OverRight, world_of}
use Rattle.cluster_core.specs.declared.fault.CoreFault.{CoreFault}
use Rattle.cluster_core.specs.declared.fault.CoreFault.TheVariants as core
use Rattle.cluster_core.specs.declared.output.Output.{Output}

pub no_calls : {D : Type 0} (g : Disks D) (m : Meaning) (setup : Setup) (kept : Kept) (disks : D) (p : Type 0) → p → CallsRight g m setup kept disks disks p
no_calls g m setup kept disks p is shows tables fits told stands = works_none g (world_of m setup tables) disks p is

pub calls_so : {D : Type 0} (g : Disks D) (m : Meaning) (setup : Setup) (kept : Kept) (old new : D) (p q : Type 0) → (p → q) → CallsRight g m setup kept old new p → CallsRight g m setup kept old new q
calls_so g m setup kept old new p q f calls shows tables fits told stands = works_so g (world_of m setup tables) old new p q f (calls shows tables fits told stands)

-- from a state with the same copies, values and round
pub same_calls : {D : Type 0} (g : Disks D) (m : Meaning) (setup : Setup) (old middle : Kept) (before after : D) (p : Type 0) → middle.table ≡ old.table → middle.values ≡ old.values → middle.round ≡ old.round → CallsRight g m setup middle before after p → CallsRight g m setup old before after p
same_calls g m setup old middle before after p table values round calls shows tables fits told stands = calls shows tables fits told (same_stands (world_of m setup tables) old middle (g.told before) table values round stands)

-- reads alone rest on nothing but copies
pub read_calls : {D : Type 0} (g : Disks D) (m : Meaning) (setup : Setup) (kept : Kept) (old new : D) (p : Type 0) → ((w : World) → Stands w kept.table.copies (g.told old) → RightWork g w old new p) → CallsRight g m setup kept old new p
read_calls g m setup kept old new p reads shows tables fits told stands = reads (world_of m setup tables) stands.copies

-- an attempt that read all writes texts
pub attempt_calls : {D : Type 0} (g : Disks D) (m : Meaning) (seen : Seen) (a : Attempt) (old between new : D) (counts : ReadCounts) (lists : List (List (List Record))) (p q : Type 0)
    → CanFinish seen.setup a → IsNow seen.kept.round a.task → HasRead seen a (g.shows_damage old) (g.told old) (g.told between) counts lists
    → ((w : World) → Stands w seen.kept.table.copies (g.told old) → RightWork g w old between p)
    → ((w : World) → ((output : Output) → IsMade m seen.setup.shape a.task lists output → IsRightOutput w seen.kept.round output) → RightWork g w between new q)
    → CallsRight g m seen.setup seen.kept old new q
attempt_calls g m seen a old between new counts lists p q can now read reads writes shows tables fits told stands =
    let w : World = world_of m seen.setup tables in
    works_more g w old between new p q (reads w stands.copies)
    (writes w (λ output made. made_right w fits can.caches seen.kept.table a.node (g.told old) stands.copies a.task can.task seen.kept.round now read.reads read.each (read.texts shows told w stands.copies) output (subst (λ ls. IsMade m seen.setup.shape a.task ls output) read.rows made)))

-- advance, and then what acts
pub turn_calls : {D : Type 0} (g : Disks D) (m : Meaning) (setup : Setup) (old advanced : Kept) (before between after : D) (p q : Type 0)
    → ((w : World) → Stands w old.table.copies (g.told before) → RightWork g w before between p)
    → ((w : World) → Rightly w setup.shape (g.shows_damage before) (g.told before) old → IsRight w (g.told between) advanced None)
    → (g.shows_damage before → g.shows_damage between) → CallsRight g m setup advanced between after q → CallsRight g m setup old before after q
turn_calls g m setup old advanced before between after p q first right shown later shows tables fits told stands =
    let w : World = world_of m setup tables in
    let work = first w stands.copies in
    works_more g w before between after p q work
    (later (shown shows) tables fits (tells_on (RightCalls w) (g.told before) (g.told between) work.right told) (right w (record { shape_is = refl; fits = fits; shown = shows; told_is = told; stands = stands })))

-- ---- what users are told

pub texts_told : {D : Type 0} (g : Disks D) (m : Meaning) (setup : Setup) (kept : Kept) (old new : D) (p : Type 0) → CallsRight g m setup kept old new p → g.shows_damage old → OverRight m setup (g.told old) kept (λ w. OnTold (RightCalls w) (g.told old) (g.told new))
texts_told g m setup kept old new p calls shows tables fits told stands = (calls shows tables fits told stands).right

pub unmissed_told : {D : Type 0} (g : Disks D) (m : Meaning) (setup : Setup) (kept : Kept) (old new : D) (p : Type 0) → CallsRight g m setup kept old new p → (g.sound old → g.shows_damage old) → g.sound old → OverRight m setup (g.told old) kept (λ _. (g.misses new ≡ g.misses old) × p)
unmissed_told g m setup kept old new p calls shows sound tables fits told stands =
    let work = calls (shows sound) tables fits told stands in
    (work.unmissed sound told, work.also sound told)

-- want of memory is no miss
pub memory_unmissed : {A : Type 0} (result : Result A CoreFault) → IfErr result (λ fault. fault ≡ core.Memory) → IfErr result (λ fault. AtMissed fault ⊥)
memory_unmissed (Ok a) e = tt
memory_unmissed (Err fault) e = subst (λ f. AtMissed f ⊥) (sym e) tt

-- a fault of an attempt that is no miss is none as one of the cluster
pub core_unmissed : (fault : WorkFault) (made : CoreFault) → made ≡ core_fault_of fault → work.AtMissed fault ⊥ → AtMissed made ⊥
core_unmissed (Device device) made e u = subst (λ f. AtMissed f ⊥) (sym e) tt
core_unmissed Missed made e u = absurd u
core_unmissed Memory made e u = subst (λ f. AtMissed f ⊥) (sym e) tt

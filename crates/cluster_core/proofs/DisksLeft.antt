-- What calls leave of the disks, one after another.
use Rattle.std.proofs.Common.{◌≡◌, ℕ, ◌≤◌, ◌<◌, false, ◌||◌, ◌==◌, cond, [], ◌∷◌, Option, None, Some, IsSome, Result, Ok, Err, OnOk, OnErr, refl, sym, ap, ◌∙◌, arith}
use Rattle.std.proofs.lemmas.Bool.{ne_eqb}
use Rattle.hal_outside.proofs.DiskMaps.{get_after}
use Rattle.hal_outside.specs.declared.disks.Disks.{Ghosts as Disks}
use Rattle.hal_outside.specs.DiskCalls.{Wipe}
use Rattle.hal_outside.specs.DiskFiles.{DiskMap, file_at, file_key, without_node}
use Rattle.hal_outside.specs.DiskTold.{DiskTold, Done, NotDone}
use Rattle.hal_outside.specs.Told.{OnTold, Rose}
use Rattle.hal_outside.proofs.Counts.{rose_before}
use Rattle.valid_copies.specs.Faults.{AtDevice}
use Rattle.valid_copies.specs.declared.fault.WorkFault.{WorkFault}
use Rattle.valid_copies.specs.declared.fault.WorkFault.TheVariants.{Device, Memory, Missed}
use Rattle.node_names.specs.declared.name.Name.{Name}
use Rattle.valid_copies.proofs.Others.{on_told}
use Rattle.valid_copies.specs.Stands.{OthersStay}
use Rattle.valid_copies.specs.Calls.{PutStays}
use Rattle.cluster_core.specs.Disks.{Leaves}

-- of nodes from this one on no file was put or taken away
abbrev pub BeyondStay : ℕ → DiskTold → DiskTold → Type 0
BeyondStay nodes old new = (node : ℕ) (name : Name) → nodes ≤ node → file_at new.put node name ≡ file_at old.put node name

beyond_none : (nodes : ℕ) (told : Option DiskTold) → OnTold (BeyondStay nodes) told told
beyond_none nodes None = refl
beyond_none nodes (Some t) = λ node name l. refl

beyond_more : (nodes : ℕ) (before between after : Option DiskTold) → OnTold (BeyondStay nodes) before between → OnTold (BeyondStay nodes) between after → OnTold (BeyondStay nodes) before after
beyond_more nodes None None after a b = b
beyond_more nodes None (Some m) after a b = cc
beyond_more nodes (Some t) None after a b = absurd a
beyond_more nodes (Some t) (Some m) None a b = absurd b
beyond_more nodes (Some t) (Some m) (Some u) a b = λ node name l. b node name l ∙ a node name l

other_node : (n node nodes : ℕ) → node < nodes → nodes ≤ n → (n == node) ≡ false
other_node n node nodes l m = ne_eqb n node (λ e. omega arith)

-- a write on a node below
pub beyond_by_write : (node nodes : ℕ) (before after : Option DiskTold) → node < nodes → OnTold (OthersStay (node ∷ [])) before after → OnTold (BeyondStay nodes) before after
beyond_by_write node nodes before after l o = on_told (OthersStay (node ∷ [])) (BeyondStay nodes) before after (λ t u r n name m. r n name (ap (λ b. b || false) (other_node n node nodes l m))) o

other_wiped : (files : DiskMap) (m n : ℕ) (name : Name) → (n == m) ≡ false → file_at (without_node files n) m name ≡ file_at files m name
other_wiped files m n name e = get_after (Wipe n) files (file_key m name) ∙ ap (λ b. cond b None (file_at files m name)) e

-- a node below that was wiped, or was not
pub beyond_by_wipe : {A B : Type 0} (result : Result A B) (node nodes : ℕ) (before after : Option DiskTold) → node < nodes → OnOk result (OnTold (Done (Wipe node)) before after) → OnErr result (OnTold (NotDone (Wipe node)) before after) → OnTold (BeyondStay nodes) before after
beyond_by_wipe (Ok a) node nodes before after l done failed = on_told (Done (Wipe node)) (BeyondStay nodes) before after
    (λ t u r n name m. ap (λ files. file_at files n name) r.put ∙ other_wiped t.put n node name (ne_eqb node n (λ e. omega arith))) done
beyond_by_wipe (Err b) node nodes before after l done failed = on_told (NotDone (Wipe node)) (BeyondStay nodes) before after
    (λ t u r n name m. sym (other_wiped u.put n node name (ne_eqb node n (λ e. omega arith))) ∙ ap (λ files. file_at files n name) r.others ∙ other_wiped t.put n node name (ne_eqb node n (λ e. omega arith))) failed

-- ---- all that is left

pub leaves_none : {D : Type 0} (g : Disks D) (nodes : ℕ) (disks : D) → Leaves g nodes disks disks
leaves_none g nodes disks = record {
  faults_stay = omega arith;
  misses_stay = omega arith;
  damage_shown = λ d. d;
  soundness_kept = λ s. s;
  others = beyond_none nodes (g.told disks);
}

pub leaves_more : {D : Type 0} (g : Disks D) (nodes : ℕ) (old middle new : D) → Leaves g nodes old middle → Leaves g nodes middle new → Leaves g nodes old new
leaves_more g nodes old middle new a b = record {
  faults_stay = omega (arith, a.faults_stay, b.faults_stay);
  misses_stay = omega (arith, a.misses_stay, b.misses_stay);
  damage_shown = λ d. b.damage_shown (a.damage_shown d);
  soundness_kept = λ s. b.soundness_kept (a.soundness_kept s);
  others = beyond_more nodes (g.told old) (g.told middle) (g.told new) a.others b.others;
}

-- disks that tell go on telling, so no read is missed in both of two calls
tells_on : (nodes : ℕ) (before after : Option DiskTold) → OnTold (BeyondStay nodes) before after → IsSome before → IsSome after
tells_on nodes None after o s = cc
tells_on nodes (Some t) None o s = absurd o
tells_on nodes (Some t) (Some u) o s = s

pub not_missed_more : {D : Type 0} (g : Disks D) (nodes : ℕ) (old middle new : D) → Leaves g nodes old middle → (IsSome (g.told old) → g.misses middle ≡ g.misses old) → (IsSome (g.told middle) → g.misses new ≡ g.misses middle) → IsSome (g.told old) → g.misses new ≡ g.misses old
not_missed_more g nodes old middle new l a b s = b (tells_on nodes (g.told old) (g.told middle) l.others s) ∙ a s

-- what a write on a node below leaves
pub leaves_by_write : {D : Type 0} (g : Disks D) (node nodes : ℕ) (old new : D) → node < nodes → g.faults old ≤ g.faults new → g.misses old ≤ g.misses new → (g.shows_damage old → g.shows_damage new) → (g.sound old → g.sound new) → OnTold (OthersStay (node ∷ [])) (g.told old) (g.told new) → Leaves g nodes old new
leaves_by_write g node nodes old new l faults misses damage sound others = record {
  faults_stay = faults;
  misses_stay = misses;
  damage_shown = damage;
  soundness_kept = sound;
  others = beyond_by_write node nodes (g.told old) (g.told new) l others;
}

-- what wiping a node below leaves, done or not
pub leaves_by_wipe : {A B D : Type 0} (g : Disks D) (result : Result A B) (node nodes : ℕ) (old new : D) → node < nodes → g.faults old ≤ g.faults new → g.misses old ≤ g.misses new → (g.shows_damage old → g.shows_damage new) → (g.sound old → g.sound new) → OnOk result (OnTold (Done (Wipe node)) (g.told old) (g.told new)) → OnErr result (OnTold (NotDone (Wipe node)) (g.told old) (g.told new)) → Leaves g nodes old new
leaves_by_wipe g result node nodes old new l faults misses damage sound done failed = record {
  faults_stay = faults;
  misses_stay = misses;
  damage_shown = damage;
  soundness_kept = sound;
  others = beyond_by_wipe result node nodes (g.told old) (g.told new) l done failed;
}

-- a device's fault in a later call
pub device_before : (fault : WorkFault) (first later now : ℕ) → first ≤ later → AtDevice fault (Rose later now) → AtDevice fault (Rose first now)
device_before (Device device) first later now l r = rose_before first later now l r
device_before Missed first later now l r = tt
device_before Memory first later now l r = tt

-- where nothing that was put changed, nothing beyond some nodes did
pub beyond_puts : (nodes : ℕ) (before after : Option DiskTold) → PutStays before after → OnTold (BeyondStay nodes) before after
beyond_puts nodes None after o = o
beyond_puts nodes (Some t) None o = o
beyond_puts nodes (Some t) (Some u) o = λ node name l. ap (λ files. file_at files node name) o

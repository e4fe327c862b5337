-- What work leaves of the disks, one part after another.
use Rattle.std.proofs.Common.{◌≡◌, ◌<◌, ◌≤◌, ℕ, List, Option, None, Some, arith, ◌∙◌}
use Rattle.std.specs.List.{AllByRecursion}
use Rattle.node_names.specs.declared.name.Name.{Name}
use Rattle.hal_outside.specs.declared.disks.Disks.{Ghosts as Disks}
use Rattle.hal_outside.specs.DiskFiles.{file_at}
use Rattle.hal_outside.specs.DiskTold.{DiskTold}
use Rattle.hal_outside.specs.Told.{OnTold}
use Rattle.valid_copies.proofs.Others.{on_told}
use Rattle.valid_copies.specs.Stands.{OthersStay}
use Rattle.cluster_core.specs.Disks.{Leaves}
use Rattle.cluster_core.proofs.Writing.{none_beyond}

-- of nodes from this one on no file was put or taken away
abbrev pub Beyond : ℕ → DiskTold → DiskTold → Type 0
Beyond nodes old new = (node : ℕ) (name : Name) → nodes ≤ node → file_at new.put node name ≡ file_at old.put node name

pub beyond : (nodes : ℕ) (some : List ℕ) (before after : Option DiskTold) → AllByRecursion (λ m. m < nodes) some → OnTold (OthersStay some) before after → OnTold (Beyond nodes) before after
beyond nodes some before after h o = on_told (OthersStay some) (Beyond nodes) before after (λ t u r n name l. r n name (none_beyond nodes n some h l)) o

pub beyond_more : (nodes : ℕ) (before between after : Option DiskTold) → OnTold (Beyond nodes) before between → OnTold (Beyond nodes) between after → OnTold (Beyond nodes) before after
beyond_more nodes None None after a b = b
beyond_more nodes None (Some m) after a b = cc
beyond_more nodes (Some t) None after a b = absurd a
beyond_more nodes (Some t) (Some m) None a b = absurd b
beyond_more nodes (Some t) (Some m) (Some u) a b = λ n name l. b n name l ∙ a n name l

pub leaves_more : {D : Type 0} (g : Disks D) (nodes : ℕ) (old between new : D) → Leaves g nodes old between → Leaves g nodes between new → Leaves g nodes old new
leaves_more g nodes old between new a b = record {
  faults_stay = omega (arith, a.faults_stay, b.faults_stay);
  misses_stay = omega (arith, a.misses_stay, b.misses_stay);
  damage_shown = λ s. b.damage_shown (a.damage_shown s);
  soundness_kept = λ s. b.soundness_kept (a.soundness_kept s);
  others = beyond_more nodes (g.told old) (g.told between) (g.told new) a.others b.others;
}

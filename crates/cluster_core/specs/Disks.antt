-- What the work of a cluster leaves of the disks.
use Rattle.std.specs.Prelude.{◌≡◌, ℕ, ◌≤◌}
use Rattle.node_names.specs.declared.name.Name.{Name}
use Rattle.hal_outside.specs.declared.disks.Disks.{Ghosts as Disks}
use Rattle.hal_outside.specs.DiskFiles.{file_at}
use Rattle.hal_outside.specs.Told.{OnTold}

-- no count fell, damage still shows, disks that are sound stay so, and of nodes from this one on no file was put or taken away
pub record Leaves {D : Type 0} (g : Disks D) (nodes : ℕ) (old new : D) : Type 0 where
  pub faults_stay : g.faults old ≤ g.faults new
  pub misses_stay : g.misses old ≤ g.misses new
  pub damage_shown : g.shows_damage old → g.shows_damage new
  pub soundness_kept : g.sound old → g.sound new
  pub others : OnTold (λ old new. (node : ℕ) (name : Name) → nodes ≤ node → file_at new.put node name ≡ file_at old.put node name) (g.told old) (g.told new)

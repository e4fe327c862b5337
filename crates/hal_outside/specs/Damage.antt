-- How what lies on disks may differ from what was put there.
use Rattle.std.specs.Prelude.{◌≡◌, ◌≢◌, ◌⊎◌, ℕ, List, Option, None, Some}
use Rattle.node_names.specs.declared.name.Name.{Name}
use Rattle.hal_outside.specs.DiskFiles.{file_at}
use Rattle.hal_outside.specs.DiskTold.{DiskTold}
use Rattle.sha2.specs.Sha256.{sha256}

-- in place of these bytes lies nothing, the same, or bytes with another digest
abbrev pub ShowsAt : List ℕ → Option (List ℕ) → Type 0
ShowsAt put None = Unit {0}
ShowsAt put (Some now) = (now ≡ put) ⊎ (sha256 now ≢ sha256 put)

-- disks show their damage: of each file that was put, the same bytes lie there, bytes with another digest, or nothing
pub record ShowsDamage (told : DiskTold) : Type 0 where
  pub each : (node : ℕ) (name : Name) (put : List ℕ) → file_at told.put node name ≡ Some put → ShowsAt put (file_at told.now node name)

-- disks are sound: what lies there is what was put
abbrev pub IsSound : DiskTold → Type 0
IsSound told = told.now ≡ told.put

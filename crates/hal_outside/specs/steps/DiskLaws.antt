-- Disks in memory are sound, and show their damage.
use Rattle.std.specs.Prelude.{◌≡◌, ℕ, List, Option, Some, refl}
use Rattle.std.proofs.Common.{inl, sym, subst}
use Rattle.hal_outside.specs.Damage.{IsSound, ShowsAt, ShowsDamage}
use Rattle.hal_outside.specs.DiskSteps.{Step, mem_told}

same_shows : (put : List ℕ) (now : Option (List ℕ)) → now ≡ Some put → ShowsAt put now
same_shows put now e = subst (λ o. ShowsAt put o) (sym e) (inl refl)

-- what was put lies there, so nothing is damaged
pub memory_shows : (steps : List Step) → ShowsDamage (mem_told steps)
memory_shows steps = record { each = λ node name put e. same_shows put _ e }

pub memory_is_sound : (steps : List Step) → IsSound (mem_told steps)
memory_is_sound steps = refl

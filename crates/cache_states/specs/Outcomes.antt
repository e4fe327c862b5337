-- What becomes of a cache in a round.
use Rattle.std.specs.Prelude.{◌≡◌, ℕ, true, false, Some}
use Rattle.node_files.specs.declared.files.FileRef.{FileRef}
use Rattle.node_names.specs.declared.name.Name.{Name}
use Rattle.cache_states.specs.declared.lease.Unfit.{Unfit}
use Rattle.cache_states.specs.declared.rounds.Returned.{Returned}
use Rattle.cache_states.specs.declared.rounds.Returned.TheVariants.{Sealed, Aged}
use Rattle.cache_states.specs.Lives.{is_fit, is_stale, made_in}

-- why a cache is not lent: the round in which it was made, and the present one, for which it is not fit
pub record IsUnfit (name : Name) (now : ℕ) (unfit : Unfit) : Type 0 where
  pub made : made_in name ≡ Some unfit.made
  pub present : unfit.now ≡ now
  pub not_fit : is_fit name now ≡ false

-- what a cache is when its node returned in this round: stale, or as it was
abbrev pub ComesBack : FileRef → ℕ → Returned → Type 0
ComesBack file now (Sealed sealed) = (sealed ≡ file) × (is_stale file.name now ≡ false)
ComesBack file now (Aged aged) = (aged ≡ file) × (is_stale file.name now ≡ true)

-- How lives end.
use Rattle.std.specs.Prelude.{◌≡◌, ℕ, ◌≤◌, true, false, Option, None, Some}
use Rattle.hal_base.specs.declared.shape.Shape.{Shape}
use Rattle.node_names.specs.declared.name.Name.{Name}
use Rattle.run_model.specs.Stays.{stays}
use Rattle.cache_states.specs.Lives.{IsCache, is_fit, is_stale, made_in}

-- a cache that is stale in a round is so in each later one, and fit in none
abbrev pub StaleCachesStayStale : Type 0
StaleCachesStayStale = (name : Name) (now later : ℕ) → now ≤ later → is_stale name now ≡ true → (is_stale name later ≡ true) × (is_fit name later ≡ false)

-- the cache was made by this round
abbrev pub IsMadeBy : Option ℕ → ℕ → Type 0
IsMadeBy None now = Unit {0}
IsMadeBy (Some made) now = made ≤ now

-- of the caches that were made by a round, those go that are stale: the others stay
abbrev pub CachesGoWhereTheyAreStale : Type 0
CachesGoWhereTheyAreStale = (shape : Shape) (keep now : ℕ) (name : Name) → 1 ≤ now → IsCache name → IsMadeBy (made_in name) now → (is_stale name now ≡ true → stays shape keep now name ≡ false) × (is_stale name now ≡ false → stays shape keep now name ≡ true)

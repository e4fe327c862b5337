-- How lives end.
use Rattle.std.proofs.Common.{◌≡◌, ℕ, ◌+◌, ◌-◌, ◌==◌, ◌≤◌, nat_lt, true, false, ◌||◌, Option, None, Some, arith, refl}
use Rattle.node_names.specs.declared.name.Name.TheVariants.{Blk, Spill, Out, Ric, Mic, Roc}
use Rattle.cache_states.specs.Laws.{CachesGoWhereTheyAreStale, StaleCachesStayStale}
use Rattle.cache_states.specs.Lives.{ages, fits, made_in}

apart : {A : Type 0} → true ≡ false → A
apart e = absurd (no e)
  where
    no : true ≡ false → ⊥
    no e = cc

ages_on : (made : Option ℕ) (now later : ℕ) → now ≤ later → ages made now ≡ true → (ages made later ≡ true) × (fits made later ≡ false)
ages_on None now later l e = absurd (no e)
  where
    no : false ≡ true → ⊥
    no e = cc
ages_on (Some made) now later l e = (grind (arith), grind (arith))

pub stale_stays : StaleCachesStayStale
stale_stays name now later l e = ages_on (made_in name) now later l e

-- whether an output cache that was made by a round is stale there, and whether it stays
goes : (made now : ℕ) → 1 ≤ now → made ≤ now → nat_lt (made + 1) now ≡ true → ((made == now) || (made == now - 1)) ≡ false
goes made now f l e = grind (arith)

stays_on : (made now : ℕ) → 1 ≤ now → made ≤ now → nat_lt (made + 1) now ≡ false → ((made == now) || (made == now - 1)) ≡ true
stays_on made now f l e = grind (arith)

pub caches_go : CachesGoWhereTheyAreStale
caches_go shape keep now (Blk table block) f cache made = absurd cache
caches_go shape keep now (Spill round step source split) f cache made = absurd cache
caches_go shape keep now (Out round step part) f cache made = absurd cache
caches_go shape keep now (Ric step source part) f cache made = (λ e. absurd (no e), λ e. refl)
  where
    no : false ≡ true → ⊥
    no e = cc
caches_go shape keep now (Mic table block) f cache made = (λ e. absurd (no e), λ e. refl)
  where
    no : false ≡ true → ⊥
    no e = cc
caches_go shape keep now (Roc round part) f cache made = (goes round now f made, stays_on round now f made)

-- In which rounds a cache is fit, and in which it is stale.
use Rattle.std.specs.Prelude.{ℕ, ◌+◌, ◌==◌, nat_lt, Bool, true, false, Option, None, Some}
use Rattle.node_files.specs.declared.files.FileRef.{FileRef}
use Rattle.node_names.specs.declared.name.Name.{Name}
use Rattle.node_names.specs.declared.name.Name.TheVariants.{Blk, Spill, Out, Ric, Mic, Roc}

-- ---- names and rounds

-- the name is that of a cache
abbrev pub IsCache : Name → Type 0
IsCache (Blk table block) = ⊥
IsCache (Spill round step source split) = ⊥
IsCache (Out round step part) = ⊥
IsCache (Ric step source part) = Unit {0}
IsCache (Mic table block) = Unit {0}
IsCache (Roc round part) = Unit {0}

-- the round in which an output cache is made; the caches of inputs serve in all rounds
abbrev pub made_in : Name → Option ℕ
made_in (Blk table block) = None
made_in (Spill round step source split) = None
made_in (Out round step part) = None
made_in (Ric step source part) = None
made_in (Mic table block) = None
made_in (Roc round part) = Some round

-- a cache that is made in a round is fit in the next round alone, each other in every round
abbrev pub fits : Option ℕ → ℕ → Bool
fits None now = true
fits (Some made) now = made + 1 == now

-- the cache is fit in this round
abbrev pub is_fit : Name → ℕ → Bool
is_fit name now = fits (made_in name) now

-- a cache that is made in a round is stale in all rounds behind the next
abbrev pub ages : Option ℕ → ℕ → Bool
ages None now = false
ages (Some made) now = nat_lt (made + 1) now

-- the cache is stale in this round
abbrev pub is_stale : Name → ℕ → Bool
is_stale name now = ages (made_in name) now

-- ---- states

-- where a cache is to be made
pub record Place : Type 0 where
  pub name : Name
  pub node : ℕ

-- a cache that is lent for a round
pub record Lent : Type 0 where
  pub file : FileRef
  pub round : ℕ

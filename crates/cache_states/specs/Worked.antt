-- What the definitions give for caches, as it was worked out by hand.
use Rattle.std.specs.Prelude.{◌≡◌, true, false}
use Rattle.node_names.specs.declared.name.Name.TheVariants.{Mic, Ric, Roc}
use Rattle.cache_states.specs.Lives.{is_fit, is_stale}
use Rattle.cache_states.specs.Outcomes.{IsUnfit}

-- an output cache of round 1, and caches of inputs
pub record WorkedLives : Type 0 where
  pub lent_in_2 : is_fit (Roc 1 0) 2 ≡ true
  pub not_lent_in_1 : IsUnfit (Roc 1 0) 1 (record { made = 1; now = 1 })
  pub not_lent_in_3 : IsUnfit (Roc 1 0) 3 (record { made = 1; now = 3 })
  pub kept_in_1 : is_stale (Roc 1 0) 1 ≡ false
  pub kept_in_2 : is_stale (Roc 1 0) 2 ≡ false
  pub aged_in_3 : is_stale (Roc 1 0) 3 ≡ true
  pub aged_in_10000 : is_stale (Roc 1 0) 10000 ≡ true
  pub reducer_input_lent : is_fit (Ric 1 2 0) 10000 ≡ true
  pub reducer_input_kept : is_stale (Ric 1 2 0) 10000 ≡ false
  pub mapper_input_lent : is_fit (Mic 1 0) 10000 ≡ true
  pub mapper_input_kept : is_stale (Mic 1 0) 10000 ≡ false

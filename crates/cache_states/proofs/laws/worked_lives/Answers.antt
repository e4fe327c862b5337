use Rattle.std.proofs.Common.{refl}
use Rattle.cache_states.proofs.laws.worked_lives.Goals as goal

pub returns : goal.returns
returns c = record {
  lent_in_2 = refl;
  not_lent_in_1 = record { made = refl; present = refl; not_fit = refl };
  not_lent_in_3 = record { made = refl; present = refl; not_fit = refl };
  kept_in_1 = refl;
  kept_in_2 = refl;
  aged_in_3 = refl;
  aged_in_10000 = refl;
  reducer_input_lent = refl;
  reducer_input_kept = refl;
  mapper_input_lent = refl;
  mapper_input_kept = refl;
}

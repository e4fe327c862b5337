-- What the definitions give for worked programs, as they were computed by hand.
use Rattle.std.specs.Prelude.{◌≡◌, ℕ, List, [], ◌∷◌}
use Rattle.hal_base.specs.declared.record.Record.{Record}
use Rattle.hal_base.specs.declared.shape.Shape.{Shape}
use Rattle.hal_base.specs.Meaning.{Meaning}
use Rattle.plain_job.specs.Chain.{last_out}
use Rattle.plain_job.specs.declared.ending.End.{End}
use Rattle.plain_job.specs.declared.ending.End.TheVariants.{Fixpoint, Close, Limit}
use Rattle.plain_job.specs.Ends.{Ends, round_distance}
use Rattle.row_tests.specs.Programs.{pair, hops, hops_shape, links, counts, counts_shape, leasts, one_job_shape, late_shape, ranks, ranks_shape}

-- the chain of a program ends in this round, so and with these parts
pub record Gives (m : Meaning) (shape : Shape) (tables : List (List Record)) (rounds : ℕ) (end : End) (parts : List (List Record)) : Type 0 where
  pub ends : Ends m shape tables rounds end
  pub out : last_out m shape tables rounds ≡ parts

-- what the worked programs leave, round by round, and how far apart their rounds are
pub record WorkedRows : Type 0 where
  pub hops_first : last_out hops (hops_shape 20) ((pair 1 0 ∷ []) ∷ links ∷ []) 1 ≡ (pair 2 1 ∷ []) ∷ (pair 1 0 ∷ []) ∷ []
  pub hops_second : last_out hops (hops_shape 20) ((pair 1 0 ∷ []) ∷ links ∷ []) 2 ≡ (pair 2 1 ∷ []) ∷ (pair 1 0 ∷ pair 3 2 ∷ []) ∷ []
  pub distances_by_hops : Gives hops (hops_shape 20) ((pair 1 0 ∷ []) ∷ links ∷ []) 3 Fixpoint ((pair 2 1 ∷ []) ∷ (pair 1 0 ∷ pair 3 2 ∷ []) ∷ [])
  pub empty_first : last_out hops (hops_shape 20) ([] ∷ links ∷ []) 1 ≡ [] ∷ [] ∷ []
  pub empty_start : Gives hops (hops_shape 20) ([] ∷ links ∷ []) 2 Fixpoint ([] ∷ [] ∷ [])
  pub one_round : Gives hops (hops_shape 1) ((pair 1 0 ∷ []) ∷ links ∷ []) 1 Limit ((pair 2 1 ∷ []) ∷ (pair 1 0 ∷ []) ∷ [])
  pub counted_first : last_out counts counts_shape ((pair 9 0 ∷ []) ∷ (pair 1 2 ∷ pair 1 3 ∷ pair 4 1 ∷ []) ∷ []) 1 ≡ (pair 14 1 ∷ []) ∷ (pair 11 2 ∷ pair 19 0 ∷ []) ∷ []
  pub counted_links : Gives counts counts_shape ((pair 9 0 ∷ []) ∷ (pair 1 2 ∷ pair 1 3 ∷ pair 4 1 ∷ []) ∷ []) 2 Limit ((pair 14 1 ∷ pair 24 0 ∷ []) ∷ (pair 11 2 ∷ pair 21 0 ∷ pair 29 0 ∷ []) ∷ [])
  pub counted_distance : round_distance counts counts_shape ((pair 9 0 ∷ []) ∷ (pair 1 2 ∷ pair 1 3 ∷ pair 4 1 ∷ []) ∷ []) 2 ≡ 4
  pub one_job : Gives leasts one_job_shape ((pair 2 7 ∷ pair 1 5 ∷ pair 2 3 ∷ []) ∷ []) 1 Limit ((pair 1 5 ∷ pair 2 3 ∷ []) ∷ [])
  pub late_first : last_out leasts late_shape ((pair 1 9 ∷ []) ∷ (pair 1 4 ∷ []) ∷ []) 1 ≡ (pair 1 9 ∷ []) ∷ []
  pub late_second : last_out leasts late_shape ((pair 1 9 ∷ []) ∷ (pair 1 4 ∷ []) ∷ []) 2 ≡ (pair 1 4 ∷ []) ∷ []
  pub late_table : Gives leasts late_shape ((pair 1 9 ∷ []) ∷ (pair 1 4 ∷ []) ∷ []) 3 Fixpoint ((pair 1 4 ∷ []) ∷ [])
  pub ranks_first : last_out ranks ranks_shape ((pair 1 1000000 ∷ pair 2 0 ∷ []) ∷ (pair 1 2 ∷ pair 2 1 ∷ []) ∷ []) 1 ≡ (pair 1 150000 ∷ pair 2 1000000 ∷ []) ∷ []
  pub ranks_second : last_out ranks ranks_shape ((pair 1 1000000 ∷ pair 2 0 ∷ []) ∷ (pair 1 2 ∷ pair 2 1 ∷ []) ∷ []) 2 ≡ (pair 1 1000000 ∷ pair 2 277500 ∷ []) ∷ []
  pub ranks_distance : round_distance ranks ranks_shape ((pair 1 1000000 ∷ pair 2 0 ∷ []) ∷ (pair 1 2 ∷ pair 2 1 ∷ []) ∷ []) 2 ≡ 1572500
  pub ranks_last_distance : round_distance ranks ranks_shape ((pair 1 1000000 ∷ pair 2 0 ∷ []) ∷ (pair 1 2 ∷ pair 2 1 ∷ []) ∷ []) 3 ≡ 1336625
  pub ranks_end : Gives ranks ranks_shape ((pair 1 1000000 ∷ pair 2 0 ∷ []) ∷ (pair 1 2 ∷ pair 2 1 ∷ []) ∷ []) 3 Close ((pair 1 385875 ∷ pair 2 1000000 ∷ []) ∷ [])

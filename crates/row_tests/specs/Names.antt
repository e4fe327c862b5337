-- What the files of a cluster hold for worked programs, as it was computed by hand.
use Rattle.std.specs.Prelude.{◌≡◌, List, [], ◌∷◌, Option, None}
use Rattle.node_names.specs.declared.name.Name.TheVariants.{Blk, Spill, Out, Ric, Roc}
use Rattle.valid_copies.specs.Texts.{text_of}
use Rattle.name_values.specs.Values.{World, Parts, Rows, value_of}
use Rattle.row_tests.specs.Programs.{pair, hops, hops_shape, links}

-- distances by hops from node 1, over two links, with one record in a block
abbrev pub hops_world : World
hops_world = record { means = hops; shape = hops_shape 20; tables = (pair 1 0 ∷ []) ∷ links ∷ []; block = 1 }

-- the values of its names; keys that are odd are of part 1
pub record WorkedNames : Type 0 where
  pub second_link : value_of hops_world (Blk 1 1) ≡ Rows (pair 2 3 ∷ [])
  pub no_third_link : value_of hops_world (Blk 1 2) ≡ Rows []
  pub first_state : value_of hops_world (Spill 1 1 1 0) ≡ Parts ([] ∷ (pair 1 0 ∷ []) ∷ [])
  pub first_link : value_of hops_world (Spill 1 1 2 0) ≡ Parts ([] ∷ (pair 1 2 ∷ []) ∷ [])
  pub later_state : value_of hops_world (Spill 3 1 1 0) ≡ Parts ((pair 2 1 ∷ []) ∷ [] ∷ [])
  pub step_before : value_of hops_world (Spill 1 2 1 1) ≡ Parts ((pair 2 1 ∷ []) ∷ [] ∷ [])
  pub no_hop : value_of hops_world (Out 1 1 0) ≡ Rows []
  pub one_hop : value_of hops_world (Out 1 1 1) ≡ Rows (pair 2 1 ∷ [])
  pub last_part : value_of hops_world (Out 3 2 1) ≡ Rows (pair 1 0 ∷ pair 3 2 ∷ [])
  pub cached_links : value_of hops_world (Ric 1 2 1) ≡ Rows (pair 1 2 ∷ [])
  pub cached_start : value_of hops_world (Ric 2 2 1) ≡ Rows (pair 1 0 ∷ [])
  pub cached_output : value_of hops_world (Roc 3 1) ≡ Rows (pair 1 0 ∷ pair 3 2 ∷ [])
  pub no_such_table : text_of hops_world (Blk 2 0) ≡ None

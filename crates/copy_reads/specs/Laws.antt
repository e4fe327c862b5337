-- What is tried for a need, once a copy is struck.
use Rattle.std.specs.Prelude.{◌≡◌, ℕ, ◌∷◌, Some, slice_get}
use Rattle.node_names.specs.declared.name.Name.{Name}
use Rattle.replica_table.specs.Copies.{up_holders}
use Rattle.replica_table.specs.Sets.{Ascend}
use Rattle.run_model.specs.Reading.{Try, strike, tries_for}
use Rattle.run_model.specs.State.{PlainCluster}

-- of the files that are tried for a need, those behind the first are tried once the first is struck
abbrev pub StruckTriesGoOn : Type 0
StruckTriesGoOn = (c : PlainCluster) (own : ℕ) (name : Name) (nodes : ℕ) (it : Try) → Ascend 0 nodes (up_holders name c.up c.copies) → slice_get (tries_for c own name) 0 ≡ Some it → tries_for c own name ≡ it ∷ tries_for (strike it c) own name

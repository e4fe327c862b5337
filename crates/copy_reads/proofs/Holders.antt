-- The nodes that hold a file ascend, where the copies are in order.
use Rattle.std.proofs.Common.{arith, ◌≡◌, ◌<◌, ℕ, ◌+◌, true, false, ◌==◌, MatchBool, cond, List, [], ◌∷◌, Option, None, Some, IfSome, map, refl, sym, ap, ◌∙◌, subst}
use Rattle.std.proofs.lemmas.Bool.{eqb-true}
use Rattle.valid_copies.proofs.Copies.{and_true}
use Rattle.node_names.specs.declared.digest.Digest.{Digest}
use Rattle.node_names.specs.declared.name.Name.{Name}
use Rattle.node_files.specs.declared.files.FileRef.{FileRef}
use Rattle.replica_table.proofs.Members.{filter_ascend}
use Rattle.replica_table.proofs.Names.{same_by}
use Rattle.replica_table.specs.Copies.{Copy, Replicas, held, is_at, is_name, nodes_with, of_name, up_holders}
use Rattle.replica_table.specs.Order.{AreInOrder, NoneOf, StandsBefore}
use Rattle.replica_table.specs.Sets.{Ascend, among}

no_nodes : (name : Name) (copies : List Copy) → NoneOf name copies → nodes_with name copies ≡ []
no_nodes name [] none = refl
no_nodes name (c ∷ copies) none = ap (λ v. map (λ (it : Copy). it.node) (cond v (c ∷ of_name name copies) (of_name name copies))) none.0 ∙ no_nodes name copies none.1

-- the nodes behind a copy of this name
behind : (nodes : ℕ) (name : Name) (c : Copy) (copies : List Copy) → name ≡ c.name → StandsBefore c copies → Ascend 0 nodes (nodes_with name copies) → Ascend (c.node + 1) nodes (nodes_with name copies)
behind nodes name c [] same before rises = tt
behind nodes name c (next ∷ copies) same before rises =
    elim (is_name c.name next.name) as (λ v. is_name c.name next.name ≡ v → MatchBool v (c.node < next.node) (NoneOf c.name copies) → Ascend (c.node + 1) nodes (nodes_with name (next ∷ copies))) [
      | true ↦ λ v less.
          let is : is_name name next.name ≡ true = ap (λ b. is_name b next.name) same ∙ v in
          let all : nodes_with name (next ∷ copies) ≡ next.node ∷ nodes_with name copies = ap (λ w. map (λ (it : Copy). it.node) (cond w (next ∷ of_name name copies) (of_name name copies))) is in
          let first : Ascend 0 nodes (next.node ∷ nodes_with name copies) = subst (Ascend 0 nodes) all rises in
          subst (Ascend (c.node + 1) nodes) (sym all) (omega (arith, less), first.1, first.2)
      | false ↦ λ v none. subst (Ascend (c.node + 1) nodes) (sym (no_nodes name (next ∷ copies) (subst (λ b. NoneOf b (next ∷ copies)) (sym same) (v, none)))) tt
    ] refl before

nodes_ascend : (nodes : ℕ) (name : Name) (copies : List Copy) → AreInOrder nodes copies → Ascend 0 nodes (nodes_with name copies)
nodes_ascend nodes name [] order = tt
nodes_ascend nodes name (c ∷ copies) order = elim (is_name name c.name) as (λ v. is_name name c.name ≡ v → Ascend 0 nodes (map (λ (it : Copy). it.node) (cond v (c ∷ of_name name copies) (of_name name copies)))) [
  | true ↦ λ v. (omega arith, order.0, behind nodes name c copies (same_by name c.name v) order.1 (nodes_ascend nodes name copies order.2))
  | false ↦ λ v. nodes_ascend nodes name copies order.2
] refl

pub holders_ascend : (nodes : ℕ) (name : Name) (up : List ℕ) (copies : List Copy) → AreInOrder nodes copies → Ascend 0 nodes (up_holders name up copies)
holders_ascend nodes name up copies order = filter_ascend (λ node. among node up) 0 nodes (nodes_with name copies) (nodes_ascend nodes name copies order)

-- a copy that is held lies on a node that there is
pub held_under : (nodes : ℕ) (name : Name) (node : ℕ) (digest : Digest) (copies : List Copy) → AreInOrder nodes copies → held name node copies ≡ Some digest → node < nodes
held_under nodes name node digest [] order e = cc
held_under nodes name node digest (c ∷ copies) order e = (elim (is_at name node c) as (λ v. is_at name node c ≡ v → cond v (Some c.kept) (held name node copies) ≡ Some digest → node < nodes) [
  | true ↦ λ v _. subst (λ n. n < nodes) (sym (eqb-true node c.node (and_true (is_name name c.name) (node == c.node) v).1)) order.0
  | false ↦ λ v h. held_under nodes name node digest copies order.2 h
]) refl e

pub each_under : (table : Replicas) (file : Option FileRef) → AreInOrder table.nodes table.copies → IfSome file (λ (it : FileRef). held it.name it.node table.copies ≡ Some it.digest) → IfSome file (λ (it : FileRef). it.node < table.nodes)
each_under table None order kept = tt
each_under table (Some it) order kept = held_under table.nodes it.name it.node it.digest table.copies order kept

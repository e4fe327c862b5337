-- Copies without what is kept with them: the same names on the same nodes.
use Rattle.std.proofs.Common.{◌≡◌, ℕ, Bool, true, false, ◌&&◌, ◌||◌, cond, List, [], ◌∷◌, ◌==◌, nat_lt, not, refl, ap, map}
use Rattle.std.specs.List.{filter}
use Rattle.node_names.specs.declared.name.Name.{Name}
use Rattle.replica_table.specs.Copies.{CopyWith, among_its_own, but_file, but_node, but_those, is_at, is_name, nodes_with, of_name, up_holders, with_copy}
use Rattle.replica_table.specs.Sets.{among}
use Rattle.run_model.specs.State.{Copy, bare, copy, holds}

-- a node holds a name where it is among its nodes
pub holds_among : (copies : List Copy) (node : ℕ) (name : Name) → holds copies node name ≡ among node (nodes_with name copies)
holds_among [] node name = refl
holds_among (c ∷ copies) node name = elim (is_name name c.name) as (λ v. ((v && node == c.node) || holds copies node name) ≡ among node (map (λ (it : Copy). it.node) (cond v (c ∷ of_name name copies) (of_name name copies)))) [
  | true ↦ ap (λ b. (node == c.node) || b) (holds_among copies node name)
  | false ↦ holds_among copies node name
]

module _ {A : Type 0} where
  pub bare_nodes : (name : Name) (copies : List (CopyWith A)) → nodes_with name (bare copies) ≡ nodes_with name copies
  bare_nodes name [] = refl
  bare_nodes name (c ∷ copies) = elim (is_name name c.name) as (λ v. map (λ (it : Copy). it.node) (cond v (copy c.name c.node ∷ of_name name (bare copies)) (of_name name (bare copies))) ≡ map (λ (it : CopyWith A). it.node) (cond v (c ∷ of_name name copies) (of_name name copies))) [
    | true ↦ ap (λ ns. c.node ∷ ns) (bare_nodes name copies)
    | false ↦ bare_nodes name copies
  ]

  pub bare_up : (name : Name) (up : List ℕ) (copies : List (CopyWith A)) → up_holders name up (bare copies) ≡ up_holders name up copies
  bare_up name up copies = ap (filter (λ node. among node up)) (bare_nodes name copies)

  bare_filter : (test : Name → ℕ → Bool) (copies : List (CopyWith A)) → bare (filter (λ (it : CopyWith A). test it.name it.node) copies) ≡ filter (λ (it : Copy). test it.name it.node) (bare copies)
  bare_filter test [] = refl
  bare_filter test (c ∷ copies) = elim (test c.name c.node) as (λ v. bare (cond v (c ∷ filter (λ (it : CopyWith A). test it.name it.node) copies) (filter (λ (it : CopyWith A). test it.name it.node) copies)) ≡ cond v (copy c.name c.node ∷ filter (λ (it : Copy). test it.name it.node) (bare copies)) (filter (λ (it : Copy). test it.name it.node) (bare copies))) [
    | true ↦ ap (λ xs. copy c.name c.node ∷ xs) (bare_filter test copies)
    | false ↦ bare_filter test copies
  ]

  pub bare_but_file : (name : Name) (node : ℕ) (copies : List (CopyWith A)) → bare (but_file name node copies) ≡ but_file name node (bare copies)
  bare_but_file name node copies = bare_filter (λ a n. not (is_name name a && node == n)) copies

  pub bare_but_node : (node : ℕ) (copies : List (CopyWith A)) → bare (but_node node copies) ≡ but_node node (bare copies)
  bare_but_node node copies = bare_filter (λ a n. not (node == n)) copies

  pub bare_but_those : (test : Name → Bool) (nodes : List ℕ) (copies : List (CopyWith A)) → bare (but_those test nodes copies) ≡ but_those test nodes (bare copies)
  bare_but_those test nodes copies = bare_filter (λ a n. not (test a && among n nodes)) copies

  bare_own : (new : CopyWith A) (copies : List (CopyWith A)) → bare (among_its_own new copies) ≡ among_its_own (copy new.name new.node) (bare copies)
  bare_own new [] = refl
  bare_own new (c ∷ copies) = elim (is_name new.name c.name && nat_lt c.node new.node) as (λ v. bare (cond v (c ∷ among_its_own new copies) (cond (is_at new.name new.node c) (new ∷ copies) (new ∷ c ∷ copies))) ≡ cond v (copy c.name c.node ∷ among_its_own (copy new.name new.node) (bare copies)) (cond (is_at new.name new.node (copy c.name c.node)) (copy new.name new.node ∷ bare copies) (copy new.name new.node ∷ copy c.name c.node ∷ bare copies))) [
    | true ↦ ap (λ xs. copy c.name c.node ∷ xs) (bare_own new copies)
    | false ↦ elim (is_at new.name new.node c) as (λ v. bare (cond v (new ∷ copies) (new ∷ c ∷ copies)) ≡ cond v (copy new.name new.node ∷ bare copies) (copy new.name new.node ∷ copy c.name c.node ∷ bare copies)) [ true ↦ refl | false ↦ refl ]
  ]

  pub bare_with : (new : CopyWith A) (copies : List (CopyWith A)) → bare (with_copy new copies) ≡ with_copy (copy new.name new.node) (bare copies)
  bare_with new [] = refl
  bare_with new (c ∷ copies) = elim (is_name new.name c.name) as (λ v. bare (cond v (among_its_own new (c ∷ copies)) (c ∷ with_copy new copies)) ≡ cond v (among_its_own (copy new.name new.node) (bare (c ∷ copies))) (copy c.name c.node ∷ with_copy (copy new.name new.node) (bare copies))) [
    | true ↦ bare_own new (c ∷ copies)
    | false ↦ ap (λ xs. copy c.name c.node ∷ xs) (bare_with new copies)
  ]

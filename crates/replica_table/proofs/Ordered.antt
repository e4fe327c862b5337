-- The copies of a table are in order, and their names keep theirs.
use Rattle.std.proofs.Common.{◌≡◌, ℕ, ◌<◌, ◌+◌, Bool, true, false, not, cond, ◌||◌, List, [], ◌∷◌, ◌++◌, MatchBool, map, refl, sym, ap, ◌∙◌, subst, arith}
use Rattle.std.specs.List.{filter, AllByRecursion, IsDistinct}
use Rattle.std.specs.Map.{keys_of}
use Rattle.std.proofs.lemmas.Bool.{false≢true}
use Rattle.node_names.specs.declared.name.Name.{Name}
use Rattle.replica_table.specs.declared.copied.Copied.{Copied}
use Rattle.replica_table.specs.Copies.{Copy, is_name, names_of}
use Rattle.replica_table.specs.Order.{AreInOrder, NamesKeepTheirOrder, NoneOf, StandsBefore, has_copy}
use Rattle.replica_table.specs.Sets.{Ascend}
use Rattle.replica_table.specs.steps.Entries.{Entries, IsListed, copies_in, copy_of, nodes_in}
use Rattle.replica_table.proofs.Keeping.{other_names}
use Rattle.replica_table.proofs.Names.{itself, same_by}

-- ---- the entries of a table

none_in : (name k : Name) (cs : List Copied) (rest : List Copy) → is_name name k ≡ false → NoneOf name rest → NoneOf name (map (copy_of k) cs ++ rest)
none_in name k [] rest e n = n
none_in name k (c ∷ cs) rest e n = (e, none_in name k cs rest e n)

none_of : (name : Name) (es : Entries) → AllByRecursion (λ y. is_name name y ≡ false) (keys_of es) → NoneOf name (copies_in es)
none_of name [] a = tt
none_of name (e ∷ es) a = none_in name e.0 e.1.items (copies_in es) a.0 (none_of name es a.1)

before_others : (copy : Copy) (rest : List Copy) → NoneOf copy.name rest → StandsBefore copy rest
before_others copy [] n = tt
before_others copy (next ∷ rest) n = subst (λ t. MatchBool t (copy.node < next.node) (NoneOf copy.name rest)) (sym n.0) n.1

own_in_order : (nodes first : ℕ) (name : Name) (cs : List Copied) (rest : List Copy) → Ascend first nodes (nodes_in cs) → NoneOf name rest → AreInOrder nodes rest → AreInOrder nodes (map (copy_of name) cs ++ rest)
own_in_order nodes first name [] rest a n o = o
own_in_order nodes first name (c ∷ []) rest a n o = (a.1, before_others (copy_of name c) rest n, o)
own_in_order nodes first name (c ∷ d ∷ ds) rest a n o =
    let higher : c.node < d.node = omega (arith, a.2.0) in
    (a.1, subst (λ t. MatchBool t (c.node < d.node) (NoneOf name (map (copy_of name) ds ++ rest))) (sym (itself name)) higher, own_in_order nodes (c.node + 1) name (d ∷ ds) rest a.2 n o)

pub in_order : (nodes : ℕ) (es : Entries) → AllByRecursion (IsListed nodes) es → IsDistinct is_name (keys_of es) → AreInOrder nodes (copies_in es)
unfolding IsDistinct
in_order nodes [] a d = tt
in_order nodes (e ∷ es) a d = own_in_order nodes 0 e.0 e.1.items (copies_in es) a.0.ascending (none_of e.0 es d.0) (in_order nodes es a.1 d.1)

-- ---- lists that are filtered twice

filter_swap : {A : Type 0} (p q : A → Bool) (xs : List A) → filter p (filter q xs) ≡ filter q (filter p xs)
filter_swap p q [] = refl
filter_swap p q (x ∷ xs) = elim (p x) as (λ s. p x ≡ s → filter p (cond (q x) (x ∷ filter q xs) (filter q xs)) ≡ filter q (cond s (x ∷ filter p xs) (filter p xs))) [
  | true ↦ λ e. elim (q x) as (λ t. filter p (cond t (x ∷ filter q xs) (filter q xs)) ≡ cond t (x ∷ filter q (filter p xs)) (filter q (filter p xs))) [
    | true ↦ ap (λ b. cond b (x ∷ filter p (filter q xs)) (filter p (filter q xs))) e ∙ ap (λ zs. x ∷ zs) (filter_swap p q xs)
    | false ↦ filter_swap p q xs
  ]
  | false ↦ λ e. elim (q x) as (λ t. filter p (cond t (x ∷ filter q xs) (filter q xs)) ≡ filter q (filter p xs)) [
    | true ↦ ap (λ b. cond b (x ∷ filter p (filter q xs)) (filter p (filter q xs))) e ∙ filter_swap p q xs
    | false ↦ filter_swap p q xs
  ]
] refl

-- two tests that agree on what is left
filter_alike : {A : Type 0} (p q left : A → Bool) (xs : List A) → ((x : A) → left x ≡ true → p x ≡ q x) → filter p (filter left xs) ≡ filter q (filter left xs)
filter_alike p q left [] h = refl
filter_alike p q left (x ∷ xs) h = elim (left x) as (λ t. left x ≡ t → filter p (cond t (x ∷ filter left xs) (filter left xs)) ≡ filter q (cond t (x ∷ filter left xs) (filter left xs))) [
  | true ↦ λ e. λ i. cond (h x e i) (x ∷ filter_alike p q left xs h i) (filter_alike p q left xs h i)
  | false ↦ λ e. filter_alike p q left xs h
] refl

filter_twice : {A : Type 0} (p : A → Bool) (xs : List A) → filter p (filter p xs) ≡ filter p xs
filter_twice p [] = refl
filter_twice p (x ∷ xs) = elim (p x) as (λ t. p x ≡ t → filter p (cond t (x ∷ filter p xs) (filter p xs)) ≡ cond t (x ∷ filter p xs) (filter p xs)) [
  | true ↦ λ e. ap (λ b. cond b (x ∷ filter p (filter p xs)) (filter p (filter p xs))) e ∙ ap (λ zs. x ∷ zs) (filter_twice p xs)
  | false ↦ λ e. filter_twice p xs
] refl

all_filtered : {A : Type 0} (P : A → Type 0) (p : A → Bool) (xs : List A) → AllByRecursion P xs → AllByRecursion P (filter p xs)
all_filtered P p [] a = tt
all_filtered P p (x ∷ xs) a = elim (p x) as (λ t. AllByRecursion P (cond t (x ∷ filter p xs) (filter p xs))) [
  | true ↦ (a.0, all_filtered P p xs a.1)
  | false ↦ all_filtered P p xs a.1
]

-- ---- names

not_false : (b : Bool) → not b ≡ true → b ≡ false
not_false true e = absurd (false≢true e)
not_false false e = refl

apart_back : (a b : Name) → is_name a b ≡ false → is_name b a ≡ false
apart_back a b e = elim (is_name b a) as (λ t. is_name b a ≡ t → t ≡ false) [
  | true ↦ λ t. absurd (false≢true (sym e ∙ subst (λ x. is_name a x ≡ true) (sym (same_by b a t)) (itself a)))
  | false ↦ λ t. refl
] refl

none_named : (k : Name) (cs : List Copy) → NoneOf k cs → AllByRecursion (λ y. is_name k y ≡ false) (names_of cs)
none_named k [] n = tt
none_named k (c ∷ cs) n = (n.0, all_filtered (λ y. is_name k y ≡ false) (λ name. not (is_name c.name name)) (names_of cs) (none_named k cs n.1))

none_left : (k : Name) (stays : Copy → Bool) (cs : List Copy) → NoneOf k cs → has_copy k (filter stays cs) ≡ false
none_left k stays [] n = refl
none_left k stays (c ∷ cs) n = elim (stays c) as (λ t. has_copy k (cond t (c ∷ filter stays cs) (filter stays cs)) ≡ false) [
  | true ↦ ap (λ b. b || has_copy k (filter stays cs)) n.0 ∙ none_left k stays cs n.1
  | false ↦ none_left k stays cs n.1
]

-- the first copy stays
first_stays : (c : Copy) (left : List Copy) (names : List Name) → names_of left ≡ filter (λ name. has_copy name left) names
    → names_of (c ∷ left) ≡ filter (λ name. has_copy name (c ∷ left)) (c.name ∷ filter (λ name. not (is_name c.name name)) names)
first_stays c left names h =
    let apart : Name → Bool = λ name. not (is_name c.name name) in
    let others : List Name = filter (λ name. has_copy name (c ∷ left)) (filter apart names) in
    ap (λ ns. c.name ∷ filter apart ns) h
    ∙ ap (λ ns. c.name ∷ ns) (filter_swap apart (λ name. has_copy name left) names
    ∙ sym (filter_alike (λ name. has_copy name (c ∷ left)) (λ name. has_copy name left) apart names (λ name e. ap (λ b. b || has_copy name left) (apart_back c.name name (not_false (is_name c.name name) e)))))
    ∙ sym (ap (λ b. cond (b || has_copy c.name left) (c.name ∷ others) others) (itself c.name))

-- a name that stands first, once more in front
once_more : (k : Name) (names : List Name) → k ∷ filter (λ name. not (is_name k name)) (k ∷ filter (λ name. not (is_name k name)) names) ≡ k ∷ filter (λ name. not (is_name k name)) names
once_more k names =
    let apart : Name → Bool = λ name. not (is_name k name) in
    ap (λ b. k ∷ cond (not b) (k ∷ filter apart (filter apart names)) (filter apart (filter apart names))) (itself k) ∙ ap (λ ns. k ∷ ns) (filter_twice apart names)

-- the first copy goes
first_goes : (nodes : ℕ) (stays : Copy → Bool) (c : Copy) (cs : List Copy) → AreInOrder nodes (c ∷ cs) → names_of (filter stays cs) ≡ filter (λ name. has_copy name (filter stays cs)) (names_of cs)
    → names_of (filter stays cs) ≡ filter (λ name. has_copy name (filter stays cs)) (c.name ∷ filter (λ name. not (is_name c.name name)) (names_of cs))
first_goes nodes stays c [] o h = refl
first_goes nodes stays c (d ∷ ds) o h =
    let left : List Copy = filter stays (d ∷ ds) in
    let held : Name → Bool = λ name. has_copy name left in
    let apart : Name → Bool = λ name. not (is_name c.name name) in
    elim (is_name c.name d.name) as (λ t. is_name c.name d.name ≡ t → MatchBool t (c.node < d.node) (NoneOf c.name ds) → names_of left ≡ filter held (c.name ∷ filter apart (names_of (d ∷ ds)))) [
      | true ↦ λ e higher.
          let again : c.name ∷ filter apart (names_of (d ∷ ds)) ≡ names_of (d ∷ ds) =
          subst (λ k. k ∷ filter (λ name. not (is_name k name)) (names_of (d ∷ ds)) ≡ names_of (d ∷ ds)) (sym (same_by c.name d.name e)) (once_more d.name (names_of ds)) in
          h ∙ ap (filter held) (sym again)
      | false ↦ λ e none.
          h
          ∙ ap (filter held) (sym (other_names c.name (names_of (d ∷ ds)) (none_named c.name (d ∷ ds) (e, none))))
          ∙ sym (ap (λ b. cond b (c.name ∷ filter held (filter apart (names_of (d ∷ ds)))) (filter held (filter apart (names_of (d ∷ ds))))) (none_left c.name stays (d ∷ ds) (e, none)))
    ] refl o.1

pub names_keep : NamesKeepTheirOrder
names_keep nodes stays [] o = refl
names_keep nodes stays (c ∷ cs) o =
    let left : List Copy = filter stays cs in
    let rest : names_of left ≡ filter (λ name. has_copy name left) (names_of cs) = names_keep nodes stays cs o.2 in
    elim (stays c) as (λ t. names_of (cond t (c ∷ left) left) ≡ filter (λ name. has_copy name (cond t (c ∷ left) left)) (c.name ∷ filter (λ name. not (is_name c.name name)) (names_of cs))) [
      | true ↦ first_stays c left (names_of cs) rest
      | false ↦ first_goes nodes stays c cs o rest
    ]

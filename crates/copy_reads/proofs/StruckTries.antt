-- What is tried for a need, once the first copy that was tried is struck.
use Rattle.std.proofs.Common.{arith, ◌≡◌, ◌<◌, ℕ, ◌+◌, Bool, true, false, not, cond, ◌&&◌, ◌||◌, ◌==◌, List, [], ◌∷◌, ◌++◌, Some, map, slice_get, refl, sym, ap, ◌∙◌, subst}
use Rattle.std.specs.List.{filter, flat_map}
use Rattle.std.proofs.lemmas.Bool.{eq-eqb, eqb-true, false≢true}
use Rattle.node_names.specs.declared.name.Name.{Name}
use Rattle.node_names.specs.declared.name.Name.TheVariants.{Blk, Spill, Out, Ric, Mic, Roc}
use Rattle.replica_table.proofs.Members.{filter_ascend}
use Rattle.replica_table.proofs.Names.{itself, same_by}
use Rattle.replica_table.specs.Copies.{but_file, is_at, is_name, nodes_with, up_holders}
use Rattle.replica_table.specs.Sets.{Ascend, among}
use Rattle.run_model.specs.Advance.{part_tries}
use Rattle.run_model.specs.Reading.{Try, cache_of_block, own_try, strike, tries_for, try_at}
use Rattle.run_model.specs.State.{Copy, PlainCluster, holds}
use Rattle.valid_copies.proofs.Copies.{and_true}

-- ---- filters

filters_commute : {A : Type 0} (p q : A → Bool) (xs : List A) → filter p (filter q xs) ≡ filter q (filter p xs)
filters_commute p q [] = refl
filters_commute p q (x ∷ xs) =
    elim (p x) as (λ t. p x ≡ t → filter p (cond (q x) (x ∷ filter q xs) (filter q xs)) ≡ filter q (cond t (x ∷ filter p xs) (filter p xs))) [
      | true ↦ λ t. elim (q x) as (λ u. q x ≡ u → filter p (cond u (x ∷ filter q xs) (filter q xs)) ≡ cond u (x ∷ filter q (filter p xs)) (filter q (filter p xs))) [
        | true ↦ λ u. ap (λ v. cond v (x ∷ filter p (filter q xs)) (filter p (filter q xs))) t ∙ ap (λ ys. x ∷ ys) (filters_commute p q xs)
        | false ↦ λ u. filters_commute p q xs
      ] refl
      | false ↦ λ t. elim (q x) as (λ u. filter p (cond u (x ∷ filter q xs) (filter q xs)) ≡ filter q (filter p xs)) [
        | true ↦ ap (λ v. cond v (x ∷ filter p (filter q xs)) (filter p (filter q xs))) t ∙ filters_commute p q xs
        | false ↦ filters_commute p q xs
      ]
    ] refl

-- a filter that passes all that the last one passes may be left out
filter_left_out : {A : Type 0} (p q r : A → Bool) (xs : List A) → ((x : A) → r x ≡ false → p x ≡ false) → filter p (filter q (filter r xs)) ≡ filter p (filter q xs)
filter_left_out p q r [] f = refl
filter_left_out p q r (x ∷ xs) f = elim (r x) as (λ t. r x ≡ t → filter p (filter q (cond t (x ∷ filter r xs) (filter r xs))) ≡ filter p (cond (q x) (x ∷ filter q xs) (filter q xs))) [
  | true ↦ λ t. elim (q x) as (λ u. filter p (cond u (x ∷ filter q (filter r xs)) (filter q (filter r xs))) ≡ filter p (cond u (x ∷ filter q xs) (filter q xs))) [
    | true ↦ ap (λ ys. cond (p x) (x ∷ ys) ys) (filter_left_out p q r xs f)
    | false ↦ filter_left_out p q r xs f
  ]
  | false ↦ λ t. elim (q x) as (λ u. filter p (filter q (filter r xs)) ≡ filter p (cond u (x ∷ filter q xs) (filter q xs))) [
    | true ↦ filter_left_out p q r xs f ∙ sym (ap (λ v. cond v (x ∷ filter p (filter q xs)) (filter p (filter q xs))) (f x t))
    | false ↦ filter_left_out p q r xs f
  ]
] refl

-- of nodes that ascend, the first does not come again
none_again : (first n end : ℕ) (ns : List ℕ) → n < first → Ascend first end ns → filter (λ m. not (n == m)) ns ≡ ns
none_again first n end [] l a = refl
none_again first n end (m ∷ ns) l a = elim (n == m) as (λ t. (n == m) ≡ t → cond (not t) (m ∷ filter (λ k. not (n == k)) ns) (filter (λ k. not (n == k)) ns) ≡ m ∷ ns) [
  | true ↦ λ t. absurd (apart (eqb-true n m t))
  | false ↦ λ t. ap (λ ks. m ∷ ks) (none_again (m + 1) n end ns (omega (arith, l, a.0)) a.2)
] refl
  where
    apart : n ≡ m → ⊥
    apart e = omega (arith, e, l, a.0)

-- ---- a copy that is struck

-- the copy of a place is of its name and on its node
at_place : (b : Name) (n : ℕ) (c : Copy) → is_at b n c ≡ true → (b ≡ c.name) × (n ≡ c.node)
at_place b n c e = let two = and_true (is_name b c.name) (n == c.node) e in (same_by b c.name two.0, eqb-true n c.node two.1)

-- whether two places are one
abbrev is_one : Name → ℕ → Name → ℕ → Bool
is_one name node b n = is_name name b && node == n

holds_struck : (b : Name) (n : ℕ) (name : Name) (node : ℕ) (cs : List Copy) → holds (but_file b n cs) node name ≡ (not (is_one name node b n) && holds cs node name)
holds_struck b n name node [] = none (is_one name node b n)
  where
    none : (t : Bool) → false ≡ (not t && false)
    none true = refl
    none false = refl
holds_struck b n name node (c ∷ cs) = elim (is_at b n c) as (λ t. is_at b n c ≡ t → holds (cond (not t) (c ∷ but_file b n cs) (but_file b n cs)) node name ≡ (not (is_one name node b n) && (is_at name node c || holds cs node name))) [
  | true ↦ λ t.
      let at = at_place b n c t in
      let same : is_at name node c ≡ is_one name node b n = sym (ap (λ k. is_one name node k n) at.0 ∙ ap (is_one name node c.name) at.1) in
      holds_struck b n name node cs ∙ gone (is_one name node b n) (is_at name node c) (holds cs node name) same
  | false ↦ λ t. elim (is_one name node b n) as (λ u. is_one name node b n ≡ u → (is_at name node c || holds (but_file b n cs) node name) ≡ (not u && (is_at name node c || holds cs node name))) [
    | true ↦ λ u.
        let two = and_true (is_name name b) (node == n) u in
        let same : is_at name node c ≡ false = ap (λ k. is_at k node c) (same_by name b two.0) ∙ ap (λ m. is_at b m c) (eqb-true node n two.1) ∙ t in
        ap (λ v. v || holds (but_file b n cs) node name) same ∙ holds_struck b n name node cs ∙ ap (λ v. not v && holds cs node name) u
    | false ↦ λ u. ap (λ v. is_at name node c || v) (holds_struck b n name node cs ∙ ap (λ v. not v && holds cs node name) u)
  ] refl
] refl
  where
    gone : (t v h : Bool) → v ≡ t → (not t && h) ≡ (not t && (v || h))
    gone true v h e = refl
    gone false true h e = absurd (false≢true (sym e))
    gone false false h e = refl

-- a copy that was not held is not held then
not_held : (b : Name) (n : ℕ) (name : Name) (node : ℕ) (cs : List Copy) → holds cs node name ≡ false → holds (but_file b n cs) node name ≡ false
not_held b n name node cs e = holds_struck b n name node cs ∙ ap (λ h. not (is_one name node b n) && h) e ∙ none (is_one name node b n)
  where
    none : (t : Bool) → (not t && false) ≡ false
    none true = refl
    none false = refl

-- the one that is struck is not
struck_gone : (name : Name) (node : ℕ) (cs : List Copy) → holds (but_file name node cs) node name ≡ false
struck_gone name node cs = holds_struck name node name node cs ∙ ap (λ t. not (t && node == node) && holds cs node name) (itself name) ∙ ap (λ t. not t && holds cs node name) (eq-eqb node node refl)

-- and one of another name is held as before
other_held : (b : Name) (n : ℕ) (name : Name) (node : ℕ) (cs : List Copy) → is_name name b ≡ false → holds (but_file b n cs) node name ≡ holds cs node name
other_held b n name node cs e = holds_struck b n name node cs ∙ ap (λ t. not (t && node == n) && holds cs node name) e

nodes_other : (b : Name) (n : ℕ) (name : Name) (cs : List Copy) → is_name name b ≡ false → nodes_with name (but_file b n cs) ≡ nodes_with name cs
nodes_other b n name [] e = refl
nodes_other b n name (c ∷ cs) e = elim (is_at b n c) as (λ t. is_at b n c ≡ t → nodes_with name (cond (not t) (c ∷ but_file b n cs) (but_file b n cs)) ≡ nodes_with name (c ∷ cs)) [
  | true ↦ λ t.
      let other : is_name name c.name ≡ false = sym (ap (is_name name) (at_place b n c t).0) ∙ e in
      nodes_other b n name cs e ∙ sym (ap (λ v. map (λ (k : Copy). k.node) (cond v (c ∷ filter (λ (k : Copy). is_name name k.name) cs) (filter (λ (k : Copy). is_name name k.name) cs))) other)
  | false ↦ λ t. elim (is_name name c.name) as (λ v. map (λ (k : Copy). k.node) (cond v (c ∷ filter (λ (k : Copy). is_name name k.name) (but_file b n cs)) (filter (λ (k : Copy). is_name name k.name) (but_file b n cs))) ≡ map (λ (k : Copy). k.node) (cond v (c ∷ filter (λ (k : Copy). is_name name k.name) cs) (filter (λ (k : Copy). is_name name k.name) cs))) [
    | true ↦ ap (λ ns. c.node ∷ ns) (nodes_other b n name cs e)
    | false ↦ nodes_other b n name cs e
  ]
] refl

nodes_same : (name : Name) (n : ℕ) (cs : List Copy) → nodes_with name (but_file name n cs) ≡ filter (λ m. not (n == m)) (nodes_with name cs)
nodes_same name n [] = refl
nodes_same name n (c ∷ cs) = elim (is_name name c.name) as (λ t. is_name name c.name ≡ t → nodes_with name (cond (not (t && n == c.node)) (c ∷ but_file name n cs) (but_file name n cs)) ≡ filter (λ m. not (n == m)) (map (λ (k : Copy). k.node) (cond t (c ∷ filter (λ (k : Copy). is_name name k.name) cs) (filter (λ (k : Copy). is_name name k.name) cs)))) [
  | true ↦ λ t. elim (n == c.node) as (λ u. nodes_with name (cond (not u) (c ∷ but_file name n cs) (but_file name n cs)) ≡ cond (not u) (c.node ∷ filter (λ m. not (n == m)) (nodes_with name cs)) (filter (λ m. not (n == m)) (nodes_with name cs))) [
    | true ↦ nodes_same name n cs
    | false ↦ ap (λ v. map (λ (k : Copy). k.node) (cond v (c ∷ filter (λ (k : Copy). is_name name k.name) (but_file name n cs)) (filter (λ (k : Copy). is_name name k.name) (but_file name n cs)))) t ∙ ap (λ ns. c.node ∷ ns) (nodes_same name n cs)
  ]
  | false ↦ λ t. ap (λ v. map (λ (k : Copy). k.node) (cond v (c ∷ filter (λ (k : Copy). is_name name k.name) (but_file name n cs)) (filter (λ (k : Copy). is_name name k.name) (but_file name n cs)))) t ∙ nodes_same name n cs
] refl

-- ---- tries

abbrev not_own : ℕ → ℕ → Bool
not_own own node = not (node == own)

-- the file of a name on a node, if it is there
abbrev if_held : Bool → Name → ℕ → List Try
if_held held name node = cond held (try_at name node ∷ []) []

module _ (c : PlainCluster) (own : ℕ) (name : Name) (nodes : ℕ) (ascend : Ascend 0 nodes (up_holders name c.up c.copies)) where
  -- what is tried on other nodes, and in all, where these are the copies
  abbrev others : List Copy → List Try
  others cs = map (try_at name) (filter (not_own own) (up_holders name c.up cs))

  abbrev owns : List Copy → List Try
  owns cs = flat_map (own_try cs own) (cache_of_block name)

  abbrev all : List Copy → List Try
  all cs = (own_try cs own name ++ owns cs) ++ others cs

  left_of : (n : ℕ) (ns : List ℕ) → filter (not_own own) (up_holders name c.up c.copies) ≡ n ∷ ns → filter (not_own own) (filter (λ m. not (n == m)) (up_holders name c.up c.copies)) ≡ ns
  left_of n ns e =
      let rises : Ascend 0 nodes (n ∷ ns) = subst (Ascend 0 nodes) e (filter_ascend (not_own own) 0 nodes (up_holders name c.up c.copies) ascend) in
      filters_commute (not_own own) (λ m. not (n == m)) (up_holders name c.up c.copies)
      ∙ ap (filter (λ m. not (n == m))) e
      ∙ ap (λ t. cond (not t) (n ∷ filter (λ m. not (n == m)) ns) (filter (λ m. not (n == m)) ns)) (eq-eqb n n refl)
      ∙ none_again (n + 1) n nodes ns (omega arith) rises.2

  holders_struck : (n : ℕ) → up_holders name c.up (but_file name n c.copies) ≡ filter (λ m. not (n == m)) (up_holders name c.up c.copies)
  holders_struck n = ap (filter (λ node. among node c.up)) (nodes_same name n c.copies) ∙ filters_commute (λ node. among node c.up) (λ m. not (n == m)) (nodes_with name c.copies)

  -- the first of the other nodes is tried
  other_first : (it : Try) → slice_get (others c.copies) 0 ≡ Some it → others c.copies ≡ it ∷ others (but_file it.name it.node c.copies)
  other_first it first = go (filter (not_own own) (up_holders name c.up c.copies)) refl first
    where
      same : (a b : Try) → Some a ≡ Some b → a ≡ b
      same a b e = cc

      go : (left : List ℕ) → filter (not_own own) (up_holders name c.up c.copies) ≡ left → slice_get (map (try_at name) left) 0 ≡ Some it → map (try_at name) left ≡ it ∷ others (but_file it.name it.node c.copies)
      go [] e g = cc
      go (n ∷ ns) e g =
          let is : try_at name n ≡ it = same (try_at name n) it g in
          subst (λ (t : Try). map (try_at name) (n ∷ ns) ≡ t ∷ others (but_file t.name t.node c.copies)) is
          (ap (λ ks. try_at name n ∷ map (try_at name) ks) (sym (ap (filter (not_own own)) (holders_struck n) ∙ left_of n ns e)))

  -- a copy of another name leaves the other nodes as they are, and so does the own copy
  others_stay : (b : Name) (n : ℕ) → is_name name b ≡ false → others (but_file b n c.copies) ≡ others c.copies
  others_stay b n e = ap (λ ns. map (try_at name) (filter (not_own own) (filter (λ node. among node c.up) ns))) (nodes_other b n name c.copies e)

  own_stays : others (but_file name own c.copies) ≡ others c.copies
  own_stays =
      ap (λ ns. map (try_at name) (filter (not_own own) (filter (λ node. among node c.up) ns))) (nodes_same name own c.copies)
      ∙ ap (map (try_at name)) (filter_left_out (not_own own) (λ node. among node c.up) (λ m. not (own == m)) (nodes_with name c.copies) passes)
    where
      passes : (m : ℕ) → not (own == m) ≡ false → not (m == own) ≡ false
      passes m e = ap not (eq-eqb m own (sym (eqb-true own m (told (own == m) e))))
        where
          told : (t : Bool) → not t ≡ false → t ≡ true
          told true e = refl
          told false e = absurd (false≢true (sym e))

  same_try : (a b : Try) → Some a ≡ Some b → a ≡ b
  same_try a b e = cc

  -- no file on the own node is tried
  from_others : (it : Try) → holds c.copies own name ≡ false → owns c.copies ≡ [] → ((b : Name) (n : ℕ) → owns (but_file b n c.copies) ≡ []) → slice_get (all c.copies) 0 ≡ Some it → all c.copies ≡ it ∷ all (but_file it.name it.node c.copies)
  from_others it none no_cache nor_later first =
      let empty : own_try c.copies own name ≡ [] = ap (λ h. if_held h name own) none in
      let now : all c.copies ≡ others c.copies = ap (λ ts. (ts ++ owns c.copies) ++ others c.copies) empty ∙ ap (λ ts. ts ++ others c.copies) no_cache in
      let later : all (but_file it.name it.node c.copies) ≡ others (but_file it.name it.node c.copies) =
      ap (λ h. (if_held h name own ++ owns (but_file it.name it.node c.copies)) ++ others (but_file it.name it.node c.copies)) (not_held it.name it.node name own c.copies none)
      ∙ ap (λ ts. ts ++ others (but_file it.name it.node c.copies)) (nor_later it.name it.node) in
      now ∙ other_first it (ap (λ ts. slice_get ts 0) (sym now) ∙ first) ∙ ap (λ ts. it ∷ ts) (sym later)

  -- the own copy is tried
  from_own : (it : Try) → holds c.copies own name ≡ true → owns (but_file name own c.copies) ≡ owns c.copies → slice_get (all c.copies) 0 ≡ Some it → all c.copies ≡ it ∷ all (but_file it.name it.node c.copies)
  from_own it held caches first =
      let now : all c.copies ≡ try_at name own ∷ (owns c.copies ++ others c.copies) = ap (λ h. (if_held h name own ++ owns c.copies) ++ others c.copies) held in
      let is : try_at name own ≡ it = same_try (try_at name own) it (ap (λ ts. slice_get ts 0) (sym now) ∙ first) in
      let later : all (but_file name own c.copies) ≡ owns c.copies ++ others c.copies =
      ap (λ h. (if_held h name own ++ owns (but_file name own c.copies)) ++ others (but_file name own c.copies)) (struck_gone name own c.copies)
      ∙ ap (λ ts. ts ++ others (but_file name own c.copies)) caches ∙ ap (λ ts. owns c.copies ++ ts) own_stays in
      now ∙ subst (λ (t : Try). try_at name own ∷ (owns c.copies ++ others c.copies) ≡ t ∷ all (but_file t.name t.node c.copies)) is (ap (λ ts. try_at name own ∷ ts) (sym later))

  by_own : (it : Try) → ((b : Name) (n : ℕ) → owns (but_file b n c.copies) ≡ []) → owns c.copies ≡ [] → slice_get (all c.copies) 0 ≡ Some it → all c.copies ≡ it ∷ all (but_file it.name it.node c.copies)
  by_own it nor_later no_cache first = elim (holds c.copies own name) as (λ t. holds c.copies own name ≡ t → all c.copies ≡ it ∷ all (but_file it.name it.node c.copies)) [
    | true ↦ λ t. from_own it t (nor_later name own ∙ sym no_cache) first
    | false ↦ λ t. from_others it t no_cache nor_later first
  ] refl

pub part_tries_go_on : (c : PlainCluster) (name : Name) (nodes : ℕ) (it : Try) → Ascend 0 nodes (up_holders name c.up c.copies) → slice_get (part_tries c name) 0 ≡ Some it → part_tries c name ≡ it ∷ part_tries (strike it c) name
part_tries_go_on c name nodes it ascend first = go (up_holders name c.up c.copies) refl first
  where
    same : (a b : Try) → Some a ≡ Some b → a ≡ b
    same a b e = cc

    left : (n : ℕ) (ns : List ℕ) → up_holders name c.up c.copies ≡ n ∷ ns → Ascend 0 nodes (n ∷ ns) → up_holders name c.up (but_file name n c.copies) ≡ ns
    left n ns e rises =
        ap (filter (λ node. among node c.up)) (nodes_same name n c.copies) ∙ filters_commute (λ node. among node c.up) (λ m. not (n == m)) (nodes_with name c.copies)
        ∙ ap (filter (λ m. not (n == m))) e
        ∙ ap (λ t. cond (not t) (n ∷ filter (λ m. not (n == m)) ns) (filter (λ m. not (n == m)) ns)) (eq-eqb n n refl)
        ∙ none_again (n + 1) n nodes ns (omega arith) rises.2

    go : (holders : List ℕ) → up_holders name c.up c.copies ≡ holders → slice_get (map (try_at name) holders) 0 ≡ Some it → map (try_at name) holders ≡ it ∷ part_tries (strike it c) name
    go [] e g = cc
    go (n ∷ ns) e g =
        let is : try_at name n ≡ it = same (try_at name n) it g in
        subst (λ (t : Try). map (try_at name) (n ∷ ns) ≡ t ∷ part_tries (strike t c) name) is (ap (λ ks. try_at name n ∷ map (try_at name) ks) (sym (left n ns e (subst (Ascend 0 nodes) e ascend))))

pub tries_go_on : (c : PlainCluster) (own : ℕ) (name : Name) (nodes : ℕ) (it : Try) → Ascend 0 nodes (up_holders name c.up c.copies) → slice_get (tries_for c own name) 0 ≡ Some it → tries_for c own name ≡ it ∷ tries_for (strike it c) own name
tries_go_on c own (Blk t b) nodes it ascend first =
    let blk = Blk t b in
    let mic = Mic t b in
    let rest = others c own blk nodes ascend in
    let tries = all c own blk nodes ascend in
    elim (holds c.copies own blk) as (λ v. holds c.copies own blk ≡ v → tries c.copies ≡ it ∷ tries (but_file it.name it.node c.copies)) [
      | true ↦ λ v. from_own c own blk nodes ascend it v (ap (λ h. if_held h mic own ++ []) (other_held blk own mic own c.copies refl)) first
      | false ↦ λ v. elim (holds c.copies own mic) as (λ u. holds c.copies own mic ≡ u → tries c.copies ≡ it ∷ tries (but_file it.name it.node c.copies)) [
        | true ↦ λ u.
            let now : tries c.copies ≡ try_at mic own ∷ rest c.copies = ap (λ h. (if_held h blk own ++ (own_try c.copies own mic ++ [])) ++ rest c.copies) v ∙ ap (λ h. (if_held h mic own ++ []) ++ rest c.copies) u in
            let is : try_at mic own ≡ it = same_try c own blk nodes ascend (try_at mic own) it (ap (λ ts. slice_get ts 0) (sym now) ∙ first) in
            let struck : List Copy = but_file mic own c.copies in
            let later : tries struck ≡ rest c.copies =
            ap (λ h. (if_held h blk own ++ (own_try struck own mic ++ [])) ++ rest struck) (not_held mic own blk own c.copies v)
            ∙ ap (λ h. (if_held h mic own ++ []) ++ rest struck) (struck_gone mic own c.copies)
            ∙ others_stay c own blk nodes ascend mic own refl in
            now ∙ subst (λ (a : Try). try_at mic own ∷ rest c.copies ≡ a ∷ tries (but_file a.name a.node c.copies)) is (ap (λ ts. try_at mic own ∷ ts) (sym later))
        | false ↦ λ u. from_others c own blk nodes ascend it v (ap (λ h. if_held h mic own ++ []) u) (λ k n. ap (λ h. if_held h mic own ++ []) (not_held k n mic own c.copies u)) first
      ] refl
    ] refl
tries_go_on c own (Spill i j s q) nodes it ascend first = by_own c own (Spill i j s q) nodes ascend it (λ b n. refl) refl first
tries_go_on c own (Out i j p) nodes it ascend first = by_own c own (Out i j p) nodes ascend it (λ b n. refl) refl first
tries_go_on c own (Ric j s p) nodes it ascend first = by_own c own (Ric j s p) nodes ascend it (λ b n. refl) refl first
tries_go_on c own (Mic t b) nodes it ascend first = by_own c own (Mic t b) nodes ascend it (λ b n. refl) refl first
tries_go_on c own (Roc i p) nodes it ascend first = by_own c own (Roc i p) nodes ascend it (λ b n. refl) refl first

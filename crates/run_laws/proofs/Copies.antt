-- Lists of copies: what is put among them, and what is taken out.
use Rattle.std.proofs.Common.{◌≡◌, ◌⊎◌, inl, inr, ℕ, ◌<◌, Bool, true, false, ◌&&◌, cond, List, [], ◌∷◌, refl, sym, ap, subst, ◌∙◌, arith, ◌==◌, nat_lt, MatchBool}
use Rattle.std.specs.List.{filter}
use Rattle.std.proofs.lemmas.Bool.{eq-eqb, eqb-false, eqb-true, false_from_ne_true, false≢true, ltb-false, ltb-true}
use Rattle.node_names.specs.declared.name.Name.{Name}
use Rattle.replica_table.proofs.Names.{itself, same_by}
use Rattle.replica_table.specs.Copies.{among_its_own, is_at, is_name, nodes_with, with_copy}
use Rattle.replica_table.specs.Order.{AreInOrder, NoneOf, StandsBefore}
use Rattle.run_model.proofs.Bare.{holds_among}
use Rattle.run_model.specs.Lists.{IsIn}
use Rattle.run_model.specs.State.{Copy, holds}
use Rattle.run_laws.proofs.Members.{and_true, any_is, from_filter, in_filter, is_any}
use Rattle.run_laws.proofs.Numbers.{in_among, is_among}

pub at_is : (a : Name) (n : ℕ) (it : Copy) → is_at a n it ≡ true → (a ≡ it.name) × (n ≡ it.node)
at_is a n it e = let b = and_true (is_name a it.name) (n == it.node) e in (same_by a it.name b.0, eqb-true n it.node b.1)

pub name_apart : (a b : Name) → (a ≡ b → ⊥) → is_name a b ≡ false
name_apart a b d = false_from_ne_true (is_name a b) (λ t. d (same_by a b t))

pub name_back : (a b : Name) → is_name a b ≡ false → is_name b a ≡ false
name_back a b e = name_apart b a (λ s. false≢true (sym e ∙ subst (λ x. is_name a x ≡ true) (sym s) (itself a)))

-- ---- the nodes with a name

pub held_node : (n : ℕ) (a : Name) (copies : List Copy) → holds copies n a ≡ true → IsIn n (nodes_with a copies)
held_node n a copies h = in_among n (nodes_with a copies) (sym (holds_among copies n a) ∙ h)

pub node_held : (n : ℕ) (a : Name) (copies : List Copy) → IsIn n (nodes_with a copies) → holds copies n a ≡ true
node_held n a copies i = holds_among copies n a ∙ is_among n (nodes_with a copies) i

-- ---- what is taken out

-- a copy that is left was there
pub left_was : (test : Copy → Bool) (n : ℕ) (a : Name) (copies : List Copy) → holds (filter test copies) n a ≡ true → holds copies n a ≡ true
left_was test n a copies h =
    let m = any_is (is_at a n) (filter test copies) h in
    is_any (is_at a n) m.0 copies (from_filter test m.0 copies m.1).0 m.2

-- a copy that passes is left
pub was_left : (test : Copy → Bool) (n : ℕ) (a : Name) (copies : List Copy) → ((it : Copy) → is_at a n it ≡ true → test it ≡ true) → holds copies n a ≡ true → holds (filter test copies) n a ≡ true
was_left test n a copies f h =
    let m = any_is (is_at a n) copies h in
    is_any (is_at a n) m.0 (filter test copies) (in_filter test m.0 copies m.1 (f m.0 m.2)) m.2

-- ---- one more

-- what stands in a list with one more is new, or stood there
from_own : (new it : Copy) (copies : List Copy) → IsIn it (among_its_own new copies) → (it ≡ new) ⊎ IsIn it copies
from_own new it [] i = elim i [ inl e ↦ inl e | inr x ↦ absurd x ]
from_own new it (c ∷ copies) i = elim (is_name new.name c.name && nat_lt c.node new.node) as (λ v. IsIn it (cond v (c ∷ among_its_own new copies) (cond (is_at new.name new.node c) (new ∷ copies) (new ∷ c ∷ copies))) → (it ≡ new) ⊎ IsIn it (c ∷ copies)) [
  | true ↦ λ j. elim j [ inl e ↦ inr (inl e) | inr x ↦ elim (from_own new it copies x) [ inl e ↦ inl e | inr y ↦ inr (inr y) ] ]
  | false ↦ elim (is_at new.name new.node c) as (λ v. IsIn it (cond v (new ∷ copies) (new ∷ c ∷ copies)) → (it ≡ new) ⊎ IsIn it (c ∷ copies)) [
    | true ↦ λ j. elim j [ inl e ↦ inl e | inr x ↦ inr (inr x) ]
    | false ↦ λ j. elim j [ inl e ↦ inl e | inr x ↦ inr x ]
  ]
] i

pub from_with : (new it : Copy) (copies : List Copy) → IsIn it (with_copy new copies) → (it ≡ new) ⊎ IsIn it copies
from_with new it [] i = elim i [ inl e ↦ inl e | inr x ↦ absurd x ]
from_with new it (c ∷ copies) i = elim (is_name new.name c.name) as (λ v. IsIn it (cond v (among_its_own new (c ∷ copies)) (c ∷ with_copy new copies)) → (it ≡ new) ⊎ IsIn it (c ∷ copies)) [
  | true ↦ λ j. from_own new it (c ∷ copies) j
  | false ↦ λ j. elim j [ inl e ↦ inr (inl e) | inr x ↦ elim (from_with new it copies x) [ inl e ↦ inl e | inr y ↦ inr (inr y) ] ]
] i

-- a copy holds its name
pub at_itself : (it : Copy) → is_at it.name it.node it ≡ true
at_itself it = rw (itself it.name, eq-eqb it.node it.node refl) refl

-- the new copy is there
there_own : (new : Copy) (copies : List Copy) → IsIn new (among_its_own new copies)
there_own new [] = inl refl
there_own new (c ∷ copies) = elim (is_name new.name c.name && nat_lt c.node new.node) as (λ v. IsIn new (cond v (c ∷ among_its_own new copies) (cond (is_at new.name new.node c) (new ∷ copies) (new ∷ c ∷ copies)))) [
  | true ↦ inr (there_own new copies)
  | false ↦ elim (is_at new.name new.node c) as (λ v. IsIn new (cond v (new ∷ copies) (new ∷ c ∷ copies))) [ true ↦ inl refl | false ↦ inl refl ]
]

there_with : (new : Copy) (copies : List Copy) → IsIn new (with_copy new copies)
there_with new [] = inl refl
there_with new (c ∷ copies) = elim (is_name new.name c.name) as (λ v. IsIn new (cond v (among_its_own new (c ∷ copies)) (c ∷ with_copy new copies))) [
  | true ↦ there_own new (c ∷ copies)
  | false ↦ inr (there_with new copies)
]

pub holds_new : (new : Copy) (copies : List Copy) → holds (with_copy new copies) new.node new.name ≡ true
holds_new new copies = is_any (is_at new.name new.node) new (with_copy new copies) (there_with new copies) (at_itself new)

-- a copy that was there is there, or the new one stands in its place
was_own : (new it : Copy) (copies : List Copy) → IsIn it copies → IsIn it (among_its_own new copies) ⊎ (is_at new.name new.node it ≡ true)
was_own new it [] i = absurd i
was_own new it (c ∷ copies) i = elim (is_name new.name c.name && nat_lt c.node new.node) as (λ v. IsIn it (cond v (c ∷ among_its_own new copies) (cond (is_at new.name new.node c) (new ∷ copies) (new ∷ c ∷ copies))) ⊎ (is_at new.name new.node it ≡ true)) [
  | true ↦ elim i [ inl e ↦ inl (inl e) | inr x ↦ elim (was_own new it copies x) [ inl y ↦ inl (inr y) | inr t ↦ inr t ] ]
  | false ↦ elim (is_at new.name new.node c) as (λ v. is_at new.name new.node c ≡ v → IsIn it (cond v (new ∷ copies) (new ∷ c ∷ copies)) ⊎ (is_at new.name new.node it ≡ true)) [
    | true ↦ λ t. elim i [ inl e ↦ inr (subst (λ x. is_at new.name new.node x ≡ true) (sym e) t) | inr x ↦ inl (inr x) ]
    | false ↦ λ t. inl (inr i)
  ] refl
]

was_with : (new it : Copy) (copies : List Copy) → IsIn it copies → IsIn it (with_copy new copies) ⊎ (is_at new.name new.node it ≡ true)
was_with new it [] i = absurd i
was_with new it (c ∷ copies) i = elim (is_name new.name c.name) as (λ v. IsIn it (cond v (among_its_own new (c ∷ copies)) (c ∷ with_copy new copies)) ⊎ (is_at new.name new.node it ≡ true)) [
  | true ↦ was_own new it (c ∷ copies) i
  | false ↦ elim i [ inl e ↦ inl (inl e) | inr x ↦ elim (was_with new it copies x) [ inl y ↦ inl (inr y) | inr t ↦ inr t ] ]
]

pub holds_with : (new : Copy) (n : ℕ) (a : Name) (copies : List Copy) → holds copies n a ≡ true → holds (with_copy new copies) n a ≡ true
holds_with new n a copies h =
    let m = any_is (is_at a n) copies h in
    elim (was_with new m.0 copies m.1) [
      | inl i ↦ is_any (is_at a n) m.0 (with_copy new copies) i m.2
      | inr t ↦
          let x = at_is new.name new.node m.0 t in
          let y = at_is a n m.0 m.2 in
          subst (λ k. holds (with_copy new copies) k a ≡ true) (x.1 ∙ sym y.1) (subst (λ k. holds (with_copy new copies) new.node k ≡ true) (x.0 ∙ sym y.0) (holds_new new copies))
    ]

-- another name stays where it was
pub holds_other : (new : Copy) (n : ℕ) (a : Name) (copies : List Copy) → is_name new.name a ≡ false → holds (with_copy new copies) n a ≡ true → holds copies n a ≡ true
holds_other new n a copies d h =
    let m = any_is (is_at a n) (with_copy new copies) h in
    elim (from_with new m.0 copies m.1) [
      | inl e ↦ absurd (false≢true (sym d ∙ subst (λ k. is_name new.name k ≡ true) (sym (at_is a n m.0 m.2).0) (subst (λ (x : Copy). is_name new.name x.name ≡ true) (sym e) (itself new.name))))
      | inr i ↦ is_any (is_at a n) m.0 copies i m.2
    ]

pub holds_apart : (new : Copy) (n : ℕ) (a : Name) (copies : List Copy) → is_name new.name a ≡ false → holds (with_copy new copies) n a ≡ holds copies n a
holds_apart new n a copies d = elim (holds copies n a) as (λ v. holds copies n a ≡ v → holds (with_copy new copies) n a ≡ v) [
  | true ↦ λ e. holds_with new n a copies e
  | false ↦ λ e. false_from_ne_true (holds (with_copy new copies) n a) (λ t. false≢true (sym e ∙ holds_other new n a copies d t))
] refl

-- ---- copies in order

none_before : (it : Copy) (copies : List Copy) → NoneOf it.name copies → StandsBefore it copies
none_before it [] n = tt
none_before it (c ∷ copies) n = subst (λ t. MatchBool t (it.node < c.node) (NoneOf it.name copies)) (sym n.0) n.1

none_left : (name : Name) (test : Copy → Bool) (copies : List Copy) → NoneOf name copies → NoneOf name (filter test copies)
none_left name test [] n = tt
none_left name test (c ∷ copies) n = elim (test c) as (λ v. NoneOf name (cond v (c ∷ filter test copies) (filter test copies))) [
  | true ↦ (n.0, none_left name test copies n.1)
  | false ↦ none_left name test copies n.1
]

-- what stands before a copy of its name stands before what comes next
before_next : (it c : Copy) (copies : List Copy) → is_name it.name c.name ≡ true → it.node < c.node → StandsBefore c copies → StandsBefore it copies
before_next it c [] e l s = tt
before_next it c (d ∷ copies) e l s =
    let same : it.name ≡ c.name = same_by it.name c.name e in
    subst (λ k. MatchBool (is_name k d.name) (it.node < d.node) (NoneOf k copies)) (sym same) (further (is_name c.name d.name) s)
  where
    further : (v : Bool) → MatchBool v (c.node < d.node) (NoneOf c.name copies) → MatchBool v (it.node < d.node) (NoneOf c.name copies)
    further true h = omega arith
    further false h = h

before_left : (nodes : ℕ) (test : Copy → Bool) (it : Copy) (copies : List Copy) → StandsBefore it copies → AreInOrder nodes copies → StandsBefore it (filter test copies)
before_left nodes test it [] s o = tt
before_left nodes test it (c ∷ copies) s o = elim (test c) as (λ v. StandsBefore it (cond v (c ∷ filter test copies) (filter test copies))) [
  | true ↦ elim (is_name it.name c.name) as (λ v. MatchBool v (it.node < c.node) (NoneOf it.name copies) → MatchBool v (it.node < c.node) (NoneOf it.name (filter test copies))) [
    | true ↦ λ h. h
    | false ↦ λ h. none_left it.name test copies h
  ] s
  | false ↦ elim (is_name it.name c.name) as (λ v. is_name it.name c.name ≡ v → MatchBool v (it.node < c.node) (NoneOf it.name copies) → StandsBefore it (filter test copies)) [
    | true ↦ λ e h. before_left nodes test it copies (before_next it c copies e h o.1) o.2
    | false ↦ λ e h. none_before it (filter test copies) (none_left it.name test copies h)
  ] refl s
]

pub order_left : (nodes : ℕ) (test : Copy → Bool) (copies : List Copy) → AreInOrder nodes copies → AreInOrder nodes (filter test copies)
order_left nodes test [] o = tt
order_left nodes test (c ∷ copies) o = elim (test c) as (λ v. AreInOrder nodes (cond v (c ∷ filter test copies) (filter test copies))) [
  | true ↦ (o.0, before_left nodes test c copies o.1 o.2, order_left nodes test copies o.2)
  | false ↦ order_left nodes test copies o.2
]

-- ---- one more, in order

none_own : (name : Name) (new : Copy) (copies : List Copy) → is_name name new.name ≡ false → NoneOf name copies → NoneOf name (among_its_own new copies)
none_own name new [] e n = (e, tt)
none_own name new (c ∷ copies) e n = elim (is_name new.name c.name && nat_lt c.node new.node) as (λ v. NoneOf name (cond v (c ∷ among_its_own new copies) (cond (is_at new.name new.node c) (new ∷ copies) (new ∷ c ∷ copies)))) [
  | true ↦ (n.0, none_own name new copies e n.1)
  | false ↦ elim (is_at new.name new.node c) as (λ v. NoneOf name (cond v (new ∷ copies) (new ∷ c ∷ copies))) [ true ↦ (e, n.1) | false ↦ (e, n) ]
]

none_with : (name : Name) (new : Copy) (copies : List Copy) → is_name name new.name ≡ false → NoneOf name copies → NoneOf name (with_copy new copies)
none_with name new [] e n = (e, tt)
none_with name new (c ∷ copies) e n = elim (is_name new.name c.name) as (λ v. NoneOf name (cond v (among_its_own new (c ∷ copies)) (c ∷ with_copy new copies))) [
  | true ↦ none_own name new (c ∷ copies) e n
  | false ↦ (n.0, none_with name new copies e n.1)
]

-- copies of a name stand in front, or there are none
abbrev StandInFront : Name → List Copy → Type 0
StandInFront name [] = Unit {0}
StandInFront name (c ∷ copies) = MatchBool (is_name name c.name) (Unit {0}) (NoneOf name copies)

front_behind : (name : Name) (c : Copy) (copies : List Copy) → is_name name c.name ≡ true → StandsBefore c copies → StandInFront name copies
front_behind name c [] e s = tt
front_behind name c (d ∷ copies) e s = subst (λ k. MatchBool (is_name k d.name) (Unit {0}) (NoneOf k copies)) (sym (same_by name c.name e)) (go (is_name c.name d.name) s)
  where
    go : (v : Bool) → MatchBool v (c.node < d.node) (NoneOf c.name copies) → MatchBool v (Unit {0}) (NoneOf c.name copies)
    go true h = tt
    go false h = h

-- a copy of the name on a lower node stands before all of them
lower_before : (c new : Copy) (copies : List Copy) → c.name ≡ new.name → c.node < new.node → StandsBefore c copies → StandsBefore c (among_its_own new copies)
lower_before c new [] e l s = rw (ap (λ k. is_name k new.name) e ∙ itself new.name) l
lower_before c new (d ∷ copies) e l s = elim (is_name new.name d.name && nat_lt d.node new.node) as (λ v. (is_name new.name d.name && nat_lt d.node new.node) ≡ v → StandsBefore c (cond v (d ∷ among_its_own new copies) (cond (is_at new.name new.node d) (new ∷ copies) (new ∷ d ∷ copies)))) [
  | true ↦ λ t.
      let same : is_name c.name d.name ≡ true = ap (λ k. is_name k d.name) e ∙ (and_true (is_name new.name d.name) (nat_lt d.node new.node) t).0 in
      subst (λ v. MatchBool v (c.node < d.node) (NoneOf c.name copies) → MatchBool v (c.node < d.node) (NoneOf c.name (among_its_own new copies))) (sym same) (λ h. h) s
  | false ↦ λ t. elim (is_at new.name new.node d) as (λ v. StandsBefore c (cond v (new ∷ copies) (new ∷ d ∷ copies))) [
    | true ↦ rw (ap (λ k. is_name k new.name) e ∙ itself new.name) l
    | false ↦ rw (ap (λ k. is_name k new.name) e ∙ itself new.name) l
  ]
] refl

order_own : (nodes : ℕ) (new : Copy) (copies : List Copy) → new.node < nodes → StandInFront new.name copies → AreInOrder nodes copies → AreInOrder nodes (among_its_own new copies)
order_own nodes new [] l f o = (l, tt, tt)
order_own nodes new (c ∷ copies) l f o = elim (is_name new.name c.name && nat_lt c.node new.node) as (λ v. (is_name new.name c.name && nat_lt c.node new.node) ≡ v → AreInOrder nodes (cond v (c ∷ among_its_own new copies) (cond (is_at new.name new.node c) (new ∷ copies) (new ∷ c ∷ copies)))) [
  | true ↦ λ t.
      let b = and_true (is_name new.name c.name) (nat_lt c.node new.node) t in
      (o.0, lower_before c new copies (sym (same_by new.name c.name b.0)) (ltb-true c.node new.node b.1) o.1, order_own nodes new copies l (front_behind new.name c copies b.0 o.1) o.2)
  | false ↦ λ t. elim (is_at new.name new.node c) as (λ v. is_at new.name new.node c ≡ v → AreInOrder nodes (cond v (new ∷ copies) (new ∷ c ∷ copies))) [
    | true ↦ λ u.
        let same = at_is new.name new.node c u in
        (l, in_its_place same.0 same.1 copies o.1, o.2)
    | false ↦ λ u. (
      l,
      elim (is_name new.name c.name) as (λ v. (v && nat_lt c.node new.node) ≡ false → (v && (new.node == c.node)) ≡ false → MatchBool v (Unit {0}) (NoneOf new.name copies) → MatchBool v (new.node < c.node) (NoneOf new.name copies)) [
        | true ↦ λ x y h. let a = ltb-false c.node new.node x in let b = eqb-false new.node c.node y in omega arith
        | false ↦ λ x y h. h
      ] t u f,
      o,
    )
  ] refl
] refl
  where
    in_its_place : new.name ≡ c.name → new.node ≡ c.node → (copies : List Copy) → StandsBefore c copies → StandsBefore new copies
    in_its_place e e' [] s = tt
    in_its_place e e' (d ∷ copies) s = subst (λ k. MatchBool (is_name k d.name) (new.node < d.node) (NoneOf k copies)) (sym e) (subst (λ k. MatchBool (is_name c.name d.name) (k < d.node) (NoneOf c.name copies)) (sym e') s)

others_before : (c new : Copy) (copies : List Copy) → is_name c.name new.name ≡ false → StandsBefore c copies → StandsBefore c (with_copy new copies)
others_before c new [] e s = none_before c (new ∷ []) (e, tt)
others_before c new (d ∷ copies) e s = elim (is_name new.name d.name) as (λ v. is_name new.name d.name ≡ v → StandsBefore c (cond v (among_its_own new (d ∷ copies)) (d ∷ with_copy new copies))) [
  | true ↦ λ t.
      let apart : is_name c.name d.name ≡ false = subst (λ k. is_name c.name k ≡ false) (same_by new.name d.name t) e in
      let none : NoneOf c.name copies = subst (λ v. MatchBool v (c.node < d.node) (NoneOf c.name copies)) apart s in
      none_before c (among_its_own new (d ∷ copies)) (none_own c.name new (d ∷ copies) e (apart, none))
  | false ↦ λ t. elim (is_name c.name d.name) as (λ v. MatchBool v (c.node < d.node) (NoneOf c.name copies) → MatchBool v (c.node < d.node) (NoneOf c.name (with_copy new copies))) [
    | true ↦ λ h. h
    | false ↦ λ h. none_with c.name new copies e h
  ] s
] refl

pub order_with : (nodes : ℕ) (new : Copy) (copies : List Copy) → new.node < nodes → AreInOrder nodes copies → AreInOrder nodes (with_copy new copies)
order_with nodes new [] l o = (l, tt, tt)
order_with nodes new (c ∷ copies) l o = elim (is_name new.name c.name) as (λ v. is_name new.name c.name ≡ v → AreInOrder nodes (cond v (among_its_own new (c ∷ copies)) (c ∷ with_copy new copies))) [
  | true ↦ λ e. order_own nodes new (c ∷ copies) l (subst (λ v. MatchBool v (Unit {0}) (NoneOf new.name copies)) (sym e) tt) o
  | false ↦ λ e. (o.0, others_before c new copies (name_back new.name c.name e) o.1, order_with nodes new copies l o.2)
] refl

-- Places of names, and a map from names to them.
use Rattle.std.proofs.Common.{◌≡◌, ℕ, suc, ◌+◌, ◌<◌, Bool, true, false, cond, List, [], ◌∷◌, ◌++◌, Option, None, Some, refl, sym, ap, subst, ◌∙◌, arith, ◌||◌, is_some, length, nat_eq}
use Rattle.std.specs.BTreeMap.{BTreeMap, UpdatesBy, get_by}
use Rattle.std.specs.Cmp.{eq_by_cmp_equiv}
use Rattle.std.specs.Cmp.Lexicographic.{bytes_decides, nat_list_cmp_total, nat_list_eq_equiv, slice_cmp}
use Rattle.std.specs.List.{list_any}
use Rattle.std.specs.Map.{AreApart, IsKeyTest, KeepsOthers, lookup}
use Rattle.std.specs.Option.{option_eq}
use Rattle.std.specs.Ordering.{is_eq, nat_cmp}
use Rattle.std.specs.Str.{bytes_eq}
use Rattle.std.proofs.lemmas.Bool.{eq-eqb, eqb-true, false≢true}
use Rattle.std.proofs.lemmas.Map.Text.{is_eq-slice_cmp}
use Rattle.name_index.specs.Names.{place_behind, place_of}
use Rattle.name_index.proofs.Places.{place_in_back, place_in_front}

-- ---- maps from bytes

apart : (bs cs ks : List ℕ) → bytes_eq bs cs ≡ false → is_eq (slice_cmp nat_cmp bs ks) ≡ true → is_eq (slice_cmp nat_cmp cs ks) ≡ false
apart bs cs ks n y = is_eq-slice_cmp cs ks ∙ nat_list_eq_equiv.symm cs ks ∙ sym (nat_list_eq_equiv.congr bs ks cs (sym (is_eq-slice_cmp bs ks) ∙ y)) ∙ n

module _ {K : Type 0} (eq : K → K → Bool) (test : K → Bool) where
  other_entries : {X : Type 0} (old new : List (K × X)) → KeepsOthers eq test old new → (other : K → Bool) → IsKeyTest eq other → AreApart test other → lookup other new ≡ lookup other old
  unfolding KeepsOthers
  other_entries old new h = h

-- what a change at some bytes leaves at any
module _ {K X : Type 0} (bytes : K → List ℕ) where
  abbrev pub at : BTreeMap K X → List ℕ → Option X
  at m name = get_by (λ key. slice_cmp nat_cmp name (bytes key)) m

  pub changed : (name : List ℕ) (m n : BTreeMap K X) (w : Option X) → UpdatesBy (λ x y. slice_cmp nat_cmp (bytes x) (bytes y)) (λ key. slice_cmp nat_cmp name (bytes key)) m n w → (other : List ℕ) → at n other ≡ cond (bytes_eq name other) w (at m other)
  changed name m n w h other = go (bytes_eq name other) refl
    where
      go : (b : Bool) → bytes_eq name other ≡ b → at n other ≡ cond b w (at m other)
      go true e = subst (λ o. at n o ≡ w) ((bytes_decides name other).0 e) h.1
      go false e = other_entries _ _ _ _ h.3 _ (λ x y. (eq_by_cmp_equiv nat_list_cmp_total).congr other (bytes x) (bytes y)) (λ key. apart name other (bytes key) e)

-- ---- places

-- a name that is not among the first is at the end, or nowhere
place_at_end : (n : ℕ) (name : List ℕ) (front : List (List ℕ)) (last : List ℕ) → place_behind n name front ≡ None → place_behind n name (front ++ last ∷ []) ≡ cond (bytes_eq name last) (Some (n + length front)) None
place_at_end n name front last e = place_in_back n name front (last ∷ []) e ∙ ap (λ k. cond (bytes_eq name last) (Some k) None) (omega arith)

-- a place is one of the list
abbrev pub Within : ℕ → Option ℕ → Type 0
Within n None = Unit {0}
Within n (Some place) = place < n

place_within : (n : ℕ) (name : List ℕ) (names : List (List ℕ)) → Within (n + length names) (place_behind n name names)
place_within n name [] = tt
place_within n name (other ∷ names) = go (subst (λ k. Within k (place_behind (suc n) name names)) (omega arith) (place_within (suc n) name names)) (bytes_eq name other)
  where
    go : Within (n + length (other ∷ names)) (place_behind (suc n) name names) → (b : Bool) → Within (n + length (other ∷ names)) (cond b (Some n) (place_behind (suc n) name names))
    go others true = omega arith
    go others false = others

pub within : (name : List ℕ) (names : List (List ℕ)) → Within (length names) (place_of name names)
within name names = subst (λ k. Within k (place_of name names)) (omega arith) (place_within 0 name names)

-- a name has a place where it is among the names
among_behind : (n : ℕ) (name : List ℕ) (names : List (List ℕ)) → is_some (place_behind n name names) ≡ list_any (bytes_eq name) names
among_behind n name [] = refl
among_behind n name (other ∷ names) = go (among_behind (suc n) name names) (bytes_eq name other)
  where
    go : is_some (place_behind (suc n) name names) ≡ list_any (bytes_eq name) names → (b : Bool) → is_some (cond b (Some n) (place_behind (suc n) name names)) ≡ (b || list_any (bytes_eq name) names)
    go others true = refl
    go others false = others

pub among : (name : List ℕ) (names : List (List ℕ)) → is_some (place_of name names) ≡ list_any (bytes_eq name) names
among name names = among_behind 0 name names

-- the first of two places
abbrev first_of : Option ℕ → Option ℕ → Option ℕ
first_of None other = other
first_of (Some place) other = Some place

-- the place among names and one more
one_more : (other last : List ℕ) (names : List (List ℕ)) → place_of other (names ++ last ∷ []) ≡ first_of (place_of other names) (cond (bytes_eq last other) (Some (length names)) None)
one_more other last names = go (place_of other names) refl
  where
    go : (o : Option ℕ) → place_of other names ≡ o → place_of other (names ++ last ∷ []) ≡ first_of o (cond (bytes_eq last other) (Some (length names)) None)
    go None e = place_at_end 0 other names last e ∙ ap (λ b. cond b (Some (0 + length names)) None) (nat_list_eq_equiv.symm other last) ∙ ap (λ k. cond (bytes_eq last other) (Some k) None) (omega arith)
    go (Some place) e = place_in_front 0 other names (last ∷ []) place e

-- a name that stands there already leaves each place as it is
stays : (o : Option ℕ) (b : Bool) (n : ℕ) → (b ≡ true → is_some o ≡ true) → o ≡ first_of o (cond b (Some n) None)
stays (Some place) b n h = refl
stays None true n h = absurd (false≢true (h refl))
stays None false n h = refl

-- ---- a map that has each name at its first place

module _ {K : Type 0} (bytes : K → List ℕ) where
  abbrev pub Agrees : BTreeMap K ℕ → List (List ℕ) → Type 0
  Agrees m names = (name : List ℕ) → at bytes m name ≡ place_of name names

  -- a name that the map has
  pub again : (name : List ℕ) (m : BTreeMap K ℕ) (names : List (List ℕ)) → Agrees m names → is_some (at bytes m name) ≡ true → Agrees m (names ++ name ∷ [])
  again name m names h known other =
      h other
      ∙ stays (place_of other names) (bytes_eq name other) (length names) (λ e. subst (λ o. is_some (place_of o names) ≡ true) ((bytes_decides name other).0 e) (ap is_some (sym (h name)) ∙ known))
      ∙ sym (one_more other name names)

  -- one that it has not
  pub first : (name : List ℕ) (m n : BTreeMap K ℕ) (names : List (List ℕ)) → Agrees m names → is_some (at bytes m name) ≡ false
      → UpdatesBy (λ x y. slice_cmp nat_cmp (bytes x) (bytes y)) (λ key. slice_cmp nat_cmp name (bytes key)) m n (Some (length names)) → Agrees n (names ++ name ∷ [])
  first name m n names h unknown changes other = changed bytes name m n (Some (length names)) changes other ∙ go (bytes_eq name other) refl ∙ sym (one_more other name names)
    where
      new : (o : Option ℕ) → is_some o ≡ false → Some (length names) ≡ first_of o (Some (length names))
      new None e = refl
      new (Some place) e = absurd (false≢true (sym e))

      old : (o : Option ℕ) → o ≡ first_of o None
      old None = refl
      old (Some place) = refl

      go : (b : Bool) → bytes_eq name other ≡ b → cond b (Some (length names)) (at bytes m other) ≡ first_of (place_of other names) (cond b (Some (length names)) None)
      go true e = new (place_of other names) (subst (λ o. is_some (place_of o names) ≡ false) ((bytes_decides name other).0 e) (ap is_some (sym (h name)) ∙ unknown))
      go false e = h other ∙ old (place_of other names)

  -- without its last name, whose first place was another
  pub shorter : (name : List ℕ) (m : BTreeMap K ℕ) (names : List (List ℕ)) → Agrees m (names ++ name ∷ []) → option_eq nat_eq (at bytes m name) (Some (length names)) ≡ false → Agrees m names
  shorter name m names h elsewhere other = h other ∙ one_more other name names ∙ sym (stays (place_of other names) (bytes_eq name other) (length names) (λ e. subst (λ o. is_some (place_of o names) ≡ true) ((bytes_decides name other).0 e) there))
    where
      here : (o : Option ℕ) → option_eq nat_eq (first_of o (Some (length names))) (Some (length names)) ≡ false → is_some o ≡ true
      here None e = absurd (false≢true (sym e ∙ eq-eqb (length names) (length names) refl))
      here (Some place) e = refl

      itself : place_of name (names ++ name ∷ []) ≡ first_of (place_of name names) (Some (length names))
      itself = one_more name name names ∙ ap (λ b. first_of (place_of name names) (cond b (Some (length names)) None)) (nat_list_eq_equiv.refl name)

      there : is_some (place_of name names) ≡ true
      there = here (place_of name names) (ap (λ o. option_eq nat_eq o (Some (length names))) (sym (h name ∙ itself)) ∙ elsewhere)

  -- without its last name, whose first place that was
  pub forgotten : (name : List ℕ) (m n : BTreeMap K ℕ) (names : List (List ℕ)) → Agrees m (names ++ name ∷ []) → option_eq nat_eq (at bytes m name) (Some (length names)) ≡ true
      → UpdatesBy (λ x y. slice_cmp nat_cmp (bytes x) (bytes y)) (λ key. slice_cmp nat_cmp name (bytes key)) m n None → Agrees n names
  forgotten name m n names h here changes other = changed bytes name m n None changes other ∙ go (bytes_eq name other) refl
    where
      itself : place_of name (names ++ name ∷ []) ≡ first_of (place_of name names) (Some (length names))
      itself = one_more name name names ∙ ap (λ b. first_of (place_of name names) (cond b (Some (length names)) None)) (nat_list_eq_equiv.refl name)

      nowhere : (o : Option ℕ) → Within (length names) o → option_eq nat_eq (first_of o (Some (length names))) (Some (length names)) ≡ true → None ≡ o
      nowhere None w e = refl
      nowhere (Some place) w e = absurd (below place w e)
        where
          below : (place : ℕ) → place < length names → nat_eq place (length names) ≡ true → ⊥
          below place w e = omega (arith, eqb-true place (length names) e)

      gone : None ≡ place_of name names
      gone = nowhere (place_of name names) (within name names) (ap (λ o. option_eq nat_eq o (Some (length names))) (sym (h name ∙ itself)) ∙ here)

      old : (o : Option ℕ) → first_of o None ≡ o
      old None = refl
      old (Some place) = refl

      go : (b : Bool) → bytes_eq name other ≡ b → cond b None (at bytes m other) ≡ place_of other names
      go true e = subst (λ o. None ≡ place_of o names) ((bytes_decides name other).0 e) gone
      go false e = h other ∙ one_more other name names ∙ ap (λ b. first_of (place_of other names) (cond b (Some (length names)) None)) e ∙ old (place_of other names)

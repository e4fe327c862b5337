-- The first item of a name stands at the place of the name.
use Rattle.std.proofs.Common.{◌≡◌, ℕ, ◌+◌, Bool, true, false, cond, List, [], ◌∷◌, Option, None, Some, option_map, map, refl, ap, sym, ◌∙◌, slice_get, one-add}
use Rattle.std.specs.Str.{bytes_eq}
use Rattle.name_index.specs.Names.{named, place_behind, place_of}
use Rattle.name_index.proofs.Places.{place_moved}

module _ {A : Type 0} (name_of : A → List ℕ) where
  -- what stands at a place, if there is one
  abbrev standing : List A → Option ℕ → Option A
  standing items None = None
  standing items (Some place) = slice_get items place

  moved : (item : A) (items : List A) (o : Option ℕ) → standing (item ∷ items) (option_map (λ place. 1 + place) o) ≡ standing items o
  moved item items None = refl
  moved item items (Some place) = ap (slice_get (item ∷ items)) (one-add place)

  named_stands : (name : List ℕ) (items : List A) → standing items (place_of name (map name_of items)) ≡ named name_of name items
  named_stands name [] = refl
  named_stands name (item ∷ items) = go (ap (standing (item ∷ items)) (place_moved 1 0 name (map name_of items)) ∙ moved item items (place_of name (map name_of items)) ∙ named_stands name items) (bytes_eq name (name_of item))
    where
      go : standing (item ∷ items) (place_behind 1 name (map name_of items)) ≡ named name_of name items → (b : Bool) → standing (item ∷ items) (cond b (Some 0) (place_behind 1 name (map name_of items))) ≡ cond b (Some item) (named name_of name items)
      go others true = refl
      go others false = others

  pub named_missing : (name : List ℕ) (items : List A) → place_of name (map name_of items) ≡ None → named name_of name items ≡ None
  named_missing name items e = sym (named_stands name items) ∙ ap (standing items) e

  pub named_there : (name : List ℕ) (items : List A) (place : ℕ) → place_of name (map name_of items) ≡ Some place → named name_of name items ≡ slice_get items place
  named_there name items place e = sym (named_stands name items) ∙ ap (standing items) e

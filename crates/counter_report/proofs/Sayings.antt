-- What a report says, written one after another.
use Rattle.std.proofs.Common.{◌≡◌, ℕ, List, [], ◌++◌, sym, ap, ◌∙◌}
use Rattle.std.specs.List.{flat_map}
use Rattle.std.proofs.lemmas.Grind.{flat_map-append}

-- what is added behind the text of some items is the text of more
added : {X : Type 0} (f : X → List ℕ) (xs ys : List X) (before after : List ℕ) → before ≡ flat_map f xs → after ≡ before ++ flat_map f ys → after ≡ flat_map f (xs ++ ys)
added f xs ys before after b a = a ∙ ap (λ text. text ++ flat_map f ys) b ∙ sym (flat_map-append f xs ys)

-- four texts that were added one behind the other
pub four : {X : Type 0} (f : X → List ℕ) (a b c d : List X) (none first second third all : List ℕ) → none ≡ [] → first ≡ none ++ flat_map f a → second ≡ first ++ flat_map f b → third ≡ second ++ flat_map f c → all ≡ third ++ flat_map f d → all ≡ flat_map f (a ++ b ++ c ++ d)
four f a b c d none first second third all n p q r s =
    added f (a ++ b ++ c) d third all (added f (a ++ b) c second third (added f a b first second (p ∙ ap (λ text. text ++ flat_map f a) n) q) r) s

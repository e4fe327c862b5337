use Rattle.std.proofs.Common.{rules, ◌≡◌, ◌++◌, ◌∷◌, [], sym, ap₂, subst, ◌∙◌, length, ℕ, None, Some, nat_cmp, nat_eq, true, false, Vec, Global}
use Rattle.std.specs.BTreeMap.{UpdatesBy}
use Rattle.std.specs.Cmp.Lexicographic.{slice_cmp}
use Rattle.std.specs.Option.{option_eq}
use Rattle.name_index.proofs.IndexLaws.{Agrees, at, forgotten, shorter}
use Rattle.name_index.proofs.NameIndex.pop.Goals as goal

pub invariant_of-self-then-eq : goal.invariant_of-self-then-eq
invariant_of-self-then-eq c =
    let bytes = λ (key : Vec ℕ Global). key.items in
    let m = c.self.inside.places in
    let names = c.pop.new.self.items in
    let name = c.as_slice.result.now in
    let before : c.self.inside.names.items ≡ names ++ name ∷ [] = search rules in
    let len : c.len.result ≡ length names = search rules in
    let here : option_eq nat_eq (at bytes m name) (Some (length names)) ≡ true = ap₂ (λ o n. option_eq nat_eq o (Some n)) (sym (c.copied.ensures ∙ c.get.ensures.value)) (sym len) ∙ sym c.eq.ensures ∙ c.if-eq.true in
    let changes = subst (λ o. UpdatesBy (λ x y. slice_cmp nat_cmp (bytes x) (bytes y)) (λ key. slice_cmp nat_cmp o (bytes key)) m c.remove.new.self None) (c.as_slice-then-eq.ensures.value ∙ sym c.as_slice.ensures.value) c.remove.ensures.updates in
    forgotten bytes name m c.remove.new.self names (subst (Agrees bytes m) before c.self.invariant) here changes

pub invariant_of-self-else-eq : goal.invariant_of-self-else-eq
invariant_of-self-else-eq c =
    let bytes = λ (key : Vec ℕ Global). key.items in
    let m = c.self.inside.places in
    let names = c.pop.new.self.items in
    let name = c.as_slice.result.now in
    let before : c.self.inside.names.items ≡ names ++ name ∷ [] = search rules in
    let len : c.len.result ≡ length names = search rules in
    let elsewhere : option_eq nat_eq (at bytes m name) (Some (length names)) ≡ false = ap₂ (λ o n. option_eq nat_eq o (Some n)) (sym (c.copied.ensures ∙ c.get.ensures.value)) (sym len) ∙ sym c.eq.ensures ∙ c.if-eq.false in
    shorter bytes name m names (subst (Agrees bytes m) before c.self.invariant) elsewhere

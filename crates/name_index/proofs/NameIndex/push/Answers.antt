use Rattle.std.proofs.Common.{rules, ◌-◌, nat_cmp, ◌≡◌, ◌++◌, ◌∷◌, [], sym, subst, ◌∙◌, length, ℕ, Some, is_some, true, false, Vec, Global}
use Rattle.std.specs.BTreeMap.{UpdatesBy}
use Rattle.std.specs.Cmp.Lexicographic.{slice_cmp}
use Rattle.name_index.proofs.IndexLaws.{Agrees, again, at, first}
use Rattle.name_index.proofs.NameIndex.push.Goals as goal

pub invariant_of-self-then-contains_key : goal.invariant_of-self-then-contains_key
invariant_of-self-then-contains_key c =
    let bytes = λ (key : Vec ℕ Global). key.items in
    let m = c.self.inside.places in
    let names = c.self.inside.names.items in
    let name = c.args.name.now in
    let now : names ++ name ∷ [] ≡ c.push.new.self.items = search rules in
    let known : is_some (at bytes m name) ≡ true = subst (λ o. is_some (at bytes m o) ≡ true) c.as_slice.ensures.value (sym c.contains_key.ensures ∙ c.if-contains_key.true) in
    subst (Agrees bytes m) now (again bytes name m names c.self.invariant known)

pub invariant_of-self-in-Ok : goal.invariant_of-self-in-Ok
invariant_of-self-in-Ok c =
    let bytes = λ (key : Vec ℕ Global). key.items in
    let m = c.self.inside.places in
    let names = c.self.inside.names.items in
    let name = c.in_ok-key.key.items in
    let copied : c.in_ok-key.key.items ≡ c.args.name.now = search rules in
    let now : names ++ name ∷ [] ≡ c.push-2.new.self.items = search rules in
    let unknown : is_some (at bytes m name) ≡ false = subst (λ o. is_some (at bytes m o) ≡ false) (c.as_slice.ensures.value ∙ sym copied) (sym c.contains_key.ensures ∙ c.if-contains_key.false) in
    let place : c.len-place.result - 1 ≡ length names = search rules in
    let changes = subst (λ n. UpdatesBy (λ x y. slice_cmp nat_cmp (bytes x) (bytes y)) (λ key. slice_cmp nat_cmp name (bytes key)) m c.insert.new.self (Some n)) place c.in-Ok.ensures.updates in
    subst (Agrees bytes c.insert.new.self) now (first bytes name m c.insert.new.self names c.self.invariant unknown changes)

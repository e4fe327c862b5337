use Rattle.std.proofs.Common.{◌≡◌, ◌++◌, ◌+◌, ◌<◌, ℕ, zero, suc, List, [], ◌∷◌, get_or, take, drop, length, sym, ap, ◌∙◌, subst, add-one, append_assoc, arith}
use Rattle.std.specs.List.{AllByRecursion, flat_map}
use Rattle.std.proofs.lemmas.List.{at_drop_more}
use Rattle.partition_shuffle.specs.SpillTexts.{section_text}
use Rattle.partition_shuffle.specs.steps.Lengths.{IsShort}
use Rattle.partition_shuffle.proofs.encoding.push_sections.Goals as goal

written : {A : Type 0} (f : A → List ℕ) (xs : List A) (i : ℕ) (x : A) (old new whole : List ℕ) → i < length xs → x ≡ get_or xs i x → new ≡ old ++ f x → old ++ flat_map f (drop i xs) ≡ whole → new ++ flat_map f (drop (i + 1) xs) ≡ whole
written f xs i x old new whole l e pushed so_far =
    ap (λ bytes. bytes ++ flat_map f (drop (i + 1) xs)) pushed
    ∙ append_assoc old (f x) (flat_map f (drop (i + 1) xs))
    ∙ ap (λ y. old ++ (f y ++ flat_map f (drop (i + 1) xs))) e
    ∙ ap (λ bytes. old ++ bytes) (sym (at_drop_more (λ ys. flat_map f ys) xs i x l))
    ∙ so_far

next_all : {A : Type 0} (P : A → Type 0) (xs : List A) (i : ℕ) (x : A) → i < length xs → x ≡ get_or xs i x → AllByRecursion P (take i xs) → P x → AllByRecursion P (take (suc i) xs)
next_all P [] i x l e a p = absurd (omega arith)
next_all P (y ∷ ys) zero x l e a p = (subst P e p, tt)
next_all P (y ∷ ys) (suc i) x l e a p = (a.0, next_all P ys i x (omega arith) e a.1 p)

one_more : {A : Type 0} (P : A → Type 0) (xs : List A) (i : ℕ) (x : A) → i < length xs → x ≡ get_or xs i x → AllByRecursion P (take i xs) → P x → AllByRecursion P (take (i + 1) xs)
one_more P xs i x l e a p = rw add-one (next_all P xs i x l e a p)

pub parts-preserved : goal.parts-preserved
parts-preserved c =
    let schema = c.args.schema.now in
    let parts = c.as_slice-rows-items.result.now in (
      written (section_text schema) parts c.parts.rows-index c.rows-item.result c.parts.out.items c.push_section.new.out.items (c.args.out.now.items ++ flat_map (section_text schema) parts) c.parts-test.true c.rows-item.is c.in_ok-push_section.ensures.pushed c.parts.invariant.0,
      one_more (IsShort schema) parts c.parts.rows-index c.rows-item.result c.parts-test.true c.rows-item.is c.parts.invariant.1 c.in_ok-push_section.ensures.short,
    )

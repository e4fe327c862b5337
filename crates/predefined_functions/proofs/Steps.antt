-- A loop that adds what each item gives.
use Rattle.std.proofs.Common.{◌≡◌, List, ◌∷◌, ◌++◌, sym, ap, ◌∙◌, ℕ, ◌+◌, ◌<◌, length, drop, get_or, append_assoc}
use Rattle.std.specs.List.{flat_map}
use Rattle.std.proofs.lemmas.List.{drop_more}
use Rattle.hal_base.specs.declared.record.Record.{Record}

-- one item further
pub one_further : {A : Type 0} (given : A → List Record) (items : List A) (i : ℕ) (item : A) (out more whole : List Record)
    → i < length items → item ≡ get_or items i item → more ≡ out ++ given item → out ++ flat_map given (drop i items) ≡ whole
    → more ++ flat_map given (drop (i + 1) items) ≡ whole
one_further given items i item out more whole l e added so_far =
    ap (λ o. o ++ flat_map given (drop (i + 1) items)) added
    ∙ append_assoc out (given item) (flat_map given (drop (i + 1) items))
    ∙ ap (λ rest. out ++ rest) (sym (ap (λ d. flat_map given d) (drop_more items i item l ∙ ap (λ x. x ∷ drop (i + 1) items) (sym e))))
    ∙ so_far

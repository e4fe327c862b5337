-- The least field list, group by group.
use Rattle.std.proofs.Common.{◌≡◌, List, [], ◌∷◌, ◌++◌, Option, Some, refl, sym, ap, ◌∙◌, ℕ, ◌+◌, ◌<◌, length, drop, get_or}
use Rattle.std.specs.List.{flat_map}
use Rattle.std.proofs.lemmas.List.{drop_more}
use Rattle.hal_base.specs.declared.value.Value.{Value}
use Rattle.plain_job.specs.Predefined.{least_of, lesser}

least_of-append : (best : Option (List Value)) (xs ys : List (List Value)) → least_of best (xs ++ ys) ≡ least_of (least_of best xs) ys
least_of-append best [] ys = refl
least_of-append best (x ∷ xs) ys = least_of-append (Some (lesser best x)) xs ys

pub least_step : (best : Option (List Value)) (groups : List (List (List Value))) (i : ℕ) (g : List (List Value)) → i < length groups → g ≡ get_or groups i g → least_of best (flat_map (λ group. group) (drop i groups)) ≡ least_of (least_of best g) (flat_map (λ group. group) (drop (i + 1) groups))
least_step best groups i g l e =
    ap (λ d. least_of best (flat_map (λ group. group) d)) (drop_more groups i g l ∙ ap (λ x. x ∷ drop (i + 1) groups) (sym e))
    ∙ least_of-append best g (flat_map (λ group. group) (drop (i + 1) groups))

-- Each field list, group by group.
use Rattle.std.proofs.Common.{◌≡◌, List, [], ◌∷◌, ◌++◌, refl, sym, ap, ◌∙◌, ℕ, ◌+◌, ◌<◌, length, drop, get_or, map}
use Rattle.std.specs.List.{flat_map}
use Rattle.hal_base.specs.declared.value.Value.{Value}
use Rattle.hal_base.specs.declared.record.Record.{Record}
use Rattle.plain_job.specs.Predefined.{made}
use Rattle.predefined_functions.proofs.Steps.{one_further}

rows-append : (key : Value) (xs ys : List (List Value)) → map (λ fields. made key fields) (xs ++ ys) ≡ map (λ fields. made key fields) xs ++ map (λ fields. made key fields) ys
rows-append key [] ys = refl
rows-append key (x ∷ xs) ys = ap (λ l. made key x ∷ l) (rows-append key xs ys)

rows_of_all : (key : Value) (groups : List (List (List Value))) → map (λ fields. made key fields) (flat_map (λ group. group) groups) ≡ flat_map (λ group. map (λ fields. made key fields) group) groups
rows_of_all key [] = refl
rows_of_all key (g ∷ groups) = rows-append key g (flat_map (λ group. group) groups) ∙ ap (λ rest. map (λ fields. made key fields) g ++ rest) (rows_of_all key groups)

-- one group further
pub every_further : (key : Value) (groups : List (List (List Value))) (i : ℕ) (g : List (List Value)) (out more whole : List Record)
    → i < length groups → g ≡ get_or groups i g → more ≡ out ++ map (λ fields. made key fields) g
    → out ++ map (λ fields. made key fields) (flat_map (λ group. group) (drop i groups)) ≡ whole
    → more ++ map (λ fields. made key fields) (flat_map (λ group. group) (drop (i + 1) groups)) ≡ whole
every_further key groups i g out more whole l e added so_far =
    ap (λ rest. more ++ rest) (rows_of_all key (drop (i + 1) groups))
    ∙ one_further (λ (group : List (List Value)). map (λ fields. made key fields) group) groups i g out more whole l e added
    (ap (λ rest. out ++ rest) (sym (rows_of_all key (drop i groups))) ∙ so_far)

-- The orders of values and of records are total, and what they do not tell apart is equal.
use Rattle.std.proofs.Common.{◌≡◌, List, [], ◌∷◌, refl, ap, ◌∙◌, Ordering, Less, Equal, Greater}
use Rattle.std.specs.Ordering.{ordering_then, ordering_reverse}
use Rattle.std.specs.Cmp.{IsTotalOrder}
use Rattle.std.specs.Cmp.Lexicographic.{slice_cmp}
use Rattle.std.proofs.lemmas.Cmp.{int_cmp_total, nat_list_cmp_total, lists_total, on_total, then_total}
use Rattle.std.proofs.lemmas.Map.Lookups.{CmpEqualImpliesEq, exact_signed, exact_bytes}
use Rattle.hal_base.specs.declared.value.Value.{Value}
use Rattle.hal_base.specs.declared.value.Value.TheVariants.{Int, Text}
use Rattle.hal_base.specs.declared.record.Record.{Record}
use Rattle.hal_base.specs.Order.{value_cmp, record_cmp}

antisymm : (x y : Value) → value_cmp x y ≡ ordering_reverse (value_cmp y x)
antisymm (Int x) (Int y) = int_cmp_total.antisymm x y
antisymm (Int x) (Text t) = refl
antisymm (Text s) (Int y) = refl
antisymm (Text s) (Text t) = nat_list_cmp_total.antisymm s t

trans : (x y z : Value) → value_cmp x y ≡ Less → value_cmp y z ≡ Less → value_cmp x z ≡ Less
trans (Int x) (Int y) (Int z) p q = int_cmp_total.trans x y z p q
trans (Int x) (Int y) (Text z) p q = refl
trans (Int x) (Text y) (Int z) p q = cc
trans (Int x) (Text y) (Text z) p q = refl
trans (Text x) (Int y) z p q = cc
trans (Text x) (Text y) (Int z) p q = cc
trans (Text x) (Text y) (Text z) p q = nat_list_cmp_total.trans x y z p q

congr : (x y z : Value) → value_cmp x y ≡ Equal → value_cmp x z ≡ value_cmp y z
congr (Int x) (Int y) (Int z) p = int_cmp_total.congr x y z p
congr (Int x) (Int y) (Text z) p = refl
congr (Int x) (Text y) z p = cc
congr (Text x) (Int y) z p = cc
congr (Text x) (Text y) (Int z) p = refl
congr (Text x) (Text y) (Text z) p = nat_list_cmp_total.congr x y z p

pub value_cmp_total : IsTotalOrder value_cmp
value_cmp_total = record { antisymm = antisymm; trans = trans; congr = congr }

pub fields_cmp_total : IsTotalOrder (slice_cmp value_cmp)
fields_cmp_total = lists_total value_cmp_total

pub record_cmp_total : IsTotalOrder record_cmp
record_cmp_total = then_total (on_total (λ (r : Record). r.key) value_cmp_total) (on_total (λ (r : Record). r.fields) fields_cmp_total)

pub value_cmp_exact : CmpEqualImpliesEq value_cmp
value_cmp_exact (Int x) (Int y) h = ap Int (exact_signed x y h)
value_cmp_exact (Int x) (Text y) h = cc
value_cmp_exact (Text x) (Int y) h = cc
value_cmp_exact (Text x) (Text y) h = ap Text (exact_bytes x y h)

unlike : Less ≡ Equal → ⊥
unlike h = cc

unlike_too : Greater ≡ Equal → ⊥
unlike_too h = cc

both : (v s : Ordering) → ordering_then v s ≡ Equal → (v ≡ Equal) × (s ≡ Equal)
both Less s h = absurd (unlike h)
both Equal s h = (refl, h)
both Greater s h = absurd (unlike_too h)

abbrev made : Value → List Value → Record
made k fields = record { key = k; fields = fields }

pub fields_exact : (xs ys : List Value) → slice_cmp value_cmp xs ys ≡ Equal → xs ≡ ys
fields_exact [] [] h = refl
fields_exact [] (y ∷ ys) h = cc
fields_exact (x ∷ xs) [] h = cc
fields_exact (x ∷ xs) (y ∷ ys) h =
    let p = both (value_cmp x y) (slice_cmp value_cmp xs ys) h in
    let e = value_cmp_exact x y p.0 in
    let t = fields_exact xs ys p.1 in cc

pub record_cmp_exact : CmpEqualImpliesEq record_cmp
record_cmp_exact a b h =
    let p = both (value_cmp a.key b.key) (slice_cmp value_cmp a.fields b.fields) h in
    let e = value_cmp_exact a.key b.key p.0 in
    let f = fields_exact a.fields b.fields p.1 in
    ap (λ k. made k a.fields) e ∙ ap (λ fs. made b.key fs) f

-- Plans and the calls that were made, one after another.
use Rattle.std.proofs.Common.{◌≡◌, List, [], ◌∷◌, ◌++◌, refl, sym, ap, subst}
use Rattle.run_model.specs.Plans.{Plan, gives, refuses, does, asks, ◌>>=◌, Made, Leaves}

-- what is left after some calls, and then after more
pub leaves_more : {A : Type 0} (plan middle rest : Plan A) (made more : List Made) → Leaves plan made middle → Leaves middle more rest → Leaves plan (made ++ more) rest
leaves_more plan middle rest [] more a b = subst (λ p. Leaves p more rest) (sym a) b
leaves_more (gives x) middle rest (m ∷ made) more a b = elim a [ ]
leaves_more (refuses c why) middle rest (m ∷ made) more a b = elim a [ ]
leaves_more (does call plan) middle rest (m ∷ made) more a b = (a.0, leaves_more plan middle rest made more a.1 b)
leaves_more (asks node name next) middle rest (m ∷ made) more a b = (a.0, leaves_more (next m.missed) middle rest made more a.1 b)

-- what is left of a plan and then another, once the first has given something
pub leaves_then : {A B : Type 0} (plan rest : Plan A) (f : A → Plan B) (made : List Made) → Leaves plan made rest → Leaves (plan >>= f) made (rest >>= f)
leaves_then plan rest f [] a = ap (λ p. p >>= f) a
leaves_then (gives x) rest f (m ∷ made) a = elim a [ ]
leaves_then (refuses c why) rest f (m ∷ made) a = elim a [ ]
leaves_then (does call plan) rest f (m ∷ made) a = (a.0, leaves_then plan rest f made a.1)
leaves_then (asks node name next) rest f (m ∷ made) a = (a.0, leaves_then (next m.missed) rest f made a.1)

-- what a plan and then another gave is what the second gave, from what the first gave
pub record Split {A B : Type 0} (plan : Plan A) (f : A → Plan B) (made : List Made) (x : B) : Type 0 where
  pub first : List Made
  pub given : A
  pub second : List Made
  pub both : made ≡ first ++ second
  pub begins : Leaves plan first (gives given)
  pub goes_on : Leaves (f given) second (gives x)

pub leaves_split : {A B : Type 0} (plan : Plan A) (f : A → Plan B) (made : List Made) (x : B) → Leaves (plan >>= f) made (gives x) → Split plan f made x
leaves_split (gives a) f made x h = record { first = []; given = a; second = made; both = refl; begins = refl; goes_on = h }
leaves_split (refuses c why) f [] x h = absurd (unlike h)
  where
    unlike : refuses c why ≡ gives x → ⊥
    unlike e = cc
leaves_split (refuses c why) f (m ∷ made) x h = elim h [ ]
leaves_split (does call plan) f [] x h = absurd (unlike h)
  where
    unlike : does call (plan >>= f) ≡ gives x → ⊥
    unlike e = cc
leaves_split (does call plan) f (m ∷ made) x h =
    let s = leaves_split plan f made x h.1 in
    record { first = m ∷ s.first; given = s.given; second = s.second; both = ap (λ ms. m ∷ ms) s.both; begins = (h.0, s.begins); goes_on = s.goes_on }
leaves_split (asks node name next) f [] x h = absurd (unlike h)
  where
    unlike : asks node name (λ missed. next missed >>= f) ≡ gives x → ⊥
    unlike e = cc
leaves_split (asks node name next) f (m ∷ made) x h =
    let s = leaves_split (next m.missed) f made x h.1 in
    record { first = m ∷ s.first; given = s.given; second = s.second; both = ap (λ ms. m ∷ ms) s.both; begins = (h.0, s.begins); goes_on = s.goes_on }

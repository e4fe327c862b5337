-- A list that grows keeps what was there.
use Rattle.std.proofs.Common.{◌≡◌, List, [], ◌∷◌, ◌++◌, refl, sym, ap, ◌∙◌, take, length, append_assoc, append-nil}
use Rattle.hal_base.specs.declared.record.Record.{Record}
use Rattle.predefined_functions.specs.steps.Extended.{Extends}

take_front : (xs ys : List Record) → take (length xs) (xs ++ ys) ≡ xs
take_front [] ys = refl
take_front (x ∷ xs) ys = ap (λ l. x ∷ l) (take_front xs ys)

-- nothing was added
pub extends_same : (old new : List Record) → new ≡ old → Extends old new
extends_same old new e = ([], e ∙ sym (append-nil old))

-- it grew twice
pub extends_twice : (old new newer : List Record) → Extends old new → Extends new newer → Extends old newer
extends_twice old new newer a b = (a.0 ++ b.0, b.1 ∙ ap (λ l. l ++ b.0) a.1 ∙ append_assoc old a.0 b.0)

-- these were added
pub extends_by : (old new newer more : List Record) → Extends old new → newer ≡ new ++ more → Extends old newer
extends_by old new newer more a e = extends_twice old new newer a (more, e)

-- what was there comes back
pub extends_back : (old new back : List Record) → Extends old new → back ≡ take (length old) new → back ≡ old
extends_back old new back a e = e ∙ ap (λ l. take (length old) l) a.1 ∙ take_front old a.0

-- What a check finds right, or the first fault.
use Rattle.std.specs.Prelude.{Result, Ok, Err}
use Rattle.type_checker.specs.declared.fault.TypeFault.{TypeFault}

-- something, or the first fault of kinds and scopes
abbrev pub Checked : Type 0 → Type 0
Checked A = Result A TypeFault

infixl 10 ◌>>=◌
-- goes on with what is right, to the first fault
abbrev pub ◌>>=◌ : {A B E : Type 0} → Result A E → (A → Result B E) → Result B E
(Ok a) >>= f = f a
(Err fault) >>= f = Err fault

infixl 10 ◌>>◌
-- goes on where all is right
abbrev pub ◌>>◌ : {A B E : Type 0} → Result A E → Result B E → Result B E
(Ok a) >> b = b
(Err fault) >> b = Err fault

-- all is right
abbrev pub fine : {E : Type 0} → Result (Unit {0}) E
fine = Ok tt

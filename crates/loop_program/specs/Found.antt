-- What is found, or the first fault.
use Rattle.std.specs.Prelude.{ℕ, Bool, cond, List, [], ◌∷◌, Option, None, Some, Result, Ok, Err}
use Rattle.type_checker.specs.Checked.{fine, ◌>>=◌}
use Rattle.program_sketch.specs.declared.fault.What.{What}
use Rattle.program_sketch.specs.declared.fault.ProgramFault.{ProgramFault}
use Rattle.program_sketch.specs.declared.fault.ProgramFault.TheVariants.{At}

-- something, or what is wrong in which line
abbrev pub Found : Type 0 → Type 0
Found A = Result A ProgramFault

-- this is wrong in this line, unless the test passes
abbrev pub demand : Bool → ℕ → What → Found (Unit {0})
demand test line what = cond test fine (Err (At line what))

-- what is there; where nothing is, this is wrong in this line
abbrev pub or_wrong : {A : Type 0} → Option A → ℕ → What → Found A
or_wrong None line what = Err (At line what)
or_wrong (Some a) line what = Ok a

-- what is found for each of these, in order
abbrev pub each : {A B : Type 0} → (A → Found B) → List A → Found (List B)
each f [] = Ok []
each f (x ∷ xs) = do
  y ← f x
  ys ← each f xs
  Ok (y ∷ ys)

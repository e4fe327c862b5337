-- What was found where a chain found something.
use Rattle.std.proofs.Common.{ℕ, zero, suc, ◌≡◌, ◌≤◌, Bool, true, false, Ok, Err, List, [], ◌∷◌, length, Option, None, Some, refl, ap, sym, arith}
use Rattle.std.specs.List.{AllByRecursion}
use Rattle.program_sketch.specs.declared.fault.What.{What}
use Rattle.program_sketch.specs.declared.fault.ProgramFault.{ProgramFault}
use Rattle.type_checker.proofs.Binding.{bind_ok, then_ok}
use Rattle.loop_program.specs.Found.{Found, demand, each, or_wrong}
use Rattle.loop_program.specs.Limits.{expect, few}
use Rattle.type_checker.specs.Checked.{fine}

pub no_fault : {A : Type 0} (fault : ProgramFault) (a : A) → Err fault ≡ Ok a → ⊥
no_fault fault a e = cc

abbrev found_ok : {A : Type 0} → A → Found A
found_ok a = Ok a

pub ok_same : {A : Type 0} {a b : A} → found_ok a ≡ found_ok b → a ≡ b
ok_same e = cc

pub demanded : (test : Bool) (line : ℕ) (what : What) (u : Unit {0}) → demand test line what ≡ Ok u → test ≡ true
demanded true line what u e = refl
demanded false line what u e = absurd (no_fault _ u e)

pub expected : (test : Bool) (line : ℕ) (u : Unit {0}) → expect test line ≡ Ok u → test ≡ true
expected true line u e = refl
expected false line u e = absurd (no_fault _ u e)

pub is_there : {A : Type 0} (o : Option A) (line : ℕ) (what : What) (a : A) → or_wrong o line what ≡ Ok a → o ≡ Some a
is_there None line what a e = absurd (no_fault _ a e)
is_there (Some b) line what a e = ap Some (ok_same e)

not_one : {B : Type 0} (y : B) (ys : List B) → [] ≡ y ∷ ys → ⊥
not_one y ys e = cc

-- what is found for each of a list is as long
pub each_length : {A B : Type 0} (f : A → Found B) (xs : List A) (ys : List B) → each f xs ≡ Ok ys → length ys ≡ length xs
each_length f [] [] e = refl
each_length f [] (y ∷ ys) e = absurd (not_one y ys (ok_same e))
each_length f (x ∷ xs) ys e =
    let first = bind_ok (f x) _ ys e in
    let rest = bind_ok (each f xs) _ ys first.2 in
    let same : first.0 ∷ rest.0 ≡ ys = ok_same rest.2 in
    rw (sym same) (ap suc (each_length f xs rest.0 rest.1))

-- there are few of those that are few
pub few_length : {A : Type 0} (line : A → ℕ) (within : A → Found (Unit {0})) (most : ℕ) (xs : List A) (u : Unit {0}) → few line within most xs ≡ Ok u → length xs ≤ most
few_length line within most [] u e = omega arith
few_length line within zero (x ∷ xs) u e = absurd (no_fault _ u e)
few_length line within (suc most) (x ∷ xs) u e =
    let rest = then_ok (within x) (few line within most xs) u e in
    let l = few_length line within most xs u rest.2 in
    omega arith

-- and each is within its limits
pub few_within : {A : Type 0} (line : A → ℕ) (within : A → Found (Unit {0})) (most : ℕ) (xs : List A) (u : Unit {0}) → few line within most xs ≡ Ok u → AllByRecursion (λ x. within x ≡ fine) xs
few_within line within most [] u e = tt
few_within line within zero (x ∷ xs) u e = absurd (no_fault _ u e)
few_within line within (suc most) (x ∷ xs) u e =
    let rest = then_ok (within x) (few line within most xs) u e in
    (rest.1, few_within line within most xs u rest.2)

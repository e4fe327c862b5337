-- The first of the faults of lines.
use Rattle.std.proofs.Common.{◌≡◌, List, [], ◌∷◌, ◌++◌, Some, refl, sym, ap, ◌∙◌, subst, append_assoc, append-nil}
use Rattle.schedule_text.specs.declared.fault.ScheduleFault.{ScheduleFault}
use Rattle.schedule_text.specs.declared.fault.ScheduleFault.TheVariants.{At, Memory}
use Rattle.schedule_text.specs.Faults.{Fault, IsFirst, faults_in}
use Rattle.schedule_text.specs.Lines.{Line, first}

-- a list of nothing has nothing at its front and nothing behind
pub none_before : {X : Type 0} (xs ys : List X) → xs ++ ys ≡ [] → xs ≡ []
none_before [] ys e = refl
none_before (x ∷ xs) ys e = cc

pub none_behind : {X : Type 0} (xs ys : List X) → xs ++ ys ≡ [] → ys ≡ []
none_behind [] ys e = e
none_behind (x ∷ xs) ys e = cc

front_first : {X : Type 0} (xs ys : List X) (x : X) → first xs ≡ Some x → first (xs ++ ys) ≡ Some x
front_first [] ys x e = cc
front_first (y ∷ xs) ys x e = e

-- the first fault stays the first, whatever follows
pub first_before : (fault : ScheduleFault) (xs ys : List Fault) → IsFirst fault xs → IsFirst fault (xs ++ ys)
first_before (At line what) xs ys e = front_first xs ys (line, what) e
first_before Memory xs ys e = tt

-- the first fault behind none is the first
pub first_behind : (fault : ScheduleFault) (xs ys : List Fault) → xs ≡ [] → IsFirst fault ys → IsFirst fault (xs ++ ys)
first_behind fault xs ys n e = subst (λ (zs : List Fault). IsFirst fault (zs ++ ys)) (sym n) e

module _ (judge : List Line → Line → List Fault) where
  -- the faults of lines, and of those behind them
  pub faults_in-append : (before xs ys : List Line) → faults_in judge before (xs ++ ys) ≡ faults_in judge before xs ++ faults_in judge (before ++ xs) ys
  faults_in-append before [] ys = ap (λ (b : List Line). faults_in judge b ys) (sym (append-nil before))
  faults_in-append before (x ∷ xs) ys =
      ap (λ (fs : List Fault). judge before x ++ fs) (faults_in-append (before ++ x ∷ []) xs ys)
      ∙ ap (λ (b : List Line). judge before x ++ (faults_in judge (before ++ x ∷ []) xs ++ faults_in judge b ys)) (append_assoc before (x ∷ []) xs)
      ∙ sym (append_assoc (judge before x) (faults_in judge (before ++ x ∷ []) xs) (faults_in judge (before ++ (x ∷ xs)) ys))

  -- one more line that is right
  pub right_further : (before : List Line) (line : Line) → faults_in judge [] before ≡ [] → judge before line ≡ [] → faults_in judge [] (before ++ line ∷ []) ≡ []
  right_further before line r e =
      faults_in-append [] before (line ∷ []) ∙ ap (λ (fs : List Fault). fs ++ (judge before line ++ [])) r ∙ ap (λ (fs : List Fault). fs ++ []) e

  -- the first fault of the line behind lines that are right
  pub fault_further : (fault : ScheduleFault) (before : List Line) (line : Line) (more : List Line) → faults_in judge [] before ≡ [] → IsFirst fault (judge before line) → IsFirst fault (faults_in judge [] (before ++ line ∷ more))
  fault_further fault before line more r e =
      subst (IsFirst fault) (sym (faults_in-append [] before (line ∷ more)))
      (first_behind fault (faults_in judge [] before) (faults_in judge before (line ∷ more)) r (first_before fault (judge before line) (faults_in judge (before ++ line ∷ []) more) e))

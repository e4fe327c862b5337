-- The words of a command.
use Rattle.std.proofs.Common.{◌≡◌, ℕ, ◌<◌, ◌≤◌, List, [], ◌∷◌, Option, None, Some, sym, subst, ◌∙◌, ap, codes, length, get_or, arith}
use Rattle.std.specs.Option.{IfSome}
use Rattle.haloop_run.specs.declared.words.Command.{Command}
use Rattle.haloop_run.specs.Words.{Asked, AskFor, AskToCheck, words_of}
use Rattle.haloop_run.specs.steps.Words.{asked_by, IsNamed}

pub three : {X : Type 0} (ws : List X) (a b c : X) → 3 ≤ length ws → length ws < 4 → a ≡ get_or ws 0 a → b ≡ get_or ws 1 b → c ≡ get_or ws 2 c → ws ≡ a ∷ b ∷ c ∷ []
three [] a b c l m e f g = absurd (omega arith)
three (p ∷ []) a b c l m e f g = absurd (omega arith)
three (p ∷ q ∷ []) a b c l m e f g = absurd (omega arith)
three (p ∷ q ∷ r ∷ []) a b c l m e f g = cc
three (p ∷ q ∷ r ∷ s ∷ ts) a b c l m e f g = absurd (omega arith)

pub four : {X : Type 0} (ws : List X) (a b c d : X) → 4 ≤ length ws → length ws < 5 → a ≡ get_or ws 0 a → b ≡ get_or ws 1 b → c ≡ get_or ws 2 c → d ≡ get_or ws 3 d → ws ≡ a ∷ b ∷ c ∷ d ∷ []
four [] a b c d l m e f g h = absurd (omega arith)
four (p ∷ []) a b c d l m e f g h = absurd (omega arith)
four (p ∷ q ∷ []) a b c d l m e f g h = absurd (omega arith)
four (p ∷ q ∷ r ∷ []) a b c d l m e f g h = absurd (omega arith)
four (p ∷ q ∷ r ∷ s ∷ []) a b c d l m e f g h = cc
four (p ∷ q ∷ r ∷ s ∷ t ∷ ts) a b c d l m e f g h = absurd (omega arith)

-- a command of the words' names is what they ask for
pub asked_for : (words : List (List ℕ)) (program : List ℕ) (schedule : Option (List ℕ)) (out : List ℕ) (r : Option Command) → words ≡ words_of program schedule out → IsNamed program schedule out r → IfSome r (λ command. AskFor words (asked_by command))
asked_for words program schedule out None e n = tt
asked_for words program schedule out (Some command) e n =
    subst (λ (a : Asked). AskFor words a) (sym n.0) (record { spelled = e; program_named = n.1; schedule_named = n.2; out_named = n.3 })

pub two : {X : Type 0} (ws : List X) (a b : X) → 2 ≤ length ws → length ws < 3 → a ≡ get_or ws 0 a → b ≡ get_or ws 1 b → ws ≡ a ∷ b ∷ []
two [] a b l m e f = absurd (omega arith)
two (p ∷ []) a b l m e f = absurd (omega arith)
two (p ∷ q ∷ []) a b l m e f = cc
two (p ∷ q ∷ r ∷ ts) a b l m e f = absurd (omega arith)

-- no words ask for two things
pub asked_apart : (words : List (List ℕ)) (asked : Asked) (program : List ℕ) → AskFor words asked → AskToCheck words program → ⊥
asked_apart words asked program a c = other asked.schedule (sym a.spelled ∙ c.spelled)
  where
    other : (s : Option (List ℕ)) → words_of asked.program s asked.out ≡ codes "check" ∷ program ∷ [] → ⊥
    other None e = omega (arith, ap length e)
    other (Some schedule) e = omega (arith, ap length e)

-- words ask for verdicts on one program
pub checked_once : (words : List (List ℕ)) (a b : List ℕ) → AskToCheck words a → AskToCheck words b → a ≡ b
checked_once words a b g h = same_second (sym g.spelled ∙ h.spelled)
  where
    same_second : codes "check" ∷ a ∷ [] ≡ codes "check" ∷ b ∷ [] → a ≡ b
    same_second e = cc

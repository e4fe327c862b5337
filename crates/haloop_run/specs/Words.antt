-- The words of a command.
use Rattle.std.specs.Prelude.{◌≡◌, ◌≢◌, ℕ, List, [], ◌∷◌, map, Option, None, Some, codes, string_bytes}
use Rattle.std.specs.Option.{IfSome}
use Rattle.std.specs.declared.string.String.{String}
use Rattle.std.specs.declared.alloc.Global.{Global}

-- what `run` and `plain` are asked: the names of the program's file, of the schedule's file for `run` and of none for `plain`, and of the folder for the part files
pub record Asked : Type 0 where
  pub program : List ℕ
  pub schedule : Option (List ℕ)
  pub out : List ℕ

-- the words that ask for this
abbrev pub words_of : List ℕ → Option (List ℕ) → List ℕ → List (List ℕ)
words_of program None out = codes "plain" ∷ program ∷ out ∷ []
words_of program (Some schedule) out = codes "run" ∷ program ∷ schedule ∷ out ∷ []

-- the words ask for this
pub record AskFor (words : List (List ℕ)) (asked : Asked) : Type 0 where
  pub spelled : words ≡ words_of asked.program asked.schedule asked.out
  pub program_named : asked.program ≢ []
  pub schedule_named : IfSome asked.schedule (λ name. name ≢ [])
  pub out_named : asked.out ≢ []

-- the words ask for the verdicts on the program of this file
pub record AskToCheck (words : List (List ℕ)) (program : List ℕ) : Type 0 where
  pub spelled : words ≡ codes "check" ∷ program ∷ []
  pub named : program ≢ []

-- the words ask neither for `run` nor for `plain`
abbrev pub AskForNone : List (List ℕ) → Type 0
AskForNone words = (asked : Asked) → AskFor words asked → ⊥

-- the words do not ask for verdicts
abbrev pub AskNoCheck : List (List ℕ) → Type 0
AskNoCheck words = (program : List ℕ) → AskToCheck words program → ⊥

-- the words are those of no command
abbrev pub IsUsage : List (List ℕ) → Type 0
IsUsage words = AskForNone words × AskNoCheck words

-- the bytes of each word
abbrev pub texts : List (String Global) → List (List ℕ)
texts words = map (λ word. string_bytes word) words

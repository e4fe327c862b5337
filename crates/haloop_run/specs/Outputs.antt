-- What a command leaves in the files: its part files.
use Rattle.std.specs.Prelude.{◌≡◌, ℕ, ◌+◌, ◌%◌, ◌/◌, ◌⊎◌, List, [], ◌∷◌, ◌++◌, Option, codes, take}
use Rattle.std.specs.FinMap as map
use Rattle.hal_base.specs.declared.record.Record.{Record}
use Rattle.hal_outside.specs.Told.{FileMap}
use Rattle.plain_job.specs.declared.ending.End.{End}
use Rattle.plain_job.specs.Ends.{IsChain}
use Rattle.loop_program.specs.Whole.{Whole}
use Rattle.haloop_run.specs.Words.{Asked}
use Rattle.haloop_run.specs.Inputs.{complete, ComesTo}
use Rattle.schedule_text.specs.declared.schedule.Schedule.{Schedule}
use Rattle.haloop_run.specs.Meanings.{meaning_of}

-- the byte of the last digit of a number
abbrev pub digit : ℕ → ℕ
digit n = 48 + n % 10

-- the name of a part file: the folder, and the number of the part in five digits
abbrev pub part_name : List ℕ → ℕ → List ℕ
part_name out part =
    out ++ codes "/part-" ++ digit (part / 10000) ∷ digit (part / 1000) ∷ digit (part / 100) ∷ digit (part / 10) ∷ digit part ∷ []

-- the files with these texts written as part files, of which the first has number n
abbrev pub with_parts : List ℕ → ℕ → List (List ℕ) → FileMap → FileMap
with_parts out n [] files = files
with_parts out n (text ∷ texts) files = with_parts out (n + 1) texts (map.insert files (part_name out n) text)

-- these are the first of the texts, of which the last may be there in part
abbrev pub AreFirstOf : List (List ℕ) → List (List ℕ) → Type 0
AreFirstOf texts [] = Unit {0}
AreFirstOf [] (written ∷ more) = ⊥
AreFirstOf (text ∷ texts) (written ∷ more) = ((written ≡ text) × AreFirstOf texts more) ⊎ ((more ≡ []) × (n : ℕ) × (written ≡ take n text))

-- the input is complete, and its chain ends in this round, in this way, with these texts of its parts
pub record Chained (files : FileMap) (asked : Asked) (rounds : ℕ) (end : End) (texts : List (List ℕ)) : Type 0 where
  pub program : Whole
  pub schedule : Option Schedule
  pub tables : List (List Record)
  pub comes : ComesTo files asked (complete program schedule tables)
  pub chain : IsChain (meaning_of program) program.shape tables texts rounds end

-- the files are as before, but for the part files, which have the texts of the chain's parts
pub record Leaves (asked : Asked) (rounds : ℕ) (end : End) (before after : FileMap) : Type 0 where
  pub texts : List (List ℕ)
  pub chained : Chained before asked rounds end texts
  pub changed : after ≡ with_parts asked.out 0 texts before

-- the files are as before, but for the first of the part files, of which the last may be there in part
pub record LeavesPart (asked : Asked) (before after : FileMap) : Type 0 where
  pub rounds : ℕ
  pub end : End
  pub texts : List (List ℕ)
  pub chained : Chained before asked rounds end texts
  pub written : List (List ℕ)
  pub first : AreFirstOf texts written
  pub changed : after ≡ with_parts asked.out 0 written before

-- the files are as before, but for part files, which have these texts
abbrev pub WritesParts : Asked → FileMap → FileMap → Type 0
WritesParts asked before after = (texts : List (List ℕ)) × (after ≡ with_parts asked.out 0 texts before)

-- the files are as before, but for some part files, of whatever texts
abbrev pub WritesSome : Asked → FileMap → FileMap → Type 0
WritesSome asked before after = (texts : List (List ℕ)) × (written : List (List ℕ)) × AreFirstOf texts written × (after ≡ with_parts asked.out 0 written before)

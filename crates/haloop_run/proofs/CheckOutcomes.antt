-- The input of `check` comes to one status.
use Rattle.std.proofs.Common.{◌≡◌, ℕ, List, Option, None, Some, refl, sym, subst, inl, inr}
use Rattle.std.specs.FinMap as map
use Rattle.hal_outside.specs.Told.{FileMap}
use Rattle.hal_outside.specs.Calls.{Tells}
use Rattle.hal_outside.specs.declared.files.Files.{Ghosts as Files}
use Rattle.cache_conditions.specs.Conditions.{verdicts}
use Rattle.cache_conditions.specs.Texts.{check_text}
use Rattle.loop_program.specs.Programs.{HasWrong, IsTextOfProgram}
use Rattle.loop_program.specs.Whole.{Whole}
use Rattle.haloop_run.specs.Inputs.{HasProgram, Outcome, ProgramComesTo, absent, bad_program, bad_schedule, bad_table, complete, not_built}
use Rattle.haloop_run.specs.Lines.{status_of}
use Rattle.haloop_run.specs.Statuses.{IsChecked}
use Rattle.haloop_run.specs.steps.Checks.{ProgramJudged}
use Rattle.haloop_run.specs.steps.Inputs.{IsProgramOf, NoProgram}

there_once : (o : Option (List ℕ)) (a b : List ℕ) → o ≡ Some a → o ≡ Some b → b ≡ a
there_once o a b d e = cc

not_there : (o : Option (List ℕ)) (a : List ℕ) → o ≡ None → o ≡ Some a → ⊥
not_there o a d e = cc

module _ (name : List ℕ) (files : FileMap) where
  no_file : map.get files name ≡ None → (other : Outcome) → ProgramComesTo files name other → status_of other ≡ 11
  no_file n (complete program schedule tables) c = absurd (not_there (map.get files name) c.0.text n c.0.there)
  no_file n (absent at) c = refl
  no_file n (bad_program line what) c = absurd (not_there (map.get files name) c.0 n c.1)
  no_file n (bad_schedule line what) c = absurd c
  no_file n not_built c = absurd c
  no_file n (bad_table table what) c = absurd c

  no_program : (text : List ℕ) → map.get files name ≡ Some text → ((program : Whole) → IsTextOfProgram text program → ⊥) → (other : Outcome) → ProgramComesTo files name other → status_of other ≡ 2
  no_program text there none (complete program schedule tables) c = absurd (none program (subst (λ (t : List ℕ). IsTextOfProgram t program) (there_once (map.get files name) text c.0.text there c.0.there) c.0.is_text))
  no_program text there none (absent at) c = absurd (not_there (map.get files name) text c.1 there)
  no_program text there none (bad_program line what) c = refl
  no_program text there none (bad_schedule line what) c = absurd c
  no_program text there none not_built c = absurd c
  no_program text there none (bad_table table what) c = absurd c

  -- a program that is not accepted
  pub judged_alone : (it : Outcome) → NoProgram name files it → ProgramJudged name files it
  judged_alone it (inl n) = subst (λ (o : Outcome). ProgramJudged name files o) (sym n.1) (record { comes = (refl, n.0); only = no_file n.0 })
  judged_alone it (inr n) = subst (λ (o : Outcome). ProgramJudged name files o) (sym n.5) (record { comes = (n.0, n.1, n.4.0); only = no_program n.0 n.1 n.4.1 })

  -- one that is
  module _ (program : Whole) (is : IsProgramOf name program files) where
    pub has_program : HasProgram files name program
    has_program = record { text = is.text; there = is.there; is_text = is.just.is }

    pub only_accepted : (other : Outcome) → ProgramComesTo files name other → status_of other ≡ 0
    only_accepted (complete program schedule tables) c = refl
    only_accepted (absent at) c = absurd (not_there (map.get files name) is.text c.1 is.there)
    only_accepted (bad_program line what) c = absurd (is.just.right line what (subst (λ (t : List ℕ). HasWrong t line what) (there_once (map.get files name) is.text c.0 is.there c.1) c.2))
    only_accepted (bad_schedule line what) c = absurd c
    only_accepted not_built c = absurd c
    only_accepted (bad_table table what) c = absurd c

-- the verdicts on the program of a file
pub is_checked : {F : Type 0} (g : Files F) (name : List ℕ) (files : F) (program : Whole) (line : List ℕ) → ((told : FileMap) → Tells g files told → IsProgramOf name program told) → line ≡ check_text (verdicts program) → IsChecked g name files line
is_checked g name files program line found e = record { program = program; is = λ told t. has_program name told program (found told t); line_is = e }

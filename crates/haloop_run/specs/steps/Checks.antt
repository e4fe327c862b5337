-- What `check` came to, and what was said of it.
use Rattle.std.specs.Prelude.{◌≡◌, ℕ, ◌⊎◌, List, Result, Ok, Err}
use Rattle.hal_outside.specs.declared.disks.Disks.{Ghosts as Disks}
use Rattle.hal_outside.specs.declared.files.Files.{Ghosts as Files}
use Rattle.hal_outside.specs.declared.sink.Sink.{Ghosts as Sink}
use Rattle.hal_outside.specs.Told.{FileMap}
use Rattle.hal_outside.specs.Calls.{Tells}
use Rattle.haloop_run.specs.declared.fault.CommandFault.{CommandFault}
use Rattle.haloop_run.specs.Words.{AskToCheck}
use Rattle.haloop_run.specs.Inputs.{Outcome, ProgramComesTo}
use Rattle.haloop_run.specs.Lines.{status_of}
use Rattle.haloop_run.specs.Statuses.{IsChecked}
use Rattle.haloop_run.specs.steps.Commands.{Said, fault_line_of, fault_status_of}
use Rattle.haloop_run.specs.steps.Inputs.{IsOfProgram, Stops}

-- the program comes to this, and to nothing with another status
pub record ProgramJudged (name : List ℕ) (files : FileMap) (it : Outcome) : Type 0 where
  pub comes : ProgramComesTo files name it
  pub only : (other : Outcome) → ProgramComesTo files name other → status_of other ≡ status_of it

-- nothing but an accepted program comes to this
abbrev pub OnlyAccepted : {F : Type 0} → Files F → List ℕ → F → Type 0
OnlyAccepted g name files = (told : FileMap) → Tells g files told → (it : Outcome) → ProgramComesTo told name it → status_of it ≡ 0

-- what `check` came to: the text of the verdicts, or why there is none
abbrev pub CheckCameTo : {F : Type 0} → Files F → List ℕ → F → F → Result (List ℕ) CommandFault → Type 0
CheckCameTo g name old new (Ok text) = IsChecked g name old text × OnlyAccepted g name old
CheckCameTo g name old new (Err fault) = Stops g old new (ProgramJudged name) fault × IsOfProgram fault

-- its status
abbrev pub check_status : Result (List ℕ) CommandFault → ℕ
check_status (Ok text) = 0
check_status (Err fault) = fault_status_of fault

-- its line
abbrev pub check_line : Result (List ℕ) CommandFault → List ℕ
check_line (Ok text) = text
check_line (Err fault) = fault_line_of fault

-- the words ask for verdicts, which came to something, and that was said; the files are as before
pub record Checked {F O : Type 0} (g : Files F) (h : Sink O) (words : List (List ℕ)) (old new : F) (before after : O) (result : ℕ) : Type 0 where
  pub name : List ℕ
  pub ask : AskToCheck words name
  pub done : Result (List ℕ) CommandFault
  pub came : CheckCameTo g name old new done
  pub kept : g.told new ≡ g.told old
  pub said : Said h (check_status done) (check_line done) before after result

-- `check` was asked for, and no call was made on disks; or else this holds
abbrev pub CheckedOr : {F D O : Type 0} → Files F → Disks D → Sink O → List (List ℕ) → F → F → D → D → O → O → ℕ → Type 0 → Type 0
CheckedOr g d h words old new held holds before after result other = (Checked g h words old new before after result × (holds ≡ held)) ⊎ other

-- What happened to disks in memory, the newest first.
use Rattle.std.specs.Prelude.{ℕ, List, [], ◌∷◌, ◌++◌}
use Rattle.std.specs.FinMap as map
use Rattle.hal_outside.specs.declared.log.Cause.{Cause}
use Rattle.hal_outside.specs.declared.log.Cause.TheVariants as why
use Rattle.hal_outside.specs.DiskFiles.{DiskMap}
use Rattle.hal_outside.specs.DiskCalls.{Call, after_call}
use Rattle.hal_outside.specs.DiskTold.{DiskTold}

-- something that happened, as a call that would do the same, and why
pub record Step : Type 0 where
  pub cause : Cause
  pub call : Call

-- a step that was called
abbrev pub called : Call → Step
called call = record { cause = why.Call; call = call }

-- a step that is damage
abbrev pub damage : Call → Step
damage call = record { cause = why.Damage; call = call }

-- the files that lie there after these steps
abbrev pub now_after : List Step → DiskMap
now_after [] = map.empty
now_after (step ∷ steps) = after_call step.call (now_after steps)

-- what a step makes of the files that were put
abbrev pub put_by : Cause → Call → DiskMap → DiskMap
put_by why.Call call files = after_call call files
put_by why.Damage call files = files
put_by why.Earlier call files = after_call call files

-- the files that were put by these steps: damage puts none
abbrev pub put_after : List Step → DiskMap
put_after [] = map.empty
put_after (step ∷ steps) = put_by step.cause step.call (put_after steps)

-- all steps as calls, the first one first
abbrev pub calls_in : List Step → List Call
calls_in [] = []
calls_in (step ∷ steps) = calls_in steps ++ step.call ∷ []

-- the calls with this one added, if it was called
abbrev pub called_by : Cause → Call → List Call → List Call
called_by why.Call call calls = calls ++ call ∷ []
called_by why.Damage call calls = calls
called_by why.Earlier call calls = calls

-- the steps that were called, the first one first
abbrev pub calls_made : List Step → List Call
calls_made [] = []
calls_made (step ∷ steps) = called_by step.cause step.call (calls_made steps)

-- what disks in memory tell: there is what was put
abbrev pub mem_told : List Step → DiskTold
mem_told steps = record { put = now_after steps; now = now_after steps; calls = calls_in steps }

-- what disks that follow a script tell
abbrev pub script_told : List Step → DiskTold
script_told steps = record { put = put_after steps; now = now_after steps; calls = calls_made steps }

-- disks that follow a script: their counts, and what happened
pub record Scripted : Type 0 where
  pub faults : ℕ
  pub misses : ℕ
  pub steps : List Step

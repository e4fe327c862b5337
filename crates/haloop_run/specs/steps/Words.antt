-- The command that the words name.
use Rattle.std.specs.Prelude.{◌≡◌, ◌≢◌, ℕ, ◌⊎◌, List, [], Option, None, Some, IfSome}
use Rattle.std.specs.Option.{option_copied}
use Rattle.haloop_run.specs.declared.words.Command.{Command}
use Rattle.haloop_run.specs.Words.{Asked}

-- what a command asks
abbrev pub asked_by : Command → Asked
asked_by command = record { program = command.program.now; schedule = option_copied command.schedule; out = command.out.now }

-- the command of these names, unless one is empty
abbrev pub IsNamed : List ℕ → Option (List ℕ) → List ℕ → Option Command → Type 0
IsNamed program schedule out None = (program ≡ []) ⊎ (out ≡ []) ⊎ (schedule ≡ Some [])
IsNamed program schedule out (Some command) =
    (asked_by command ≡ record { program = program; schedule = schedule; out = out }) × (program ≢ []) × IfSome schedule (λ name. name ≢ []) × (out ≢ [])

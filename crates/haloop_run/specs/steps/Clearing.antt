-- Steps and sources with the caches that are built, one after another.
use Rattle.std.specs.Prelude.{map}
use Rattle.hal_base.specs.declared.shape.Source.{Source}
use Rattle.hal_base.specs.declared.shape.Step.{Step}
use Rattle.loop_program.specs.Flags.{flagged_source}
use Rattle.haloop_run.specs.Clearing.{built}

-- a source, whatever its numbers
abbrev pub cleared_source : Source → Source
cleared_source source = flagged_source built 1 1 source

-- a step, whatever its number
abbrev pub cleared_step : Step → Step
cleared_step step = record { sources = map cleared_source step.sources; out = step.out }

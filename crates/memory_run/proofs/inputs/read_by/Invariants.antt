use Rattle.std.proofs.Common.{◌≡◌, ◌++◌, drop}
use Rattle.memory_run.specs.steps.Inputs.{read_by_sources}
use Rattle.memory_run.proofs.inputs.read_by.Given as goal

abbrev pub invariant-sources : goal.invariant-sources
invariant-sources l = l.all.items ++ read_by_sources (drop l.source-index l.sources) ≡ read_by_sources l.sources

use Rattle.std.proofs.Common.{◌≡◌, ◌++◌, map}
use Rattle.haloop_run.specs.steps.Clearing.{cleared_source}
use Rattle.haloop_run.proofs.clearing.clear_sources.Given as goal

abbrev pub invariant-sources : goal.invariant-sources
invariant-sources l = l.made ++ map cleared_source l.source-iterator.rest.items ≡ map cleared_source l.fn.sources

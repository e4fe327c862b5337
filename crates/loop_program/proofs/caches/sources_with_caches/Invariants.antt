use Rattle.std.proofs.Common.{◌≡◌, ◌+◌, ◌++◌, suc, length}
use Rattle.loop_program.specs.Caches.{verdict_flags}
use Rattle.loop_program.specs.Flags.{flagged_sources}
use Rattle.loop_program.proofs.caches.sources_with_caches.Given as goal

abbrev pub invariant-sources : goal.invariant-sources
invariant-sources l =
    let flags = verdict_flags l.fn.functions l.fn.uses l.fn.asked in
    let left = l.source-iterator.rest.items in
    (l.made ++ flagged_sources flags l.fn.step (suc (length l.made)) left ≡ flagged_sources flags l.fn.step 1 l.fn.sources) × (length l.made + length left ≡ length l.fn.sources)

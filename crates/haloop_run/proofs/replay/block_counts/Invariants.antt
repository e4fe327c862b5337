use Rattle.std.proofs.Common.{◌≡◌, map, take}
use Rattle.haloop_run.specs.Replays.{block_count}
use Rattle.haloop_run.proofs.replay.block_counts.Given as goal

abbrev pub invariant-tables : goal.invariant-tables
invariant-tables l = l.counts ≡ map (block_count l.fn.block) (take l.rows-index l.rows-items)

use Rattle.std.proofs.Common.{◌+◌, ◌-◌, ◌^◌, ◌<◌, length}
use Rattle.schedule_text.specs.Lines.{lines_behind}
use Rattle.schedule_text.proofs.Events.{EventsSoFar}
use Rattle.schedule_text.proofs.reading.read_events.Given as goal

abbrev pub invariant-lines : goal.invariant-lines
invariant-lines l = record {
  so_far : EventsSoFar l.nodes (lines_behind l.initial.lines.taken l.initial.lines.left.now) (lines_behind l.lines.taken l.lines.left.now) l.events;
  room : l.lines.taken + length l.lines.left.now < 2 ^ 64 - 1;
}

abbrev pub decreases-lines : goal.decreases-lines
decreases-lines l = length l.lines.left.now

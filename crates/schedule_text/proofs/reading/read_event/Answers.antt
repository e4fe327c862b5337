use Rattle.std.proofs.Common.{sym, ap}
use Rattle.schedule_text.specs.Lines.{event_said}
use Rattle.schedule_text.proofs.Pieces.{skipped_event}
use Rattle.schedule_text.proofs.reading.read_event.Goals as goal

pub returns-then-is_skipped-clause-event : goal.returns-then-is_skipped-clause-event
returns-then-is_skipped-clause-event c = sym (ap event_said (skipped_event c.args.line.now (sym c.if-is_skipped.ensures)))

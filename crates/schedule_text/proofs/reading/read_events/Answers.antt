use Rattle.std.proofs.Common.{◌≡◌, ℕ, [], length, sym, ◌∙◌, subst, append-nil, Some, None}
use Rattle.std.proofs.lemmas.Result.{err_from_is_err_and}
use Rattle.schedule_text.specs.Faults.{IsFirst, event_faults}
use Rattle.schedule_text.specs.Lines.{event_in, event_said, lines_behind}
use Rattle.schedule_text.proofs.Events.{events_on, events_stop}
use Rattle.schedule_text.proofs.reading.read_events.Goals as goal

pub returns-in_err-event-clause-fault : goal.returns-in_err-event-clause-fault
returns-in_err-event-clause-fault c =
    let r = err_from_is_err_and c.from_residual-in_err-event.result c.from_residual-in_err-event.ensures.1 in
    let count : c.len.result ≡ length c.lines.events = c.len.ensures in
    rw (r.1, r.2)
    (events_stop c.args.nodes (lines_behind c.args.lines.now.taken c.args.lines.now.left.now) (lines_behind c.lines.lines.taken c.lines.lines.left.now) (lines_behind c.take.new.self.taken c.take.new.self.left.now) c.lines.events
    (c.take.new.self.taken, c.in-Some.line.now) c.in_err-event.field-0.0 c.in-Some.ensures.some c.lines.invariant.so_far
    (subst (λ (n : ℕ). IsFirst c.in_err-event.field-0.0 (event_faults c.args.nodes n (c.take.new.self.taken, c.in-Some.line.now))) count c.in_err-event.ensures.fault))

pub lines-preserved-in-Continue-branch-4 : goal.lines-preserved-in-Continue-branch-4
lines-preserved-in-Continue-branch-4 c =
    let count : c.len.result ≡ length c.lines.events = c.len.ensures in
    let event : event_said (event_in c.in-Some.line.now) ≡ Some c.in-Some-2.event = sym c.in_ok-event.ensures.event ∙ c.in-Some-2.is in
    record {
      so_far = events_on c.args.nodes (lines_behind c.args.lines.now.taken c.args.lines.now.left.now) (lines_behind c.lines.lines.taken c.lines.lines.left.now) (lines_behind c.take.new.self.taken c.take.new.self.left.now) c.lines.events c.push.new.self
          (c.take.new.self.taken, c.in-Some.line.now) c.in-Some.ensures.some c.lines.invariant.so_far
          (subst (λ (n : ℕ). event_faults c.args.nodes n (c.take.new.self.taken, c.in-Some.line.now) ≡ []) count c.in_ok-event.ensures.right) (rw event c.in_ok-push.ensures.ok);
      room = c.take.ensures.room;
    }

pub lines-preserved : goal.lines-preserved
lines-preserved c =
    let count : c.len.result ≡ length c.lines.events = c.len.ensures in
    let event : event_said (event_in c.in-Some.line.now) ≡ None = sym c.in_ok-event.ensures.event ∙ c.in_default-2.is in
    record {
      so_far = events_on c.args.nodes (lines_behind c.args.lines.now.taken c.args.lines.now.left.now) (lines_behind c.lines.lines.taken c.lines.lines.left.now) (lines_behind c.take.new.self.taken c.take.new.self.left.now) c.lines.events c.lines.events
          (c.take.new.self.taken, c.in-Some.line.now) c.in-Some.ensures.some c.lines.invariant.so_far
          (subst (λ (n : ℕ). event_faults c.args.nodes n (c.take.new.self.taken, c.in-Some.line.now) ≡ []) count c.in_ok-event.ensures.right) (rw event (sym (append-nil c.lines.events)));
      room = c.take.ensures.room;
    }

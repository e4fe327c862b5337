use Rattle.std.proofs.Common.{◌≡◌, [], ◌+◌, ◌-◌, ℕ, arith, subst, sym}
use Rattle.std.proofs.lemmas.Result.{err_from_is_err_and}
use Rattle.schedule_text.specs.declared.lines.Lines.{Lines}
use Rattle.schedule_text.specs.Lines.{head_lines, lines_behind}
use Rattle.schedule_text.proofs.Heads.{HeadSoFar, head_done, head_on, head_stops}
use Rattle.schedule_text.proofs.reading.read_head.Goals as goal

pub lines-preserved : goal.lines-preserved
lines-preserved c =
    let all = lines_behind c.args.lines.now.taken c.args.lines.now.left.now in
    let lines = lines_behind c.lines.lines.taken c.lines.lines.left.now in
    let left = lines_behind c.take_head_line.new.self.taken c.take_head_line.new.self.left.now in
    let taken = c.lines.lines.taken - c.args.lines.now.taken in
    let more : taken + 1 ≡ c.take_head_line.new.self.taken - c.args.lines.now.taken = omega (arith, c.in-Some.ensures.count, c.lines.invariant.counts) in
    record {
      so_far = subst (λ (n : ℕ). HeadSoFar all left n c.take_line.new.self) more
          (head_on all lines left taken c.lines.head c.take_line.new.self (c.take_head_line.new.self.taken, c.in-Some.line.now) c.in-Some.ensures.some c.lines.invariant.so_far c.in-Some.ensures.head c.in_ok-take_line.ensures.right c.in_ok-take_line.ensures.taken);
      counts = omega (arith, c.in-Some.ensures.count);
      room = c.take_head_line.ensures.room;
    }

pub returns-in_err-take_line-clause-fault : goal.returns-in_err-take_line-clause-fault
returns-in_err-take_line-clause-fault c =
    let r = err_from_is_err_and c.from_residual.result c.from_residual.ensures.1 in
    rw (r.1, r.2)
    (head_stops (lines_behind c.args.lines.now.taken c.args.lines.now.left.now) (lines_behind c.lines.lines.taken c.lines.lines.left.now) (lines_behind c.take_head_line.new.self.taken c.take_head_line.new.self.left.now) _ c.lines.head
    (c.take_head_line.new.self.taken, c.in-Some.line.now) c.in_err-take_line.field-0.0 c.in-Some.ensures.some c.lines.invariant.so_far c.in-Some.ensures.head c.in_err-take_line.ensures.fault)

pub returns-clause-read : goal.returns-clause-read
returns-clause-read c =
    let kept = sym c.in_default.ensures.kept in
    let all = lines_behind c.args.lines.now.taken c.args.lines.now.left.now in
    let none = subst (λ (s : Lines). head_lines (lines_behind s.taken s.left.now) ≡ []) kept c.in_default.ensures.none in
    let so_far = subst (λ (s : Lines). HeadSoFar all (lines_behind s.taken s.left.now) (s.taken - c.args.lines.now.taken) c.lines.head) kept c.lines.invariant.so_far in
    head_done all (lines_behind c.take_head_line.new.self.taken c.take_head_line.new.self.left.now) (c.take_head_line.new.self.taken - c.args.lines.now.taken) c.lines.head so_far none

use Rattle.std.proofs.Common.{◌+◌, drop}
use Rattle.std.proofs.lemmas.List.{at_drop_all}
use Rattle.plain_job.specs.Job.{stream}
use Rattle.sorted_parts.specs.steps.Dealt.{dealt}
use Rattle.sorted_parts.proofs.Dealing.{dealt_more, dealt_end, stream_more}
use Rattle.sorted_parts.proofs.shuffle.deal.Goals as goal

pub rows-preserved : goal.rows-preserved
rows-preserved g c =
    let m = g.F.Functions.meaning c.args.functions.now in
    let means = m.map c.args.round c.args.step c.args.source in
    let rows = c.as_slice-row-items.result.now in
    let whole = dealt m c.args.round c.args.step 0 c.args.parts.now (stream means rows) in
    let more = stream_more means rows c.rows.row-index c.row-item.result c.rows.emitted c.map.new.out c.rows-test.true c.row-item.is c.rows.invariant.none c.in_ok-map.ensures.appended in
    let left = dealt_more m c.args.round c.args.step c.rows.parts c.deal_emitted.new.parts whole (stream means (drop c.rows.row-index rows)) c.map.new.out (stream means (drop (c.rows.row-index + 1) rows)) more c.in_ok-emitted.ensures.dealt c.rows.invariant.dealt in
    record { none = c.in_ok-emitted.ensures.emptied; dealt = left }

pub returns : goal.returns
returns g c =
    let m = g.F.Functions.meaning c.args.functions.now in
    let means = m.map c.args.round c.args.step c.args.source in
    let rows = c.as_slice-row-items.result.now in
    let none = at_drop_all (stream means) rows c.rows.row-index c.rows-test.false in
    let made = dealt_end m c.args.round c.args.step c.rows.parts (dealt m c.args.round c.args.step 0 c.args.parts.now (stream means rows)) (stream means (drop c.rows.row-index rows)) none c.rows.invariant.dealt in
    rw (← c.as_slice-row-items.ensures) made

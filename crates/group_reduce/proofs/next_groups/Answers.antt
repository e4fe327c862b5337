use Rattle.std.proofs.Common.{sym, ◌∙◌, map}
use Rattle.group_reduce.proofs.Streams.{keyed_step, keyed_done}
use Rattle.group_reduce.proofs.next_groups.Goals as goal

pub returns-in-None : goal.returns-in-None
returns-in-None g c =
    let done = keyed_done (map g.S.SortedStream.rows c.args.streams.now) (sym c.in_ok-next_key.ensures.key ∙ c.in-None.is) in
    record { next = (done, done) }

pub returns-in_ok-groups-in-Some : goal.returns-in_ok-groups-in-Some
returns-in_ok-groups-in-Some g c =
    let e = sym c.in_ok-next_key.ensures.key ∙ c.in-Some.is in
    let step = keyed_step c.in-Some.key (map g.S.SortedStream.rows c.args.streams.now) c.next_key.ensures.sorted e in
    record { next = rw (c.in_ok-groups-in-Some.ensures.groups, c.in_ok-groups-in-Some.ensures.rest) step }

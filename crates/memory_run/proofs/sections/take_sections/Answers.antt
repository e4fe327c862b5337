use Rattle.std.proofs.Common.{◌+◌, ap, ◌∙◌, map, take, sym}
use Rattle.memory_run.specs.steps.Sections.{first_section, left_of}
use Rattle.memory_run.proofs.Parting.{one_begun, one_taken}
use Rattle.memory_run.proofs.sections.take_sections.Goals as goal

pub spills-preserved : goal.spills-preserved
spills-preserved c =
    let all = map left_of c.args.spills.now in
    let p = one_taken all c.spills.spills c.spills.at c.index-spills-at.result c.take_first.new.self c.spills-test.true c.spills.invariant.later c.index-spills-at.is c.take_first.ensures.later in
    let taken = c.in_ok-take_first.ensures.first ∙ ap (λ spill. first_section (left_of spill)) (sym c.index-spills-at.is) in
    let first = one_begun (map first_section (take c.spills.at all)) (map first_section (take (c.spills.at + 1) all)) c.spills.streams.items c.push.new.self.items c.in_ok-take_first.field-0 (first_section (left_of c.index-spills-at.result)) c.in_ok-push.ensures.items taken c.spills.invariant.first p.1 in
    record { first = first; later = p.0 }

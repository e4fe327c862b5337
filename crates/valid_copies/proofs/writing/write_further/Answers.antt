use Rattle.std.proofs.Common.{◌∙◌, ◌-◌, ◌<◌, length, refl, ap, subst}
use Rattle.replica_table.specs.Sets.{members}
use Rattle.valid_copies.proofs.FurtherNodes.{further_later, further_others, further_others_first, further_sooner, further_written}
use Rattle.valid_copies.specs.steps.Further.{Further}
use Rattle.valid_copies.proofs.Rightly.{works_more}
use Rattle.valid_copies.proofs.writing.write_further.Goals as goal

pub returns-in-Ok-write_between-clause-written : goal.returns-in-Ok-write_between-clause-written
returns-in-Ok-write_between-clause-written g c = λ shape.
    let number = c.saturating_sub-most.ensures ∙ ap (λ n. c.args.schedule.now.copies - n) (c.count.ensures ∙ ap length c.where_is.ensures.nodes) in
    let within = subst (λ n. c.args.own < n) c.requires.nodes c.requires.own in
    further_written _ _ _ c.args.schedule.now.copies _ _ c.args.own c.in-Ok.left c.up.ensures.nodes c.where_is.ensures.nodes number within c.in-Ok.ensures.left _ _ _ _ _ _ c.in-Ok.ensures.written c.in-Ok-write_between.ensures.written

pub returns-in-Ok-write_between-clause-others : goal.returns-in-Ok-write_between-clause-others
returns-in-Ok-write_between-clause-others g c = λ shape.
    let number = c.saturating_sub-most.ensures ∙ ap (λ n. c.args.schedule.now.copies - n) (c.count.ensures ∙ ap length c.where_is.ensures.nodes) in
    let within = subst (λ n. c.args.own < n) c.requires.nodes c.requires.own in
    let it : Further = record { name = c.args.name.now; bytes = c.args.bytes.now; up = members c.up.result.0; holders = members c.where_is.result.0 } in
    further_others it _ _ c.args.schedule.now.copies _ _ c.args.own c.in-Ok.left c.up.ensures.nodes c.where_is.ensures.nodes number within c.in-Ok.ensures.left _ _ _ c.in-Ok.ensures.others c.in-Ok-write_between.ensures.others

pub returns-in-Err-write_between-clause-begun : goal.returns-in-Err-write_between-clause-begun
returns-in-Err-write_between-clause-begun g c = λ shape.
    let number = c.saturating_sub-most.ensures ∙ ap (λ n. c.args.schedule.now.copies - n) (c.count.ensures ∙ ap length c.where_is.ensures.nodes) in
    let within = subst (λ n. c.args.own < n) c.requires.nodes c.requires.own in
    further_later _ _ _ c.args.schedule.now.copies _ _ c.args.own c.in-Ok.left c.up.ensures.nodes c.where_is.ensures.nodes number within c.in-Ok.ensures.left _ _ _ _ _ _ c.in-Ok.ensures.written c.in-Err-write_between.ensures.begun

pub returns-in-Err-write_between-clause-others : goal.returns-in-Err-write_between-clause-others
returns-in-Err-write_between-clause-others g c = λ shape.
    let number = c.saturating_sub-most.ensures ∙ ap (λ n. c.args.schedule.now.copies - n) (c.count.ensures ∙ ap length c.where_is.ensures.nodes) in
    let within = subst (λ n. c.args.own < n) c.requires.nodes c.requires.own in
    let it : Further = record { name = c.args.name.now; bytes = c.args.bytes.now; up = members c.up.result.0; holders = members c.where_is.result.0 } in
    further_others it _ _ c.args.schedule.now.copies _ _ c.args.own c.in-Ok.left c.up.ensures.nodes c.where_is.ensures.nodes number within c.in-Ok.ensures.left _ _ _ c.in-Ok.ensures.others c.in-Err-write_between.ensures.others

pub returns-in-Err-clause-begun : goal.returns-in-Err-clause-begun
returns-in-Err-clause-begun g c = λ shape.
    let number = c.saturating_sub-most.ensures ∙ ap (λ n. c.args.schedule.now.copies - n) (c.count.ensures ∙ ap length c.where_is.ensures.nodes) in
    let within = subst (λ n. c.args.own < n) c.requires.nodes c.requires.own in
    further_sooner _ _ _ c.args.schedule.now.copies _ _ c.args.own _ c.up.ensures.nodes c.where_is.ensures.nodes number within refl _ _ _ _ c.in-Err.ensures.begun

pub returns-in-Err-clause-others : goal.returns-in-Err-clause-others
returns-in-Err-clause-others g c = λ shape.
    let number = c.saturating_sub-most.ensures ∙ ap (λ n. c.args.schedule.now.copies - n) (c.count.ensures ∙ ap length c.where_is.ensures.nodes) in
    let within = subst (λ n. c.args.own < n) c.requires.nodes c.requires.own in
    let it : Further = record { name = c.args.name.now; bytes = c.args.bytes.now; up = members c.up.result.0; holders = members c.where_is.result.0 } in
    further_others_first it _ _ c.args.schedule.now.copies _ _ c.args.own _ c.up.ensures.nodes c.where_is.ensures.nodes number within refl _ _ c.in-Err.ensures.others

pub returns-in-Ok-write_between-clause-calls : goal.returns-in-Ok-write_between-clause-calls
returns-in-Ok-write_between-clause-calls g c = λ w is. works_more g.D.Disks w c.args.disks.now _ _ _ _ (c.in-Ok.ensures.calls w is) (c.in-Ok-write_between.ensures.calls w is)

pub returns-in-Err-write_between-clause-calls : goal.returns-in-Err-write_between-clause-calls
returns-in-Err-write_between-clause-calls g c = λ w is. works_more g.D.Disks w c.args.disks.now _ _ _ _ (c.in-Ok.ensures.calls w is) (c.in-Err-write_between.ensures.calls w is)

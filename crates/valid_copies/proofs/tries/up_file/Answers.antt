use Rattle.std.proofs.Common.{sym, ap, ◌∙◌, None, slice_get}
use Rattle.std.specs.Option.{option_and_then}
use Rattle.valid_copies.specs.steps.Tries.{held_file}
use Rattle.valid_copies.proofs.FirstFiles.{first_under, held_there, none_up}
use Rattle.valid_copies.proofs.tries.up_file.Goals as goal

pub held_file-requires : goal.held_file-requires
held_file-requires c = first_under c.args.table.now.nodes c.in-Some.node _ c.where_is.ensures.order (sym (ap (λ ns. slice_get ns 0) c.where_is.ensures.nodes) ∙ sym c.nth.ensures.place ∙ c.in-Some.is)

pub returns-in-Some-clause-none : goal.returns-in-Some-clause-none
returns-in-Some-clause-none c = none_up c.args.table.now c.args.name.now c.held_file.result (c.held_file.ensures ∙ sym (ap (option_and_then (λ node. held_file c.args.table.now node c.args.name.now)) (sym (ap (λ ns. slice_get ns 0) c.where_is.ensures.nodes) ∙ sym c.nth.ensures.place ∙ c.in-Some.is)))

pub returns-in-None-clause-none : goal.returns-in-None-clause-none
returns-in-None-clause-none c = none_up c.args.table.now c.args.name.now None (sym (ap (option_and_then (λ node. held_file c.args.table.now node c.args.name.now)) (sym (ap (λ ns. slice_get ns 0) c.where_is.ensures.nodes) ∙ sym c.nth.ensures.place ∙ c.in-None.is)))

pub returns-in-Some-clause-there : goal.returns-in-Some-clause-there
returns-in-Some-clause-there c = held_there c.args.table.now c.in-Some.node c.args.name.now c.held_file.result c.held_file.ensures (first_under c.args.table.now.nodes c.in-Some.node _ c.where_is.ensures.order (sym (ap (λ ns. slice_get ns 0) c.where_is.ensures.nodes) ∙ sym c.nth.ensures.place ∙ c.in-Some.is))

use Rattle.std.proofs.Common.{sym, ◌∙◌, rules, arith}
use Rattle.hal_outside.specs.steps.DiskLogs.{steps_of}
use Rattle.hal_outside.proofs.Sights.{at_end, at_entry, behind}
use Rattle.hal_outside.proofs.log.find.Goals as goal

pub returns-in-Found : goal.returns-in-Found
returns-in-Found c = sym (sym c.entries.invariant ∙ at_entry c.args.entries.now.items c.entries.at c.index.result.now c.args.node c.args.name.now (omega arith) (search (rules, c.index.ensures)) ∙ c.in-Found.ensures (steps_of (behind c.args.entries.now.items c.entries.at)) _)

pub returns-in-Gone : goal.returns-in-Gone
returns-in-Gone c = sym (sym c.entries.invariant ∙ at_entry c.args.entries.now.items c.entries.at c.index.result.now c.args.node c.args.name.now (omega arith) (search (rules, c.index.ensures)) ∙ c.in-Gone.ensures (steps_of (behind c.args.entries.now.items c.entries.at)) _)

pub entries-preserved : goal.entries-preserved
entries-preserved c = sym (at_entry c.args.entries.now.items c.entries.at c.index.result.now c.args.node c.args.name.now (omega arith) (search (rules, c.index.ensures)) ∙ c.in-Further.ensures (steps_of (behind c.args.entries.now.items c.entries.at)) _) ∙ c.entries.invariant

pub returns : goal.returns
returns c = at_end c.args.entries.now.items c.entries.at c.args.node c.args.name.now (omega arith) ∙ c.entries.invariant

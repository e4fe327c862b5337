use Rattle.std.proofs.Common.{◌≤◌, length, ap, ◌∙◌, arith}
use Rattle.std.proofs.lemmas.List.Edits.{map_over_more}
use Rattle.hal_outside.specs.steps.DiskLogs.{settled_entry, steps_of}
use Rattle.hal_outside.proofs.Settling.{all_settled, settled_steps}
use Rattle.hal_outside.proofs.log.settle.Goals as goal

pub entries-preserved : goal.entries-preserved
entries-preserved c = map_over_more settled_entry c.args.entries.now.items c.entries.entries.items c.entries.at c.index_mut.result.now (omega (arith, c.args.entries.now.ok.0)) c.entries.invariant c.index_mut.ensures.value

pub returns : goal.returns
returns c =
    let all = c.args.entries.now.items in
    let past : length all ≤ c.entries.at = omega (arith, c.args.entries.now.ok.0) in
    ap steps_of (c.entries.invariant ∙ all_settled all c.entries.at past) ∙ settled_steps all

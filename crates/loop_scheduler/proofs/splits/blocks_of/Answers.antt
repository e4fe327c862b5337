use Rattle.std.proofs.Common.{ap, sym, ◌∙◌}
use Rattle.std.specs.Option.{option_copied, unwrap_or}
use Rattle.std.proofs.lemmas.Option.{unwrap_or-slice_get}
use Rattle.loop_scheduler.proofs.splits.blocks_of.Goals as goal

pub returns-in-None : goal.returns-in-None
returns-in-None c = sym (ap (λ o. unwrap_or (option_copied o) 0) c.in-None.is) ∙ ap (λ o. unwrap_or o 0) c.get.ensures.value ∙ unwrap_or-slice_get _ c.args.table 0

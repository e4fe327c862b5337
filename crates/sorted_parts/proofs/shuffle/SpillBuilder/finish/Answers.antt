use Rattle.std.proofs.Common.{List, sym, subst}
use Rattle.std.specs.List.{AllByRecursion}
use Rattle.std.proofs.lemmas.Result.{IfOk-weaker}
use Rattle.hal_base.specs.declared.record.Record.{Record}
use Rattle.hal_base.specs.Order.{record_cmp}
use Rattle.hal_base.specs.Sorted.{Ascending}
use Rattle.sorted_parts.proofs.Merging.{all_ascending}
use Rattle.sorted_parts.proofs.shuffle.SpillBuilder.finish.Goals as goal

pub returns-clause-in_order : goal.returns-clause-in_order
returns-clause-in_order c =
    IfOk-weaker c.sort_parts.result _ _ (λ out e. subst (λ (parts : List (List Record)). AllByRecursion (Ascending record_cmp) parts) (sym e) (all_ascending c.self.inside.parts.items)) c.sort_parts.ensures

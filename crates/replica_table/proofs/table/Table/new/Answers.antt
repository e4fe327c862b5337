use Rattle.std.proofs.Common.{sym, subst, arith}
use Rattle.std.specs.List.{AllByRecursion}
use Rattle.replica_table.specs.Sets.{Ascend}
use Rattle.replica_table.specs.steps.Entries.{IsListed}
use Rattle.replica_table.proofs.Members.{range_ascend}
use Rattle.replica_table.proofs.table.Table.new.Goals as goal

pub invariant_of-result : goal.invariant_of-result
invariant_of-result c =
    let nodes = c.args.nodes in
    record {
      few = c.requires.few;
      up = subst (λ ns. Ascend 0 nodes ns) (sym c.below.ensures) (range_ascend 0 nodes nodes (omega arith));
      each = subst (λ es. AllByRecursion (IsListed nodes) es) (sym c.new.ensures.empty) tt;
      once = c.new.ensures.unique;
    }

use Rattle.std.proofs.Common.{true, cond, ap, ◌∙◌}
use Rattle.std.specs.List.{list_any}
use Rattle.replica_table.specs.Copies.{is_name}
use Rattle.cache_rebuild.proofs.Asks.{inserted}
use Rattle.cache_rebuild.proofs.asked.Asked.add.Goals as goal

pub returns : goal.returns
returns c = inserted c.args.self.now.names.keys c.insert.new.self.keys c.args.name.now (λ q. c.in_ok-insert.ensures.updates.0 q ∙ ap (λ names. cond (is_name c.args.name.now q) true (list_any (is_name q) names)) c.count_round.ensures.names)

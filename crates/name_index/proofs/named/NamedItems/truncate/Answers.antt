use Rattle.std.proofs.Common.{sym, ap, ◌∙◌, take, map}
use Rattle.std.proofs.lemmas.List.{take-map}
use Rattle.name_index.proofs.named.NamedItems.truncate.Goals as goal

-- the names of the items that stay
pub invariant_of-self : goal.invariant_of-self
invariant_of-self g c = c.truncate-2.ensures ∙ ap (take c.args.len) c.self.invariant ∙ take-map g.T.Named.name c.args.len c.self.inside.items ∙ ap (map g.T.Named.name) (sym c.truncate.ensures)

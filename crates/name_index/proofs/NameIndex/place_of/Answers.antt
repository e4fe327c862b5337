use Rattle.std.proofs.Common.{arith, ◌≤◌, ℕ, Option, None, Some, length, IfSome, sym, subst, ◌∙◌}
use Rattle.name_index.specs.Names.{place_of}
use Rattle.name_index.proofs.IndexLaws.{Within, within}
use Rattle.name_index.proofs.NameIndex.place_of.Goals as goal

bounded : (n : ℕ) (o : Option ℕ) → n ≤ 9223372036854775807 → Within n o → IfSome o (λ place. place ≤ 9223372036854775807)
bounded n None b w = tt
bounded n (Some place) b w = omega arith

pub returns-clause-bound : goal.returns-clause-bound
returns-clause-bound c =
    let names = c.self.inside.names.items in
    subst (λ o. IfSome o (λ place. place ≤ 9223372036854775807)) (sym (c.copied.ensures ∙ c.get.ensures.value ∙ c.self.invariant c.args.name.now))
    (bounded (length names) (place_of c.args.name.now names) (omega (arith, c.self.inside.names.ok.0, c.self.inside.names.ok.1, c.self.inside.names.small)) (within c.args.name.now names))

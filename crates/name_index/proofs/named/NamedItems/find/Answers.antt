use Rattle.std.proofs.Common.{◌≡◌, None, Some, map, ap, sym, ◌∙◌}
use Rattle.name_index.specs.Names.{named, place_of}
use Rattle.name_index.proofs.NamedLaws.{named_missing, named_there}
use Rattle.name_index.proofs.named.NamedItems.find.Goals as goal

pub returns-in-Some : goal.returns-in-Some
returns-in-Some g c =
    let items = c.self.inside.items in
    let there : place_of c.args.name.now (map g.T.Named.name items) ≡ Some c.in-Some.place = ap (place_of c.args.name.now) (sym c.self.invariant) ∙ sym c.place_of.ensures.place ∙ c.in-Some.is in
    c.get.ensures.value ∙ sym (named_there g.T.Named.name c.args.name.now items c.in-Some.place there) ∙ ap (named g.T.Named.name c.args.name.now) c.self.view_is

pub returns-in-None : goal.returns-in-None
returns-in-None g c =
    let items = c.self.inside.items in
    let missing : place_of c.args.name.now (map g.T.Named.name items) ≡ None = ap (place_of c.args.name.now) (sym c.self.invariant) ∙ sym c.place_of.ensures.place ∙ c.in-None.is in
    sym (named_missing g.T.Named.name c.args.name.now items missing) ∙ ap (named g.T.Named.name c.args.name.now) c.self.view_is

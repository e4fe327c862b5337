use Rattle.std.proofs.Common.{◌≡◌, ℕ, slice_get, sym, ap, ◌∙◌, Vec, Global}
use Rattle.std.specs.Option.{option_map}
use Rattle.node_names.specs.declared.name.Name.{Name}
use Rattle.replica_table.specs.declared.copied.Copied.{Copied}
use Rattle.replica_table.specs.Copies.{Replicas, names_of}
use Rattle.replica_table.specs.steps.Entries.{Entries, IsKept, copies_in}
use Rattle.replica_table.proofs.Keeping.{key_at, names_in}
use Rattle.replica_table.proofs.table.Table.name_at.Goals as goal

name_there : (nodes up : ℕ) (entries : Entries) (i : ℕ) → IsKept nodes up entries → option_map (λ (e : Name × Vec Copied Global). e.0) (slice_get entries i) ≡ slice_get (names_of (copies_in entries)) i
name_there nodes up entries i kept = sym (ap (λ names. slice_get names i) (names_in nodes entries kept.each kept.once) ∙ key_at entries i)

pub returns-in-Some : goal.returns-in-Some
returns-in-Some c =
    ap (option_map (λ (e : Name × Vec Copied Global). e.0)) c.in-Some.ensures.entry
    ∙ name_there c.self.inside.nodes c.self.inside.up.0 c.self.inside.copies.entries c.args.i c.self.invariant
    ∙ ap (λ (replicas : Replicas). slice_get (names_of replicas.copies) c.args.i) c.self.view_is

pub returns-in-None : goal.returns-in-None
returns-in-None c =
    ap (option_map (λ (e : Name × Vec Copied Global). e.0)) c.in-None.ensures.entry
    ∙ name_there c.self.inside.nodes c.self.inside.up.0 c.self.inside.copies.entries c.args.i c.self.invariant
    ∙ ap (λ (replicas : Replicas). slice_get (names_of replicas.copies) c.args.i) c.self.view_is

-- A script of what goes wrong on disks.
use Rattle.std.specs.Prelude.{◌≡◌, ℕ, Bool, IsTrue, false, nat_eq}
use Rattle.node_names.specs.declared.name.Name.{Name}
use Rattle.node_names.specs.Names.{kind_of}
use Rattle.hal_outside.specs.declared.script.Act.{Act}
use Rattle.hal_outside.specs.declared.script.Act.TheVariants as act

-- whether an act fails the call of this number
abbrev pub fails_call : ℕ → Act → Bool
fails_call number (act.FailAt at) = nat_eq at number
fails_call number (act.FailWrite at) = false
fails_call number (act.SpoilFirst node name) = false
fails_call number (act.SpoilKind kind) = false
fails_call number act.SpoilAll = false

-- whether an act fails the write of this number
abbrev pub fails_write : ℕ → Act → Bool
fails_write number (act.FailAt at) = false
fails_write number (act.FailWrite at) = nat_eq at number
fails_write number (act.SpoilFirst node name) = false
fails_write number (act.SpoilKind kind) = false
fails_write number act.SpoilAll = false

-- an act asks to spoil a file that was just written, for the first time or again
abbrev pub AsksToSpoil : ℕ → Name → Bool → Act → Type 0
AsksToSpoil node name first (act.FailAt at) = ⊥
AsksToSpoil node name first (act.FailWrite at) = ⊥
AsksToSpoil node name first (act.SpoilFirst other other_name) = IsTrue first × (node ≡ other) × (name ≡ other_name)
AsksToSpoil node name first (act.SpoilKind kind) = kind_of name ≡ kind
AsksToSpoil node name first act.SpoilAll = Unit {0}

use Rattle.std.proofs.Common.{ℕ, sym, ap}
use Rattle.std.specs.FinMap as map
use Rattle.std.proofs.lemmas.Cmp.{nat_list_cmp_total}
use Rattle.hal_outside.specs.Told.{FileMap}
use Rattle.hal_outside.proofs.mem_files.MemFiles.bytes.Goals as goal

pub returns-in-Some : goal.returns-in-Some
returns-in-Some c =
    let seen = ap (λ (m : ℕ × FileMap). map.get m.1 c.args.name.now) (sym c.self.view_is) in
    let got = map.get-from_entries nat_list_cmp_total c.self.inside.written.items c.args.name.now in
    cc (seen, got, c.in-Some.ensures, c.as_bytes.ensures.value, c.as_slice.ensures)

pub returns-in-None : goal.returns-in-None
returns-in-None c =
    let seen = ap (λ (m : ℕ × FileMap). map.get m.1 c.args.name.now) (sym c.self.view_is) in
    let got = map.get-from_entries nat_list_cmp_total c.self.inside.written.items c.args.name.now in
    cc (seen, got, c.in-None.ensures, c.as_bytes.ensures.value)

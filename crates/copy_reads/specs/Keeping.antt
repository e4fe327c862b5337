-- What reads keep of the copies and of the disks, whatever is answered.
use Rattle.std.specs.Prelude.{◌≡◌, ◌≤◌}
use Rattle.hal_outside.specs.declared.disks.Disks.{Ghosts as Disks}
use Rattle.name_values.specs.Values.{World}
use Rattle.valid_copies.specs.Calls.{PutStays}
use Rattle.valid_copies.specs.LastWrites.{ReadsCopies}
use Rattle.valid_copies.specs.Stands.{Stands}
use Rattle.copy_reads.specs.Needs.{FewerCopies}
use Rattle.copy_reads.specs.declared.books.Books.{Books}

-- the nodes are the same, of each copy that is left the same digest is kept, valid copies stay so; each call that was added reads a
-- copy; nothing that was put changed, no count fell, damage still shows, and disks that are sound stay so
pub record Keeps {D : Type 0} (g : Disks D) (books left : Books) (old new : D) : Type 0 where
  pub nodes : left.table.nodes ≡ books.table.nodes
  pub up : left.table.up ≡ books.table.up
  pub fewer : FewerCopies books left
  pub valid : (w : World) → Stands w books.table.copies (g.told old) → Stands w left.table.copies (g.told new)
  pub asked : ReadsCopies books.table.copies (g.told old) (g.told new)
  pub puts_stay : PutStays (g.told old) (g.told new)
  pub faults_stay : g.faults old ≤ g.faults new
  pub misses_stay : g.misses old ≤ g.misses new
  pub damage_shown : g.shows_damage old → g.shows_damage new
  pub soundness_kept : g.sound old → g.sound new

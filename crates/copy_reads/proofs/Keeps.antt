-- What reads keep, one after another.
use Rattle.std.proofs.Common.{arith, ◌≡◌, ◌≤◌, ◌∙◌, List, refl, sym, ap, subst}
use Rattle.hal_outside.specs.DiskCalls as disk
use Rattle.hal_outside.specs.declared.disks.Disks.{Ghosts as Disks}
use Rattle.valid_copies.proofs.Adding.{such_more, such_none, such_weaker}
use Rattle.valid_copies.proofs.Coming.{puts_fetched, puts_more, puts_none}
use Rattle.valid_copies.proofs.Steps.{strike_stands}
use Rattle.valid_copies.specs.LastWrites.{AsksForCopy, ReadsCopies}
use Rattle.valid_copies.specs.Stands.{Stands}
use Rattle.hal_outside.specs.Told.{OnTold}
use Rattle.name_values.specs.Values.{World}
use Rattle.node_files.specs.KeptFiles.{IsFetched}
use Rattle.node_files.specs.declared.files.FileRef.{FileRef}
use Rattle.node_files.specs.declared.files.Fetched.TheVariants.{Missed}
use Rattle.replica_table.specs.Copies.{Copy}
use Rattle.copy_reads.specs.Books.{struck_in}
use Rattle.copy_reads.proofs.Tries.{struck_fewer}
use Rattle.copy_reads.specs.Keeping.{Keeps}
use Rattle.copy_reads.specs.Needs.{FewerCopies}
use Rattle.copy_reads.specs.declared.books.Books.{Books}

-- a read of a copy that is there still reads one that was there
copies_before : (old now : Books) → FewerCopies old now → (call : disk.Call) → AsksForCopy now.table.copies call → AsksForCopy old.table.copies call
copies_before old now fewer (disk.Write node b bytes) a = a
copies_before old now fewer (disk.Read node b want answer) a = fewer b node (record { 0 = want }) a
copies_before old now fewer (disk.Remove node b) a = a
copies_before old now fewer (disk.Wipe node) a = a

pub keeps_none : {D : Type 0} (g : Disks D) (books : Books) (disks : D) → Keeps g books books disks disks
keeps_none g books disks = record {
  nodes = refl;
  up = refl;
  fewer = λ b n digest h. h;
  valid = λ w s. s;
  asked = such_none (AsksForCopy books.table.copies) (g.told disks);
  puts_stay = puts_none (g.told disks);
  faults_stay = omega arith;
  misses_stay = omega arith;
  damage_shown = λ s. s;
  soundness_kept = λ s. s;
}

pub keeps_more : {D : Type 0} (g : Disks D) (books now left : Books) (old between new : D) → Keeps g books now old between → Keeps g now left between new → Keeps g books left old new
keeps_more g books now left old between new a b = record {
  nodes = b.nodes ∙ a.nodes;
  up = b.up ∙ a.up;
  fewer = λ name node digest h. a.fewer name node digest (b.fewer name node digest h);
  valid = λ w s. b.valid w (a.valid w s);
  asked = such_more (AsksForCopy books.table.copies) (g.told old) (g.told between) (g.told new) a.asked (such_weaker (AsksForCopy now.table.copies) (AsksForCopy books.table.copies) (g.told between) (g.told new) (copies_before books now a.fewer) b.asked);
  puts_stay = puts_more (g.told old) (g.told between) (g.told new) a.puts_stay b.puts_stay;
  faults_stay = omega (arith, a.faults_stay, b.faults_stay);
  misses_stay = omega (arith, a.misses_stay, b.misses_stay);
  damage_shown = λ s. b.damage_shown (a.damage_shown s);
  soundness_kept = λ s. b.soundness_kept (a.soundness_kept s);
}

-- a file that was missed, and of which the copy is struck
pub miss_keeps : {D : Type 0} (g : Disks D) (file : FileRef) (books left : Books) (old new : D) → left ≡ struck_in file books → ((w : World) (copies : List Copy) → Stands w copies (g.told old) → Stands w copies (g.told new))
    → ReadsCopies books.table.copies (g.told old) (g.told new) → OnTold (IsFetched file Missed) (g.told old) (g.told new) → g.faults old ≤ g.faults new → g.misses old ≤ g.misses new → (g.shows_damage old → g.shows_damage new) → (g.sound old → g.sound new)
    → Keeps g books left old new
miss_keeps g file books left old new struck valid asked done faults misses shown sound = record {
  nodes = ap (λ (b : Books). b.table.nodes) struck;
  up = ap (λ (b : Books). b.table.up) struck;
  fewer = struck_fewer file books left struck;
  valid = λ w s. subst (λ (b : Books). Stands w b.table.copies (g.told new)) (sym struck) (strike_stands w books.table.copies (g.told new) file.name file.node (valid w books.table.copies s));
  asked = asked;
  puts_stay = puts_fetched file Missed (g.told old) (g.told new) done;
  faults_stay = faults;
  misses_stay = misses;
  damage_shown = shown;
  soundness_kept = sound;
}

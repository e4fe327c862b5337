-- What is right after a fault, whatever the disks hold then.
use Rattle.std.proofs.Common.{◌≡◌, ℕ, List, [], ◌∷◌, ◌++◌, Option, None, Some, Result, Ok, Err, OnErr, refl, sym, subst}
use Rattle.hal_base.specs.Meaning.{Meaning}
use Rattle.hal_outside.specs.DiskTold.{DiskTold}
use Rattle.name_values.specs.Values.{World, value_of}
use Rattle.node_names.specs.declared.name.Name.{Name}
use Rattle.replica_table.specs.Copies.{Copy, Replicas, with_copy}
use Rattle.run_model.specs.State.{Setup}
use Rattle.valid_copies.proofs.Copies.{all_with_copy}
use Rattle.valid_copies.proofs.Steps.{text_is}
use Rattle.valid_copies.specs.Readings.{HasText, IsTextOf}
use Rattle.valid_copies.specs.Stands.{IsValid, Stands, copy_of_bytes}
use Rattle.valid_copies.specs.Writes.{FileWrite, WroteSome, copies_with, write_at, writes_at}
use Rattle.cluster_core.specs.Clusters.{IsRightAfter}
use Rattle.cluster_core.specs.States.{Kept, Seen}
use Rattle.cluster_core.specs.declared.finished.Finished.{Finished}
use Rattle.cluster_core.specs.Works.{KeepsRight, StandsFor}
use Rattle.cluster_core.proofs.Rightness.{same_stands}

pub digests : (w : World) (copies : List Copy) (told : Option DiskTold) → Stands w copies told → Stands w copies None
digests w copies told s = record { valid = s.valid; spelled = s.spelled; put = tt }

pub untold : (w : World) (kept : Kept) (told : Option DiskTold) → StandsFor w kept told → StandsFor w kept None
untold w kept told s = record { reached = s.reached; copies = digests w kept.table.copies told s.copies; values = s.values }

-- copies, values and the round are as they were
pub untold_same : (w : World) (old new : Kept) (told : Option DiskTold) → new.table ≡ old.table → new.values ≡ old.values → new.round ≡ old.round → StandsFor w old told → StandsFor w new None
untold_same w old new told table values round s = same_stands w old new None table values round (untold w old told s)

pub keeps_same : (m : Meaning) (setup : Setup) (shows : Type 0) (before : Option DiskTold) (old new : Kept) → new.table ≡ old.table → new.values ≡ old.values → new.round ≡ old.round → KeepsRight m setup shows before old new
keeps_same m setup shows before old new table values round tables fits s t stands = untold_same _ old new before table values round stands

-- a run that is finished
pub kept_ended : (m : Meaning) (old : Seen) (shows : Type 0) (before after : Option DiskTold) (new : Kept) (it : Finished) → IsRightAfter m old shows before after new (Some it) → KeepsRight m old.setup shows before old.kept new
kept_ended m old shows before after new it right tables fits s t stands = untold _ new after (right tables fits s t stands).0

pub on_err : {A B P : Type 0} (result : Result A B) → P → OnErr result P
on_err (Ok a) p = tt
on_err (Err b) p = p

-- the copies of some files of the text of a name's value
module _ (w : World) (name : Name) (bytes : List ℕ) (text : IsTextOf w.shape name bytes (value_of w name)) where
  valid : (node : ℕ) → IsValid w (copy_of_bytes name node bytes)
  valid node = rw (text_is w name bytes text) refl

  one_more : (node : ℕ) (copies : List Copy) → Stands w copies None → Stands w (with_copy (copy_of_bytes name node bytes) copies) None
  one_more node copies s = record {
    valid = all_with_copy (IsValid w) (copy_of_bytes name node bytes) copies (valid node) s.valid;
    spelled = all_with_copy (λ (copy : Copy). HasText w copy.name) (copy_of_bytes name node bytes) copies (record { bytes = bytes; is = text }) s.spelled;
    put = tt;
  }

  many_more : (nodes : List ℕ) (done more : List FileWrite) (copies : List Copy) → writes_at nodes name bytes ≡ done ++ more → Stands w copies None → Stands w (copies_with done copies) None
  many_more nodes [] more copies e s = s
  many_more [] (it ∷ done) more copies e s = cc
  many_more (node ∷ nodes) (it ∷ done) more copies e s =
      many_more nodes done more (with_copy (copy_of_bytes it.name it.node it.bytes) copies) (later e) (subst (λ (x : FileWrite). Stands w (with_copy (copy_of_bytes x.name x.node x.bytes) copies) None) (first e) (one_more node copies s))
    where
      first : write_at node name bytes ∷ writes_at nodes name bytes ≡ it ∷ (done ++ more) → write_at node name bytes ≡ it
      first e = cc

      later : write_at node name bytes ∷ writes_at nodes name bytes ≡ it ∷ (done ++ more) → writes_at nodes name bytes ≡ done ++ more
      later e = cc

  pub some_stand : (nodes : List ℕ) (old new : Replicas) (before after told : Option DiskTold) → WroteSome before old (writes_at nodes name bytes) new after → Stands w old.copies told → Stands w new.copies None
  some_stand nodes old new before after told some s = subst (λ (t : Replicas). Stands w t.copies None) (sym some.table) (many_more nodes some.done some.more old.copies some.split (digests w old.copies told s))

-- Files that are written one after another.
use Rattle.std.proofs.Common.{◌≡◌, inl, inr, ℕ, zero, suc, ◌+◌, ◌-◌, ◌<◌, ◌||◌, true, false, cond, List, [], ◌∷◌, ◌++◌, length, take, map, Option, refl, sym, ap, ◌∙◌, subst, arith, append-nil}
use Rattle.std.specs.List.{filter, range_with_len}
use Rattle.std.proofs.lemmas.List.{append_assoc, map-append}
use Rattle.node_names.specs.declared.name.Name.{Name}
use Rattle.hal_outside.specs.DiskCalls as disk
use Rattle.hal_outside.specs.DiskTold.{DiskTold}
use Rattle.hal_outside.specs.Told.{OnTold}
use Rattle.name_values.specs.Values.{World, value_of}
use Rattle.replica_table.specs.Copies.{Copy, Replicas, with_copy}
use Rattle.replica_table.specs.Sets.{among}
use Rattle.valid_copies.proofs.Coming.{added_more, nothing_added}
use Rattle.valid_copies.proofs.Others.{none_of, others_more, others_none}
use Rattle.valid_copies.specs.Calls.{Added, AddedAtMost}
use Rattle.valid_copies.specs.Readings.{IsTextOf}
use Rattle.valid_copies.specs.Stands.{OthersStay, Stands, copy_of_bytes}
use Rattle.valid_copies.specs.Writes.{FileWrite, IsNextWrite, Wrote, WroteSome, copies_with, table_with, write_at, write_of, writes_at}
use Rattle.valid_copies.specs.steps.Further.{Further, may_get, nodes_between}

-- ---- writes one after another

pub copies_more : (writes more : List FileWrite) (copies : List Copy) → copies_with (writes ++ more) copies ≡ copies_with more (copies_with writes copies)
copies_more [] more copies = refl
copies_more (it ∷ writes) more copies = copies_more writes more (with_copy (copy_of_bytes it.name it.node it.bytes) copies)

table_more : (writes more : List FileWrite) (table : Replicas) → table_with (writes ++ more) table ≡ table_with more (table_with writes table)
table_more writes more table = ap (λ copies. record table { copies = copies }) (copies_more writes more table.copies)

pub wrote_none : (told : Option DiskTold) (table : Replicas) → Wrote told table [] table told
wrote_none told table = record { added = nothing_added told; table = refl }

pub wrote_more : (before between after : Option DiskTold) (old middle new : Replicas) (writes more : List FileWrite) → Wrote before old writes middle between → Wrote between middle more new after → Wrote before old (writes ++ more) new after
wrote_more before between after old middle new writes more a b = record {
  added = subst (λ calls. Added before calls after) (sym (map-append write_of writes more)) (added_more before between after (map write_of writes) (map write_of more) a.added b.added);
  table = b.table ∙ ap (table_with more) a.table ∙ sym (table_more writes more old);
}

next_write_more : (writes more : List FileWrite) (last : List disk.Call) → IsNextWrite writes last → IsNextWrite (writes ++ more) last
next_write_more writes more [] n = tt
next_write_more [] more (call ∷ calls) n = absurd n
next_write_more (it ∷ writes) more (call ∷ calls) n = n

-- some of the later files were written
pub some_later : (before between after : Option DiskTold) (old middle new : Replicas) (writes more : List FileWrite) → Wrote before old writes middle between → WroteSome between middle more new after → WroteSome before old (writes ++ more) new after
some_later before between after old middle new writes more a s = record {
  done = writes ++ s.done;
  more = s.more;
  split = ap (λ xs. writes ++ xs) s.split ∙ sym (append_assoc writes s.done s.more);
  last = s.last;
  next = s.next;
  added = subst (λ calls. Added before calls after) (sym (ap (λ calls. calls ++ s.last) (map-append write_of writes s.done) ∙ append_assoc (map write_of writes) (map write_of s.done) s.last)) (added_more before between after (map write_of writes) (map write_of s.done ++ s.last) a.added s.added);
  table = s.table ∙ ap (table_with s.done) a.table ∙ sym (table_more writes s.done old);
}

-- writes that stopped would have gone on
pub some_sooner : (before after : Option DiskTold) (old new : Replicas) (writes more : List FileWrite) → WroteSome before old writes new after → WroteSome before old (writes ++ more) new after
some_sooner before after old new writes more s = record {
  done = s.done;
  more = s.more ++ more;
  split = ap (λ xs. xs ++ more) s.split ∙ append_assoc s.done s.more more;
  last = s.last;
  next = next_write_more s.more more s.last s.next;
  added = s.added;
  table = s.table;
}

-- a write that failed
pub some_one : (before after : Option DiskTold) (old new : Replicas) (it : FileWrite) → AddedAtMost before [] (write_of it) after → new ≡ old → WroteSome before old (it ∷ []) new after
some_one before after old new it a kept = elim a [
  | inl none ↦ record { done = []; more = it ∷ []; split = refl; last = []; next = tt; added = none; table = kept }
  | inr one ↦ record { done = []; more = it ∷ []; split = refl; last = write_of it ∷ []; next = refl; added = one; table = kept }
]

pub writes_more : (nodes more : List ℕ) (name : Name) (bytes : List ℕ) → writes_at (nodes ++ more) name bytes ≡ writes_at nodes name bytes ++ writes_at more name bytes
writes_more nodes more name bytes = map-append (λ node. write_at node name bytes) nodes more

-- ---- nodes

pub among_both : (n : ℕ) (nodes more : List ℕ) → among n (nodes ++ more) ≡ false → (among n nodes ≡ false) × (among n more ≡ false)
among_both n [] more e = (refl, e)
among_both n (m ∷ nodes) more e =
    let first = none_of n m (nodes ++ more) e in
    let rest = among_both n nodes more first.1 in
    (ap (λ b. b || among n nodes) first.0 ∙ rest.0, rest.1)

-- those of the nodes from one on and below another that may get the file
abbrev pub rest_between : Further → ℕ → ℕ → List ℕ
rest_between it from to = filter (may_get it.up it.holders) (range_with_len from (to - from))

rest_here : (it : Further) (k to : ℕ) → k < to → rest_between it k to ≡ cond (may_get it.up it.holders k) (k ∷ rest_between it (k + 1) to) (rest_between it (k + 1) to)
rest_here it k to l = let more : to - k ≡ suc (to - (k + 1)) = omega arith in ap (λ len. filter (may_get it.up it.holders) (range_with_len k len)) more

rest_end : (it : Further) (k to : ℕ) → to - k ≡ 0 → rest_between it k to ≡ []
rest_end it k to e = ap (λ len. filter (may_get it.up it.holders) (range_with_len k len)) e

take_none : {A : Type 0} (n : ℕ) → take {A = A} n [] ≡ []
take_none zero = refl
take_none (suc n) = refl

-- ---- a loop over nodes

-- the file was written to these nodes, and is to be written to the first of the rest
pub record WritingSoFar (before : Option DiskTold) (old : Replicas) (it : Further) (all : List ℕ) (most left : ℕ) (rest : List ℕ) (new : Replicas) (now : Option DiskTold) : Type 0 where
  pub taken : List ℕ
  pub split : all ≡ taken ++ take left rest
  pub count : most ≡ length taken + left
  pub wrote : Wrote before old (writes_at taken it.name it.bytes) new now
  pub others : OnTold (OthersStay taken) before now
  pub valid : (w : World) → IsTextOf w.shape it.name it.bytes (value_of w it.name) → Stands w old.copies before → Stands w new.copies now

pub writing_none : (told : Option DiskTold) (table : Replicas) (it : Further) (from to most : ℕ) → WritingSoFar told table it (nodes_between it from to most) most most (rest_between it from to) table told
writing_none told table it from to most = record {
  taken = [];
  split = refl;
  count = omega arith;
  wrote = wrote_none told table;
  others = others_none [] told;
  valid = λ w is s. s;
}

module _ (before now : Option DiskTold) (old new : Replicas) (it : Further) (all : List ℕ) (to most left k : ℕ) (here : k < to) (so_far : WritingSoFar before old it all most left (rest_between it k to) new now) where
  skip : take left (rest_between it k to) ≡ take left (rest_between it (k + 1) to) → WritingSoFar before old it all most left (rest_between it (k + 1) to) new now
  skip e = record {
    taken = so_far.taken;
    split = so_far.split ∙ ap (λ ns. so_far.taken ++ ns) e;
    count = so_far.count;
    wrote = so_far.wrote;
    others = so_far.others;
    valid = so_far.valid;
  }

  -- the node may not get the file
  pub writing_skips : may_get it.up it.holders k ≡ false → WritingSoFar before old it all most left (rest_between it (k + 1) to) new now
  writing_skips e = skip (ap (take left) (rest_here it k to here ∙ ap (λ b. cond b (k ∷ rest_between it (k + 1) to) (rest_between it (k + 1) to)) e))

  -- no node is to get it any more
  pub writing_ends : left ≡ 0 → WritingSoFar before old it all most left (rest_between it (k + 1) to) new now
  writing_ends e = skip (ap (λ n. take n (rest_between it k to)) e ∙ ap (λ n. take n (rest_between it (k + 1) to)) (sym e))

  module _ (fewer : ℕ) (some : left ≡ suc fewer) (may : may_get it.up it.holders k ≡ true) where
    next : all ≡ so_far.taken ++ (k ∷ take fewer (rest_between it (k + 1) to))
    next = so_far.split ∙ ap (λ ns. so_far.taken ++ ns) (ap (λ n. take n (rest_between it k to)) some ∙ ap (take (suc fewer)) (rest_here it k to here ∙ ap (λ b. cond b (k ∷ rest_between it (k + 1) to) (rest_between it (k + 1) to)) may))

    next_one : all ≡ (so_far.taken ++ k ∷ []) ++ take fewer (rest_between it (k + 1) to)
    next_one = next ∙ sym (append_assoc so_far.taken (k ∷ []) (take fewer (rest_between it (k + 1) to)))

    pub writing_more : (after : Option DiskTold) (newer : Replicas) → Wrote now new (write_at k it.name it.bytes ∷ []) newer after → OnTold (OthersStay (k ∷ [])) now after
        → ((w : World) → IsTextOf w.shape it.name it.bytes (value_of w it.name) → Stands w new.copies now → Stands w newer.copies after)
        → WritingSoFar before old it all most fewer (rest_between it (k + 1) to) newer after
    writing_more after newer w o v = record {
      taken = so_far.taken ++ k ∷ [];
      split = next_one;
      count = omega (arith, so_far.count, some, length_one so_far.taken k);
      wrote = subst (λ writes. Wrote before old writes newer after) (sym (writes_more so_far.taken (k ∷ []) it.name it.bytes)) (wrote_more before now after old new newer (writes_at so_far.taken it.name it.bytes) (write_at k it.name it.bytes ∷ []) so_far.wrote w);
      others = others_more so_far.taken (k ∷ []) (so_far.taken ++ k ∷ []) before now after (λ n e. among_both n so_far.taken (k ∷ []) e) so_far.others o;
      valid = λ world is s. v world is (so_far.valid world is s);
    }
      where
        length_one : (ns : List ℕ) (n : ℕ) → length (ns ++ n ∷ []) ≡ length ns + 1
        length_one [] n = refl
        length_one (m ∷ ns) n = omega (arith, length_one ns n)

    pub writing_stops : (after : Option DiskTold) (newer : Replicas) → AddedAtMost now [] (disk.Write k it.name it.bytes) after → newer ≡ new → WroteSome before old (writes_at all it.name it.bytes) newer after
    writing_stops after newer a kept =
        let one : WroteSome now new (writes_at (k ∷ take fewer (rest_between it (k + 1) to)) it.name it.bytes) newer after = some_sooner now after new newer (write_at k it.name it.bytes ∷ []) (writes_at (take fewer (rest_between it (k + 1) to)) it.name it.bytes) (some_one now after new newer (write_at k it.name it.bytes) a kept) in
        subst (λ writes. WroteSome before old writes newer after) (sym (ap (λ ns. writes_at ns it.name it.bytes) next ∙ writes_more so_far.taken (k ∷ take fewer (rest_between it (k + 1) to)) it.name it.bytes))
        (some_later before now after old new newer (writes_at so_far.taken it.name it.bytes) (writes_at (k ∷ take fewer (rest_between it (k + 1) to)) it.name it.bytes) so_far.wrote one)

    pub others_stop : (after : Option DiskTold) → OnTold (OthersStay (k ∷ [])) now after → OnTold (OthersStay all) before after
    others_stop after o = others_more so_far.taken (k ∷ []) all before now after
        (λ n e. among_both n so_far.taken (k ∷ []) ((among_both n (so_far.taken ++ k ∷ []) (take fewer (rest_between it (k + 1) to)) (subst (λ ns. among n ns ≡ false) next_one e)).0)) so_far.others o

-- the loop is done
module _ (before now : Option DiskTold) (old new : Replicas) (it : Further) (all : List ℕ) (to most left k : ℕ) (end : to - k ≡ 0) (so_far : WritingSoFar before old it all most left (rest_between it k to) new now) where
  all_taken : all ≡ so_far.taken
  all_taken = so_far.split ∙ ap (λ ns. so_far.taken ++ ns) (ap (take left) (rest_end it k to end) ∙ take_none left) ∙ append-nil so_far.taken

  pub writing_all : Wrote before old (writes_at all it.name it.bytes) new now
  writing_all = subst (λ ns. Wrote before old (writes_at ns it.name it.bytes) new now) (sym all_taken) so_far.wrote

  pub writing_left : left ≡ most - length all
  writing_left = let same : length all ≡ length so_far.taken = ap length all_taken in omega (arith, so_far.count, same)

  pub others_all : OnTold (OthersStay all) before now
  others_all = subst (λ ns. OnTold (OthersStay ns) before now) (sym all_taken) so_far.others

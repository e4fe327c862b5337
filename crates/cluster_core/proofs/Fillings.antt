-- Files that are written, one after another.
use Rattle.std.proofs.Common.{Result, Ok, Err, OnErr, ◌≡◌, ◌<◌, ◌≤◌, ◌+◌, ◌-◌, arith, ℕ, List, [], ◌∷◌, ◌++◌, map, refl, sym, ap, subst, ◌∙◌, IsSome, Option}
use Rattle.std.specs.List.{flat_map, range_with_len}
use Rattle.loop_scheduler.proofs.Ranges.{from_on, none_on, one_on}
use Rattle.run_model.specs.Lists.{below}
use Rattle.std.proofs.lemmas.List.{append-nil, append_assoc}
use Rattle.hal_outside.specs.declared.disks.Disks.{Ghosts as Disks}
use Rattle.hal_outside.specs.DiskCalls as disk
use Rattle.hal_outside.specs.DiskTold.{DiskTold}
use Rattle.name_values.specs.Values.{World, value_of}
use Rattle.node_names.specs.declared.name.Name.{Name}
use Rattle.valid_copies.specs.Readings.{IsTextOf}
use Rattle.replica_table.specs.Copies.{Replicas}
use Rattle.valid_copies.proofs.Written.{some_later, some_one, some_sooner, wrote_more, wrote_none}
use Rattle.valid_copies.proofs.Adding.{all_back, all_front}
use Rattle.valid_copies.specs.Calls.{AddedAtMost}
use Rattle.valid_copies.specs.Stands.{Stands}
use Rattle.valid_copies.specs.Writes.{FileWrite, Wrote, write_at}
use Rattle.cluster_core.specs.Disks.{Leaves}
use Rattle.cluster_core.specs.Filling.{Filled, FilledSome, HasItsText}
use Rattle.cluster_core.proofs.DisksLeft.{leaves_more, leaves_none, not_missed_more}

-- ---- what is filled

same_nodes : (files : List FileWrite) (before after : Option DiskTold) (first last : Replicas) → Wrote before first files last after → last.nodes ≡ first.nodes
same_nodes files before after first last w = ap (λ (t : Replicas). t.nodes) w.table

pub filled_none : {D : Type 0} (g : Disks D) (disks : D) (table : Replicas) → Filled g [] disks table table disks
filled_none g disks table = record {
  wrote = wrote_none (g.told disks) table;
  valid = λ w texts stands. stands;
  disks = leaves_none g table.nodes disks;
  not_missed = λ tells. refl;
}

pub filled_more : {D : Type 0} (g : Disks D) (xs ys : List FileWrite) (old between new : D) (first middle last : Replicas) → Filled g xs old first middle between → Filled g ys between middle last new → Filled g (xs ++ ys) old first last new
filled_more g xs ys old between new first middle last a b =
    let left : Leaves g first.nodes between new = subst (λ nodes. Leaves g nodes between new) (same_nodes xs (g.told old) (g.told between) first middle a.wrote) b.disks in
    record {
      wrote = wrote_more (g.told old) (g.told between) (g.told new) first middle last xs ys a.wrote b.wrote;
      valid = λ w texts stands. b.valid w (all_back (HasItsText w) xs ys texts) (a.valid w (all_front (HasItsText w) xs ys texts) stands);
      disks = leaves_more g first.nodes old between new a.disks left;
      not_missed = not_missed_more g first.nodes old between new a.disks a.not_missed b.not_missed;
    }

pub filled_then_some : {D : Type 0} (g : Disks D) (xs ys : List FileWrite) (old between new : D) (first middle last : Replicas) → Filled g xs old first middle between → FilledSome g ys between middle last new → FilledSome g (xs ++ ys) old first last new
filled_then_some g xs ys old between new first middle last a b =
    let left : Leaves g first.nodes between new = subst (λ nodes. Leaves g nodes between new) (same_nodes xs (g.told old) (g.told between) first middle a.wrote) b.disks in
    record {
      wrote = some_later (g.told old) (g.told between) (g.told new) first middle last xs ys a.wrote b.wrote;
      disks = leaves_more g first.nodes old between new a.disks left;
      not_missed = not_missed_more g first.nodes old between new a.disks a.not_missed b.not_missed;
    }

pub filled_some_of : {D : Type 0} (g : Disks D) (xs ys : List FileWrite) (old new : D) (first last : Replicas) → FilledSome g xs old first last new → FilledSome g (xs ++ ys) old first last new
filled_some_of g xs ys old new first last a = record { wrote = some_sooner (g.told old) (g.told new) first last xs ys a.wrote; disks = a.disks; not_missed = a.not_missed }

-- ---- in a loop

-- the files before those that are left were written
pub record Until {D : Type 0} (g : Disks D) (all left : List FileWrite) (old : D) (first last : Replicas) (new : D) : Type 0 where
  pub done : List FileWrite
  pub split : done ++ left ≡ all
  pub filled : Filled g done old first last new

pub until_none : {D : Type 0} (g : Disks D) (all : List FileWrite) (disks : D) (table : Replicas) → Until g all all disks table table disks
until_none g all disks table = record { done = []; split = refl; filled = filled_none g disks table }

pub until_more : {D : Type 0} (g : Disks D) (all xs left : List FileWrite) (old between new : D) (first middle last : Replicas) → Until g all (xs ++ left) old first middle between → Filled g xs between middle last new → Until g all left old first last new
until_more g all xs left old between new first middle last a b = record {
  done = a.done ++ xs;
  split = append_assoc a.done xs left ∙ a.split;
  filled = filled_more g a.done xs old between new first middle last a.filled b;
}

pub until_done : {D : Type 0} (g : Disks D) (all : List FileWrite) (old new : D) (first last : Replicas) → Until g all [] old first last new → Filled g all old first last new
until_done g all old new first last a = subst (λ files. Filled g files old first last new) (sym (append-nil a.done) ∙ a.split) a.filled

pub until_stopped : {D : Type 0} (g : Disks D) (all xs left : List FileWrite) (old between new : D) (first middle last : Replicas) → Until g all (xs ++ left) old first middle between → FilledSome g xs between middle last new → FilledSome g all old first last new
until_stopped g all xs left old between new first middle last a b =
    subst (λ files. FilledSome g files old first last new) (append_assoc a.done xs left ∙ a.split)
    (filled_some_of g (a.done ++ xs) left old new first last (filled_then_some g a.done xs old between new first middle last a.filled b))

-- ---- number by number

from_zero : (n : ℕ) → from_on 0 n ≡ below n
from_zero n = let same : n - 0 ≡ n = omega arith in ap (range_with_len 0) same

-- the files of numbers from k on are left, one for each
abbrev pub EachUntil : {D : Type 0} → Disks D → (ℕ → FileWrite) → ℕ → ℕ → D → Replicas → Replicas → D → Type 0
EachUntil g f k end old first last new = Until g (map f (below end)) (map f (from_on k end)) old first last new

pub each_none : {D : Type 0} (g : Disks D) (f : ℕ → FileWrite) (end : ℕ) (disks : D) (table : Replicas) → EachUntil g f 0 end disks table table disks
each_none g f end disks table = subst (λ ns. Until g (map f (below end)) (map f ns) disks table table disks) (sym (from_zero end)) (until_none g (map f (below end)) disks table)

pub each_more : {D : Type 0} (g : Disks D) (f : ℕ → FileWrite) (k end : ℕ) (old between new : D) (first middle last : Replicas) → k < end → EachUntil g f k end old first middle between → Filled g (f k ∷ []) between middle last new → EachUntil g f (k + 1) end old first last new
each_more g f k end old between new first middle last l a b =
    until_more g (map f (below end)) (f k ∷ []) (map f (from_on (k + 1) end)) old between new first middle last
    (subst (λ ns. Until g (map f (below end)) (map f ns) old first middle between) (one_on k end l) a) b

pub each_stopped : {D : Type 0} (g : Disks D) (f : ℕ → FileWrite) (k end : ℕ) (old between new : D) (first middle last : Replicas) → k < end → EachUntil g f k end old first middle between → FilledSome g (f k ∷ []) between middle last new → FilledSome g (map f (below end)) old first last new
each_stopped g f k end old between new first middle last l a b =
    until_stopped g (map f (below end)) (f k ∷ []) (map f (from_on (k + 1) end)) old between new first middle last
    (subst (λ ns. Until g (map f (below end)) (map f ns) old first middle between) (one_on k end l) a) b

pub each_done : {D : Type 0} (g : Disks D) (f : ℕ → FileWrite) (k end : ℕ) (old new : D) (first last : Replicas) → end ≤ k → EachUntil g f k end old first last new → Filled g (map f (below end)) old first last new
each_done g f k end old new first last l a = until_done g (map f (below end)) old new first last (subst (λ ns. Until g (map f (below end)) (map f ns) old first last new) (none_on k end l) a)

-- the same where some files stand for each number
abbrev pub AllUntil : {D : Type 0} → Disks D → (ℕ → List FileWrite) → ℕ → ℕ → D → Replicas → Replicas → D → Type 0
AllUntil g f k end old first last new = Until g (flat_map f (below end)) (flat_map f (from_on k end)) old first last new

pub all_none : {D : Type 0} (g : Disks D) (f : ℕ → List FileWrite) (end : ℕ) (disks : D) (table : Replicas) → AllUntil g f 0 end disks table table disks
all_none g f end disks table = subst (λ ns. Until g (flat_map f (below end)) (flat_map f ns) disks table table disks) (sym (from_zero end)) (until_none g (flat_map f (below end)) disks table)

pub all_more : {D : Type 0} (g : Disks D) (f : ℕ → List FileWrite) (k end : ℕ) (old between new : D) (first middle last : Replicas) → k < end → AllUntil g f k end old first middle between → Filled g (f k) between middle last new → AllUntil g f (k + 1) end old first last new
all_more g f k end old between new first middle last l a b =
    until_more g (flat_map f (below end)) (f k) (flat_map f (from_on (k + 1) end)) old between new first middle last
    (subst (λ ns. Until g (flat_map f (below end)) (flat_map f ns) old first middle between) (one_on k end l) a) b

pub all_stopped : {D : Type 0} (g : Disks D) (f : ℕ → List FileWrite) (k end : ℕ) (old between new : D) (first middle last : Replicas) → k < end → AllUntil g f k end old first middle between → FilledSome g (f k) between middle last new → FilledSome g (flat_map f (below end)) old first last new
all_stopped g f k end old between new first middle last l a b =
    until_stopped g (flat_map f (below end)) (f k) (flat_map f (from_on (k + 1) end)) old between new first middle last
    (subst (λ ns. Until g (flat_map f (below end)) (flat_map f ns) old first middle between) (one_on k end l) a) b

pub all_done : {D : Type 0} (g : Disks D) (f : ℕ → List FileWrite) (k end : ℕ) (old new : D) (first last : Replicas) → end ≤ k → AllUntil g f k end old first last new → Filled g (flat_map f (below end)) old first last new
all_done g f k end old new first last l a = until_done g (flat_map f (below end)) old new first last (subst (λ ns. Until g (flat_map f (below end)) (flat_map f ns) old first last new) (none_on k end l) a)

-- ---- one file

pub filled_one : {D : Type 0} (g : Disks D) (node : ℕ) (name : Name) (bytes : List ℕ) (file : FileWrite) (old new : D) (first last : Replicas)
    → write_at node name bytes ≡ file
    → Wrote (g.told old) first (write_at node name bytes ∷ []) last (g.told new)
    → ((w : World) → IsTextOf w.shape name bytes (value_of w name) → Stands w first.copies (g.told old) → Stands w last.copies (g.told new))
    → Leaves g first.nodes old new → (IsSome (g.told old) → g.misses new ≡ g.misses old)
    → Filled g (file ∷ []) old first last new
filled_one g node name bytes file old new first last is wrote valid left not_missed = subst (λ it. Filled g (it ∷ []) old first last new) is (record {
  wrote = wrote;
  valid = λ w texts stands. valid w texts.0 stands;
  disks = left;
  not_missed = not_missed;
})

pub stopped_one : {D : Type 0} (g : Disks D) (node : ℕ) (name : Name) (bytes : List ℕ) (file : FileWrite) (old new : D) (first last : Replicas)
    → write_at node name bytes ≡ file
    → AddedAtMost (g.told old) [] (disk.Write node name bytes) (g.told new) → last ≡ first
    → Leaves g first.nodes old new → (IsSome (g.told old) → g.misses new ≡ g.misses old)
    → FilledSome g (file ∷ []) old first last new
stopped_one g node name bytes file old new first last is begun same left not_missed = subst (λ it. FilledSome g (it ∷ []) old first last new) is (record {
  wrote = some_one (g.told old) (g.told new) first last (write_at node name bytes) begun same;
  disks = left;
  not_missed = not_missed;
})

pub on_err : {A B : Type 0} (result : Result A B) (P : Type 0) → P → OnErr result P
on_err (Ok a) P p = tt
on_err (Err b) P p = p

-- the table has as many nodes as at first
pub until_nodes : {D : Type 0} (g : Disks D) (all left : List FileWrite) (old new : D) (first last : Replicas) → Until g all left old first last new → last.nodes ≡ first.nodes
until_nodes g all left old new first last u = same_nodes u.done (g.told old) (g.told new) first last u.filled.wrote

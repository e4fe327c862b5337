-- Kept digests that are those of what was last written, call after call.
use Rattle.std.proofs.Common.{arith, ◌≡◌, ℕ, Bool, true, false, not, cond, ◌==◌, ◌&&◌, nat_lt, inl, inr, List, [], ◌∷◌, ◌++◌, Option, None, Some, map, refl, sym, ap, ◌∙◌, subst, append_assoc, append-nil}
use Rattle.std.specs.List.{AllByRecursion, filter}
use Rattle.std.specs.Option.{option_map, option_or}
use Rattle.std.proofs.lemmas.Bool.{eq-eqb, eqb-true, false≢true}
use Rattle.std.proofs.lemmas.Bool.Decides.{nat_tests}
use Rattle.std.proofs.lemmas.Option.{none-some}
use Rattle.plain_job.proofs.Lists.{all_both, all_weaker}
use Rattle.node_names.specs.declared.digest.Digest.{Digest}
use Rattle.node_names.specs.declared.name.Name.{Name}
use Rattle.hal_outside.specs.DiskCalls as disk
use Rattle.hal_outside.specs.DiskTold.{DiskTold}
use Rattle.hal_outside.specs.Told.{OnTold}
use Rattle.replica_table.proofs.Names.{itself, same_by}
use Rattle.replica_table.specs.Copies.{Copy, Replicas, among_its_own, but_those, held, is_at, is_name, with_copy}
use Rattle.replica_table.specs.Sets.{among}
use Rattle.replica_table.specs.declared.file_on.FileOn.{FileOn}
use Rattle.sha2.specs.Sha256.{sha256}
use Rattle.valid_copies.proofs.Adding.{such_added, told_added}
use Rattle.valid_copies.proofs.Copies.{and_true}
use Rattle.valid_copies.specs.Calls.{Added, AddedAtMost, CallsHave}
use Rattle.valid_copies.specs.LastWrites.{AllAskForLast, AskedForLast, AsksForCopy, AsksForLast, DigestsAgree, IsOfLast, ReadsCopies, WritesNothing, last_written, written_by}
use Rattle.valid_copies.specs.Removing.{IsNextRemoval, RemovedSome, removal_of}
use Rattle.valid_copies.specs.Stands.{copy_of_bytes}
use Rattle.valid_copies.specs.Writes.{FileWrite, IsNextWrite, Wrote, WroteSome, copies_with, write_of}

-- ---- what was last written

or_none : {A : Type 0} (p : Option A) → option_or p None ≡ p
or_none None = refl
or_none (Some x) = refl

or_more : {A : Type 0} (p q r : Option A) → option_or p (option_or q r) ≡ option_or (option_or p q) r
or_more None q r = refl
or_more (Some x) q r = refl

last_more : (node : ℕ) (name : Name) (calls more : List disk.Call) → last_written node name (calls ++ more) ≡ option_or (last_written node name more) (last_written node name calls)
last_more node name [] more = sym (or_none (last_written node name more))
last_more node name (call ∷ calls) more =
    ap (λ last. option_or last (written_by node name call)) (last_more node name calls more)
    ∙ sym (or_more (last_written node name more) (last_written node name calls) (written_by node name call))

-- a call that writes nothing
nothing_by : (node : ℕ) (name : Name) (call : disk.Call) → WritesNothing call → written_by node name call ≡ None
nothing_by node name (disk.Write on other bytes) n = absurd n
nothing_by node name (disk.Read on other want answer) n = refl
nothing_by node name (disk.Remove on other) n = refl
nothing_by node name (disk.Wipe on) n = refl

nothing_written : (node : ℕ) (name : Name) (calls : List disk.Call) → AllByRecursion WritesNothing calls → last_written node name calls ≡ None
nothing_written node name [] n = refl
nothing_written node name (call ∷ calls) n = rw (nothing_written node name calls n.1, nothing_by node name call n.0) refl

-- ---- the kept digests of copies, and calls

abbrev pub Agree : List Copy → List disk.Call → Type 0
Agree copies calls = (name : Name) (node : ℕ) (digest : Digest) → held name node copies ≡ Some digest → IsOfLast calls node name digest.0

agree_still : (copies : List Copy) (calls more : List disk.Call) → AllByRecursion WritesNothing more → Agree copies calls → Agree copies (calls ++ more)
agree_still copies calls more n a = λ name node digest h.
    ap (option_map sha256) (last_more node name calls more ∙ ap (λ last. option_or last (last_written node name calls)) (nothing_written node name more n)) ∙ a name node digest h

-- ---- copies that come and go

-- one of two that cannot both be
in_turn : {A : Type 0} (a b : Bool) (x y z : A) → (b ≡ true → a ≡ true → ⊥) → cond b y (cond a x z) ≡ cond a x (cond b y z)
in_turn true true x y z n = absurd (n refl refl)
in_turn true false x y z n = refl
in_turn false true x y z n = refl
in_turn false false x y z n = refl

-- the copy of a place is of its name and on its node
at_place : (name : Name) (node : ℕ) (c : Copy) → is_at name node c ≡ true → (name ≡ c.name) × (node ≡ c.node)
at_place name node c e = let two = and_true (is_name name c.name) (node == c.node) e in (same_by name c.name two.0, eqb-true node c.node two.1)

at_one : (name : Name) (node : ℕ) (c other : Copy) → is_at name node c ≡ true → is_at name node other ≡ is_at c.name c.node other
at_one name node c other e = let at = at_place name node c e in ap (λ b. is_at b node other) at.0 ∙ ap (λ n. is_at c.name n other) at.1

module _ (new : Copy) (name : Name) (node : ℕ) where
  held_among : (copies : List Copy) → held name node (among_its_own new copies) ≡ cond (is_at name node new) (Some new.kept) (held name node copies)
  held_among [] = refl
  held_among (c ∷ cs) =
      elim (is_name new.name c.name && nat_lt c.node new.node) as (λ t. (is_name new.name c.name && nat_lt c.node new.node) ≡ t → held name node (cond t (c ∷ among_its_own new cs) (cond (is_at new.name new.node c) (new ∷ cs) (new ∷ c ∷ cs))) ≡ cond (is_at name node new) (Some new.kept) (held name node (c ∷ cs))) [
        | true ↦ λ t.
            ap (cond (is_at name node c) (Some c.kept)) (held_among cs)
            ∙ in_turn (is_at name node new) (is_at name node c) (Some new.kept) (Some c.kept) (held name node cs)
            (λ b a. below c.node new.node (and_true (is_name new.name c.name) (nat_lt c.node new.node) t).1 (sym (at_place name node c b).1 ∙ (at_place name node new a).1))
        | false ↦ λ t. elim (is_at new.name new.node c) as (λ u. is_at new.name new.node c ≡ u → held name node (cond u (new ∷ cs) (new ∷ c ∷ cs)) ≡ cond (is_at name node new) (Some new.kept) (held name node (c ∷ cs))) [
          | true ↦ λ u. elim (is_at name node new) as (λ v. is_at name node new ≡ v → cond v (Some new.kept) (held name node cs) ≡ cond v (Some new.kept) (cond (is_at name node c) (Some c.kept) (held name node cs))) [
            | true ↦ λ v. refl
            | false ↦ λ v. sym (ap (λ w. cond w (Some c.kept) (held name node cs)) (not_at c u v))
          ] refl
          | false ↦ λ u. refl
        ] refl
      ] refl
    where
      below : (m n : ℕ) → nat_lt m n ≡ true → m ≡ n → ⊥
      below m n l e = grind (arith, nat_tests)

      -- what lies at the place of the new copy is elsewhere where the new one is
      not_at : (c : Copy) → is_at new.name new.node c ≡ true → is_at name node new ≡ false → is_at name node c ≡ false
      not_at c u v = elim (is_at name node c) as (λ w. is_at name node c ≡ w → w ≡ false) [
        | true ↦ λ w.
            let at = at_place name node c w in
            let there = at_place new.name new.node c u in
            absurd (false≢true (sym v ∙ ap (λ b. is_name b new.name && (node == new.node)) (at.0 ∙ sym there.0) ∙ ap (λ t. t && (node == new.node)) (itself new.name) ∙ eq-eqb node new.node (at.1 ∙ sym there.1)))
        | false ↦ λ w. refl
      ] refl

  held_with : (copies : List Copy) → held name node (with_copy new copies) ≡ cond (is_at name node new) (Some new.kept) (held name node copies)
  held_with [] = refl
  held_with (c ∷ cs) = elim (is_name new.name c.name) as (λ t. is_name new.name c.name ≡ t → held name node (cond t (among_its_own new (c ∷ cs)) (c ∷ with_copy new cs)) ≡ cond (is_at name node new) (Some new.kept) (held name node (c ∷ cs))) [
    | true ↦ λ t. held_among (c ∷ cs)
    | false ↦ λ t.
        ap (cond (is_at name node c) (Some c.kept)) (held_with cs)
        ∙ in_turn (is_at name node new) (is_at name node c) (Some new.kept) (Some c.kept) (held name node cs)
        (λ b a. false≢true (sym t ∙ ap (is_name new.name) (sym (at_place name node c b).0 ∙ (at_place name node new a).0) ∙ itself new.name))
  ] refl

module _ (p : Name → ℕ → Bool) (name : Name) (node : ℕ) where
  none_left : (copies : List Copy) → p name node ≡ false → held name node (filter (λ (c : Copy). p c.name c.node) copies) ≡ None
  none_left [] e = refl
  none_left (c ∷ cs) e = elim (p c.name c.node) as (λ t. p c.name c.node ≡ t → held name node (cond t (c ∷ filter (λ (c : Copy). p c.name c.node) cs) (filter (λ (c : Copy). p c.name c.node) cs)) ≡ None) [
    | true ↦ λ t. elim (is_at name node c) as (λ u. is_at name node c ≡ u → cond u (Some c.kept) (held name node (filter (λ (c : Copy). p c.name c.node) cs)) ≡ None) [
      | true ↦ λ u. let at = at_place name node c u in absurd (false≢true (sym e ∙ ap (λ b. p b node) at.0 ∙ ap (p c.name) at.1 ∙ t))
      | false ↦ λ u. none_left cs e
    ] refl
    | false ↦ λ t. none_left cs e
  ] refl

  -- a copy that is left was held before
  pub held_left : (copies : List Copy) (digest : Digest) → held name node (filter (λ (c : Copy). p c.name c.node) copies) ≡ Some digest → held name node copies ≡ Some digest
  held_left [] digest = λ h. h
  held_left (c ∷ cs) digest = elim (p c.name c.node) as (λ t. p c.name c.node ≡ t → held name node (cond t (c ∷ filter (λ (c : Copy). p c.name c.node) cs) (filter (λ (c : Copy). p c.name c.node) cs)) ≡ Some digest → cond (is_at name node c) (Some c.kept) (held name node cs) ≡ Some digest) [
    | true ↦ λ t. elim (is_at name node c) as (λ u. cond u (Some c.kept) (held name node (filter (λ (c : Copy). p c.name c.node) cs)) ≡ Some digest → cond u (Some c.kept) (held name node cs) ≡ Some digest) [
      | true ↦ λ h. h
      | false ↦ λ h. held_left cs digest h
    ]
    | false ↦ λ t h. elim (is_at name node c) as (λ u. is_at name node c ≡ u → cond u (Some c.kept) (held name node cs) ≡ Some digest) [
      | true ↦ λ u. let at = at_place name node c u in absurd (none-some digest (sym (none_left cs (ap (λ b. p b node) at.0 ∙ ap (p c.name) at.1 ∙ t)) ∙ h))
      | false ↦ λ u. held_left cs digest h
    ] refl
  ] refl

-- once one more file is written, the digest kept of it is that of its bytes
agree_with : (it : FileWrite) (copies : List Copy) (calls : List disk.Call) → Agree copies calls → Agree (with_copy (copy_of_bytes it.name it.node it.bytes) copies) (calls ++ write_of it ∷ [])
agree_with it copies calls a = λ name node digest h.
    let new : Copy = copy_of_bytes it.name it.node it.bytes in
    let last : last_written node name (calls ++ write_of it ∷ []) ≡ option_or (cond (is_at name node new) (Some it.bytes) None) (last_written node name calls) = last_more node name calls (write_of it ∷ []) in
    ap (option_map sha256) last ∙ (elim (is_at name node new) as (λ t. cond t (Some new.kept) (held name node copies) ≡ Some digest → option_map sha256 (option_or (cond t (Some it.bytes) None) (last_written node name calls)) ≡ Some digest.0) [
      | true ↦ λ e. cc
      | false ↦ λ e. a name node digest e
    ] (sym (held_with new name node copies) ∙ h))

agree_all : (writes : List FileWrite) (copies : List Copy) (calls : List disk.Call) → Agree copies calls → Agree (copies_with writes copies) (calls ++ map write_of writes)
agree_all [] copies calls a = subst (Agree copies) (sym (append-nil calls)) a
agree_all (it ∷ writes) copies calls a =
    subst (Agree (copies_with (it ∷ writes) copies)) (append_assoc calls (write_of it ∷ []) (map write_of writes))
    (agree_all writes (with_copy (copy_of_bytes it.name it.node it.bytes) copies) (calls ++ write_of it ∷ []) (agree_with it copies calls a))

-- ---- what calls ask for

-- the call reads no file
abbrev pub ReadsNothing : disk.Call → Type 0
ReadsNothing (disk.Write node name bytes) = Unit {0}
ReadsNothing (disk.Read node name want answer) = ⊥
ReadsNothing (disk.Remove node name) = Unit {0}
ReadsNothing (disk.Wipe node) = Unit {0}

one_nothing : (before : List disk.Call) (call : disk.Call) → ReadsNothing call → AsksForLast before call
one_nothing before (disk.Write node name bytes) n = tt
one_nothing before (disk.Read node name want answer) n = absurd n
one_nothing before (disk.Remove node name) n = tt
one_nothing before (disk.Wipe node) n = tt

asks_nothing : (before calls : List disk.Call) → AllByRecursion ReadsNothing calls → AllAskForLast before calls
asks_nothing before [] n = tt
asks_nothing before (call ∷ calls) n = (one_nothing before call n.0, asks_nothing (before ++ call ∷ []) calls n.1)

-- a read of a copy writes nothing, and asks for what agrees
pub copy_writes : (copies : List Copy) (call : disk.Call) → AsksForCopy copies call → WritesNothing call
copy_writes copies (disk.Write node name bytes) a = a
copy_writes copies (disk.Read node name want answer) a = tt
copy_writes copies (disk.Remove node name) a = tt
copy_writes copies (disk.Wipe node) a = tt

copy_asks : (copies : List Copy) (before : List disk.Call) (call : disk.Call) → Agree copies before → AsksForCopy copies call → AsksForLast before call
copy_asks copies before (disk.Write node name bytes) agree a = tt
copy_asks copies before (disk.Read node name want answer) agree a = agree name node (record { 0 = want }) a
copy_asks copies before (disk.Remove node name) agree a = tt
copy_asks copies before (disk.Wipe node) agree a = tt

asks_copies : (copies : List Copy) (before calls : List disk.Call) → Agree copies before → AllByRecursion (AsksForCopy copies) calls → AllAskForLast before calls
asks_copies copies before [] agree a = tt
asks_copies copies before (call ∷ calls) agree a = (
  copy_asks copies before call agree a.0,
  asks_copies copies (before ++ call ∷ []) calls (agree_still copies before (call ∷ []) (copy_writes copies call a.0, tt) agree) a.1,
)

asks_both : (before calls more : List disk.Call) → AllAskForLast before calls → AllAskForLast (before ++ calls) more → AllAskForLast before (calls ++ more)
asks_both before [] more a b = subst (λ done. AllAskForLast done more) (append-nil before) b
asks_both before (call ∷ calls) more a b = (a.0, asks_both (before ++ call ∷ []) calls more a.1 (subst (λ done. AllAskForLast done more) (sym (append_assoc before (call ∷ []) calls)) b))

-- no copy has no digest
pub none_agree : (told : Option DiskTold) → DigestsAgree [] told
none_agree None = tt
none_agree (Some t) = λ name node digest h. cc

-- ---- work on disks

-- where the kept digests of these copies are those of what was last written, each read asks for such a digest, and p
abbrev pub ByDigests : List Copy → Option DiskTold → Option DiskTold → Type 0 → Type 0
ByDigests copies before after p = DigestsAgree copies before → OnTold AskedForLast before after × p

pub asked_none : (told : Option DiskTold) → OnTold AskedForLast told told
asked_none None = refl
asked_none (Some t) = record { calls = []; added = sym (append-nil t.calls); each = tt }

pub asked_more : (before between after : Option DiskTold) → OnTold AskedForLast before between → OnTold AskedForLast between after → OnTold AskedForLast before after
asked_more None None after a b = b
asked_more None (Some m) after a b = cc
asked_more (Some t) None after a b = absurd a
asked_more (Some t) (Some m) None a b = absurd b
asked_more (Some t) (Some m) (Some u) a b = record {
  calls = a.calls ++ b.calls;
  added = b.added ∙ ap (λ cs. cs ++ b.calls) a.added ∙ append_assoc t.calls a.calls b.calls;
  each = asks_both t.calls a.calls b.calls a.each (subst (λ done. AllAskForLast done b.calls) a.added b.each);
}

pub digests_none : (copies : List Copy) (told : Option DiskTold) → ByDigests copies told told (DigestsAgree copies told)
digests_none copies told = λ agree. (asked_none told, agree)

pub digests_more : (copies changed : List Copy) (before between after : Option DiskTold) (p : Type 0) → ByDigests copies before between (DigestsAgree changed between) → ByDigests changed between after p → ByDigests copies before after p
digests_more copies changed before between after p a b = λ agree. (asked_more before between after (a agree).0 (b (a agree).1).0, (b (a agree).1).1)

pub digests_so : (copies : List Copy) (before after : Option DiskTold) (p q : Type 0) → (p → q) → ByDigests copies before after p → ByDigests copies before after q
digests_so copies before after p q f a = λ agree. ((a agree).0, f (a agree).1)

-- calls that are known
by_added : (copies changed : List Copy) (before after : Option DiskTold) (calls : List disk.Call) → Added before calls after
    → ((done : List disk.Call) → Agree copies done → AllAskForLast done calls) → ((done : List disk.Call) → Agree copies done → Agree changed (done ++ calls))
    → ByDigests copies before after (DigestsAgree changed after)
by_added copies changed None None calls a asks agrees = λ agree. (refl, tt)
by_added copies changed None (Some u) calls a asks agrees = cc
by_added copies changed (Some t) None calls a asks agrees = cc
by_added copies changed (Some t) (Some u) calls a asks agrees = λ agree.
    let e : u.calls ≡ t.calls ++ calls = told_added (Some t) (Some u) calls a in
    (record { calls = calls; added = e; each = asks t.calls agree }, subst (Agree changed) (sym e) (agrees t.calls agree))

-- calls by which nothing is read, whatever holds then
by_nothing : (copies : List Copy) (before after : Option DiskTold) (calls : List disk.Call) (p : Type 0) → p → Added before calls after → AllByRecursion ReadsNothing calls → ByDigests copies before after p
by_nothing copies None None calls p is a n = λ agree. (refl, is)
by_nothing copies None (Some u) calls p is a n = cc
by_nothing copies (Some t) None calls p is a n = cc
by_nothing copies (Some t) (Some u) calls p is a n = λ agree. (record { calls = calls; added = told_added (Some t) (Some u) calls a; each = asks_nothing t.calls calls n }, is)

-- ---- reads

pub digests_read : (copies : List Copy) (before after : Option DiskTold) → ReadsCopies copies before after → ByDigests copies before after (DigestsAgree copies after)
digests_read copies None None r = λ agree. (refl, tt)
digests_read copies None (Some u) r = cc
digests_read copies (Some t) None r = absurd r
digests_read copies (Some t) (Some u) r = λ agree. (
  record { calls = r.calls; added = r.added; each = asks_copies copies t.calls r.calls agree r.each },
  subst (Agree copies) (sym r.added) (agree_still copies t.calls r.calls (all_weaker (AsksForCopy copies) WritesNothing r.calls (copy_writes copies) r.each) agree),
)

-- ---- writes

writes_nothing_read : (writes : List FileWrite) → AllByRecursion ReadsNothing (map write_of writes)
writes_nothing_read [] = tt
writes_nothing_read (it ∷ writes) = (tt, writes_nothing_read writes)

pub digests_wrote : (before after : Option DiskTold) (first last : Replicas) (writes : List FileWrite) → Wrote before first writes last after → ByDigests first.copies before after (DigestsAgree last.copies after)
digests_wrote before after first last writes w =
    subst (λ (table : Replicas). ByDigests first.copies before after (DigestsAgree table.copies after)) (sym w.table)
    (by_added first.copies (copies_with writes first.copies) before after (map write_of writes) w.added (λ done agree. asks_nothing done (map write_of writes) (writes_nothing_read writes)) (λ done agree. agree_all writes first.copies done agree))

next_nothing_read : (writes : List FileWrite) (last : List disk.Call) → IsNextWrite writes last → AllByRecursion ReadsNothing last
next_nothing_read writes [] n = tt
next_nothing_read [] (call ∷ calls) n = absurd n
next_nothing_read (it ∷ writes) (call ∷ calls) n = subst (AllByRecursion ReadsNothing) (sym n) (tt, tt)

pub digests_wrote_some : (before after : Option DiskTold) (first last : Replicas) (writes : List FileWrite) (p : Type 0) → p → WroteSome before first writes last after → ByDigests first.copies before after p
digests_wrote_some before after first last writes p is w =
    by_nothing first.copies before after (map write_of w.done ++ w.last) p is w.added (all_both ReadsNothing (map write_of w.done) w.last (writes_nothing_read w.done) (next_nothing_read w.more w.last w.next))

-- one write, or none
pub digests_at_most : (copies : List Copy) (before after : Option DiskTold) (it : FileWrite) (p : Type 0) → p → AddedAtMost before [] (write_of it) after → ByDigests copies before after p
digests_at_most copies before after it p is a = elim a [
  | inl none ↦ by_nothing copies before after [] p is none tt
  | inr one ↦ by_nothing copies before after (write_of it ∷ []) p is one (tt, tt)
]

-- ---- removals

removals_nothing_read : (files : List FileOn) → AllByRecursion ReadsNothing (map removal_of files)
removals_nothing_read [] = tt
removals_nothing_read (it ∷ files) = (tt, removals_nothing_read files)

removals_write : (files : List FileOn) → AllByRecursion WritesNothing (map removal_of files)
removals_write [] = tt
removals_write (it ∷ files) = (tt, removals_write files)

pub digests_cleared : (copies : List Copy) (test : Name → Bool) (nodes : List ℕ) (before after : Option DiskTold) (files : List FileOn) → Added before (map removal_of files) after → ByDigests copies before after (DigestsAgree (but_those test nodes copies) after)
digests_cleared copies test nodes before after files a =
    by_added copies (but_those test nodes copies) before after (map removal_of files) a (λ done agree. asks_nothing done (map removal_of files) (removals_nothing_read files))
    (λ done agree. agree_still (but_those test nodes copies) done (map removal_of files) (removals_write files)
    (λ name node digest h. agree name node digest (held_left (λ b n. not (test b && among n nodes)) name node copies digest h)))

next_removal_read : (files : List FileOn) (last : List disk.Call) → IsNextRemoval files last → AllByRecursion ReadsNothing last
next_removal_read files [] n = tt
next_removal_read [] (call ∷ calls) n = absurd n
next_removal_read (it ∷ files) (call ∷ calls) n = subst (AllByRecursion ReadsNothing) (sym n) (tt, tt)

pub digests_removed_some : (copies : List Copy) (before after : Option DiskTold) (files : List FileOn) (p : Type 0) → p → RemovedSome before files after → ByDigests copies before after p
digests_removed_some copies before after files p is s =
    by_nothing copies before after (map removal_of s.done ++ s.last) p is s.added (all_both ReadsNothing (map removal_of s.done) s.last (removals_nothing_read s.done) (next_removal_read s.more s.last s.next))

pub removed_nothing : (before after : Option DiskTold) (files : List FileOn) → Added before (map removal_of files) after → CallsHave WritesNothing before after
removed_nothing before after files a = such_added WritesNothing before after (map removal_of files) a (removals_write files)

next_removal_writes : (files : List FileOn) (last : List disk.Call) → IsNextRemoval files last → AllByRecursion WritesNothing last
next_removal_writes files [] n = tt
next_removal_writes [] (call ∷ calls) n = absurd n
next_removal_writes (it ∷ files) (call ∷ calls) n = subst (AllByRecursion WritesNothing) (sym n) (tt, tt)

pub removed_some_nothing : (before after : Option DiskTold) (files : List FileOn) → RemovedSome before files after → CallsHave WritesNothing before after
removed_some_nothing before after files s =
    such_added WritesNothing before after (map removal_of s.done ++ s.last) s.added (all_both WritesNothing (map removal_of s.done) s.last (removals_write s.done) (next_removal_writes s.more s.last s.next))

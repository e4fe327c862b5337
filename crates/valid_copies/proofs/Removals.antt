-- Files that are removed one after another.
use Rattle.std.proofs.Common.{◌≡◌, inl, inr, ℕ, Bool, true, false, ◌||◌, ◌&&◌, ◌==◌, cond, List, [], ◌∷◌, ◌++◌, Option, None, Some, map, refl, sym, ap, ◌∙◌, subst, append_assoc, append-nil}
use Rattle.std.proofs.lemmas.List.{map-append}
use Rattle.std.specs.List.{list_any}
use Rattle.std.specs.Ordering.{nat_cmp, is_eq}
use Rattle.std.specs.declared.cmp.Ordering.{Ordering}
use Rattle.std.specs.declared.cmp.Ordering.TheVariants.{Less, Equal, Greater}
use Rattle.std.specs.Cmp.Lexicographic.{slice_cmp}
use Rattle.std.proofs.lemmas.Bool.{eq-eqb, false≢true}
use Rattle.std.proofs.lemmas.Map.Lookups.{exact_bytes}
use Rattle.node_names.specs.declared.name.Name.{Name}
use Rattle.node_names.specs.declared.name.Name.TheVariants.{Blk, Spill, Out, Ric, Mic, Roc}
use Rattle.hal_outside.proofs.DiskMaps.{get_after, is_file}
use Rattle.hal_outside.specs.DiskCalls.{Remove}
use Rattle.hal_outside.specs.DiskFiles.{DiskMap, file_at, file_key, without_file}
use Rattle.hal_outside.specs.DiskTold.{DiskTold, Done, NotDone}
use Rattle.hal_outside.specs.Told.{OnTold}
use Rattle.replica_table.specs.Copies.{is_name}
use Rattle.replica_table.proofs.Names.{itself}
use Rattle.valid_copies.proofs.Coming.{added_more, done_added, not_done_added, nothing_added}
use Rattle.valid_copies.proofs.Others.{on_told}
use Rattle.valid_copies.specs.Calls.{Added}
use Rattle.valid_copies.specs.Removing.{OthersKept, RemovedSome, is_on, removal_of}
use Rattle.replica_table.specs.declared.file_on.FileOn.{FileOn}

-- ---- one file

same_file : (m n : ℕ) (a b : Name) → file_key m a ≡ file_key n b → (a ≡ b) × (m ≡ n)
same_file m n (Blk _ _) (Blk _ _) e = (cc, cc)
same_file m n (Spill _ _ _ _) (Spill _ _ _ _) e = (cc, cc)
same_file m n (Out _ _ _) (Out _ _ _) e = (cc, cc)
same_file m n (Ric _ _ _) (Ric _ _ _) e = (cc, cc)
same_file m n (Mic _ _) (Mic _ _) e = (cc, cc)
same_file m n (Roc _ _) (Roc _ _) e = (cc, cc)
same_file m n a b e = cc

equal_is : (o : Ordering) → is_eq o ≡ true → o ≡ Equal
equal_is Less e = cc
equal_is Equal e = refl
equal_is Greater e = cc

-- another file has another key
other_key : (m n : ℕ) (a b : Name) → (is_name a b && m == n) ≡ false → is_file n b (file_key m a) ≡ false
other_key m n a b e = elim (is_file n b (file_key m a)) as (λ t. is_file n b (file_key m a) ≡ t → t ≡ false) [
  | true ↦ λ t.
      let both = same_file m n a b (exact_bytes (file_key m a) (file_key n b) (equal_is (slice_cmp nat_cmp (file_key m a) (file_key n b)) t)) in
      let names : is_name a b ≡ true = subst (λ k. is_name a k ≡ true) both.0 (itself a) in
      absurd (false≢true (sym e ∙ ap (λ t. t && m == n) names ∙ eq-eqb m n both.1))
  | false ↦ λ t. refl
] refl

kept_beside : (files : DiskMap) (m n : ℕ) (a b : Name) → (is_name a b && m == n) ≡ false → file_at (without_file files n b) m a ≡ file_at files m a
kept_beside files m n a b e = get_after (Remove n b) files (file_key m a) ∙ ap (λ t. cond t None (file_at files m a)) (other_key m n a b e)

or_false : (a b : Bool) → (a || b) ≡ false → (a ≡ false) × (b ≡ false)
or_false true b e = cc
or_false false b e = (refl, e)

none_of_both : (m : ℕ) (a : Name) (files more : List FileOn) → list_any (is_on m a) (files ++ more) ≡ false → (list_any (is_on m a) files ≡ false) × (list_any (is_on m a) more ≡ false)
none_of_both m a [] more e = (refl, e)
none_of_both m a (it ∷ files) more e =
    let first = or_false (is_on m a it) (list_any (is_on m a) (files ++ more)) e in
    let rest = none_of_both m a files more first.1 in
    (ap (λ b. b || list_any (is_on m a) files) first.0 ∙ rest.0, rest.1)

kept_done : (it : FileOn) (old new : Option DiskTold) → OnTold (Done (Remove it.node it.name)) old new → OnTold (OthersKept (it ∷ [])) old new
kept_done it old new o = on_told (Done (Remove it.node it.name)) (OthersKept (it ∷ [])) old new
    (λ t u r n b e. ap (λ files. file_at files n b) r.put ∙ kept_beside t.put n it.node b it.name (or_false (is_on n b it) false e).0) o

kept_not_done : (it : FileOn) (old new : Option DiskTold) → OnTold (NotDone (Remove it.node it.name)) old new → OnTold (OthersKept (it ∷ [])) old new
kept_not_done it old new o = on_told (NotDone (Remove it.node it.name)) (OthersKept (it ∷ [])) old new
    (λ t u r n b e. sym (kept_beside u.put n it.node b it.name (or_false (is_on n b it) false e).0) ∙ ap (λ files. file_at files n b) r.others ∙ kept_beside t.put n it.node b it.name (or_false (is_on n b it) false e).0) o

-- ---- files one after another

kept_none : (files : List FileOn) (told : Option DiskTold) → OnTold (OthersKept files) told told
kept_none files None = refl
kept_none files (Some t) = λ n b e. refl

kept_more : (some more files : List FileOn) (before between after : Option DiskTold) → ((n : ℕ) (b : Name) → list_any (is_on n b) files ≡ false → (list_any (is_on n b) some ≡ false) × (list_any (is_on n b) more ≡ false))
    → OnTold (OthersKept some) before between → OnTold (OthersKept more) between after → OnTold (OthersKept files) before after
kept_more some more files None None after apart a b = b
kept_more some more files None (Some m) after apart a b = cc
kept_more some more files (Some t) None after apart a b = absurd a
kept_more some more files (Some t) (Some m) None apart a b = absurd b
kept_more some more files (Some t) (Some m) (Some u) apart a b = λ n name e. b n name (apart n name e).1 ∙ a n name (apart n name e).0

-- the files before the rest were removed
pub record RemovedSoFar (before : Option DiskTold) (files rest : List FileOn) (now : Option DiskTold) : Type 0 where
  pub done : List FileOn
  pub split : files ≡ done ++ rest
  pub added : Added before (map removal_of done) now
  pub others : OnTold (OthersKept done) before now

pub removed_none : (told : Option DiskTold) (files : List FileOn) → RemovedSoFar told files files told
removed_none told files = record { done = []; split = refl; added = nothing_added told; others = kept_none [] told }

module _ (before now after : Option DiskTold) (files rest : List FileOn) (so_far : RemovedSoFar before files rest now) where
  pub removed_all : rest ≡ [] → Added before (map removal_of files) now
  removed_all e = subst (λ fs. Added before (map removal_of fs) now) (sym (so_far.split ∙ ap (λ fs. so_far.done ++ fs) e ∙ append-nil so_far.done)) so_far.added

  pub others_all : rest ≡ [] → OnTold (OthersKept files) before now
  others_all e = subst (λ fs. OnTold (OthersKept fs) before now) (sym (so_far.split ∙ ap (λ fs. so_far.done ++ fs) e ∙ append-nil so_far.done)) so_far.others

  module _ (it : FileOn) (more : List FileOn) (e : rest ≡ it ∷ more) where
    on : files ≡ (so_far.done ++ it ∷ []) ++ more
    on = so_far.split ∙ ap (λ fs. so_far.done ++ fs) e ∙ sym (append_assoc so_far.done (it ∷ []) more)

    pub removed_more : OnTold (Done (Remove it.node it.name)) now after → RemovedSoFar before files more after
    removed_more o = record {
      done = so_far.done ++ it ∷ [];
      split = on;
      added = subst (λ calls. Added before calls after) (sym (map-append removal_of so_far.done (it ∷ []))) (added_more before now after (map removal_of so_far.done) (removal_of it ∷ []) so_far.added (done_added (removal_of it) now after o));
      others = kept_more so_far.done (it ∷ []) (so_far.done ++ it ∷ []) before now after (λ n b f. none_of_both n b so_far.done (it ∷ []) f) so_far.others (kept_done it now after o);
    }

    pub removed_stops : OnTold (NotDone (Remove it.node it.name)) now after → RemovedSome before files after
    removed_stops o = elim (not_done_added (removal_of it) now after o) [
      | inl none ↦ record {
        done = so_far.done;
        more = it ∷ more;
        split = so_far.split ∙ ap (λ fs. so_far.done ++ fs) e;
        last = [];
        next = tt;
        added = added_more before now after (map removal_of so_far.done) [] so_far.added none;
      }
      | inr one ↦ record {
        done = so_far.done;
        more = it ∷ more;
        split = so_far.split ∙ ap (λ fs. so_far.done ++ fs) e;
        last = removal_of it ∷ [];
        next = refl;
        added = added_more before now after (map removal_of so_far.done) (removal_of it ∷ []) so_far.added one;
      }
    ]

    pub others_stop : OnTold (NotDone (Remove it.node it.name)) now after → OnTold (OthersKept files) before after
    others_stop o = kept_more so_far.done (it ∷ []) files before now after
        (λ n b f. none_of_both n b so_far.done (it ∷ []) ((none_of_both n b (so_far.done ++ it ∷ []) more (subst (λ fs. list_any (is_on n b) fs ≡ false) on f)).0)) so_far.others (kept_not_done it now after o)

-- Nodes that are cleared: the files on them that do not stay are removed.
use Rattle.std.proofs.Common.{◌≡◌, ℕ, Bool, true, false, not, cond, ◌&&◌, ◌||◌, ◌==◌, List, [], ◌∷◌, ◌++◌, Option, map, refl, sym, ap, ◌∙◌, subst}
use Rattle.std.specs.List.{AllByRecursion, filter, list_any}
use Rattle.std.proofs.lemmas.Bool.{eqb-true, false≢true}
use Rattle.std.proofs.lemmas.List.{map-append}
use Rattle.hal_base.specs.declared.shape.Shape.{Shape}
use Rattle.node_names.specs.declared.name.Name.{Name}
use Rattle.hal_outside.specs.DiskCalls as disk
use Rattle.hal_outside.specs.DiskTold.{DiskTold}
use Rattle.hal_outside.specs.Told.{OnTold}
use Rattle.replica_table.specs.Copies.{Copy, but_those, is_name}
use Rattle.replica_table.specs.Sets.{among}
use Rattle.replica_table.proofs.Names.{same_by}
use Rattle.run_model.proofs.Bare.{bare_but_those}
use Rattle.run_model.specs.Plans as plan
use Rattle.run_model.specs.Plans.{Plan, do_all, gives}
use Rattle.run_model.specs.Removals.{clear, comes_before, in_order, name_key, ordered}
use Rattle.run_model.specs.State.{PlainCluster, Setup, bare, with_copies}
use Rattle.run_model.specs.State.{Copy as Bare}
use Rattle.run_model.specs.Stays.{stays}
use Rattle.name_values.specs.Values.{World}
use Rattle.valid_copies.proofs.Copies.{all_kept, and_true}
use Rattle.valid_copies.proofs.Following.{leads_more}
use Rattle.valid_copies.proofs.Others.{on_told}
use Rattle.valid_copies.proofs.PlanWrites.{do_both}
use Rattle.valid_copies.proofs.Steps.{carried}
use Rattle.valid_copies.specs.Calls.{Added, AreAnswered, Begun, Follows, Leads}
use Rattle.valid_copies.specs.Readings.{HasText}
use Rattle.valid_copies.specs.Removing.{IsNextRemoval, OfClearing, OthersKept, RemovedSome, as_copies, goes, is_on, left_over, removal_of}
use Rattle.valid_copies.specs.Stands.{IsValid, OthersStay, Stands, WasPut}
use Rattle.replica_table.specs.declared.file_on.FileOn.{FileOn}

-- ---- the files that are listed

all_in_order : (P : Bare → Type 0) (it : Bare) (copies : List Bare) → P it → AllByRecursion P copies → AllByRecursion P (in_order it copies)
all_in_order P it [] p a = (p, tt)
all_in_order P it (other ∷ copies) p a = elim (comes_before (name_key it.name) (name_key other.name)) as (λ t. AllByRecursion P (cond t (it ∷ other ∷ copies) (other ∷ in_order it copies))) [
  | true ↦ (p, a)
  | false ↦ (a.0, all_in_order P it copies p a.1)
]

all_ordered : (P : Bare → Type 0) (copies : List Bare) → AllByRecursion P copies → AllByRecursion P (ordered copies)
all_ordered P [] a = tt
all_ordered P (it ∷ copies) a = all_in_order P it (ordered copies) a.0 (all_ordered P copies a.1)

all_pass : {A : Type 0} (p : A → Bool) (xs : List A) → AllByRecursion (λ x. p x ≡ true) (filter p xs)
all_pass p [] = tt
all_pass p (x ∷ xs) = elim (p x) as (λ t. p x ≡ t → AllByRecursion (λ y. p y ≡ true) (cond t (x ∷ filter p xs) (filter p xs))) [
  | true ↦ λ e. (e, all_pass p xs)
  | false ↦ λ e. all_pass p xs
] refl

-- the file is on one of the nodes, and its name passes
abbrev pub is_meant : (Name → Bool) → List ℕ → Name → ℕ → Bool
is_meant test nodes name node = test name && among node nodes

of_files : (test : Name → Bool) (nodes : List ℕ) (files : List FileOn) → AllByRecursion (λ (it : Bare). is_meant test nodes it.name it.node ≡ true) (as_copies files) → AllByRecursion (λ (it : FileOn). is_meant test nodes it.name it.node ≡ true) files
of_files test nodes [] a = tt
of_files test nodes (it ∷ files) a = (a.0, of_files test nodes files a.1)

files_go : (shape : Shape) (keep round : ℕ) (nodes : List ℕ) (copies : List Copy) (files : List FileOn) → as_copies files ≡ ordered (left_over shape keep round nodes copies) → AllByRecursion (λ (it : FileOn). is_meant (goes shape keep round) nodes it.name it.node ≡ true) files
files_go shape keep round nodes copies files listed =
    of_files (goes shape keep round) nodes files
    (subst (AllByRecursion (λ (it : Bare). is_meant (goes shape keep round) nodes it.name it.node ≡ true)) (sym listed)
    (all_ordered (λ (it : Bare). is_meant (goes shape keep round) nodes it.name it.node ≡ true) (left_over shape keep round nodes copies) (all_pass (λ (it : Bare). is_meant (goes shape keep round) nodes it.name it.node) (bare copies))))

-- what is not meant is none of the files that are
none_listed : (test : Name → Bool) (nodes : List ℕ) (files : List FileOn) → AllByRecursion (λ (it : FileOn). is_meant test nodes it.name it.node ≡ true) files → (n : ℕ) (b : Name) → is_meant test nodes b n ≡ false → list_any (is_on n b) files ≡ false
none_listed test nodes [] a n b e = refl
none_listed test nodes (it ∷ files) a n b e = elim (is_on n b it) as (λ t. is_on n b it ≡ t → (t || list_any (is_on n b) files) ≡ false) [
  | true ↦ λ t.
      let both = and_true (is_name b it.name) (n == it.node) t in
      let name : b ≡ it.name = same_by b it.name both.0 in
      let node : n ≡ it.node = eqb-true n it.node both.1 in
      absurd (false≢true (sym e ∙ ap (λ k. is_meant test nodes k n) name ∙ ap (is_meant test nodes it.name) node ∙ a.0))
  | false ↦ λ t. none_listed test nodes files a.1 n b e
] refl

and_none : (a b : Bool) → b ≡ false → (a && b) ≡ false
and_none true b e = e
and_none false b e = refl

not_true : (b : Bool) → not b ≡ true → b ≡ false
not_true true e = absurd (false≢true e)
not_true false e = refl

module _ (shape : Shape) (keep round : ℕ) (nodes : List ℕ) (copies : List Copy) (files : List FileOn) (listed : as_copies files ≡ ordered (left_over shape keep round nodes copies)) (before after : Option DiskTold) where
  go : AllByRecursion (λ (it : FileOn). is_meant (goes shape keep round) nodes it.name it.node ≡ true) files
  go = files_go shape keep round nodes copies files listed

  pub cleared_others : OnTold (OthersKept files) before after → OnTold (OthersStay nodes) before after
  cleared_others o = on_told (OthersKept files) (OthersStay nodes) before after
      (λ t u r n b e. r n b (none_listed (goes shape keep round) nodes files go n b (and_none (goes shape keep round b) (among n nodes) e))) o

  pub cleared_stands : (w : World) → OnTold (OthersKept files) before after → Stands w copies before → Stands w (but_those (goes shape keep round) nodes copies) after
  cleared_stands w o s = record {
    spelled = all_kept (λ (c : Copy). HasText w c.name) (λ (c : Copy). HasText w c.name) (λ c. not (is_meant (goes shape keep round) nodes c.name c.node)) copies (λ c e q. q) s.spelled;
    valid = all_kept (IsValid w) (IsValid w) (λ c. not (is_meant (goes shape keep round) nodes c.name c.node)) copies (λ c e q. q) s.valid;
    put = carried (OthersKept files) (λ t. AllByRecursion (WasPut w t) copies) (λ u. AllByRecursion (WasPut w u) (but_those (goes shape keep round) nodes copies)) before after o
        (λ t u r p. all_kept (WasPut w t) (WasPut w u) (λ c. not (is_meant (goes shape keep round) nodes c.name c.node)) copies
        (λ c e q. r c.node c.name (none_listed (goes shape keep round) nodes files go c.node c.name (not_true (is_meant (goes shape keep round) nodes c.name c.node) e)) ∙ q) p) s.put;
  }

  -- ---- the plan

  abbrev plan_for : PlainCluster → Shape → ℕ → ℕ → List Bare → Plan PlainCluster
  plan_for c s k i bs = do_all (map (λ (it : Bare). plan.Remove it.node it.name) (ordered (filter (λ (it : Bare). not (stays s k i it.name) && among it.node nodes) bs))) (gives (with_copies (but_those (λ name. not (stays s k i name)) nodes bs) c))

  clear_is : (setup : Setup) (c : PlainCluster) → setup.shape ≡ shape → setup.schedule.keep ≡ keep → c.round ≡ round → c.copies ≡ bare copies
      → clear setup nodes c ≡ do_all (map (λ (it : Bare). plan.Remove it.node it.name) (as_copies files)) (gives (with_copies (bare (but_those (goes shape keep round) nodes copies)) c))
  clear_is setup c a b d e =
      ap (λ s. plan_for c s setup.schedule.keep c.round c.copies) a
      ∙ ap (λ k. plan_for c shape k c.round c.copies) b
      ∙ ap (λ i. plan_for c shape keep i c.copies) d
      ∙ ap (λ bs. plan_for c shape keep round bs) e
      ∙ ap (λ fs. do_all (map (λ (it : Bare). plan.Remove it.node it.name) fs) (gives (with_copies (but_those (goes shape keep round) nodes (bare copies)) c))) (sym listed)
      ∙ ap (λ bs. do_all (map (λ (it : Bare). plan.Remove it.node it.name) (as_copies files)) (gives (with_copies bs c))) (sym (bare_but_those (goes shape keep round) nodes copies))

  leads_removals : {A : Type 0} (fs : List FileOn) (rest : Plan A) → Leads (do_all (map (λ (it : Bare). plan.Remove it.node it.name) (as_copies fs)) rest) (map removal_of fs) rest
  leads_removals [] rest = refl
  leads_removals (it ∷ fs) rest = (refl, leads_removals fs rest)

  removals_answered : (fs : List FileOn) → AreAnswered (map removal_of fs)
  removals_answered [] = tt
  removals_answered (it ∷ fs) = (refl, removals_answered fs)

  pub cleared_follows : Added before (map removal_of files) after → OfClearing (λ p rest. Follows p before after rest) shape keep round nodes copies (but_those (goes shape keep round) nodes copies)
  cleared_follows a = λ setup c e1 e2 e3 e4.
      let rest : Plan PlainCluster = gives (with_copies (bare (but_those (goes shape keep round) nodes copies)) c) in
      subst (λ p. Follows p before after rest) (sym (clear_is setup c e1 e2 e3 e4)) (record { calls = map removal_of files; answered = removals_answered files; added = a; leads = leads_removals files rest })

  next_left : (A : Type 0) (more : List FileOn) (last : List disk.Call) (rest : Plan A) → IsNextRemoval more last → (left : Plan A) × Leads (do_all (map (λ (it : Bare). plan.Remove it.node it.name) (as_copies more)) rest) last left
  next_left A more [] rest n = (do_all (map (λ (it : Bare). plan.Remove it.node it.name) (as_copies more)) rest, refl)
  next_left A [] (call ∷ calls) rest n = absurd n
  next_left A (it ∷ more) (call ∷ calls) rest n =
      let left : Plan A = do_all (map (λ (it : Bare). plan.Remove it.node it.name) (as_copies more)) rest in
      (left, subst (λ made. Leads (do_all (map (λ (it : Bare). plan.Remove it.node it.name) (as_copies (it ∷ more))) rest) made left) (sym n) (refl, refl))

  begun_removals : (A : Type 0) (rest : Plan A) → RemovedSome before files after → Begun (do_all (map (λ (it : Bare). plan.Remove it.node it.name) (as_copies files)) rest) before after
  begun_removals A rest s =
      let next = next_left A s.more s.last rest s.next in
      let later : Plan A = do_all (map (λ (it : Bare). plan.Remove it.node it.name) (as_copies s.more)) rest in
      let all : do_all (map (λ (it : Bare). plan.Remove it.node it.name) (as_copies files)) rest ≡ do_all (map (λ (it : Bare). plan.Remove it.node it.name) (as_copies s.done)) later =
      ap (λ fs. do_all (map (λ (it : Bare). plan.Remove it.node it.name) (as_copies fs)) rest) s.split
      ∙ ap (λ bs. do_all (map (λ (it : Bare). plan.Remove it.node it.name) bs) rest) (map-append _ s.done s.more)
      ∙ ap (λ calls. do_all calls rest) (map-append (λ (it : Bare). plan.Remove it.node it.name) (as_copies s.done) (as_copies s.more))
      ∙ do_both (map (λ (it : Bare). plan.Remove it.node it.name) (as_copies s.done)) (map (λ (it : Bare). plan.Remove it.node it.name) (as_copies s.more)) rest in
      record {
        calls = map removal_of s.done ++ s.last;
        rest = next.0;
        added = s.added;
        leads = subst (λ p. Leads p (map removal_of s.done ++ s.last) next.0) (sym all) (leads_more (do_all (map (λ (it : Bare). plan.Remove it.node it.name) (as_copies s.done)) later) later next.0 (map removal_of s.done) s.last (leads_removals s.done later) next.1);
      }

  pub cleared_begun : (new : List Copy) → RemovedSome before files after → OfClearing (λ p rest. Begun p before after) shape keep round nodes copies new
  cleared_begun new s = λ setup c e1 e2 e3 e4. subst (λ p. Begun p before after) (sym (clear_is setup c e1 e2 e3 e4)) (begun_removals PlainCluster (gives (with_copies (bare (but_those (goes shape keep round) nodes copies)) c)) s)

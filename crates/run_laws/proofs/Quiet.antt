-- A read misses, and then less is left, or it changes nothing; and where all needs are there, it is answered.
use Rattle.std.proofs.Common.{◌≡◌, ◌⊎◌, inl, inr, ℕ, ◌+◌, ◌<◌, Bool, true, false, ◌||◌, not, cond, List, [], ◌∷◌, ◌++◌, Option, None, Some, refl, sym, ap, subst, arith, ◌==◌, nat_le}
use Rattle.std.specs.List.{filter, flat_map, list_all}
use Rattle.std.proofs.lemmas.Bool.{eqb-true, false≢true, leb-false}
use Rattle.node_names.specs.declared.name.Name.{Name}
use Rattle.node_names.specs.declared.name.Name.TheVariants.{Blk, Mic, Out, Ric, Roc, Spill}
use Rattle.replica_table.specs.Copies.{nodes_with, up_holders}
use Rattle.replica_table.specs.Sets.{among}
use Rattle.counter_report.specs.declared.journal.EndWord.{EndWord}
use Rattle.counter_report.specs.declared.journal.Entry.TheVariants as line
use Rattle.run_model.specs.Advance.{Advanced, after_part, finished, goes_on, part_tries, read_parts}
use Rattle.run_model.specs.Lists.{IsIn, number_of}
use Rattle.run_model.specs.Needs.{Input, holds_cache, is_there, is_up, unless}
use Rattle.run_model.specs.PlanLaws.{Always}
use Rattle.run_model.specs.Plans.{gives, ◌>>=◌}
use Rattle.run_model.specs.Reading.{ReadSoFar, Reading, Tried, Try, after_cache, after_read, after_tries, cache_of_block, is_struck, misses, other_tries, own_tries, own_try, read_files, read_first, read_input, read_inputs, read_need, reading, starved, strike, tries_for, try_at, unless_last, with_unread}
use Rattle.run_model.specs.State.{PlainCluster, Setup, holds}
use Rattle.run_laws.specs.Ending.{Any}
use Rattle.run_laws.specs.Measures.{left}
use Rattle.run_laws.proofs.Copies.{node_held}
use Rattle.run_laws.proofs.Counting.{number_append}
use Rattle.run_laws.proofs.Leaving.{within_strike}
use Rattle.run_laws.proofs.Members.{and_true, any_is, in_filter, in_left, in_map, in_right, or_true}
use Rattle.run_laws.proofs.Plans.{always_map, always_then}
use Rattle.run_laws.proofs.Turning.{AnyName, KRead, KReading, files_walk, input_walks, read_walks}

-- ---- what is tried is not nothing

nil_left : {A : Type 0} (xs ys : List A) → xs ++ ys ≡ [] → xs ≡ []
nil_left [] ys e = refl
nil_left (x ∷ xs) ys e = cc

nil_right : {A : Type 0} (xs ys : List A) → xs ++ ys ≡ [] → ys ≡ []
nil_right [] ys e = e
nil_right (x ∷ xs) ys e = cc

no_member : {A : Type 0} (x : A) (xs : List A) → xs ≡ [] → IsIn x xs → ⊥
no_member x [] e i = elim i [ ]
no_member x (y ∷ xs) e i = absurd (cons_nil y xs e)
  where
    cons_nil : {A : Type 0} (y : A) (ys : List A) → y ∷ ys ≡ [] → ⊥
    cons_nil y ys h = cc

not_kept : {A : Type 0} (v : Bool) (x : A) → cond v (x ∷ []) [] ≡ [] → v ≡ true → ⊥
not_kept true x e t = no_member x (x ∷ []) e (inl refl)
not_kept false x e t = false≢true t

module _ (c : PlainCluster) (own : ℕ) where
  -- what lies on the own node
  own_tried : (name : Name) → holds c.copies own name ≡ true → tries_for c own name ≡ [] → ⊥
  own_tried name h e = not_kept (holds c.copies own name) (try_at name own) (nil_left (own_try c.copies own name) (flat_map (own_try c.copies own) (cache_of_block name)) (nil_left (own_tries c.copies own name) (other_tries c own name) e)) h

  kept_tried : (t b : ℕ) → holds c.copies own (Mic t b) ≡ true → tries_for c own (Blk t b) ≡ [] → ⊥
  kept_tried t b h e = not_kept (holds c.copies own (Mic t b)) (try_at (Mic t b) own) (nil_left (own_try c.copies own (Mic t b)) [] (nil_right (own_try c.copies own (Blk t b)) (flat_map (own_try c.copies own) (cache_of_block (Blk t b))) (nil_left (own_tries c.copies own (Blk t b)) (other_tries c own (Blk t b)) e))) h

  up_tried : (name : Name) → is_up c.copies c.up name ≡ true → tries_for c own name ≡ [] → ⊥
  up_tried name u e =
      let s = any_is (λ node. among node c.up) (nodes_with name c.copies) u in
      elim (s.0 == own) as (λ v. (s.0 == own) ≡ v → ⊥) [
        | true ↦ λ x. own_tried name (subst (λ n. holds c.copies n name ≡ true) (eqb-true s.0 own x) (node_held s.0 name c.copies s.1)) e
        | false ↦ λ x. no_member (try_at name s.0) (other_tries c own name) (nil_right (own_tries c.copies own name) (other_tries c own name) e)
            (in_map (try_at name) s.0 (filter (λ node. not (node == own)) (up_holders name c.up c.copies)) (in_filter (λ node. not (node == own)) s.0 (up_holders name c.up c.copies) (in_filter (λ node. among node c.up) s.0 (nodes_with name c.copies) s.1 s.2) (ap not x)))
      ] refl

  pub there_tried : (name : Name) → is_there c.copies c.up own name ≡ true → tries_for c own name ≡ [] → ⊥
  there_tried (Blk t b) h e = elim (or_true (is_up c.copies c.up (Blk t b) || holds c.copies own (Blk t b)) (holds c.copies own (Mic t b)) h) [
    | inl x ↦ elim (or_true (is_up c.copies c.up (Blk t b)) (holds c.copies own (Blk t b)) x) [
      | inl y ↦ up_tried (Blk t b) y e
      | inr y ↦ own_tried (Blk t b) y e
    ]
    | inr x ↦ kept_tried t b x e
  ]
  there_tried (Spill i j s q) h e = up_tried (Spill i j s q) h e
  there_tried (Out i j p) h e = up_tried (Out i j p) h e
  there_tried (Ric j s p) h e = up_tried (Ric j s p) h e
  there_tried (Mic t b) h e = up_tried (Mic t b) h e
  there_tried (Roc i p) h e = up_tried (Roc i p) h e

pub part_tried : (c : PlainCluster) (name : Name) → is_up c.copies c.up name ≡ true → part_tries c name ≡ [] → ⊥
part_tried c name u e =
    let s = any_is (λ node. among node c.up) (nodes_with name c.copies) u in
    no_member (try_at name s.0) (part_tries c name) e (in_map (try_at name) s.0 (up_holders name c.up c.copies) (in_filter (λ node. among node c.up) s.0 (nodes_with name c.copies) s.1 s.2))

-- ---- a miss

pub miss_falls : (setup : Setup) (it : Try) (c : PlainCluster) → nat_le 1000 (misses (strike it c)) ≡ false → left setup (strike it c) < left setup c
miss_falls setup it c e = go (number_append is_struck c.journal (line.Struck it.name it.node ∷ [])) (leb-false 1000 (misses (strike it c)) e)
  where
    go : number_of is_struck (c.journal ++ line.Struck it.name it.node ∷ []) ≡ number_of is_struck c.journal + 1 → number_of is_struck (c.journal ++ line.Struck it.name it.node ∷ []) < 1000 → left setup (strike it c) < left setup c
    go s l = omega arith

module _ (setup : Setup) (c : PlainCluster) where
  -- less is left than here
  abbrev pub Fell : PlainCluster → Type 0
  Fell d = left setup d < left setup c

  pub fell_strike : (it : Try) (d : PlainCluster) → Fell d → Fell (strike it d)
  fell_strike it d h = let m = within_strike setup (left setup d) it d (omega arith) in omega arith

  pub fell_on : (it : Try) (d : PlainCluster) → Fell d → nat_le 1000 (misses (strike it d)) ≡ false → Fell (strike it d)
  fell_on it d h e = fell_strike it d h

  abbrev pub QTried : List Try → Tried → Type 0
  QTried tries tried = Fell tried.cluster ⊎ ((tried.cluster ≡ c) × (tried.answered ≡ None → tries ≡ []))

  pub read_quiet : (tries : List Try) → Always (QTried tries) Any (read_first tries c)
  read_quiet [] = inr (refl, λ e. refl)
  read_quiet (it ∷ tries) = λ missed. go missed
    where
      last : (v : Bool) → nat_le 1000 (misses (strike it c)) ≡ v → Always (QTried (it ∷ tries)) Any (unless_last (read_first tries) (strike it c) v)
      last true e = tt
      last false e = always_map (λ (t : Tried). Fell t.cluster) (QTried (it ∷ tries)) Fell Any (read_first tries (strike it c)) (λ t f. inl f) (λ d f. tt) (read_walks Fell Fell AnyName fell_strike fell_on tries (strike it c) (miss_falls setup it c e))

      go : (missed : Bool) → Always (QTried (it ∷ tries)) Any (after_read (read_first tries) it c missed)
      go true = last (nat_le 1000 (misses (strike it c))) refl
      go false = inr (refl, λ e. cc)

  -- ---- the reads of an attempt

  abbrev pub cluster_of : ReadSoFar → PlainCluster
  cluster_of (reading r) = r.cluster
  cluster_of (starved d) = d

  abbrev pub IsReading : ReadSoFar → Type 0
  IsReading (reading r) = Unit {0}
  IsReading (starved d) = ⊥

  module _ (T : Type 0) (own : ℕ) where
    -- less is left, or nothing changed, and where the needs are there, they are read
    abbrev pub QRead : ReadSoFar → Type 0
    QRead s = Fell (cluster_of s) ⊎ ((cluster_of s ≡ c) × (T → IsReading s))

    from_fell : (s : ReadSoFar) → KRead Fell Fell AnyName fell_strike fell_on s → QRead s
    from_fell (reading r) h = inl h.cluster
    from_fell (starved d) h = inl h

    to_reading : (r : Reading) → Fell r.cluster → KReading Fell Fell AnyName fell_strike fell_on r
    to_reading r f = record { cluster = f; unread = λ name i. tt }

    files_fell : (names : List Name) (r : Reading) → Fell r.cluster → Always QRead Any (read_files own names (reading r))
    files_fell names r f = always_map (KRead Fell Fell AnyName fell_strike fell_on) QRead Fell Any (read_files own names (reading r)) from_fell (λ d x. tt) (files_walk Fell Fell AnyName fell_strike fell_on own names (reading r) (to_reading r f))

    after_need : (r : Reading) (tries : List Try) (d : PlainCluster) (answered : Option Try) → (T → tries ≡ [] → ⊥) → Fell d ⊎ ((d ≡ c) × (answered ≡ None → tries ≡ [])) → QRead (after_tries own r d answered)
    after_need r tries d None h (inl f) = inl f
    after_need r tries d (Some it) h (inl f) = inl f
    after_need r tries d None h (inr q) = inr (q.0, λ t. h t (q.1 refl))
    after_need r tries d (Some it) h (inr q) = inr (q.0, λ t. tt)

    need_quiet : (name : Name) (r : Reading) → r.cluster ≡ c → (T → is_there c.copies c.up own name ≡ true) → Always QRead Any (read_need own name r)
    need_quiet name r e h = subst (λ d. Always QRead Any (read_first (tries_for d own name) d >>= (λ tried. gives (after_tries own r tried.cluster tried.answered)))) (sym e)
        (always_then Any (QTried (tries_for c own name)) QRead (read_first (tries_for c own name) c) (λ tried. gives (after_tries own r tried.cluster tried.answered)) (read_quiet (tries_for c own name)) (λ tried q. after_need r (tries_for c own name) tried.cluster tried.answered (λ t. there_tried c own name (h t)) q))

    files_quiet : (names : List Name) (s : ReadSoFar) → QRead s → (T → (name : Name) → IsIn name names → is_there c.copies c.up own name ≡ true) → Always QRead Any (read_files own names s)
    files_quiet [] s q h = q
    files_quiet (name ∷ names) (starved d) q h = q
    files_quiet (name ∷ names) (reading r) (inl f) h = files_fell (name ∷ names) r f
    files_quiet (name ∷ names) (reading r) (inr q) h = always_then Any QRead QRead (read_need own name r) (read_files own names) (need_quiet name r q.0 (λ t. h t name (inl refl))) (λ s x. files_quiet names s x (λ t n i. h t n (inr i)))

    after_cache_quiet : (cache : Name) (it : Try) (files : List Name) (r : Reading) (d : PlainCluster) (answered : Option Try) → Fell d ⊎ ((d ≡ c) × (answered ≡ None → it ∷ [] ≡ [])) → Always QRead Any (after_cache own cache files r d answered)
    after_cache_quiet cache it files r d None (inl f) = files_fell files (with_unread cache d r) f
    after_cache_quiet cache it files r d None (inr q) = absurd (no_member it (it ∷ []) (q.1 refl) (inl refl))
    after_cache_quiet cache it files r d (Some x) (inl f) = inl f
    after_cache_quiet cache it files r d (Some x) (inr q) = inr (q.0, λ t. tt)

    input_quiet : (cache : Option Name) (files : List Name) (r : Reading) → QRead (reading r) → (T → (name : Name) → IsIn name (unless (holds_cache c.copies own cache) files) → is_there c.copies c.up own name ≡ true) → Always QRead Any (read_input own cache files r)
    input_quiet None files r q h = files_quiet files (reading r) q h
    input_quiet (Some cache) files r (inl f) h = always_map (KRead Fell Fell AnyName fell_strike fell_on) QRead Fell Any (read_input own (Some cache) files r) from_fell (λ d x. tt) (input_walks Fell Fell AnyName fell_strike fell_on own (Some cache) files r tt (to_reading r f))
    input_quiet (Some cache) files r (inr q) h = subst (λ d. Always QRead Any (read_first (own_try d.copies own cache) d >>= (λ tried. after_cache own cache files r tried.cluster tried.answered))) (sym q.0) (at (holds c.copies own cache) h)
      where
        at : (v : Bool) → (T → (name : Name) → IsIn name (unless v files) → is_there c.copies c.up own name ≡ true) → Always QRead Any (read_first (cond v ((try_at cache own) ∷ []) []) c >>= (λ tried. after_cache own cache files r tried.cluster tried.answered))
        at true h = let it : Try = try_at cache own in always_then Any (QTried (it ∷ [])) QRead (read_first (it ∷ []) c) (λ tried. after_cache own cache files r tried.cluster tried.answered) (read_quiet (it ∷ [])) (λ tried x. after_cache_quiet cache it files r tried.cluster tried.answered x)
        at false h = files_quiet files (reading (with_unread cache c r)) (inr (refl, λ t. tt)) h

    pub inputs_quiet : (its : List Input) (s : ReadSoFar) → QRead s → (T → (name : Name) → IsIn name (flat_map (λ (it : Input). unless (holds_cache c.copies own it.cache) it.files) its) → is_there c.copies c.up own name ≡ true) → Always QRead Any (read_inputs own its s)
    inputs_quiet [] s q h = q
    inputs_quiet (it ∷ its) (starved d) q h = q
    inputs_quiet (it ∷ its) (reading r) q h = always_then Any QRead QRead (read_input own it.cache it.files r) (read_inputs own its)
        (input_quiet it.cache it.files r q (λ t n i. h t n (in_left n _ _ i)))
        (λ s x. inputs_quiet its s x (λ t n i. h t n (in_right n _ _ i)))

  -- ---- the reads of the parts

  abbrev pub QAdvanced : Advanced → Type 0
  QAdvanced (goes_on d) = Fell d
  QAdvanced (finished d end) = Unit {0}

  from_advanced : (end : EndWord) (names : List Name) (d : PlainCluster) → Fell d → Always QAdvanced Any (read_parts end names d)
  from_advanced end [] d f = tt
  from_advanced end (name ∷ names) d f = always_then Any (λ (t : Tried). Fell t.cluster) QAdvanced (read_first (part_tries d name) d) (λ tried. after_part (read_parts end names) tried.cluster tried.answered) (always_map (λ (t : Tried). Fell t.cluster) (λ (t : Tried). Fell t.cluster) Fell Any (read_first (part_tries d name) d) (λ t x. x) (λ x y. tt) (read_walks Fell Fell AnyName fell_strike fell_on (part_tries d name) d f)) (λ tried g. go (from_advanced end names) tried.cluster tried.answered g)
    where
      go : ((d : PlainCluster) → Fell d → Always QAdvanced Any (read_parts end names d)) → (d : PlainCluster) (answered : Option Try) → Fell d → Always QAdvanced Any (after_part (read_parts end names) d answered)
      go again d None g = g
      go again d (Some it) g = again d g

  pub parts_quiet : (end : EndWord) (names : List Name) → list_all (is_up c.copies c.up) names ≡ true → Always QAdvanced Any (read_parts end names c)
  parts_quiet end [] u = tt
  parts_quiet end (name ∷ names) u =
      let b = and_true (is_up c.copies c.up name) (list_all (is_up c.copies c.up) names) u in
      always_then Any (QTried (part_tries c name)) QAdvanced (read_first (part_tries c name) c) (λ tried. after_part (read_parts end names) tried.cluster tried.answered) (read_quiet (part_tries c name)) (λ tried q. go b.0 (parts_quiet end names b.1) tried.cluster tried.answered q)
    where
      go : is_up c.copies c.up name ≡ true → Always QAdvanced Any (read_parts end names c) → (d : PlainCluster) (answered : Option Try) → Fell d ⊎ ((d ≡ c) × (answered ≡ None → part_tries c name ≡ [])) → Always QAdvanced Any (after_part (read_parts end names) d answered)
      go u more d None (inl f) = f
      go u more d None (inr q) = absurd (part_tried c name u (q.1 refl))
      go u more d (Some it) (inl f) = from_advanced end names d f
      go u more d (Some it) (inr q) = subst (λ x. Always QAdvanced Any (read_parts end names x)) (sym q.0) more

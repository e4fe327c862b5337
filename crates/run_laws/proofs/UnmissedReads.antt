-- What an attempt has read, where no read missed.
use Rattle.std.proofs.Common.{◌≡◌, ◌⊎◌, inl, inr, ℕ, ◌-◌, ◌<◌, Bool, true, false, not, cond, List, [], ◌∷◌, ◌++◌, Option, None, Some, refl, sym, ap, subst, ◌∙◌, map, arith, ◌==◌}
use Rattle.std.specs.Prelude.{slice_index}
use Rattle.std.specs.List.{AllByRecursion, filter, flat_map, list_any}
use Rattle.std.proofs.lemmas.Bool.{false_from_ne_true, false≢true}
use Rattle.hal_base.specs.Shapes.{source_at}
use Rattle.hal_base.specs.declared.shape.Origin.{Origin}
use Rattle.hal_base.specs.declared.shape.Origin.TheVariants.{Prev, State, Table}
use Rattle.hal_base.specs.declared.shape.Shape.{Shape}
use Rattle.hal_base.specs.declared.shape.Source.{Source}
use Rattle.node_names.specs.declared.name.Name.{Name}
use Rattle.node_names.specs.declared.name.Name.TheVariants.{Blk, Mic, Out, Ric, Roc, Spill}
use Rattle.node_names.specs.declared.task.Task.{Task}
use Rattle.node_names.specs.declared.task.Task.TheVariants.{Map, Reduce, Test}
use Rattle.replica_table.specs.Copies.{nodes_with, up_holders}
use Rattle.replica_table.specs.Sets.{among}
use Rattle.run_model.specs.Lists.{IsIn, below}
use Rattle.run_model.specs.Needs.{Input, inputs, is_up, reduce_input, test_inputs}
use Rattle.run_model.specs.Plans.{Refusal, gives, ◌>>=◌}
use Rattle.run_model.specs.Reading.{ReadSoFar, Reading, Tried, Try, after_tries, cache_of_block, other_tries, own_try, read_files, read_first, read_input, read_inputs, read_need, reading, starved, tries_for, try_at}
use Rattle.run_model.specs.State.{PlainCluster, Setup, holds}
use Rattle.run_model.specs.Tasks.{IsTask, count_in, is_cached, last, last_outs, source_numbers, spills, split_count, split_in, split_of, splits}
use Rattle.run_laws.specs.WithoutLoss.{CanRead, HasNoCaches, Orderly, Unmissed}
use Rattle.run_laws.proofs.Lossless.{IsBlock, held_up}
use Rattle.run_laws.proofs.Members.{from_map, in_either, or_false}
use Rattle.run_laws.proofs.Plans.{unmissed_then}
use Rattle.run_laws.proofs.RoundWalks.{not_cached}

-- ---- what is tried

none_pass : (test : ℕ → Bool) (ns : List ℕ) → list_any test ns ≡ false → filter test ns ≡ []
none_pass test [] e = refl
none_pass test (n ∷ ns) e = let b = or_false (test n) (list_any test ns) e in ap (λ v. cond v (n ∷ filter test ns) (filter test ns)) b.0 ∙ none_pass test ns b.1

-- a name that is on no up node is not tried, unless it is a block
untried : (c : PlainCluster) (own : ℕ) (name : Name) → among own c.up ≡ true → cache_of_block name ≡ [] → is_up c.copies c.up name ≡ false → tries_for c own name ≡ []
untried c own name u none e =
    let own_not : holds c.copies own name ≡ false = false_from_ne_true (holds c.copies own name) (λ h. false≢true (sym e ∙ held_up c.copies c.up own name u h)) in
    let others : up_holders name c.up c.copies ≡ [] = none_pass (λ node. among node c.up) (nodes_with name c.copies) e in
    ap (λ names. flat_map (own_try c.copies own) (name ∷ names) ++ other_tries c own name) none
    ∙ ap (λ v. (cond v (try_at name own ∷ []) [] ++ []) ++ other_tries c own name) own_not
    ∙ ap (λ ns. map (try_at name) (filter (λ node. not (node == own)) ns)) others

or_true_if : (v : Bool) → (v ≡ false → ⊥) → v ≡ true
or_true_if true d = refl
or_true_if false d = absurd (d refl)

-- a name that was there to be tried is up, or a block
tried_up : (c : PlainCluster) (own : ℕ) (name : Name) → among own c.up ≡ true → (tries_for c own name ≡ [] → ⊥) → (is_up c.copies c.up name ≡ true) ⊎ IsBlock name
tried_up c own (Blk t b) u d = inr tt
tried_up c own (Spill i j s q) u d = inl (or_true_if (is_up c.copies c.up (Spill i j s q)) (λ e. d (untried c own (Spill i j s q) u refl e)))
tried_up c own (Out i j p) u d = inl (or_true_if (is_up c.copies c.up (Out i j p)) (λ e. d (untried c own (Out i j p) u refl e)))
tried_up c own (Ric j s p) u d = inl (or_true_if (is_up c.copies c.up (Ric j s p)) (λ e. d (untried c own (Ric j s p) u refl e)))
tried_up c own (Mic t b) u d = inl (or_true_if (is_up c.copies c.up (Mic t b)) (λ e. d (untried c own (Mic t b) u refl e)))
tried_up c own (Roc i p) u d = inl (or_true_if (is_up c.copies c.up (Roc i p)) (λ e. d (untried c own (Roc i p) u refl e)))

-- ---- reads

-- no input has a cache
abbrev pub Uncached : List Input → Type 0
Uncached its = AllByRecursion (λ (it : Input). it.cache ≡ None) its

module _ (c : PlainCluster) (own : ℕ) (up : among own c.up ≡ true) (R : PlainCluster → Refusal → Type 0) where
  -- this name lies on an up node, or is a block
  abbrev pub IsFound : Name → Type 0
  IsFound name = (is_up c.copies c.up name ≡ true) ⊎ IsBlock name

  -- nothing has changed, and where the attempt is not starved, no cache is unread and this holds
  abbrev pub ReadQuietly : Type 0 → ReadSoFar → Type 0
  ReadQuietly F (reading r) = (r.cluster ≡ c) × (r.unread ≡ []) × F
  ReadQuietly F (starved d) = d ≡ c

  -- what reads without a miss leave: nothing has changed, and there was something to try where one was answered
  abbrev TriedQuietly : List Try → Tried → Type 0
  TriedQuietly tries tried = (tried.cluster ≡ c) × (tries ≡ [] → tried.answered ≡ None)

  first_quiet : (tries : List Try) → Unmissed (TriedQuietly tries) R (read_first tries c)
  first_quiet [] = (refl, λ e. refl)
  first_quiet (it ∷ tries) = (refl, λ e. cc)

  need_quiet : (name : Name) (r : Reading) (F : Type 0) → r.cluster ≡ c → r.unread ≡ [] → F → Unmissed (ReadQuietly (F × IsFound name)) R (read_need own name r)
  need_quiet name r F e n f = subst (λ d. Unmissed (ReadQuietly (F × IsFound name)) R (read_first (tries_for d own name) d >>= (λ tried. gives (after_tries own r tried.cluster tried.answered)))) (sym e)
      (unmissed_then (TriedQuietly (tries_for c own name)) (ReadQuietly (F × IsFound name)) R (read_first (tries_for c own name) c) (λ tried. gives (after_tries own r tried.cluster tried.answered)) (first_quiet (tries_for c own name)) (λ tried q. go tried.cluster tried.answered q.0 q.1))
    where
      go : (d : PlainCluster) (answered : Option Try) → d ≡ c → (tries_for c own name ≡ [] → answered ≡ None) → ReadQuietly (F × IsFound name) (after_tries own r d answered)
      go d None s h = s
      go d (Some it) s h = (s, n, (f, tried_up c own name up (λ x. some it (h x))))
        where
          some : (it : Try) → Some it ≡ None → ⊥
          some it h = cc

  files_quiet : (names : List Name) (s : ReadSoFar) (F G : Type 0) → (F → AllByRecursion IsFound names → G) → ReadQuietly F s → Unmissed (ReadQuietly G) R (read_files own names s)
  files_quiet [] (reading r) F G f q = (q.0, q.1, f q.2 tt)
  files_quiet [] (starved d) F G f q = q
  files_quiet (name ∷ names) (starved d) F G f q = q
  files_quiet (name ∷ names) (reading r) F G f q = unmissed_then (ReadQuietly (F × IsFound name)) (ReadQuietly G) R (read_need own name r) (read_files own names) (need_quiet name r F q.0 q.1 q.2) (λ s h. files_quiet names s (F × IsFound name) G (λ x all. f x.0 (x.1, all)) h)

  input_quiet : (cache : Option Name) (files : List Name) (r : Reading) (F G : Type 0) → cache ≡ None → (F → AllByRecursion IsFound files → G) → ReadQuietly F (reading r) → Unmissed (ReadQuietly G) R (read_input own cache files r)
  input_quiet None files r F G e f q = files_quiet files (reading r) F G f q
  input_quiet (Some cache) files r F G e f q = absurd (some cache e)
    where
      some : (cache : Name) → Some cache ≡ None → ⊥
      some cache h = cc

  pub inputs_read : (its : List Input) (s : ReadSoFar) (F G : Type 0) → Uncached its → (F → AllByRecursion (λ (it : Input). AllByRecursion IsFound it.files) its → G) → ReadQuietly F s → Unmissed (ReadQuietly G) R (read_inputs own its s)
  inputs_read [] (reading r) F G n f q = (q.0, q.1, f q.2 tt)
  inputs_read [] (starved d) F G n f q = q
  inputs_read (it ∷ its) (starved d) F G n f q = q
  inputs_read (it ∷ its) (reading r) F G n f q = unmissed_then (ReadQuietly (F × AllByRecursion IsFound it.files)) (ReadQuietly G) R (read_input own it.cache it.files r) (read_inputs own its) (input_quiet it.cache it.files r F (F × AllByRecursion IsFound it.files) n.0 (λ x all. (x, all)) q) (λ s h. inputs_read its s (F × AllByRecursion IsFound it.files) G n.1 (λ x all. f x.0 (x.1, all)) h)

-- ---- what tasks read

pub all_in : {A : Type 0} (P : A → Type 0) (xs : List A) → AllByRecursion P xs → (x : A) → IsIn x xs → P x
all_in P [] h x i = elim i [ ]
all_in P (y ∷ xs) h x (inl e) = subst P (sym e) h.0
all_in P (y ∷ xs) h x (inr i) = all_in P xs h.1 x i

uncached_map : (f : ℕ → Input) (ns : List ℕ) → ((n : ℕ) → (f n).cache ≡ None) → Uncached (map f ns)
uncached_map f [] h = tt
uncached_map f (n ∷ ns) h = (h n, uncached_map f ns h)

pub uncached : (shape : Shape) → HasNoCaches shape → (t : Task) → Uncached (inputs shape t)
uncached shape caches (Map i j s q) = (refl, tt)
uncached shape caches (Reduce i j p) = uncached_map (λ s. reduce_input shape i j p s (is_cached (source_at shape j s))) (source_numbers shape j) (λ s. ap (λ v. (reduce_input shape i j p s v).cache) (not_cached shape caches j s))
uncached shape caches (Test i p) = subst (λ v. Uncached (test_inputs shape i p v)) (sym caches.output) (refl, tt)

-- a block that a task reads is one of the shape
block_of : (shape : Shape) (i j q t b : ℕ) (from : Origin) → q < split_count shape i from → Blk t b ≡ split_of shape i j from q → b < slice_index shape.blocks t
block_of shape i j q t b State l e = elim (i == 1) as (λ v. q < cond v (slice_index shape.blocks shape.start) shape.parts → Blk t b ≡ cond v (Blk shape.start q) (Out (i - 1) (last shape) q) → b < slice_index shape.blocks t) [
  | true ↦ λ l e. same t b shape.start q e l
  | false ↦ λ l e. absurd (other (i - 1) (last shape) q e)
] l e
  where
    same : (t b u q : ℕ) → Blk t b ≡ Blk u q → q < slice_index shape.blocks u → b < slice_index shape.blocks t
    same t b u q e l = subst (λ k. b < slice_index shape.blocks k) (sym (table_is e)) (subst (λ k. k < slice_index shape.blocks u) (sym (block_is e)) l)
      where
        table_is : Blk t b ≡ Blk u q → t ≡ u
        table_is e = cc

        block_is : Blk t b ≡ Blk u q → b ≡ q
        block_is e = cc

    other : (i j p : ℕ) → Blk t b ≡ Out i j p → ⊥
    other i j p h = cc
block_of shape i j q t b Prev l e = absurd (other i (j - 1) q e)
  where
    other : (i j p : ℕ) → Blk t b ≡ Out i j p → ⊥
    other i j p h = cc
block_of shape i j q t b (Table u only) l e = subst (λ k. b < slice_index shape.blocks k) (sym (table_is e)) (subst (λ k. k < slice_index shape.blocks u) (sym (block_is e)) (within only l))
  where
    table_is : Blk t b ≡ Blk u q → t ≡ u
    table_is e = cc

    block_is : Blk t b ≡ Blk u q → b ≡ q
    block_is e = cc

    within : (only : Option ℕ) → q < split_count shape i (Table u only) → q < slice_index shape.blocks u
    within None l = l
    within (Some k) l = elim (i == k) as (λ v. q < cond v (slice_index shape.blocks u) 0 → q < slice_index shape.blocks u) [
      | true ↦ λ m. m
      | false ↦ λ m. absurd (omega arith)
    ] l

pub block_needed : (shape : Shape) (task : Task) (it : Input) (t b : ℕ) → IsTask shape task → IsIn it (inputs shape task) → IsIn (Blk t b) it.files → b < slice_index shape.blocks t
block_needed shape (Map i j s q) it t b k (inl e) y = go (source_at shape j s) k.5 (subst (λ (z : Input). IsIn (Blk t b) z.files) e y)
  where
    go : (o : Option Source) → q < count_in shape i o → IsIn (Blk t b) (split_in shape i j o q) → b < slice_index shape.blocks t
    go None l i = elim i [ ]
    go (Some source) l (inl e) = block_of shape i j q t b source.from l e
    go (Some source) l (inr x) = elim x [ ]
block_needed shape (Map i j s q) it t b k (inr x) y = elim x [ ]
block_needed shape (Reduce i j p) it t b k x y =
    let s = from_map (λ s. reduce_input shape i j p s (is_cached (source_at shape j s))) it (source_numbers shape j) x in
    absurd (go s.0 (is_cached (source_at shape j s.0)) (subst (λ (z : Input). IsIn (Blk t b) z.files) s.2 y))
  where
    no_spill : (i j s q : ℕ) → Blk t b ≡ Spill i j s q → ⊥
    no_spill i j s q h = cc

    spill : (i s : ℕ) → IsIn (Blk t b) (spills shape i j s) → ⊥
    spill i s x = let q = from_map (Spill i j s) (Blk t b) (splits shape i j s) x in no_spill i j s q.0 q.2

    go : (s : ℕ) (v : Bool) → IsIn (Blk t b) (reduce_input shape i j p s v).files → ⊥
    go s true x = spill 1 s x
    go s false x = spill i s x
block_needed shape (Test i p) it t b k x y = absurd (go shape.reducer_output x)
  where
    no_out : (i j p : ℕ) → Blk t b ≡ Out i j p → ⊥
    no_out i j p h = cc

    outs : (i : ℕ) → IsIn (Blk t b) (last_outs shape i) → ⊥
    outs i x = let p = from_map (Out i (last shape)) (Blk t b) (below shape.parts) x in no_out i (last shape) p.0 p.2

    one : (i : ℕ) → IsIn (Blk t b) (Out i (last shape) p ∷ []) → ⊥
    one i (inl e) = no_out i (last shape) p e
    one i (inr x) = x

    go : (v : Bool) → IsIn it (test_inputs shape i p v) → ⊥
    go true (inl e) = one i (subst (λ (z : Input). IsIn (Blk t b) z.files) e y)
    go true (inr (inl e)) = one (i - 1) (subst (λ (z : Input). IsIn (Blk t b) z.files) e y)
    go true (inr (inr x)) = x
    go false (inl e) = elim (in_either (Blk t b) (last_outs shape i) (last_outs shape (i - 1)) (subst (λ (z : Input). IsIn (Blk t b) z.files) e y)) [ inl a ↦ outs i a | inr b ↦ outs (i - 1) b ]
    go false (inr x) = x

-- a task of the shape that has read all its files can read them
pub can_read : (setup : Setup) (c : PlainCluster) (own : ℕ) (up : among own c.up ≡ true) (R : PlainCluster → Refusal → Type 0) (t : Task) → Orderly setup c → IsTask setup.shape t → AllByRecursion (λ (it : Input). AllByRecursion (IsFound c own up R) it.files) (inputs setup.shape t) → CanRead setup c t
can_read setup c own up R t o k all it name x y = go name (all_in (IsFound c own up R) it.files (all_in (λ (it : Input). AllByRecursion (IsFound c own up R) it.files) (inputs setup.shape t) all it x) name y) y
  where
    go : (name : Name) → (is_up c.copies c.up name ≡ true) ⊎ IsBlock name → IsIn name it.files → is_up c.copies c.up name ≡ true
    go name (inl e) y = e
    go (Blk a b) (inr e) y = o.blocks a b (block_needed setup.shape t it a b k x y)
    go (Spill i j s q) (inr e) y = elim e [ ]
    go (Out i j p) (inr e) y = elim e [ ]
    go (Ric j s p) (inr e) y = elim e [ ]
    go (Mic a b) (inr e) y = elim e [ ]
    go (Roc i p) (inr e) y = elim e [ ]

-- Without loss, the wanted tasks are those of this round that are not made.
use Rattle.std.proofs.Common.{◌≡◌, inl, inr, ℕ, zero, suc, ◌+◌, ◌-◌, ◌≤◌, ◌<◌, Bool, true, false, ◌&&◌, not, cond, List, [], ◌∷◌, ◌++◌, Option, None, Some, refl, sym, ap, subst, ◌∙◌, map, arith, ◌==◌, nat_lt, nat_le}
use Rattle.std.specs.Prelude.{slice_index}
use Rattle.std.specs.List.{filter, list_any, range_with_len}
use Rattle.std.proofs.lemmas.Bool.{eqb-false, false_from_ne_true, false≢true, le-leb}
use Rattle.hal_base.specs.Shapes.{source_at, step_at}
use Rattle.hal_base.specs.declared.shape.Origin.{Origin}
use Rattle.hal_base.specs.declared.shape.Origin.TheVariants.{Prev, State, Table}
use Rattle.hal_base.specs.declared.shape.Source.{Source}
use Rattle.node_names.specs.declared.name.Name.{Name}
use Rattle.node_names.specs.declared.name.Name.TheVariants.{Blk, Mic, Out, Ric, Roc, Spill}
use Rattle.node_names.specs.declared.task.Task.{Task}
use Rattle.node_names.specs.declared.task.Task.TheVariants.{Map, Reduce, Test}
use Rattle.replica_table.specs.Sets.{among}
use Rattle.run_model.specs.Lists.{IsIn, below}
use Rattle.run_model.specs.Needs.{Input, View, busy_nodes, holds_cache, idle_nodes, input, inputs, is_there, is_up, load, needs, reduce_input, test_inputs, unless, view_of}
use Rattle.run_model.specs.Sites.{site}
use Rattle.run_model.specs.Start.{goal_of}
use Rattle.run_model.specs.State.{Copy, PlainCluster, Setup, holds}
use Rattle.run_model.specs.Tasks.{IsTask, count_in, is_cached, is_task, last, last_outs, maker, reduces, source_count, source_numbers, spills, split, split_count, split_in, split_of, splits, tasks_of_round, tasks_until, test_count}
use Rattle.run_model.specs.Wanted.{Goal, IsWanted, asked_by, goals, is_asked, is_goal, listed, missing_at, missing_of, missing_parts, unknown_tests, walk, wanted}
use Rattle.run_laws.specs.Rounds.{round_in}
use Rattle.run_laws.specs.States.{Fits}
use Rattle.run_laws.specs.WithoutLoss.{Orderly, WantedWithoutLoss, is_made}
use Rattle.run_laws.proofs.Listing.{of_round, tasks_are}
use Rattle.run_laws.proofs.Members.{from_below, from_filter, from_flat, from_map, in_either, in_filter, in_flat, in_left, in_map, in_range, in_right, is_listed, listed_is, not_true}
use Rattle.run_laws.proofs.NoRepeats.{apart_round}
use Rattle.run_laws.proofs.Numbers.{is_among}
use Rattle.run_laws.proofs.Opening.{WantedOpen, missing_from, wanted_are_tasks, wanted_open}
use Rattle.run_laws.proofs.Orders.{missing_is, the_walk_is_right}
use Rattle.run_laws.proofs.RoundWalks.{filter_same, found_wanted, front_passed, not_cached, prev_count, prev_source, round_is, until_end, walk_filter}
use Rattle.run_laws.proofs.Standstill.{has_site}
use Rattle.run_laws.proofs.Undecided.{nowhere_up}

-- what a task makes is there where it is up
made_there : (copies : List Copy) (up : List ℕ) (node : ℕ) (name : Name) (t : Task) → maker name ≡ Some t → is_there copies up node name ≡ is_up copies up name
made_there copies up node (Spill i j s q) t e = refl
made_there copies up node (Out i j p) t e = refl
made_there copies up node (Ric j s p) t e = refl
made_there copies up node (Mic a b) t e = refl
made_there copies up node (Roc i p) t e = refl
made_there copies up node (Blk a b) t e = absurd (none e)
  where
    none : None ≡ Some t → ⊥
    none h = cc

module _ (setup : Setup) (c : PlainCluster) (fits : Fits setup) (o : Orderly setup c) (n : ℕ) (ns : List ℕ) (idle : idle_nodes setup c ≡ n ∷ ns) where
  abbrev view : View
  view = view_of setup c

  abbrev goal : Goal
  goal = goal_of c

  abbrev IsWantedNow : Task → Type 0
  IsWantedNow t = IsWanted view goal t

  node_up : among n c.up ≡ true
  node_up = is_among n c.up (from_filter (λ node. not (among node (busy_nodes c.events c.marked)) && nat_lt (load c node) setup.schedule.slots) n c.up (subst (IsIn n) (sym idle) (inl refl))).0

  wanted_found : (t : Task) → IsWantedNow t → IsIn t (wanted view goal)
  wanted_found t w = (the_walk_is_right view goal fits.shape o.reached.time.begun t).wanted_is_found w

  -- ---- what is asked for is of this round

  not_there : (by : Task) (name : Name) (t : Task) → IsIn name (missing_of view by) → maker name ≡ Some t → is_up c.copies c.up name ≡ false
  not_there by name t i m = let k = missing_from view by (site view by) name i in sym (made_there c.copies c.up k.0 name t m) ∙ k.1

  before_there : (p : ℕ) → 2 ≤ c.round → p < setup.shape.parts → is_up c.copies c.up (Out (c.round - 1) (last setup.shape) p) ≡ false → ⊥
  before_there p l u e = false≢true (sym e ∙ o.before l p u)

  made_of : (t : Task) (name other : Name) (by : Task) → name ≡ other → maker other ≡ Some by → maker name ≡ Some t → t ≡ by
  made_of t name other by e m m' = same t by (sym m' ∙ ap maker e ∙ m)
    where
      same : (a b : Task) → Some a ≡ Some b → a ≡ b
      same a b h = cc

  no_maker : (t : Task) (name other : Name) → name ≡ other → maker other ≡ None → maker name ≡ Some t → ⊥
  no_maker t name other e m m' = none (sym m ∙ sym (ap maker e) ∙ m')
    where
      none : None ≡ Some t → ⊥
      none h = cc

  split_round : (j q : ℕ) (t : Task) (name : Name) (from : Origin) → q < split_count setup.shape c.round from → name ≡ split_of setup.shape c.round j from q → maker name ≡ Some t → is_up c.copies c.up name ≡ false → round_in t ≡ c.round
  split_round j q t name State l e m u = elim (c.round == 1) as (λ v. (c.round == 1) ≡ v → q < cond v (slice_index setup.shape.blocks setup.shape.start) setup.shape.parts → name ≡ cond v (Blk setup.shape.start q) (Out (c.round - 1) (last setup.shape) q) → round_in t ≡ c.round) [
    | true ↦ λ x l e. absurd (no_maker t name (Blk setup.shape.start q) e refl m)
    | false ↦ λ x l e. absurd (before_there q (let d = eqb-false c.round 1 x in let b = o.reached.time.begun in omega arith) l (sym (ap (is_up c.copies c.up) e) ∙ u))
  ] refl l e
  split_round j q t name Prev l e m u = ap round_in (made_of t name (Out c.round (j - 1) q) (Reduce c.round (j - 1) q) e refl m)
  split_round j q t name (Table k only) l e m u = absurd (no_maker t name (Blk k q) e refl m)

  source_round : (j q : ℕ) (t : Task) (name : Name) (source : Option Source) → q < count_in setup.shape c.round source → IsIn name (split_in setup.shape c.round j source q) → maker name ≡ Some t → is_up c.copies c.up name ≡ false → round_in t ≡ c.round
  source_round j q t name None l i m u = elim i [ ]
  source_round j q t name (Some source) l (inl e) m u = split_round j q t name source.from l e m u
  source_round j q t name (Some source) l (inr x) m u = elim x [ ]

  spills_round : (j s : ℕ) (t : Task) (name : Name) (b : Bool) (p : ℕ) → b ≡ false → IsIn name (reduce_input setup.shape c.round j p s b).files → maker name ≡ Some t → round_in t ≡ c.round
  spills_round j s t name true p e i m = absurd (false≢true (sym e))
  spills_round j s t name false p e i m =
      let q = from_map (Spill c.round j s) name (splits setup.shape c.round j s) i in
      ap round_in (made_of t name (Spill c.round j s q.0) (Map c.round j s q.0) q.2 refl m)

  parts_round : (t : Task) (name : Name) → 2 ≤ c.round → IsIn name (last_outs setup.shape c.round ++ last_outs setup.shape (c.round - 1)) → maker name ≡ Some t → is_up c.copies c.up name ≡ false → round_in t ≡ c.round
  parts_round t name l i m u = elim (in_either name (last_outs setup.shape c.round) (last_outs setup.shape (c.round - 1)) i) [
    | inl x ↦
        let p = from_map (Out c.round (last setup.shape)) name (below setup.shape.parts) x in
        ap round_in (made_of t name (Out c.round (last setup.shape) p.0) (Reduce c.round (last setup.shape) p.0) p.2 refl m)
    | inr x ↦
        let p = from_map (Out (c.round - 1) (last setup.shape)) name (below setup.shape.parts) x in
        absurd (before_there p.0 l (from_below setup.shape.parts p.0 p.1) (sym (ap (is_up c.copies c.up) p.2) ∙ u))
  ]

  input_round : (by t : Task) (name : Name) (it : Input) → IsTask setup.shape by → round_in by ≡ c.round → IsIn it (inputs setup.shape by) → IsIn name it.files → maker name ≡ Some t → is_up c.copies c.up name ≡ false → round_in t ≡ c.round
  input_round (Map i j s q) t name it k r x y m u = elim x [
    | inl e ↦
        let files : IsIn name (split setup.shape i j s q) = subst (λ (z : Input). IsIn name z.files) e y in
        source_round j q t name (source_at setup.shape j s) (subst (λ r. q < count_in setup.shape r (source_at setup.shape j s)) r k.5) (subst (λ r. IsIn name (split_in setup.shape r j (source_at setup.shape j s) q)) r files) m u
    | inr z ↦ absurd z
  ]
  input_round (Reduce i j p) t name it k r x y m u =
      let s = from_map (λ s. reduce_input setup.shape i j p s (is_cached (source_at setup.shape j s))) it (source_numbers setup.shape j) x in
      let files : IsIn name (reduce_input setup.shape i j p s.0 (is_cached (source_at setup.shape j s.0))).files = subst (λ (z : Input). IsIn name z.files) s.2 y in
      spills_round j s.0 t name (is_cached (source_at setup.shape j s.0)) p (not_cached setup.shape o.caches j s.0) (subst (λ r. IsIn name (reduce_input setup.shape r j p s.0 (is_cached (source_at setup.shape j s.0))).files) r files) m
  input_round (Test i p) t name it k r x y m u = elim (subst (λ v. IsIn it (test_inputs setup.shape i p v)) o.caches.output x) [
    | inl e ↦
        let files : IsIn name (last_outs setup.shape i ++ last_outs setup.shape (i - 1)) = subst (λ (z : Input). IsIn name z.files) e y in
        parts_round t name (subst (λ r. 2 ≤ r) r k.0) (subst (λ r. IsIn name (last_outs setup.shape r ++ last_outs setup.shape (r - 1))) r files) m u
    | inr z ↦ absurd z
  ]

  asked_round : (by t : Task) → IsTask setup.shape by → round_in by ≡ c.round → IsIn t (asked_by view by) → round_in t ≡ c.round
  asked_round by t k r i =
      let m = from_flat (λ name. listed (maker name)) t (missing_of view by) i in
      let made = from_listed t (maker m.0) m.2 in
      let f = missing_is view by m.0 m.1 in
      input_round by t m.0 f.0 k r f.1 f.2 made (not_there by m.0 t m.1 made)
    where
      from_listed : (t : Task) (o : Option Task) → IsIn t (listed o) → o ≡ Some t
      from_listed t None i = elim i [ ]
      from_listed t (Some u) (inl e) = ap Some (sym e)
      from_listed t (Some u) (inr i) = elim i [ ]

  goal_round : (t : Task) → IsIn t (goals view goal) → round_in t ≡ c.round
  goal_round t i = elim (in_either t (missing_parts view c.round) (unknown_tests view goal) i) [
    | inl x ↦ ap round_in (from_map (Reduce c.round (last setup.shape)) t (filter (λ p. not (is_up c.copies c.up (Out c.round (last setup.shape) p))) (below setup.shape.parts)) x).2
    | inr x ↦ elim (nat_le 2 c.round) as (λ v. IsIn t (cond v (map (Test c.round) (filter (λ p. not (among p c.known)) (below (test_count setup.shape)))) []) → round_in t ≡ c.round) [
      | true ↦ λ y. ap round_in (from_map (Test c.round) t (filter (λ p. not (among p c.known)) (below (test_count setup.shape))) y).2
      | false ↦ λ y. absurd y
    ] x
  ]

  wanted_round : (t : Task) → IsWantedNow t → round_in t ≡ c.round
  wanted_round _ (is_goal t i) = goal_round t i
  wanted_round _ (is_asked t by w i) = asked_round by t (wanted_are_tasks view goal by (wanted_found by w)).0 (wanted_round by w) i

  -- ---- what is wanted is not made

  wanted_unmade : (t : Task) → IsWantedNow t → is_made c t ≡ false
  wanted_unmade t w = go t (wanted_open view goal t w)
    where
      not_up : (name : Name) → ((m : ℕ) → among m c.up ≡ true → not (holds c.copies m name) ≡ true) → is_up c.copies c.up name ≡ false
      not_up name f = nowhere_up c.copies c.up name (λ m h u. false≢true (ap not (sym h) ∙ f m u))

      go : (t : Task) → WantedOpen view goal t → is_made c t ≡ false
      go (Map i j s q) w = not_up (Spill i j s q) w.opens
      go (Reduce i j p) w = not_up (Out i j p) w.opens
      go (Test i p) w = not_true (among p c.known) (w.opens n node_up)

  -- ---- what is not made is wanted

  -- a wanted task that reads a file which is not there asks for the task that makes it
  asks_for : (by t : Task) (name : Name) (files : List Name) → IsIn (input None files) (inputs setup.shape by) → IsIn name files → maker name ≡ Some t → is_up c.copies c.up name ≡ false → IsIn t (asked_by view by)
  asks_for by t name files x y m u =
      let s = has_site view by n ns idle in
      let need = in_flat (λ (it : Input). unless (holds_cache c.copies s.0 it.cache) it.files) (input None files) name (inputs setup.shape by) x y in
      let gone = in_filter (λ name. not (is_there c.copies c.up s.0 name)) name (needs setup.shape c.copies s.0 by) need (ap not (made_there c.copies c.up s.0 name t m ∙ u)) in
      let missing : IsIn name (missing_of view by) = subst (λ o. IsIn name (missing_at view by o)) (sym s.1) gone in
      in_flat (λ name. listed (maker name)) name t (missing_of view by) missing (subst (λ o. IsIn t (listed o)) (sym m) (inl refl))

  of_this_round : (t : Task) → IsTask setup.shape t → round_in t ≡ c.round → IsIn t (tasks_of_round setup.shape c.round)
  of_this_round t k r = subst (λ i. IsIn t (tasks_of_round setup.shape i)) r (of_round setup.shape t k)

  -- what reads a file that is not there is not made
  reader_unmade : (by : Task) (name : Name) (files : List Name) → IsTask setup.shape by → round_in by ≡ c.round → IsIn (input None files) (inputs setup.shape by) → IsIn name files → is_up c.copies c.up name ≡ false → is_made c by ≡ false
  reader_unmade by name files k r x y u = false_from_ne_true (is_made c by) (λ e. false≢true (sym u ∙ o.made by (of_this_round by k r) e (input None files) name x y))

  reduce_reads : (j p s q : ℕ) → 1 ≤ s → s ≤ source_count (step_at setup.shape j) → q < count_in setup.shape c.round (source_at setup.shape j s) → IsIn (input None (spills setup.shape c.round j s)) (inputs setup.shape (Reduce c.round j p)) × IsIn (Spill c.round j s q) (spills setup.shape c.round j s)
  reduce_reads j p s q l u v = (
    subst (λ b. IsIn (reduce_input setup.shape c.round j p s b) (inputs setup.shape (Reduce c.round j p))) (not_cached setup.shape o.caches j s) (in_map (λ s. reduce_input setup.shape c.round j p s (is_cached (source_at setup.shape j s))) s (source_numbers setup.shape j) (in_range 1 (source_count (step_at setup.shape j)) s l (omega arith))),
    in_map (Spill c.round j s) q (splits setup.shape c.round j s) (in_range 0 (count_in setup.shape c.round (source_at setup.shape j s)) q (omega arith) (omega arith)),
  )

  abbrev UnmadeReduces : ℕ → Type 0
  UnmadeReduces j = (p : ℕ) → p < setup.shape.parts → is_made c (Reduce c.round j p) ≡ false → IsWantedNow (Reduce c.round j p)

  some_part : 0 < setup.shape.parts
  some_part = let h = fits.shape.parts.0 in omega arith

  unmade_map : (j s q : ℕ) → UnmadeReduces j → IsTask setup.shape (Map c.round j s q) → is_made c (Map c.round j s q) ≡ false → IsWantedNow (Map c.round j s q)
  unmade_map j s q reduces k u =
      let x = reduce_reads j 0 s q k.3 k.4 k.5 in
      let is : IsTask setup.shape (Reduce c.round j 0) = (k.0, k.1, k.2, some_part) in
      let unmade = reader_unmade (Reduce c.round j 0) (Spill c.round j s q) (spills setup.shape c.round j s) is refl x.0 x.1 u in
      is_asked (Map c.round j s q) (Reduce c.round j 0) (reduces 0 some_part unmade) (asks_for (Reduce c.round j 0) (Map c.round j s q) (Spill c.round j s q) (spills setup.shape c.round j s) x.0 x.1 refl u)

  -- the map of a part of the output before
  next_map : (j p : ℕ) → 1 ≤ j → suc j ≤ last setup.shape → p < setup.shape.parts → IsTask setup.shape (Map c.round (suc j) 1 p) × IsIn (Out c.round j p) (split setup.shape c.round (suc j) 1 p)
  next_map j p l u v =
      let source = prev_source setup.shape fits.shape j l u in
      let count = prev_count setup.shape c.round (suc j) source.0 source.1 source.2 in
      let e : suc j - 1 ≡ j = omega arith in (
        (o.reached.time.begun, omega arith, u, omega arith, count.0, subst (λ m. p < m) (sym count.1) v),
        subst (λ x. IsIn (Out c.round j p) (split_in setup.shape c.round (suc j) x p)) (sym source.1) (inl (ap (λ k. Out c.round k p) (sym e) ∙ ap (λ from. split_of setup.shape c.round (suc j) from p) (sym source.2))),
      )

  unmade_reduce : (k j : ℕ) → j + k ≡ last setup.shape → 1 ≤ j → UnmadeReduces j
  unmade_reduce zero j e l p v u =
      let same : last setup.shape ≡ j = omega arith in
      subst (λ j. is_made c (Reduce c.round j p) ≡ false → IsWantedNow (Reduce c.round j p)) same (λ u. is_goal (Reduce c.round (last setup.shape) p)
      (in_left (Reduce c.round (last setup.shape) p) (missing_parts view c.round) (unknown_tests view goal)
      (in_map (Reduce c.round (last setup.shape)) p (filter (λ p. not (is_up c.copies c.up (Out c.round (last setup.shape) p))) (below setup.shape.parts))
      (in_filter (λ p. not (is_up c.copies c.up (Out c.round (last setup.shape) p))) p (below setup.shape.parts) (in_range 0 setup.shape.parts p (omega arith) (omega arith)) (ap not u))))) u
  unmade_reduce (suc k) j e l p v u =
      let x = next_map j p l (omega arith) v in
      let reads : IsIn (input None (split setup.shape c.round (suc j) 1 p)) (inputs setup.shape (Map c.round (suc j) 1 p)) = inl refl in
      let unmade = reader_unmade (Map c.round (suc j) 1 p) (Out c.round j p) (split setup.shape c.round (suc j) 1 p) x.0 refl reads x.1 u in
      is_asked (Reduce c.round j p) (Map c.round (suc j) 1 p) (unmade_map (suc j) 1 p (unmade_reduce k (suc j) (omega arith) (omega arith)) x.0 unmade)
      (asks_for (Map c.round (suc j) 1 p) (Reduce c.round j p) (Out c.round j p) (split setup.shape c.round (suc j) 1 p) reads x.1 refl u)

  unmade_test : (p : ℕ) → IsTask setup.shape (Test c.round p) → among p c.known ≡ false → IsWantedNow (Test c.round p)
  unmade_test p k u = is_goal (Test c.round p) (in_right (Test c.round p) (missing_parts view c.round) (unknown_tests view goal) (rw (le-leb 2 c.round k.0)
      (in_map (Test c.round) p (filter (λ p. not (among p c.known)) (below (test_count setup.shape))) (in_filter (λ p. not (among p c.known)) p (below (test_count setup.shape)) (in_range 0 (test_count setup.shape) p (omega arith) (let l = k.1 in omega arith)) (ap not u)))))

  unmade_wanted : (t : Task) → IsTask setup.shape t → round_in t ≡ c.round → is_made c t ≡ false → IsWantedNow t
  unmade_wanted (Map i j s q) k r u = subst (λ i. IsTask setup.shape (Map i j s q) → is_made c (Map i j s q) ≡ false → IsWantedNow (Map i j s q)) (sym r) (λ k u. unmade_map j s q (unmade_reduce (last setup.shape - j) j (let h = k.2 in omega arith) k.1) k u) k u
  unmade_wanted (Reduce i j p) k r u = subst (λ i. is_made c (Reduce i j p) ≡ false → IsWantedNow (Reduce i j p)) (sym r) (λ u. unmade_reduce (last setup.shape - j) j (let h = k.2 in omega arith) k.1 p k.3 u) u
  unmade_wanted (Test i p) k r u = subst (λ i. IsTask setup.shape (Test i p) → IsWantedNow (Test i p)) (sym r) (λ k. unmade_test p k u) k

  -- ---- the wanted tasks

  round_tasks : (t : Task) → IsIn t (tasks_of_round setup.shape c.round) → IsTask setup.shape t × (round_in t ≡ c.round)
  round_tasks t x = (((tasks_are setup.shape c.round t).0 (in_flat (tasks_of_round setup.shape) c.round t (range_with_len 1 c.round) (in_range 1 c.round c.round o.reached.time.begun (omega arith)) x)).0, round_is setup.shape c.round t x)

  earlier_unwanted : (t : Task) → IsIn t (tasks_until setup.shape (c.round - 1)) → IsWantedNow t → ⊥
  earlier_unwanted t x w =
      let l = ((tasks_are setup.shape (c.round - 1) t).0 x).1 in
      let e = wanted_round t w in
      let b = o.reached.time.begun in omega arith

  pub wanted_are_unmade : wanted view goal ≡ filter (λ task. not (is_made c task)) (tasks_of_round setup.shape c.round)
  wanted_are_unmade =
      let ts = tasks_of_round setup.shape c.round in
      let w = walk view ts (goals view goal) in
      let whole : wanted view goal ≡ w.found = ap (λ ts. (walk view ts (goals view goal)).found) (until_end setup.shape c.round o.reached.time.begun) ∙ front_passed view goal (tasks_until setup.shape (c.round - 1)) ts (λ t x k. earlier_unwanted t x k) in
      whole ∙ walk_filter view (goals view goal) ts (apart_round setup.shape c.round)
      ∙ filter_same (λ t. list_any (is_task t) w.found) (λ t. not (is_made c t)) ts (λ t x.
      elim (is_made c t) as (λ v. is_made c t ≡ v → list_any (is_task t) w.found ≡ not v) [
        | true ↦ λ e. false_from_ne_true (list_any (is_task t) w.found) (λ f. false≢true (sym (wanted_unmade t (found_wanted view goal ts t (is_listed t w.found f))) ∙ e))
        | false ↦ λ e. listed_is t w.found (subst (IsIn t) whole (wanted_found t (let k = round_tasks t x in unmade_wanted t k.0 k.1 e)))
      ] refl)

pub wanted_without_loss : WantedWithoutLoss
wanted_without_loss setup c fits o some = go (idle_nodes setup c) refl
  where
    go : (idle : List ℕ) → idle_nodes setup c ≡ idle → wanted (view_of setup c) (goal_of c) ≡ filter (λ task. not (is_made c task)) (tasks_of_round setup.shape c.round)
    go [] e = absurd (some e)
    go (n ∷ ns) e = wanted_are_unmade setup c fits o n ns e

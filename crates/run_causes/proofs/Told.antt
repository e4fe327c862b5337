-- What a state of a run has of the events that are spent, and of the reads that missed, one step after another.
use Rattle.std.proofs.Common.{append_assoc, ◌≡◌, ℕ, suc, ◌+◌, ◌≤◌, ◌<◌, Bool, true, false, ◌&&◌, ◌||◌, not, cond, List, [], ◌∷◌, ◌++◌, refl, sym, ap, subst, ◌∙◌, map, arith, ◌==◌, nat_lt, nat_le}
use Rattle.std.specs.Cmp.{nat_eq_equiv}
use Rattle.std.specs.Ordering.{nat_cmp}
use Rattle.std.proofs.lemmas.Bool.{eqb-true, false_from_ne_true, false≢true, lt-ltb, ltb-false, ltb-true}
use Rattle.std.proofs.lemmas.List.{append-nil}
use Rattle.std.proofs.lemmas.Grind.{flat_map-append}
use Rattle.hal_base.specs.Sorted.{joined}
use Rattle.node_names.specs.declared.name.Name.{Name}
use Rattle.node_names.specs.declared.task.Task.{Task}
use Rattle.replica_table.specs.Sets.{among, but_one}
use Rattle.schedule_text.specs.declared.schedule.Event.{Event}
use Rattle.schedule_text.specs.declared.schedule.Event.TheVariants as event
use Rattle.schedule_text.specs.declared.schedule.Event.TheVariants.{Back, Busy, Done, Fail, Idle, Lose, Round}
use Rattle.counter_report.specs.declared.journal.Entry.{Entry}
use Rattle.counter_report.specs.declared.journal.Entry.TheVariants as line
use Rattle.run_model.specs.Advance.{passed}
use Rattle.run_model.specs.Lists.{below, number_of}
use Rattle.run_model.specs.Reading.{is_struck}
use Rattle.run_model.specs.Runs.{loaded}
use Rattle.run_model.specs.declared.attempt.Attempt.{Attempt}
use Rattle.run_model.specs.State.{PlainCluster, Setup}
use Rattle.run_laws.specs.Telling.{fails_at}
use Rattle.run_laws.proofs.Counting.{number_append, number_bound}
use Rattle.run_laws.proofs.Members.{from_below, in_range}
use Rattle.run_laws.proofs.Numbers.{in_among, is_among}
use Rattle.run_causes.specs.Fates.{Fates, fates, is_fail, is_node_up, with_event}
use Rattle.run_causes.specs.States.{FollowsSchedule, told_wiped, wiped_by}
use Rattle.run_causes.proofs.Fated.{among_but, among_join, fates_more}

-- ---- lines

-- lines of which none tells a miss, a wipe or a failure
pub record TellNothing (lines : List Entry) : Type 0 where
  pub no_miss : number_of is_struck lines ≡ 0
  pub no_wipe : told_wiped lines ≡ []
  pub no_failure : (task : Task) → number_of (fails_at task) lines ≡ 0

-- each other line tells nothing of the kind
abbrev pub is_other : Entry → Bool
is_other (line.Struck name node) = false
is_other (line.Wipe node) = false
is_other (line.Fail task node count) = false
is_other _ = true

pub other_line : (it : Entry) → is_other it ≡ true → TellNothing (it ∷ [])
other_line (line.Struck name node) e = absurd (false≢true e)
other_line (line.Wipe node) e = absurd (false≢true e)
other_line (line.Fail task node count) e = absurd (false≢true e)
other_line it e = record { no_miss = refl; no_wipe = refl; no_failure = λ task. refl }

pub all_lines : (xs ys : List Entry) → TellNothing xs → TellNothing ys → TellNothing (xs ++ ys)
all_lines xs ys a b = record {
  no_miss = number_append is_struck xs ys ∙ added _ _ a.no_miss b.no_miss;
  no_wipe = flat_map-append wiped_by xs ys ∙ ap (λ ns. ns ++ told_wiped ys) a.no_wipe ∙ b.no_wipe;
  no_failure = λ task. number_append (fails_at task) xs ys ∙ added _ _ (a.no_failure task) (b.no_failure task);
}
  where
    added : (n m : ℕ) → n ≡ 0 → m ≡ 0 → n + m ≡ 0
    added n m x y = omega arith

pub other_lines : (f : Attempt → Entry) (xs : List Attempt) → ((x : Attempt) → is_other (f x) ≡ true) → TellNothing (map f xs)
other_lines f [] h = record { no_miss = refl; no_wipe = refl; no_failure = λ task. refl }
other_lines f (x ∷ xs) h = all_lines (f x ∷ []) (map f xs) (other_line (f x) (h x)) (other_lines f xs h)

-- ---- states

-- of so many misses, nodes that are up, events that are left and a journal
pub record Told (setup : Setup) (n : ℕ) (nodes : List ℕ) (left : List Event) (journal : List Entry) : Type 0 where
  pub spent : List Event
  pub all : setup.schedule.events ≡ spent ++ left
  pub up : (q : ℕ) → among q nodes ≡ is_node_up setup.schedule.nodes (fates spent) q
  pub wiped : told_wiped journal ≡ (fates spent).wiped
  pub failed : (task : Task) → number_of (fails_at task) journal ≤ number_of is_fail spent
  pub struck : number_of is_struck journal ≡ n

-- such a state follows its schedule
pub follows : (setup : Setup) (n : ℕ) (c : PlainCluster) → Told setup n c.up c.events c.journal → FollowsSchedule setup c
follows setup n c k = record { spent = k.spent; all = k.all; up = k.up; wiped = k.wiped; failed = k.failed }

module _ (setup : Setup) where
  pub loaded_told : Told setup 0 (loaded setup).up (loaded setup).events (loaded setup).journal
  loaded_told = record {
    spent = [];
    all = refl;
    up = λ q. elim (nat_lt q setup.schedule.nodes) as (λ v. nat_lt q setup.schedule.nodes ≡ v → among q (loaded setup).up ≡ (v && true)) [
      | true ↦ λ e. is_among q (below setup.schedule.nodes) (in_range 0 setup.schedule.nodes q (omega arith) (let l = ltb-true q setup.schedule.nodes e in omega arith))
      | false ↦ λ e. false_from_ne_true (among q (below setup.schedule.nodes)) (λ t. let a = from_below setup.schedule.nodes q (in_among q (below setup.schedule.nodes) t) in let b = ltb-false q setup.schedule.nodes e in omega arith)
    ] refl;
    wiped = refl;
    failed = λ task. omega arith;
    struck = refl;
  }

  -- lines come that tell of no wipe
  same_wiped : (journal lines : List Entry) (f : Fates) → told_wiped lines ≡ [] → told_wiped journal ≡ f.wiped → told_wiped (journal ++ lines) ≡ f.wiped
  same_wiped journal lines f e k = flat_map-append wiped_by journal lines ∙ ap (λ ns. told_wiped journal ++ ns) e ∙ append-nil (told_wiped journal) ∙ k

  -- lines come that tell nothing
  pub lines_told : (n : ℕ) (nodes : List ℕ) (left : List Event) (journal lines : List Entry) → TellNothing lines → Told setup n nodes left journal → Told setup n nodes left (journal ++ lines)
  lines_told n nodes left journal lines t k = record {
    spent = k.spent;
    all = k.all;
    up = k.up;
    wiped = same_wiped journal lines (fates k.spent) t.no_wipe k.wiped;
    failed = λ task. let a = number_append (fails_at task) journal lines in let z = t.no_failure task in let f = k.failed task in omega arith;
    struck = let a = number_append is_struck journal lines in let z = t.no_miss in let s = k.struck in omega arith;
  }

  -- a read misses
  pub miss_told : (n : ℕ) (nodes : List ℕ) (left : List Event) (journal : List Entry) (name : Name) (node : ℕ) → Told setup n nodes left journal → Told setup (suc n) nodes left (journal ++ line.Struck name node ∷ [])
  miss_told n nodes left journal name node k = record {
    spent = k.spent;
    all = k.all;
    up = k.up;
    wiped = same_wiped journal (line.Struck name node ∷ []) (fates k.spent) refl k.wiped;
    failed = λ task. let a = number_append (fails_at task) journal (line.Struck name node ∷ []) in let f = k.failed task in omega arith;
    struck = let a = number_append is_struck journal (line.Struck name node ∷ []) in let s = k.struck in omega arith;
  }

  -- ---- events

  abbrev Up : Fates → List ℕ → Type 0
  Up f nodes = (q : ℕ) → among q nodes ≡ is_node_up setup.schedule.nodes f q

  -- an event is spent, with what it does to nodes and adds to the journal
  spent_told : (e : Event) (n : ℕ) (nodes nodes' : List ℕ) (left : List Event) (journal journal' : List Entry) → (k : Told setup n nodes (e ∷ left) journal)
      → Up (with_event e (fates k.spent)) nodes' → told_wiped journal' ≡ (with_event e (fates k.spent)).wiped → ((task : Task) → number_of (fails_at task) journal' ≤ number_of is_fail (k.spent ++ e ∷ [])) → number_of is_struck journal' ≡ n
      → Told setup n nodes' left journal'
  spent_told e n nodes nodes' left journal journal' k u w f s = record {
    spent = k.spent ++ e ∷ [];
    all = k.all ∙ sym (append_assoc k.spent (e ∷ []) left);
    up = subst (λ x. Up x nodes') (sym (fates_more k.spent e)) u;
    wiped = w ∙ ap (λ (x : Fates). x.wiped) (sym (fates_more k.spent e));
    failed = f;
    struck = s;
  }

  more_fails : (e : Event) (spent : List Event) (task : Task) (journal : List Entry) → number_of (fails_at task) journal ≤ number_of is_fail spent → number_of (fails_at task) journal ≤ number_of is_fail (spent ++ e ∷ [])
  more_fails e spent task journal l = let a = number_append is_fail spent (e ∷ []) in omega arith

  -- an event that changes nothing of the nodes
  pub kept_told : (e : Event) (n : ℕ) (nodes : List ℕ) (left : List Event) (journal : List Entry) → (k : Told setup n nodes (e ∷ left) journal) → with_event e (fates k.spent) ≡ fates k.spent → Told setup n nodes left journal
  kept_told e n nodes left journal k same = spent_told e n nodes nodes left journal journal k (subst (λ x. Up x nodes) (sym same) k.up) (k.wiped ∙ ap (λ (x : Fates). x.wiped) (sym same)) (λ task. more_fails e k.spent task journal (k.failed task)) k.struck

  -- an attempt fails
  pub fail_told : (m n : ℕ) (nodes : List ℕ) (left : List Event) (journal : List Entry) (task : Task) (node count : ℕ) → Told setup n nodes (Fail m ∷ left) journal → Told setup n nodes left (journal ++ line.Fail task node count ∷ [])
  fail_told m n nodes left journal task node count k = spent_told (Fail m) n nodes nodes left journal (journal ++ line.Fail task node count ∷ []) k k.up
      (same_wiped journal (line.Fail task node count ∷ []) (fates k.spent) refl k.wiped)
      (λ t. let a = number_append (fails_at t) journal (line.Fail task node count ∷ []) in let b = number_append is_fail k.spent (Fail m ∷ []) in let f = k.failed t in let o = number_bound (fails_at t) (line.Fail task node count ∷ []) in omega arith)
      (let a = number_append is_struck journal (line.Fail task node count ∷ []) in let s = k.struck in omega arith)

  -- ---- nodes

  -- a node that is up is not down, and one that is not is
  is_down : (f : Fates) (nodes : List ℕ) (m : ℕ) → m < setup.schedule.nodes → Up f nodes → among m f.down ≡ not (among m nodes)
  is_down f nodes m l u = sym (not_not (among m f.down)) ∙ ap not (sym (u m ∙ ap (λ v. v && not (among m f.down)) (lt-ltb m setup.schedule.nodes l)))
    where
      not_not : (v : Bool) → not (not v) ≡ v
      not_not true = refl
      not_not false = refl

  module _ (m n : ℕ) (l : m < setup.schedule.nodes) (nodes : List ℕ) (left : List Event) (journal : List Entry) where
    -- a node goes that is up
    pub lose_told : among m nodes ≡ true → Told setup n nodes (Lose m ∷ left) journal → Told setup n (but_one m nodes) left journal
    lose_told a k =
        let f = fates k.spent in
        let d : among m f.down ≡ false = is_down f nodes m l k.up ∙ ap not a in
        let e : record f { down = m ∷ f.down } ≡ with_event (Lose m) f = sym (ap (λ v. cond v f (record f { down = m ∷ f.down })) d) in
        spent_told (Lose m) n nodes (but_one m nodes) left journal journal k
        (subst (λ x. Up x (but_one m nodes)) e (λ q. among_but m q nodes ∙ ap (λ v. not v && among q nodes) (nat_eq_equiv.symm m q) ∙ ap (λ v. not (q == m) && v) (k.up q) ∙ fewer (q == m) (nat_lt q setup.schedule.nodes) (among q f.down)))
        (k.wiped ∙ ap (λ (x : Fates). x.wiped) e)
        (λ task. more_fails (Lose m) k.spent task journal (k.failed task)) k.struck
      where
        fewer : (x v d : Bool) → (not x && (v && not d)) ≡ (v && not (x || d))
        fewer true true d = refl
        fewer true false d = refl
        fewer false v d = refl

    -- or it is down
    pub lose_skipped : among m nodes ≡ false → Told setup n nodes (Lose m ∷ left) journal → Told setup n nodes left journal
    lose_skipped a k = let f = fates k.spent in kept_told (Lose m) n nodes left journal k (ap (λ v. cond v f (record f { down = m ∷ f.down })) (is_down f nodes m l k.up ∙ ap not a))

    -- a node comes back that is down
    pub back_told : among m nodes ≡ false → Told setup n nodes (Back m ∷ left) journal → Told setup n (joined nat_cmp m nodes) left journal
    back_told a k =
        let f = fates k.spent in
        spent_told (Back m) n nodes (joined nat_cmp m nodes) left journal journal k
        (λ q. among_join m q nodes ∙ ap (λ v. (q == m) || v) (k.up q) ∙ more q (q == m) refl (among q f.down) ∙ ap (λ v. nat_lt q setup.schedule.nodes && not (not v && among q f.down)) (nat_eq_equiv.symm q m) ∙ ap (λ v. nat_lt q setup.schedule.nodes && not v) (sym (among_but m q f.down)))
        k.wiped (λ task. more_fails (Back m) k.spent task journal (k.failed task)) k.struck
      where
        more : (q : ℕ) (x : Bool) → (q == m) ≡ x → (d : Bool) → (x || (nat_lt q setup.schedule.nodes && not d)) ≡ (nat_lt q setup.schedule.nodes && not (not x && d))
        more q true e d = sym (ap (λ v. v && true) (ap (λ k. nat_lt k setup.schedule.nodes) (eqb-true q m e) ∙ lt-ltb m setup.schedule.nodes l))
        more q false e d = refl

    -- or it is up
    pub back_skipped : among m nodes ≡ true → Told setup n nodes (Back m ∷ left) journal → Told setup n nodes left journal
    back_skipped a k =
        let f = fates k.spent in
        spent_told (Back m) n nodes nodes left journal journal k
        (λ q. k.up q ∙ ap (λ v. nat_lt q setup.schedule.nodes && not v) (same q (m == q) f.down refl (is_down f nodes m l k.up ∙ ap not a) ∙ sym (among_but m q f.down)))
        k.wiped (λ task. more_fails (Back m) k.spent task journal (k.failed task)) k.struck
      where
        same : (q : ℕ) (x : Bool) (down : List ℕ) → (m == q) ≡ x → among m down ≡ false → among q down ≡ (not x && among q down)
        same q true down e d = subst (λ j. among j down ≡ false) (eqb-true m q e) d
        same q false down e d = refl

    -- a node is wiped that is down
    pub wipe_told : among m nodes ≡ false → Told setup n nodes (event.Wipe m ∷ left) journal → Told setup n nodes left (journal ++ line.Wipe m ∷ [])
    wipe_told a k =
        let f = fates k.spent in
        let e : record f { wiped = f.wiped ++ m ∷ [] } ≡ with_event (event.Wipe m) f = sym (ap (λ v. cond v (record f { wiped = f.wiped ++ m ∷ [] }) f) (is_down f nodes m l k.up ∙ ap not a)) in
        spent_told (event.Wipe m) n nodes nodes left journal (journal ++ line.Wipe m ∷ []) k
        (subst (λ x. Up x nodes) e k.up)
        (flat_map-append wiped_by journal (line.Wipe m ∷ []) ∙ ap (λ ns. ns ++ m ∷ []) k.wiped ∙ ap (λ (x : Fates). x.wiped) e)
        (λ task. let x = number_append (fails_at task) journal (line.Wipe m ∷ []) in let y = more_fails (event.Wipe m) k.spent task journal (k.failed task) in omega arith)
        (let x = number_append is_struck journal (line.Wipe m ∷ []) in let s = k.struck in omega arith)

    -- or it is up
    pub wipe_skipped : among m nodes ≡ true → Told setup n nodes (event.Wipe m ∷ left) journal → Told setup n nodes left journal
    wipe_skipped a k = let f = fates k.spent in kept_told (event.Wipe m) n nodes left journal k (ap (λ v. cond v (record f { wiped = f.wiped ++ m ∷ [] }) f) (is_down f nodes m l k.up ∙ ap not a))

  -- ---- rounds that are waited for

  pub passed_told : (i n : ℕ) (nodes : List ℕ) (left : List Event) (journal : List Entry) → Told setup n nodes left journal → Told setup n nodes (passed i left) journal
  passed_told i n nodes [] journal k = k
  passed_told i n nodes (Round m ∷ left) journal k = elim (nat_le m i) as (λ v. Told setup n nodes (cond v (passed i left) (Round m ∷ left)) journal) [
    | true ↦ passed_told i n nodes left journal (kept_told (Round m) n nodes left journal k refl)
    | false ↦ k
  ]
  passed_told i n nodes (Done m ∷ left) journal k = k
  passed_told i n nodes (Fail m ∷ left) journal k = k
  passed_told i n nodes (Lose m ∷ left) journal k = k
  passed_told i n nodes (Back m ∷ left) journal k = k
  passed_told i n nodes (event.Wipe m ∷ left) journal k = k
  passed_told i n nodes (Busy m ∷ left) journal k = k
  passed_told i n nodes (Idle m ∷ left) journal k = k

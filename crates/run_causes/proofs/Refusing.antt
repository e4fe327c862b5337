-- What each refusal of a run shows of its schedule, and when there is none.
use Rattle.std.proofs.Common.{◌≡◌, inl, inr, ℕ, ◌+◌, ◌≤◌, ◌<◌, Bool, true, false, ◌&&◌, not, List, [], ◌∷◌, ◌++◌, Option, refl, sym, ap, subst, ◌∙◌, arith, length}
use Rattle.std.specs.List.{filter}
use Rattle.std.proofs.Math.Nat.{mod-lt}
use Rattle.std.proofs.lemmas.Bool.{false≢true, lt-ltb}
use Rattle.std.proofs.lemmas.List.{append-nil}
use Rattle.std.proofs.lemmas.List.FromFn.{length-map-range_with_len, length-range_with_len}
use Rattle.node_names.specs.declared.name.Name.{Name}
use Rattle.node_names.specs.declared.name.Name.TheVariants.{Blk, Mic, Out, Ric, Roc, Spill}
use Rattle.node_names.specs.declared.task.Task.{Task}
use Rattle.replica_table.specs.Sets.{among}
use Rattle.counter_report.specs.declared.journal.EndWord.{EndWord}
use Rattle.counter_report.specs.declared.journal.Entry.{Entry}
use Rattle.counter_report.specs.declared.journal.Entry.TheVariants as line
use Rattle.run_model.specs.Lists.{IsIn, below, number_of}
use Rattle.run_model.specs.Needs.{view_of}
use Rattle.run_model.specs.Plans.{BlockLost, Leaves, Made, Misses, NoNode, Refusal, TaskFailed, refuses}
use Rattle.run_model.specs.Reading.{is_struck, misses}
use Rattle.run_model.specs.Runs.{block_writes, loaded, node_of, turns}
use Rattle.run_model.specs.Start.{goal_of}
use Rattle.run_model.specs.State.{PlainCluster, Setup}
use Rattle.run_laws.specs.Blocks.{BlockKept}
use Rattle.run_laws.specs.States.{Fits}
use Rattle.run_laws.specs.Telling.{Failures, fails_at}
use Rattle.run_laws.proofs.BlockCopies.{block_copies_keep}
use Rattle.run_laws.proofs.Counting.{number_append}
use Rattle.run_laws.proofs.Lossless.{block_written, held_up, there_written}
use Rattle.run_laws.proofs.Members.{from_below, from_filter, from_map, in_filter, in_flat, and_true, not_true}
use Rattle.run_laws.proofs.Numbers.{in_among, is_among}
use Rattle.run_laws.proofs.ToldByJournals.{failures_are_told}
use Rattle.run_causes.specs.Causes.{AllDown, BlockGone, CopiesGone, FailedTooOften, IsGone, LosesLittle, NeverRefused, RefusalsShow, Shown, block_nodes}
use Rattle.run_causes.specs.Fates.{Fates, fates, is_fail, is_whole, lost_nodes}
use Rattle.run_causes.specs.States.{FollowsSchedule, wiped_by}
use Rattle.run_causes.proofs.Fated.{AllGone, gone_is_lost}
use Rattle.run_causes.proofs.Fewer.{Differ, block_nodes_differ, differ_below, differ_filter, no_more}
use Rattle.run_causes.proofs.Missing.{NotThere, block_missing}
use Rattle.run_causes.proofs.Runs.{misses_told, refused_caused, refused_keeps, states_follow}

-- ---- a schedule that is spent

-- a node that is there and not up is down
not_up_down : (setup : Setup) (c : PlainCluster) (f : FollowsSchedule setup c) (n : ℕ) → n < setup.schedule.nodes → among n c.up ≡ false → IsIn n (fates f.spent).down
not_up_down setup c f n l e = in_among n (fates f.spent).down (go (among n (fates f.spent).down) (sym e ∙ f.up n ∙ ap (λ v. v && not (among n (fates f.spent).down)) (lt-ltb n setup.schedule.nodes l)))
  where
    go : (v : Bool) → false ≡ not v → v ≡ true
    go true x = refl
    go false x = absurd (false≢true x)

all_spent : (setup : Setup) (c : PlainCluster) (f : FollowsSchedule setup c) → c.events ≡ [] → f.spent ≡ setup.schedule.events
all_spent setup c f e = sym (f.all ∙ ap (λ events. f.spent ++ events) e ∙ append-nil f.spent)

all_down : (setup : Setup) (c : PlainCluster) → FollowsSchedule setup c → c.events ≡ [] → c.up ≡ [] → AllDown setup c
all_down setup c f e u = record {
  spent = e;
  down = λ n l. subst (λ events. IsIn n (fates events).down) (all_spent setup c f e) (not_up_down setup c f n l (ap (among n) u));
}

-- ---- failures

failed_often : (setup : Setup) (c : PlainCluster) (task : Task) → FollowsSchedule setup c → number_of (fails_at task) c.journal ≡ setup.schedule.attempts → FailedTooOften setup c task
failed_often setup c task f e = record {
  told = e;
  scheduled = let s = ap (number_of is_fail) f.all in let a = number_append is_fail f.spent c.events in let k = f.failed task in omega arith;
}

-- ---- lost blocks

module _ (setup : Setup) (c : PlainCluster) (f : FollowsSchedule setup c) (spent : c.events ≡ []) (t b : ℕ) where
  -- a copy that was kept is of no use, where no up node holds the block
  copy_gone : (n : ℕ) → n < setup.schedule.nodes → NotThere (view_of setup c) t b → BlockKept t b n c → IsGone (fates setup.schedule.events) c.journal t b n
  copy_gone n l m (inl h) = elim (among n c.up) as (λ v. among n c.up ≡ v → IsGone (fates setup.schedule.events) c.journal t b n) [
    | true ↦ λ e. absurd (false≢true (sym m.not_up ∙ held_up c.copies c.up n (Blk t b) e h))
    | false ↦ λ e. inl (subst (λ events. IsIn n (fates events).down) (all_spent setup c f spent) (not_up_down setup c f n l e))
  ] refl
  copy_gone n l m (inr (inl i)) = inr (inr i)
  copy_gone n l m (inr (inr i)) = inr (inl (subst (λ events. IsIn n (fates events).wiped) (all_spent setup c f spent) (subst (IsIn n) f.wiped (in_flat wiped_by (line.Wipe n) n c.journal i (inl refl)))))

  -- the copies on whole nodes are struck
  whole_struck : (n : ℕ) → is_whole (fates setup.schedule.events) n ≡ true → IsGone (fates setup.schedule.events) c.journal t b n → IsIn (line.Struck (Blk t b) n) c.journal
  whole_struck n w g =
      let fate = fates setup.schedule.events in
      let h = and_true (not (among n fate.down)) (not (among n fate.wiped)) w in
      go (not_true (among n fate.down) h.0) (not_true (among n fate.wiped) h.1) g
    where
      go : among n (fates setup.schedule.events).down ≡ false → among n (fates setup.schedule.events).wiped ≡ false → IsGone (fates setup.schedule.events) c.journal t b n → IsIn (line.Struck (Blk t b) n) c.journal
      go x y (inl i) = absurd (false≢true (sym x ∙ is_among n (fates setup.schedule.events).down i))
      go x y (inr (inl i)) = absurd (false≢true (sym y ∙ is_among n (fates setup.schedule.events).wiped i))
      go x y (inr (inr i)) = i

  copies_gone : setup.schedule.copies ≤ setup.schedule.nodes → NotThere (view_of setup c) t b → ((k : ℕ) → k < setup.schedule.copies → IsGone (fates setup.schedule.events) c.journal t b (node_of t b k setup.schedule.nodes)) → CopiesGone setup c t b
  copies_gone spread m g = record {
    spent = spent;
    in_shape = m.in_shape;
    gone = g;
    few = no_more (line.Struck (Blk t b)) same_node (filter (is_whole fate) nodes) (filter is_struck c.journal) (differ_filter (is_whole fate) nodes (block_nodes_differ setup t b spread)) (λ n i.
        let x = from_filter (is_whole fate) n nodes i in
        let k = from_map (λ k. node_of t b k setup.schedule.nodes) n (below setup.schedule.copies) x.0 in
        in_filter is_struck (line.Struck (Blk t b) n) c.journal (whole_struck n x.1 (subst (IsGone fate c.journal t b) (sym k.2) (g k.0 (from_below setup.schedule.copies k.0 k.1)))) refl);
  }
    where
      fate : Fates
      fate = fates setup.schedule.events

      nodes : List ℕ
      nodes = block_nodes setup t b

      same_node : (n m : ℕ) → line.Struck (Blk t b) n ≡ line.Struck (Blk t b) m → n ≡ m
      same_node n m e = cc

-- ---- refusals

module _ (setup : Setup) (fits : Fits setup) (decisions : ℕ → Option EndWord) (n : ℕ) (made : List Made) (c : PlainCluster) where
  block_gone : (block : Name) → setup.schedule.copies ≤ setup.schedule.nodes → Leaves (turns n setup decisions (loaded setup)) made (refuses c (BlockLost block)) → BlockGone setup c block
  block_gone block spread l =
      let why = refused_caused setup decisions n made c (BlockLost block) l in
      let m = block_missing (view_of setup c) (goal_of c) block why.3 in
      let f = states_follow setup fits decisions n made (refuses c (BlockLost block)) l in
      let N = setup.schedule.nodes in
      subst (BlockGone setup c) (sym m.2) (copies_gone setup c f why.0 m.0 m.1 spread m.3 (λ k x.
      copy_gone setup c f why.0 m.0 m.1 (node_of m.0 m.1 k N) (mod-lt (m.0 + m.1 + k) fits.nodes) m.3
      (refused_keeps setup decisions (BlockKept m.0 m.1 (node_of m.0 m.1 k N)) (λ decision d p. block_copies_keep setup decision m.0 m.1 (node_of m.0 m.1 k N) d p) n made c (BlockLost block)
      (inl (there_written (node_of m.0 m.1 k N) (Blk m.0 m.1) (block_writes setup) [] (block_written setup m.0 m.1 k x m.3.in_shape))) l)))

  pub shown : (why : Refusal) → setup.schedule.copies ≤ setup.schedule.nodes → Leaves (turns n setup decisions (loaded setup)) made (refuses c why) → Shown setup c why
  shown (TaskFailed task) spread l =
      failed_often setup c task (states_follow setup fits decisions n made (refuses c (TaskFailed task)) l)
      (sym (refused_keeps setup decisions Failures (λ decision d p. failures_are_told setup decision d p) n made c (TaskFailed task) (λ t. refl) l task) ∙ refused_caused setup decisions n made c (TaskFailed task) l)
  shown NoNode spread l = let why = refused_caused setup decisions n made c NoNode l in all_down setup c (states_follow setup fits decisions n made (refuses c NoNode) l) why.0 why.2
  shown (BlockLost block) spread l = block_gone block spread l
  shown Misses spread l =
      let told = misses_told setup fits decisions n made (refuses c Misses) l in
      let least = refused_caused setup decisions n made c Misses l in
      let is = told.told in let few = told.few in omega arith

pub refusals_show : RefusalsShow
refusals_show setup decisions n made c why fits spread l = shown setup fits decisions n made c why spread l

-- ---- completeness

module _ (setup : Setup) (little : LosesLittle setup) where
  gone : AllGone (λ n. IsIn n (lost_nodes setup.schedule.events)) (fates setup.schedule.events)
  gone = gone_is_lost setup.schedule.events

  -- different nodes that were all lost are fewer than a block has copies
  few_nodes : (nodes : List ℕ) → Differ nodes → ((n : ℕ) → IsIn n nodes → IsIn n (lost_nodes setup.schedule.events)) → length nodes < setup.schedule.copies
  few_nodes nodes d h = let a = no_more (λ (n : ℕ). n) (λ n m e. e) nodes (lost_nodes setup.schedule.events) d h in let b = little.few_lost in omega arith

  some_up : (c : PlainCluster) → AllDown setup c → ⊥
  some_up c a =
      let few = few_nodes (below setup.schedule.nodes) (differ_below setup.schedule.nodes) (λ n i. gone.each_down n (a.down n (from_below setup.schedule.nodes n i))) in
      let all = length-range_with_len 0 setup.schedule.nodes in
      let spread = little.spread in omega arith

  -- where nothing is struck, each copy that is gone was on a node that was lost
  copy_lost : (c : PlainCluster) (t b n : ℕ) → misses c ≡ 0 → IsGone (fates setup.schedule.events) c.journal t b n → IsIn n (lost_nodes setup.schedule.events)
  copy_lost c t b n none (inl i) = gone.each_down n i
  copy_lost c t b n none (inr (inl i)) = gone.each_wiped n i
  copy_lost c t b n none (inr (inr i)) = absurd (none_in (filter is_struck c.journal) none (in_filter is_struck (line.Struck (Blk t b) n) c.journal i refl))
    where
      none_in : (lines : List Entry) → length lines ≡ 0 → IsIn (line.Struck (Blk t b) n) lines → ⊥
      none_in [] e j = j
      none_in (it ∷ lines) e j = omega arith

  some_copy : (c : PlainCluster) (t b : ℕ) → misses c ≡ 0 → CopiesGone setup c t b → ⊥
  some_copy c t b none g =
      let few = few_nodes (block_nodes setup t b) (block_nodes_differ setup t b little.spread) (λ n i.
      let k = from_map (λ k. node_of t b k setup.schedule.nodes) n (below setup.schedule.copies) i in
      copy_lost c t b n none (subst (IsGone (fates setup.schedule.events) c.journal t b) (sym k.2) (g.gone k.0 (from_below setup.schedule.copies k.0 k.1)))) in
      let all = length-map-range_with_len (λ k. node_of t b k setup.schedule.nodes) 0 setup.schedule.copies in
      omega arith

  some_block : (c : PlainCluster) (block : Name) → misses c ≡ 0 → BlockGone setup c block → ⊥
  some_block c (Blk t b) none g = some_copy c t b none g
  some_block c (Spill i j s q) none g = g
  some_block c (Out i j p) none g = g
  some_block c (Ric j s p) none g = g
  some_block c (Mic t b) none g = g
  some_block c (Roc i p) none g = g

  no_cause : (c : PlainCluster) (why : Refusal) → misses c ≡ 0 → Shown setup c why → ⊥
  no_cause c (TaskFailed task) none s = let a = s.scheduled in let b = little.few_fail in omega arith
  no_cause c NoNode none s = some_up c s
  no_cause c (BlockLost block) none s = some_block c block none s
  no_cause c Misses none s = omega arith

pub never_refused : NeverRefused
never_refused setup decisions n made c why fits little none l = no_cause setup little c why none (refusals_show setup decisions n made c why fits little.spread l)

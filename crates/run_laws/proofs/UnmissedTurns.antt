-- Turns of quiet events in which no read misses keep a state orderly.
use Rattle.std.proofs.Common.{◌≡◌, inl, inr, ℕ, zero, suc, ◌+◌, ◌-◌, ◌*◌, ◌≤◌, ◌<◌, Bool, true, false, ◌||◌, ◌&&◌, not, cond, List, [], ◌∷◌, ◌++◌, Option, None, Some, refl, sym, ap, subst, ◌∙◌, map, arith, ◌==◌, nat_lt, nat_le}
use Rattle.std.specs.Prelude.{slice_index, ◌/◌, if◌then◌else◌}
use Rattle.std.specs.List.{AllByRecursion, filter, flat_map, list_all}
use Rattle.std.proofs.Math.Nat.{mul-div-le}
use Rattle.std.proofs.lemmas.Bool.{eq-eqb, false≢true, le-leb}
use Rattle.node_names.specs.declared.name.Name.{Name}
use Rattle.node_names.specs.declared.name.Name.TheVariants.{Blk, Mic, Out, Ric, Roc, Spill}
use Rattle.node_names.specs.declared.task.Task.{Task}
use Rattle.node_names.specs.declared.task.Task.TheVariants.{Map, Reduce, Test}
use Rattle.replica_table.specs.Copies.{is_at}
use Rattle.replica_table.specs.Sets.{among}
use Rattle.schedule_text.specs.declared.schedule.Event.{Event}
use Rattle.schedule_text.specs.declared.schedule.Event.TheVariants as event
use Rattle.schedule_text.specs.declared.schedule.Event.TheVariants.{Back, Busy, Done, Fail, Idle, Lose, Round}
use Rattle.counter_report.specs.declared.journal.EndWord.{EndWord}
use Rattle.counter_report.specs.declared.journal.Entry.{Entry}
use Rattle.counter_report.specs.declared.journal.Entry.TheVariants as line
use Rattle.counter_report.specs.declared.journal.EventWord.TheVariants as word
use Rattle.run_model.specs.Acts.{act, act_on, done_by, ended, fail, failed, failed_by, failures_of, finish, last_act, oldest, oldest_on, round_act, spend, stuck}
use Rattle.run_model.specs.Advance.{Advanced, advance, advance_if, after_part, decide, finished, goes_on, is_decided, next_round, part_tries, pass, passed, read_parts}
use Rattle.run_model.specs.Attempts.{commit, committed, writes, written}
use Rattle.run_model.specs.Lists.{IsIn, below}
use Rattle.run_model.specs.Needs.{Input, inputs, is_up, view_of}
use Rattle.run_model.specs.Plans.{Refusal, TaskFailed, gives, refuses}
use Rattle.run_model.specs.Reading.{ReadSoFar, Tried, Try, nothing_read, read_first, read_inputs, reading, starved}
use Rattle.run_model.specs.Removals.{clear, removals}
use Rattle.run_model.specs.Runs.{state_of}
use Rattle.run_model.specs.Sites.{site}
use Rattle.run_model.specs.Start.{first_ready, goal_of, start, start_first, start_one, start_some, started}
use Rattle.run_model.specs.declared.attempt.Attempt.{Attempt}
use Rattle.run_model.specs.State.{Copy, PlainCluster, Setup, holds, noted, with_copies}
use Rattle.run_model.specs.Stays.{kept_round, stays}
use Rattle.run_model.specs.Tasks.{IsTask, is_task, last, last_outs, tasks_of_round, tasks_until}
use Rattle.run_model.specs.Turns.{Turned, acted, go_on, turn}
use Rattle.run_model.specs.Wanted.{block_in, first_missing_block, least_name, missing_blocks, missing_of, wanted}
use Rattle.run_laws.specs.Rounds.{NameFits, round_in, round_of}
use Rattle.run_laws.specs.States.{CopiesFit, EndsInTime, Fits, IsNow, Reached, is_open}
use Rattle.run_laws.specs.WithoutLoss.{AreQuiet, CanRead, HasNoCaches, IsFailure, OnAdvanced, Orderly, QuietAdvances, QuietTurns, QuietTurnsByCalls, StartsStayOrderly, StaysOrderly, Unmissed, is_made}
use Rattle.run_laws.proofs.Copies.{at_is, was_left}
use Rattle.run_laws.proofs.Growing.{Grow, up_grows}
use Rattle.run_laws.proofs.Listing.{names_are, tasks_are}
use Rattle.run_laws.proofs.Lossless.{IsBlock, held_up, up_held}
use Rattle.run_laws.proofs.Members.{and_true, any_is, find_is, from_flat, in_map, in_range, or_left, or_right, same_task, task_itself}
use Rattle.run_laws.proofs.Numbers.{ascend_under, in_among}
use Rattle.run_laws.proofs.Opening.{missing_from, wanted_are_tasks}
use Rattle.run_laws.proofs.Orders.{missing_is}
use Rattle.run_laws.proofs.Plans.{unmissed_do, unmissed_leaves, unmissed_refused, unmissed_then, unmissed_with}
use Rattle.run_laws.proofs.Reaching.{copies_left, ended_reached, noted_reached, passed_reached, reached_steps}
use Rattle.run_laws.proofs.RoundWalks.{round_is}
use Rattle.run_laws.proofs.Turning.{oldest_runs}
use Rattle.run_laws.proofs.UnmissedReads.{IsFound, ReadQuietly, block_needed, can_read, inputs_read, uncached}
use Rattle.run_laws.proofs.Writes.{GoodWrite, WritesFit, calls_fit, stays_open, written_holds}

-- ---- small steps

not_false_is : (v : Bool) → not v ≡ false → v ≡ true
not_false_is true e = refl
not_false_is false e = absurd (false≢true (sym e))

-- what is made is made before, where the same is open
made_before : (c d : PlainCluster) → d.up ≡ c.up → (t : Task) → ((n : ℕ) → is_open d.copies d.known t n ≡ is_open c.copies c.known t n) → is_made d t ≡ true → is_made c t ≡ true
made_before c d u (Map i j s q) f e =
    let m = up_held d.copies d.up (Spill i j s q) e in
    held_up c.copies c.up m.0 (Spill i j s q) (subst (λ up. among m.0 up ≡ true) u m.1) (not_false_is (holds c.copies m.0 (Spill i j s q)) (sym (f m.0) ∙ ap not m.2))
made_before c d u (Reduce i j p) f e =
    let m = up_held d.copies d.up (Out i j p) e in
    held_up c.copies c.up m.0 (Out i j p) (subst (λ up. among m.0 up ≡ true) u m.1) (not_false_is (holds c.copies m.0 (Out i j p)) (sym (f m.0) ∙ ap not m.2))
made_before c d u (Test i p) f e = not_false_is (among p c.known) (sym (f 0) ∙ ap not e)

up_left : (test : Copy → Bool) (up : List ℕ) (name : Name) (copies : List Copy) → ((n : ℕ) (it : Copy) → is_at name n it ≡ true → test it ≡ true) → is_up copies up name ≡ true → is_up (filter test copies) up name ≡ true
up_left test up name copies f e =
    let m = up_held copies up name e in
    held_up (filter test copies) up m.0 name m.1 (was_left test m.0 name copies (f m.0) m.2)

all_pass : (test : Name → Bool) (names : List Name) → list_all test names ≡ true → (name : Name) → IsIn name names → test name ≡ true
all_pass test [] e name i = elim i [ ]
all_pass test (x ∷ names) e name (inl is) = ap test is ∙ (and_true (test x) (list_all test names) e).0
all_pass test (x ∷ names) e name (inr i) = all_pass test names (and_true (test x) (list_all test names) e).1 name i

no_names : (names : List Name) → ((name : Name) → IsIn name names → ⊥) → names ≡ []
no_names [] h = refl
no_names (name ∷ names) h = absurd (h name (inl refl))

passed_quiet : (i : ℕ) (events : List Event) → AreQuiet events → AreQuiet (passed i events)
passed_quiet i [] q = tt
passed_quiet i (Round n ∷ events) q = elim (nat_le n i) as (λ v. AreQuiet (cond v (passed i events) (Round n ∷ events))) [ true ↦ passed_quiet i events q.1 | false ↦ q ]
passed_quiet i (Done n ∷ events) q = q
passed_quiet i (Fail n ∷ events) q = q
passed_quiet i (Lose n ∷ events) q = q
passed_quiet i (Back n ∷ events) q = q
passed_quiet i (event.Wipe n ∷ events) q = q
passed_quiet i (Busy n ∷ events) q = q
passed_quiet i (Idle n ∷ events) q = q

first_unmissed : (c : PlainCluster) (R : PlainCluster → Refusal → Type 0) (tries : List Try) → Unmissed (λ (t : Tried). t.cluster ≡ c) R (read_first tries c)
first_unmissed c R [] = refl
first_unmissed c R (it ∷ tries) = refl

kept_below : (keep i : ℕ) → kept_round keep (i + 1) ≤ i
kept_below keep i = let e : i + 1 - 1 ≡ i = omega arith in subst (λ k. keep * (k / keep) ≤ i) (sym e) (mul-div-le i keep)

module _ (setup : Setup) (fits : Fits setup) where
  abbrev Failed : PlainCluster → Refusal → Type 0
  Failed d why = IsFailure why

  abbrev Never : PlainCluster → Refusal → Type 0
  Never d why = ⊥

  abbrev K : PlainCluster → Type 0
  K d = StaysOrderly setup d

  -- an orderly state with quiet events, but that it is reached
  record Rest (d : PlainCluster) : Type 0 where
    pub all_up : d.up ≡ below setup.schedule.nodes
    pub blocks : (t b : ℕ) → b < slice_index setup.shape.blocks t → is_up d.copies d.up (Blk t b) ≡ true
    pub before : 2 ≤ d.round → (p : ℕ) → p < setup.shape.parts → is_up d.copies d.up (Out (d.round - 1) (last setup.shape) p) ≡ true
    pub made : (task : Task) → IsIn task (tasks_of_round setup.shape d.round) → is_made d task ≡ true → CanRead setup d task
    pub quiet : AreQuiet d.events

  whole : (d : PlainCluster) → HasNoCaches setup.shape → Rest d → Reached setup d → K d
  whole d caches r h = (record { reached = h; caches = caches; all_up = r.all_up; blocks = r.blocks; before = r.before; made = r.made }, r.quiet)

  -- with more copies, and with what is newly made of files that are there
  grown : (c d : PlainCluster) → Orderly setup c → d.up ≡ c.up → d.round ≡ c.round → Grow c.copies d.copies → ((t : Task) → IsIn t (tasks_of_round setup.shape c.round) → is_made d t ≡ true → CanRead setup c t) → AreQuiet d.events → Rest d
  grown c d o u r g m q = record {
    all_up = u ∙ o.all_up;
    blocks = λ t b l. still (Blk t b) (o.blocks t b l);
    before = λ l p v. subst (λ i. is_up d.copies d.up (Out (i - 1) (last setup.shape) p) ≡ true) (sym r) (still (Out (c.round - 1) (last setup.shape) p) (o.before (subst (λ i. 2 ≤ i) r l) p v));
    made = λ t x e it name y z. still name (m t (subst (λ i. IsIn t (tasks_of_round setup.shape i)) r x) e it name y z);
    quiet = q;
  }
    where
      still : (name : Name) → is_up c.copies c.up name ≡ true → is_up d.copies d.up name ≡ true
      still name e = subst (λ up. is_up d.copies up name ≡ true) (sym u) (up_grows c.copies d.copies c.up name g e)

  noted_quiet : (it : Entry) (c : PlainCluster) → K c → K (noted (it ∷ []) c)
  noted_quiet it c k = whole (noted (it ∷ []) c) k.0.caches (grown c (noted (it ∷ []) c) k.0 refl refl (λ n name h. h) (λ t x e. k.0.made t x e) k.1) (noted_reached setup fits (it ∷ []) c k.0.reached)

  -- ---- the next round

  nothing_later : (c : PlainCluster) (copies : List Copy) (name : Name) → CopiesFit setup c.round copies → c.round < round_of name → is_up copies c.up name ≡ true → ⊥
  nothing_later c copies name f l e =
      let m = up_held copies c.up name e in
      let k = any_is (is_at name m.0) copies m.2 in
      let fits = subst (NameFits setup.shape c.round) (sym (at_is name m.0 k.0 k.2).0) (f.each k.0 k.1) in
      let b = (names_are setup.shape c.round name fits).1 in omega arith

  next_rest : (c : PlainCluster) → K c → is_decided setup c ≡ true → Unmissed Rest Never (next_round setup c)
  next_rest c k e =
      let o = k.0 in
      let lines = map (λ (a : Attempt). line.Dropped a.task a.node) c.running in
      let d : PlainCluster = record c { round = c.round + 1; running = []; known = []; journal = c.journal ++ lines } in
      unmissed_then Rest Rest Never (clear setup c.up d) (λ next. gives (noted (line.Round next.round ∷ []) next))
      (unmissed_do Rest Never (removals setup c.up d) (gives (with_copies (filter left c.copies) d)) (record {
        all_up = o.all_up;
        blocks = λ t b l. up_left left c.up (Blk t b) c.copies (λ n it x. stays_left (Blk t b) n it x refl) (o.blocks t b l);
        before = λ l p v.
            let back : c.round + 1 - 1 ≡ c.round = omega arith in
            let up = all_pass (is_up c.copies c.up) (last_outs setup.shape c.round) (and_true (list_all (is_up c.copies c.up) (last_outs setup.shape c.round)) _ e).0 (Out c.round (last setup.shape) p) (in_map (Out c.round (last setup.shape)) p (below setup.shape.parts) (in_range 0 setup.shape.parts p (omega arith) (omega arith))) in
            subst (λ i. is_up (filter left c.copies) c.up (Out i (last setup.shape) p) ≡ true) (sym back) (up_left left c.up (Out c.round (last setup.shape) p) c.copies (λ n it x. stays_left (Out c.round (last setup.shape) p) n it x (last_stays p)) up);
        made = λ t x m. absurd (unmade t (round_is setup.shape (c.round + 1) t x) m);
        quiet = k.1;
      }))
      (λ next r. record { all_up = r.all_up; blocks = r.blocks; before = r.before; made = r.made; quiet = r.quiet })
    where
      left : Copy → Bool
      left x = not (not (stays setup.shape setup.schedule.keep (c.round + 1) x.name) && among x.node c.up)

      stays_left : (name : Name) (n : ℕ) (it : Copy) → is_at name n it ≡ true → stays setup.shape setup.schedule.keep (c.round + 1) name ≡ true → left it ≡ true
      stays_left name n it x s = ap (λ v. not (not v && among it.node c.up)) (ap (stays setup.shape setup.schedule.keep (c.round + 1)) (sym (at_is name n it x).0) ∙ s)

      last_stays : (p : ℕ) → stays setup.shape setup.schedule.keep (c.round + 1) (Out c.round (last setup.shape) p) ≡ true
      last_stays p = or_right (c.round == c.round + 1) ((last setup.shape == last setup.shape) && nat_le (kept_round setup.schedule.keep (c.round + 1)) c.round) (rw (eq-eqb (last setup.shape) (last setup.shape) refl, le-leb (kept_round setup.schedule.keep (c.round + 1)) c.round (kept_below setup.schedule.keep c.round)) refl)

      fewer : CopiesFit setup c.round (filter left c.copies)
      fewer = copies_left setup c.round left c.copies k.0.reached.copies

      unmade : (t : Task) → round_in t ≡ c.round + 1 → is_made (with_copies (filter left c.copies) (record c { round = c.round + 1; running = []; known = []; journal = c.journal ++ map (λ (a : Attempt). line.Dropped a.task a.node) c.running })) t ≡ true → ⊥
      unmade (Map i j s q) r m = nothing_later c (filter left c.copies) (Spill i j s q) fewer (omega arith) m
      unmade (Reduce i j p) r m = nothing_later c (filter left c.copies) (Out i j p) fewer (omega arith) m
      unmade (Test i p) r m = false≢true m

  next_quiet : (c : PlainCluster) → c.round < setup.shape.rounds → K c → is_decided setup c ≡ true → Unmissed K Never (next_round setup c)
  next_quiet c l k e = unmissed_with Rest (Reached setup) K (Reached setup) Never (next_round setup c) (next_rest c k e) ((reached_steps setup fits).quiet.begins c l k.0.reached) (λ d r h. whole d k.0.caches r h)

  -- ---- an attempt that is done

  commit_rest : (a : Attempt) (e : PlainCluster) (u : among a.node e.up ≡ true) (s : ReadSoFar)
      → K e → IsIn a.task (tasks_until setup.shape e.round) → IsNow e.round a.task
      → ReadQuietly e a.node u Failed (AllByRecursion (λ (it : Input). AllByRecursion (IsFound e a.node u Failed) it.files) (inputs setup.shape a.task)) s
      → Unmissed Rest Failed (commit setup a s)
  commit_rest a e u (starved d) k x now q = subst (λ d. Rest (noted (line.Starve a.task a.node ∷ []) d)) (sym q) (grown e (noted (line.Starve a.task a.node ∷ []) e) k.0 refl refl (λ n name h. h) (λ t y m. k.0.made t y m) k.1)
  commit_rest a e u (reading r) k x now q =
      let c = r.cluster in
      let calls = writes setup a r in
      let same = q.0 in
      let w : WritesFit (GoodWrite setup e.round a.task) calls = calls_fit setup e.round a r x (ascend_under 0 setup.schedule.nodes a.node e.up k.0.reached.up (in_among a.node e.up u)) (λ name i. elim (subst (IsIn name) q.1 i) [ ]) in
      let d = committed a r (written calls c.copies) in
      unmissed_do Rest Failed calls (gives d) (grown e d k.0 (ap (λ (x : PlainCluster). x.up) same) (ap (λ (x : PlainCluster). x.round) same)
      (λ n name h. written_holds calls c.copies n name (subst (λ (x : PlainCluster). holds x.copies n name ≡ true) (sym same) h))
      (λ t y m. newly t y (is_task a.task t) refl (λ apart. subst (λ x. is_made x t ≡ true) same (made_before c d refl t (λ n. stays_open setup e.round a.task t n calls c.copies c.known apart now (now_of t y) w) m)))
      (subst (λ (x : PlainCluster). AreQuiet x.events) (sym same) k.1))
    where
      now_of : (t : Task) → IsIn t (tasks_of_round setup.shape e.round) → IsNow e.round t
      now_of (Map i j s q) y = tt
      now_of (Reduce i j p) y = tt
      now_of (Test i p) y = round_is setup.shape e.round (Test i p) y

      newly : (t : Task) → IsIn t (tasks_of_round setup.shape e.round) → (v : Bool) → is_task a.task t ≡ v → ((a.task ≡ t → ⊥) → is_made e t ≡ true) → CanRead setup e t
      newly t y true is m = subst (CanRead setup e) (same_task a.task t is) (can_read setup e a.node u Failed a.task k.0 ((tasks_are setup.shape e.round a.task).0 x).0 q.2)
      newly t y false is m = k.0.made t y (m (λ s. false≢true (sym is ∙ subst (λ x. is_task a.task x ≡ true) s (task_itself a.task))))

  finish_quiet : (a : Attempt) (c : PlainCluster) → IsIn a c.running → K c → Unmissed K Failed (finish setup a c)
  finish_quiet a c i k =
      let e = ended a c in
      let runs = k.0.reached.running.each a i in
      let ke = whole e k.0.caches (grown c e k.0 refl refl (λ n name h. h) (λ t x m. k.0.made t x m) k.1) (ended_reached setup fits a c k.0.reached) in
      let its = inputs setup.shape a.task in
      let G : Type 0 = AllByRecursion (λ (it : Input). AllByRecursion (IsFound e a.node runs.on_up Failed) it.files) its in
      unmissed_with Rest (Reached setup) K (Reached setup) Failed (finish setup a c)
      (unmissed_then (ReadQuietly e a.node runs.on_up Failed G) Rest Failed (read_inputs a.node its (reading (nothing_read e))) (commit setup a)
      (inputs_read e a.node runs.on_up Failed its (reading (nothing_read e)) (Unit {0}) G (uncached setup.shape k.0.caches a.task) (λ x all. all) (refl, refl, tt))
      (λ s q. commit_rest a e runs.on_up s ke runs.listed runs.now q))
      ((reached_steps setup fits).quiet.finishes a c i k.0.reached) (λ d r h. whole d k.0.caches r h)

  fail_quiet : (a : Attempt) (c : PlainCluster) → IsIn a c.running → K c → Unmissed K Failed (fail setup a c)
  fail_quiet a c i k =
      let rest = grown c (failed a c) k.0 refl refl (λ n name h. h) (λ t x m. k.0.made t x m) k.1 in
      unmissed_with Rest (Reached setup) K (Reached setup) Failed (fail setup a c)
      (elim (failures_of a.task (failed a c).failures == setup.schedule.attempts) as (λ v. Unmissed Rest Failed (if v then refuses (failed a c) (TaskFailed a.task) else gives (failed a c))) [ true ↦ tt | false ↦ rest ])
      ((reached_steps setup fits).fails a c i k.0.reached) (λ d r h. whole d k.0.caches r h)

  -- ---- start

  pub start_quiet : (m : ℕ) (c : PlainCluster) → K c → K (start_some setup m c)
  start_quiet zero c k = k
  start_quiet (suc m) c k = start_quiet m (start_one setup c) (whole (start_one setup c) k.0.caches (first (first_ready setup c)) ((reached_steps setup fits).quiet.starts c k.0.reached))
    where
      same : Rest c
      same = grown c c k.0 refl refl (λ n name h. h) (λ t x m. k.0.made t x m) k.1

      at : (t : Task) (node : Option ℕ) → Rest (started t node c)
      at t None = same
      at t (Some node) = grown c (started t (Some node) c) k.0 refl refl (λ n name h. h) (λ t x m. k.0.made t x m) k.1

      first : (t : Option Task) → Rest (start_first setup c t)
      first None = same
      first (Some t) = at t (site (view_of setup c) t)

  -- ---- act

  -- no block that is wanted is missing
  none_missing : (c : PlainCluster) → K c → first_missing_block (view_of setup c) (goal_of c) ≡ None
  none_missing c k = ap least_name (no_names (missing_blocks (view_of setup c) (goal_of c)) (λ name x.
      let t = from_flat (λ task. flat_map block_in (missing_of (view_of setup c) task)) name (wanted (view_of setup c) (goal_of c)) x in
      let m = from_flat block_in name (missing_of (view_of setup c) t.0) t.2 in
      missing t.0 m.0 (wanted_are_tasks (view_of setup c) (goal_of c) t.0 t.1).0 m.1 (block_is m.0 name m.2)))
    where
      block_is : (a name : Name) → IsIn name (block_in a) → IsBlock a
      block_is (Blk t b) name x = tt
      block_is (Spill i j s q) name x = elim x [ ]
      block_is (Out i j p) name x = elim x [ ]
      block_is (Ric j s p) name x = elim x [ ]
      block_is (Mic t b) name x = elim x [ ]
      block_is (Roc i p) name x = elim x [ ]

      missing : (t : Task) (name : Name) → IsTask setup.shape t → IsIn name (missing_of (view_of setup c) t) → IsBlock name → ⊥
      missing t (Blk a b) is x y =
          let f = missing_is (view_of setup c) t (Blk a b) x in
          let g = missing_from (view_of setup c) t (site (view_of setup c) t) (Blk a b) x in
          let up = k.0.blocks a b (block_needed setup.shape t f.0 a b is f.1 f.2) in
          false≢true (sym g.1 ∙ or_left (is_up c.copies c.up (Blk a b) || holds c.copies g.0 (Blk a b)) (holds c.copies g.0 (Mic a b)) (or_left (is_up c.copies c.up (Blk a b)) (holds c.copies g.0 (Blk a b)) up))
      missing t (Spill i j s q) is x y = y
      missing t (Out i j p) is x y = y
      missing t (Ric j s p) is x y = y
      missing t (Mic a b) is x y = y
      missing t (Roc i p) is x y = y

  stuck_quiet : (c : PlainCluster) (up : List ℕ) (block : Option Name) → c.up ≡ up → block ≡ None → K c → Unmissed K Failed (stuck c up block)
  stuck_quiet c [] block e b k = absurd (some (in_range 0 setup.schedule.nodes 0 (omega arith) (let h = fits.nodes in omega arith)) (sym k.0.all_up ∙ e))
    where
      some : IsIn 0 (below setup.schedule.nodes) → below setup.schedule.nodes ≡ [] → ⊥
      some i h = elim (subst (IsIn 0) h i) [ ]
  stuck_quiet c (n ∷ up) None e b k = k
  stuck_quiet c (n ∷ up) (Some block) e b k = absurd (some b)
    where
      some : Some block ≡ None → ⊥
      some h = cc

  last_quiet : (c : PlainCluster) (a : Option Attempt) → oldest c ≡ a → K c → Unmissed K Failed (last_act setup c a)
  last_quiet c None e k = stuck_quiet c c.up (first_missing_block (view_of setup c) (goal_of c)) refl (none_missing c k) k
  last_quiet c (Some a) e k = finish_quiet a c (oldest_runs c a e) k

  spent : (e : Event) (events : List Event) (c : PlainCluster) → c.events ≡ e ∷ events → K c → K (record c { events = events })
  spent e events c x k = whole (record c { events = events }) k.0.caches (grown c (record c { events = events }) k.0 refl refl (λ n name h. h) (λ t y m. k.0.made t y m) (subst AreQuiet x k.1).1) ((reached_steps setup fits).spends e events c x k.0.reached)

  done_quiet : (n : ℕ) (c : PlainCluster) (a : Option Attempt) → oldest_on c n ≡ a → K c → Unmissed K Failed (done_by setup n c a)
  done_quiet n c None e k = noted_quiet (line.Skip word.Done n) c k
  done_quiet n c (Some a) e k = finish_quiet a c (find_is (λ (x : Attempt). n == x.node) c.running a e).0 k

  failed_quiet : (n : ℕ) (c : PlainCluster) (a : Option Attempt) → oldest_on c n ≡ a → K c → Unmissed K Failed (failed_by setup n c a)
  failed_quiet n c None e k = noted_quiet (line.Skip word.Fail n) c k
  failed_quiet n c (Some a) e k = fail_quiet a c (find_is (λ (x : Attempt). n == x.node) c.running a e).0 k

  round_quiet : (n : ℕ) (events : List Event) (c : PlainCluster) (a : Option Attempt) → c.events ≡ Round n ∷ events → oldest c ≡ a → K c → Unmissed K Failed (round_act setup n events c a)
  round_quiet n events c None x e k = noted_quiet (line.Skip word.Round n) (record c { events = events }) (spent (Round n) events c x k)
  round_quiet n events c (Some a) x e k = elim (nat_lt c.round n) as (λ v. Unmissed K Failed (if v then finish setup a c else spend setup (Round n) events c)) [
    | true ↦ finish_quiet a c (oldest_runs c a e) k
    | false ↦ noted_quiet (line.Skip word.Round n) (record c { events = events }) (spent (Round n) events c x k)
  ]

  act_quiet : (events : List Event) (c : PlainCluster) → c.events ≡ events → K c → Unmissed K Failed (act_on setup events c)
  act_quiet [] c x k = last_quiet c (oldest c) refl k
  act_quiet (Round n ∷ events) c x k = round_quiet n events c (oldest c) x refl k
  act_quiet (Done n ∷ events) c x k = let k' = spent (Done n) events c x k in done_quiet n (record c { events = events }) (oldest_on (record c { events = events }) n) refl k'
  act_quiet (Fail n ∷ events) c x k = let k' = spent (Fail n) events c x k in failed_quiet n (record c { events = events }) (oldest_on (record c { events = events }) n) refl k'
  act_quiet (Lose n ∷ events) c x k = absurd (false≢true (subst AreQuiet x k.1).0)
  act_quiet (Back n ∷ events) c x k = absurd (false≢true (subst AreQuiet x k.1).0)
  act_quiet (event.Wipe n ∷ events) c x k = absurd (false≢true (subst AreQuiet x k.1).0)
  act_quiet (Busy n ∷ events) c x k = absurd (false≢true (subst AreQuiet x k.1).0)
  act_quiet (Idle n ∷ events) c x k = absurd (false≢true (subst AreQuiet x k.1).0)

  -- ---- advance

  parts_orderly : (end : EndWord) (names : List Name) (c : PlainCluster) → K c → Unmissed (OnAdvanced K) Never (read_parts end names c)
  parts_orderly end [] c k = noted_quiet (line.End end c.round) c k
  parts_orderly end (name ∷ names) c k = unmissed_then (λ (t : Tried). t.cluster ≡ c) (OnAdvanced K) Never (read_first (part_tries c name) c) (λ tried. after_part (read_parts end names) tried.cluster tried.answered) (first_unmissed c Never (part_tries c name))
      (λ tried e. go (parts_orderly end names c k) tried.cluster tried.answered e)
    where
      go : Unmissed (OnAdvanced K) Never (read_parts end names c) → (d : PlainCluster) (answered : Option Try) → d ≡ c → Unmissed (OnAdvanced K) Never (after_part (read_parts end names) d answered)
      go more d None e = subst K (sym e) k
      go more d (Some it) e = subst (λ x. Unmissed (OnAdvanced K) Never (read_parts end names x)) (sym e) more

  decide_orderly : (decision : Option EndWord) (c : PlainCluster) → EndsInTime setup c decision → is_decided setup c ≡ true → K c → Unmissed (OnAdvanced K) Never (decide setup decision c)
  decide_orderly None c t e k = unmissed_then K (OnAdvanced K) Never (next_round setup c) (λ next. gives (goes_on next)) (next_quiet c (t refl) k e) (λ next h. h)
  decide_orderly (Some end) c t e k = parts_orderly end (last_outs setup.shape c.round) c k

  if_orderly : (decision : Option EndWord) (c : PlainCluster) (v : Bool) → is_decided setup c ≡ v → EndsInTime setup c decision → K c → Unmissed (OnAdvanced K) Never (advance_if setup decision c v)
  if_orderly decision c true e t k = decide_orderly decision c t e k
  if_orderly decision c false e t k = k

  pass_orderly : (advanced : Advanced) → (OnAdvanced K) advanced → (OnAdvanced K) (pass advanced)
  pass_orderly (goes_on c) k = whole (record c { events = passed c.round c.events }) k.0.caches (grown c (record c { events = passed c.round c.events }) k.0 refl refl (λ n name h. h) (λ t x m. k.0.made t x m) (passed_quiet c.round c.events k.1)) (passed_reached setup fits c k.0.reached)
  pass_orderly (finished c end) k = k

  -- ---- a turn

  abbrev KTurned : Turned → Type 0
  KTurned turned = K (state_of turned)

  go_on_orderly : (advanced : Advanced) → (OnAdvanced K) advanced → Unmissed KTurned Failed (go_on setup advanced)
  go_on_orderly (finished c end) k = k
  go_on_orderly (goes_on c) k = unmissed_then K KTurned Failed (act setup (start setup c)) (λ next. gives (acted next)) (act_quiet (start setup c).events (start setup c) refl (start_quiet (setup.schedule.nodes * setup.schedule.slots) c k)) (λ next h. h)

  pub advance_orderly : (decision : Option EndWord) (c : PlainCluster) → EndsInTime setup c decision → K c → Unmissed (OnAdvanced K) Never (advance setup decision c)
  advance_orderly decision c t k = unmissed_then (OnAdvanced K) (OnAdvanced K) Never (advance_if setup decision c (is_decided setup c)) (λ advanced. gives (pass advanced)) (if_orderly decision c (is_decided setup c) refl t k) pass_orderly

  pub turn_orderly : (decision : Option EndWord) (c : PlainCluster) → EndsInTime setup c decision → K c → Unmissed KTurned Failed (turn setup decision c)
  turn_orderly decision c t k = unmissed_then (OnAdvanced K) KTurned Failed (advance setup decision c) (go_on setup) (unmissed_refused (OnAdvanced K) Never Failed (advance setup decision c) (λ d why x. absurd x) (advance_orderly decision c t k)) go_on_orderly

pub quiet_advances : QuietAdvances
quiet_advances setup decision c fits t k = advance_orderly setup fits decision c t k

pub starts_stay_orderly : StartsStayOrderly
starts_stay_orderly setup n c fits k = start_quiet setup fits n c k

pub quiet_turns : QuietTurns
quiet_turns setup decision c fits t k = turn_orderly setup fits decision c t k

pub quiet_turns_by_calls : QuietTurnsByCalls
quiet_turns_by_calls setup decision c made fits t k none =
    let P : Turned → Type 0 = λ turned. StaysOrderly setup (state_of turned) in
    let h = quiet_turns setup decision c fits t k in
    record {
      gave = λ turned e. unmissed_leaves P (λ d why. IsFailure why) (turn setup decision c) (gives turned) made h none e;
      refused = λ d why e. unmissed_leaves P (λ d why. IsFailure why) (turn setup decision c) (refuses d why) made h none e;
    }

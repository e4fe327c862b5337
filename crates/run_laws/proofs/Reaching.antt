-- What holds of each state that a run reaches is kept by each step of a turn.
use Rattle.std.proofs.Common.{append_assoc, ◌≡◌, ◌⊎◌, inl, inr, ℕ, ◌+◌, ◌≤◌, ◌<◌, Bool, true, false, ◌&&◌, not, cond, List, [], ◌∷◌, ◌++◌, Option, None, Some, refl, sym, ap, subst, ◌∙◌, map, arith, length, ◌==◌, nat_lt, nat_le}
use Rattle.std.specs.Prelude.{if◌then◌else◌}
use Rattle.std.specs.List.{filter}
use Rattle.std.specs.Ordering.{nat_cmp}
use Rattle.std.proofs.lemmas.Bool.{eq-eqb, eqb-true, false≢true, ltb-true}
use Rattle.hal_base.specs.Sorted.{joined}
use Rattle.node_names.specs.declared.name.Name.TheVariants.{Out, Spill}
use Rattle.node_names.specs.declared.task.Task.{Task}
use Rattle.node_names.specs.declared.task.Task.TheVariants.{Map, Reduce, Test}
use Rattle.replica_table.proofs.Members.{filter_ascend, joined_ascend}
use Rattle.replica_table.specs.Copies.{but_file, but_node, but_those, is_at}
use Rattle.replica_table.specs.Sets.{Ascend, among, but_one}
use Rattle.schedule_text.specs.declared.schedule.Event.{Event}
use Rattle.schedule_text.specs.declared.schedule.Event.TheVariants as event
use Rattle.schedule_text.specs.declared.schedule.Event.TheVariants.{Back, Busy, Done, Fail, Idle, Lose, Round}
use Rattle.counter_report.specs.declared.journal.EndWord.{EndWord}
use Rattle.counter_report.specs.declared.journal.Entry.{Entry}
use Rattle.counter_report.specs.declared.journal.Entry.TheVariants as line
use Rattle.counter_report.specs.declared.journal.Entry.TheVariants.{Struck}
use Rattle.run_model.specs.Acts.{ended, failed, finish, lost, returned, same_attempt}
use Rattle.run_model.specs.Advance.{next_round, passed}
use Rattle.run_model.specs.Attempts.{commit, committed, with_known, writes, written}
use Rattle.run_model.specs.Lists.{IsIn, number_of}
use Rattle.run_model.specs.Needs.{busy_nodes, idle_nodes, inputs, load, view_of}
use Rattle.run_model.specs.PlanLaws.{Always}
use Rattle.run_model.specs.Plans.{Plan, asks, does, gives, refuses, ◌>>=◌}
use Rattle.run_model.specs.Reading.{ReadSoFar, Try, misses, nothing_read, read_inputs, reading, starved, strike}
use Rattle.run_model.specs.Removals.{clear, removals}
use Rattle.run_model.specs.Runs.{state_of}
use Rattle.run_model.specs.Sites.{site}
use Rattle.run_model.specs.Start.{first_ready, goal_of, is_running, start_first, started}
use Rattle.run_model.specs.declared.attempt.Attempt.{Attempt}
use Rattle.run_model.specs.State.{Copy, PlainCluster, Setup, holds, noted, with_copies}
use Rattle.run_model.specs.Stays.{stays}
use Rattle.run_model.specs.Tasks.{is_task, tasks_until, test_count}
use Rattle.run_model.specs.Turns.{turn}
use Rattle.run_model.specs.Wanted.{ready, wanted}
use Rattle.run_laws.specs.Rounds.{NameFits}
use Rattle.run_laws.specs.States.{CopiesFit, EndsInTime, Fits, IsNow, Once, Reached, RunningFit, Runs, TurnReaches, is_open, node_in}
use Rattle.run_laws.proofs.Copies.{left_was, order_left}
use Rattle.run_laws.proofs.Counting.{number_append}
use Rattle.run_laws.proofs.Listing.{name_more, numbers_are}
use Rattle.run_laws.proofs.Members.{and_true, find_is, from_below, from_filter, in_either, in_right, is_any, not_mono, not_true, same_task, task_itself}
use Rattle.run_laws.proofs.Numbers.{among_left, among_with, ascend_under, in_among, is_among}
use Rattle.run_laws.proofs.Opening.{wanted_in, wanted_open}
use Rattle.run_laws.proofs.Orders.{the_walk_is_right}
use Rattle.run_laws.proofs.Places.{site_in}
use Rattle.run_laws.proofs.Plans.{always_do, always_then}
use Rattle.run_laws.proofs.Turning.{KRead, NextFits, Steps, fails_always, inputs_walk, turn_walks}
use Rattle.run_laws.proofs.Writes.{GoodWrite, Unread, WritesFit, caches_fit, calls_fit, stays_open, writes_weaker, written_fits}

-- ---- attempts

open_left : (test : Copy → Bool) (copies : List Copy) (known : List ℕ) (t : Task) (n : ℕ) → is_open copies known t n ≡ true → is_open (filter test copies) known t n ≡ true
open_left test copies known (Map i j s q) n e = not_mono (holds (filter test copies) n (Spill i j s q)) (holds copies n (Spill i j s q)) (left_was test n (Spill i j s q) copies) e
open_left test copies known (Reduce i j p) n e = not_mono (holds (filter test copies) n (Out i j p)) (holds copies n (Out i j p)) (left_was test n (Out i j p) copies) e
open_left test copies known (Test i p) n e = e

runs_left : (setup : Setup) (round : ℕ) (up : List ℕ) (test : Copy → Bool) (copies : List Copy) (known : List ℕ) (running : List Attempt) → RunningFit setup round up copies known running → RunningFit setup round up (filter test copies) known running
runs_left setup round up test copies known running f = record {
  each = λ a i. let r = f.each a i in record { listed = r.listed; on_up = r.on_up; opens = open_left test copies known a.task a.node r.opens; now = r.now };
  once = f.once;
  loads = f.loads;
}

pub copies_left : (setup : Setup) (round : ℕ) (test : Copy → Bool) (copies : List Copy) → CopiesFit setup round copies → CopiesFit setup round (filter test copies)
copies_left setup round test copies f = record { each = λ it i. f.each it (from_filter test it copies i).0; order = order_left setup.schedule.nodes test copies f.order }

once_those : (test : Attempt → Bool) (running : List Attempt) → Once running → Once (filter test running)
once_those test [] o = tt
once_those test (a ∷ running) o = elim (test a) as (λ v. Once (cond v (a ∷ filter test running) (filter test running))) [
  | true ↦ (λ b i. o.0 b (from_filter test b running i).0, once_those test running o.1)
  | false ↦ once_those test running o.1
]

number_kept : (f : Attempt → Bool) (v : Bool) (a : Attempt) (xs : List Attempt) → number_of f xs ≤ number_of f (cond v (a ∷ xs) xs)
number_kept f true a xs = elim (f a) as (λ v. length (filter f xs) ≤ length (cond v (a ∷ filter f xs) (filter f xs))) [ true ↦ omega arith | false ↦ omega arith ]
number_kept f false a xs = omega arith

loads_those : (f test : Attempt → Bool) (running : List Attempt) → number_of f (filter test running) ≤ number_of f running
loads_those f test [] = omega arith
loads_those f test (a ∷ running) = let h = loads_those f test running in
    elim (test a) as (λ v. number_of f (cond v (a ∷ filter test running) (filter test running)) ≤ number_of f (a ∷ running)) [
      | true ↦ elim (f a) as (λ v. length (cond v (a ∷ filter f (filter test running)) (filter f (filter test running))) ≤ length (cond v (a ∷ filter f running) (filter f running))) [ true ↦ omega arith | false ↦ omega arith ]
      | false ↦ let k = number_kept f true a running in omega arith
    ]

-- fewer run, on the nodes that are up
runs_those : (setup : Setup) (round : ℕ) (up more : List ℕ) (test : Attempt → Bool) (copies : List Copy) (known : List ℕ) (running : List Attempt)
    → ((a : Attempt) → test a ≡ true → among a.node up ≡ true → among a.node more ≡ true)
    → RunningFit setup round up copies known running → RunningFit setup round more copies known (filter test running)
runs_those setup round up more test copies known running u f = record {
  each = λ a i. let m = from_filter test a running i in let r = f.each a m.0 in record { listed = r.listed; on_up = u a m.1 r.on_up; opens = r.opens; now = r.now };
  once = once_those test running f.once;
  loads = λ n. let h = loads_those (λ (a : Attempt). n == a.node) test running in let k = f.loads n in omega arith;
}

pub the_same : (running : List Attempt) (a b : Attempt) → Once running → IsIn a running → IsIn b running → a.task ≡ b.task → a ≡ b
the_same [] a b o i j e = elim i [ ]
the_same (c ∷ running) a b o (inl x) (inl y) e = x ∙ sym y
the_same (c ∷ running) a b o (inl x) (inr j) e = absurd (o.0 b j (ap (λ (z : Attempt). z.task) (sym x) ∙ e))
the_same (c ∷ running) a b o (inr i) (inl y) e = absurd (o.0 a i (ap (λ (z : Attempt). z.task) (sym y) ∙ sym e))
the_same (c ∷ running) a b o (inr i) (inr j) e = the_same running a b o.1 i j e

same_itself_attempt : (a : Attempt) → same_attempt a a ≡ true
same_itself_attempt a = rw (eq-eqb a.node a.node refl, task_itself a.task) refl

-- an attempt that ended has no other at its task
pub ended_alone : (a b : Attempt) (c : PlainCluster) → Once c.running → IsIn a c.running → IsIn b (ended a c).running → a.task ≡ b.task → ⊥
ended_alone a b c o i j e =
    let m = from_filter (λ x. not (same_attempt a x)) b c.running j in
    let same = the_same c.running a b o i m.0 e in
    false≢true (ap not (sym (same_itself_attempt a) ∙ ap (same_attempt a) same) ∙ m.1)

-- ---- an attempt that ends is taken out alone

those_all : {A : Type 0} (test : A → Bool) (xs : List A) → ((x : A) → IsIn x xs → test x ≡ true) → filter test xs ≡ xs
those_all test [] h = refl
those_all test (x ∷ xs) h = rw (h x (inl refl), those_all test xs (λ y i. h y (inr i))) refl

other_attempt : (a b : Attempt) → (a.task ≡ b.task → ⊥) → not (same_attempt a b) ≡ true
other_attempt a b d = go (is_task a.task b.task) (a.node == b.node) (λ e. d (same_task a.task b.task e))
  where
    go : (v w : Bool) → (v ≡ true → ⊥) → not (w && v) ≡ true
    go true w n = absurd (n refl)
    go false true n = refl
    go false false n = refl

-- what ends an attempt takes out one, at its place
pub ended_is : (a : Attempt) (before behind : List Attempt) → Once (before ++ a ∷ behind) → filter (λ b. not (same_attempt a b)) (before ++ a ∷ behind) ≡ before ++ behind
ended_is a [] behind o = rw (same_itself_attempt a) (those_all (λ b. not (same_attempt a b)) behind (λ b i. other_attempt a b (o.0 b i)))
ended_is a (x ∷ before) behind o =
    let d = other_attempt a x (λ e. o.0 a (in_right a before (a ∷ behind) (inl refl)) (sym e)) in
    rw d (ap (λ xs. x ∷ xs) (ended_is a before behind o.1))

once_append : (running : List Attempt) (a : Attempt) → Once running → ((b : Attempt) → IsIn b running → b.task ≡ a.task → ⊥) → Once (running ++ a ∷ [])
once_append [] a o d = (λ b i. elim i [ ], tt)
once_append (x ∷ running) a o d = (λ b i e. go b (in_either b running (a ∷ []) i) e, once_append running a o.1 (λ b i. d b (inr i)))
  where
    go : (b : Attempt) → IsIn b running ⊎ IsIn b (a ∷ []) → x.task ≡ b.task → ⊥
    go b (inl i) e = o.0 b i e
    go b (inr (inl y)) e = d x (inl refl) (e ∙ ap (λ (z : Attempt). z.task) y)
    go b (inr (inr z)) e = elim z [ ]

-- ---- events

pass_front : (i : ℕ) (events : List Event) → (front : List Event) × (events ≡ front ++ passed i events)
pass_front i [] = ([], refl)
pass_front i (Round n ∷ events) = elim (nat_le n i) as (λ v. (front : List Event) × (Round n ∷ events ≡ front ++ (if v then passed i events else Round n ∷ events))) [
  | true ↦ let m = pass_front i events in (Round n ∷ m.0, ap (λ es. Round n ∷ es) m.1)
  | false ↦ ([], refl)
]
pass_front i (Done n ∷ events) = ([], refl)
pass_front i (Fail n ∷ events) = ([], refl)
pass_front i (Lose n ∷ events) = ([], refl)
pass_front i (Back n ∷ events) = ([], refl)
pass_front i (event.Wipe n ∷ events) = ([], refl)
pass_front i (Busy n ∷ events) = ([], refl)
pass_front i (Idle n ∷ events) = ([], refl)

module _ (setup : Setup) (fits : Fits setup) where
  R : PlainCluster → Type 0
  R c = Reached setup c

  thinned : (test : Copy → Bool) (c : PlainCluster) → Reached setup c → Reached setup (with_copies (filter test c.copies) c)
  thinned test c h = record { time = h.time; up = h.up; marked = h.marked; copies = copies_left setup c.round test c.copies h.copies; running = runs_left setup c.round c.up test c.copies c.known c.running h.running; known = h.known }

  pub noted_reached : (lines : List Entry) (c : PlainCluster) → Reached setup c → Reached setup (noted lines c)
  noted_reached lines c h = record { time = h.time; up = h.up; marked = h.marked; copies = h.copies; running = h.running; known = h.known }

  pub struck_reached : (it : Try) (c : PlainCluster) → Reached setup c → Reached setup (strike it c)
  struck_reached it c h = noted_reached (Struck it.name it.node ∷ []) (with_copies (but_file it.name it.node c.copies) c) (thinned (λ x. not (is_at it.name it.node x)) c h)

  pub passed_reached : (c : PlainCluster) → Reached setup c → Reached setup (record c { events = passed c.round c.events })
  passed_reached c h =
      let m = pass_front c.round c.events in
      let s = h.time.spent in
      record { time = record { begun = h.time.begun; in_time = h.time.in_time; spent = (s.0 ++ m.0, s.1 ∙ ap (λ es. s.0 ++ es) m.1 ∙ sym (append_assoc s.0 m.0 (passed c.round c.events))) }; up = h.up; marked = h.marked; copies = h.copies; running = h.running; known = h.known }

  spends : (e : Event) (events : List Event) (c : PlainCluster) → c.events ≡ e ∷ events → Reached setup c → Reached setup (record c { events = events })
  spends e events c x h =
      let s = h.time.spent in
      record { time = record { begun = h.time.begun; in_time = h.time.in_time; spent = (s.0 ++ e ∷ [], s.1 ∙ ap (λ es. s.0 ++ es) x ∙ sym (append_assoc s.0 (e ∷ []) events)) }; up = h.up; marked = h.marked; copies = h.copies; running = h.running; known = h.known }

  pub cleared_reached : (nodes : List ℕ) (c : PlainCluster) → Reached setup c → Always (Reached setup) (Reached setup) (clear setup nodes c)
  cleared_reached nodes c h = always_do (Reached setup) (Reached setup) (removals setup nodes c) (gives (with_copies (but_those (λ name. not (stays setup.shape setup.schedule.keep c.round name)) nodes c.copies) c)) (thinned (λ x. not (not (stays setup.shape setup.schedule.keep c.round x.name) && among x.node nodes)) c h)

  copies_more : (n m : ℕ) (copies : List Copy) → n ≤ m → CopiesFit setup n copies → CopiesFit setup m copies
  copies_more n m copies l f = record { each = λ it i. name_more setup.shape n m it.name l (f.each it i); order = f.order }

  begins : (c : PlainCluster) → c.round < setup.shape.rounds → Reached setup c → Always (Reached setup) (Reached setup) (next_round setup c)
  begins c l h =
      let lines = map (λ (a : Attempt). line.Dropped a.task a.node) c.running in
      let d : PlainCluster = record c { round = c.round + 1; running = []; known = []; journal = c.journal ++ lines } in
      let b = h.time.begun in
      let k : Reached setup d = record {
        time = record { begun = omega arith; in_time = omega arith; spent = h.time.spent };
        up = h.up;
        marked = h.marked;
        copies = copies_more c.round (c.round + 1) c.copies (omega arith) h.copies;
        running = record { each = λ a i. elim i [ ]; once = tt; loads = λ n. omega arith };
        known = tt;
      } in
      always_then (Reached setup) (Reached setup) (Reached setup) (clear setup c.up d) (λ next. gives (noted (line.Round next.round ∷ []) next)) (cleared_reached c.up d k) (λ next g. noted_reached (line.Round next.round ∷ []) next g)

  -- ---- start

  new_runs : (c : PlainCluster) (t : Task) (n : ℕ) → Reached setup c → IsIn t (wanted (view_of setup c) (goal_of c)) → IsIn n (idle_nodes setup c) → Runs setup c.round c.up c.copies c.known (record { task = t; node = n })
  new_runs c t n h i j =
      let up = is_among n c.up (from_filter (λ m. not (among m (busy_nodes c.events c.marked)) && nat_lt (load c m) setup.schedule.slots) n c.up j).0 in
      let w = wanted_open (view_of setup c) (goal_of c) t ((the_walk_is_right (view_of setup c) (goal_of c) fits.shape h.time.begun t).found_is_wanted i) in
      record { listed = wanted_in (view_of setup c) (goal_of c) t i; on_up = up; opens = w.opens n up; now = w.now }

  starts_at : (c : PlainCluster) (t : Task) (o : Option ℕ) → site (view_of setup c) t ≡ o → Reached setup c → IsIn t (wanted (view_of setup c) (goal_of c)) → is_running c t ≡ false → Reached setup (started t o c)
  starts_at c t None e h i r = h
  starts_at c t (Some n) e h i r =
      let idle = site_in (view_of setup c) t n e in
      let new : Attempt = record { task = t; node = n } in
      record {
        time = h.time;
        up = h.up;
        marked = h.marked;
        copies = h.copies;
        running = record {
          each = λ b x. elim (in_either b c.running (new ∷ []) x) [ inl y ↦ h.running.each b y | inr y ↦ alone (new_runs c t n h i idle) b y ];
          once = once_append c.running new h.running.once (λ b x same. false≢true (sym r ∙ is_any (λ (a : Attempt). is_task t a.task) b c.running x (subst (λ u. is_task u b.task ≡ true) same (task_itself b.task))));
          loads = λ m. rw (number_append (λ (a : Attempt). m == a.node) c.running (new ∷ [])) (room new m (m == n) refl (ltb-true (load c n) setup.schedule.slots (and_true _ _ (from_filter (λ m. not (among m (busy_nodes c.events c.marked)) && nat_lt (load c m) setup.schedule.slots) n c.up idle).1).1));
        };
        known = h.known;
      }
    where
      alone : Runs setup c.round c.up c.copies c.known (record { task = t; node = n }) → (b : Attempt) → IsIn b (record { task = t; node = n } ∷ []) → Runs setup c.round c.up c.copies c.known b
      alone f b (inl y) = subst (Runs setup c.round c.up c.copies c.known) (sym y) f
      alone f b (inr z) = elim z [ ]

      room : (new : Attempt) (m : ℕ) (v : Bool) → (m == n) ≡ v → load c n < setup.schedule.slots → load c m + length (cond v (new ∷ []) []) ≤ setup.schedule.slots
      room new m true x l = let k : load c m < setup.schedule.slots = subst (λ z. load c z < setup.schedule.slots) (sym (eqb-true m n x)) l in omega arith
      room new m false x l = let k = h.running.loads m in omega arith

  pub started_reached : (c : PlainCluster) (o : Option Task) → first_ready setup c ≡ o → Reached setup c → Reached setup (start_first setup c o)
  started_reached c None e h = h
  started_reached c (Some t) e h =
      let m = find_is (λ t. not (is_running c t) && ready (view_of setup c) t) (wanted (view_of setup c) (goal_of c)) t e in
      starts_at c t (site (view_of setup c) t) refl h m.0 (not_true (is_running c t) (and_true (not (is_running c t)) (ready (view_of setup c) t) m.1).0)

  -- ---- an attempt that is done

  -- what holds while an attempt reads
  record Reads (round : ℕ) (a : Attempt) (c : PlainCluster) : Type 0 where
    pub state : Reached setup c
    pub same_round : c.round ≡ round
    pub listed : IsIn a.task (tasks_until setup.shape round)
    pub there : a.node < setup.schedule.nodes
    pub now : IsNow round a.task
    pub alone : (b : Attempt) → IsIn b c.running → a.task ≡ b.task → ⊥

  reads_strike : (round : ℕ) (a : Attempt) (it : Try) (c : PlainCluster) → Reads round a c → Reads round a (strike it c)
  reads_strike round a it c h = record { state = struck_reached it c h.state; same_round = h.same_round; listed = h.listed; there = h.there; now = h.now; alone = h.alone }

  reads_on : (round : ℕ) (a : Attempt) (it : Try) (c : PlainCluster) → Reads round a c → nat_le 1000 (misses (strike it c)) ≡ false → Reads round a (strike it c)
  reads_on round a it c h e = reads_strike round a it c h

  known_fit : (round : ℕ) (t : Task) (known : List ℕ) → IsIn t (tasks_until setup.shape round) → Ascend 0 (test_count setup.shape) known → Ascend 0 (test_count setup.shape) (with_known t known)
  known_fit round (Map i j s q) known x f = f
  known_fit round (Reduce i j p) known x f = f
  known_fit round (Test i p) known x f = joined_ascend 0 (test_count setup.shape) p known (omega arith) (from_below (test_count setup.shape) p (numbers_are setup.shape round (Test i p) x).2) f

  commits : (round : ℕ) (a : Attempt) (s : ReadSoFar) → KRead (Reads round a) (Reads round a) (Unread setup.shape round a.task) (reads_strike round a) (reads_on round a) s → Always (Reached setup) (Reached setup) (commit setup a s)
  commits round a (starved c) k = noted_reached (line.Starve a.task a.node ∷ []) c k.state
  commits round a (reading r) k =
      let c = r.cluster in
      let h = k.cluster.state in
      let calls = writes setup a r in
      let w : WritesFit (GoodWrite setup c.round a.task) calls = subst (λ n. WritesFit (GoodWrite setup n a.task) calls) (sym k.cluster.same_round) (calls_fit setup round a r k.cluster.listed k.cluster.there k.unread) in
      let now : IsNow c.round a.task = subst (λ n. IsNow n a.task) (sym k.cluster.same_round) k.cluster.now in
      always_do (Reached setup) (Reached setup) calls (gives (committed a r (written calls c.copies))) (record {
        time = h.time;
        up = h.up;
        marked = h.marked;
        copies = written_fits setup c.round calls c.copies (writes_weaker (GoodWrite setup c.round a.task) (λ node name. NameFits setup.shape c.round name × (node < setup.schedule.nodes)) calls (λ node name g. (g.made.fits, g.there)) w) h.copies;
        running = record {
          each = λ b i. let f = h.running.each b i in record {
            listed = f.listed;
            on_up = f.on_up;
            opens = stays_open setup c.round a.task b.task b.node calls c.copies c.known (k.cluster.alone b i) now f.now w ∙ f.opens;
            now = f.now;
          };
          once = h.running.once;
          loads = h.running.loads;
        };
        known = known_fit round a.task c.known k.cluster.listed h.known;
      })

  pub ended_reached : (a : Attempt) (c : PlainCluster) → Reached setup c → Reached setup (ended a c)
  ended_reached a c h = record { time = h.time; up = h.up; marked = h.marked; copies = h.copies; running = runs_those setup c.round c.up c.up (λ b. not (same_attempt a b)) c.copies c.known c.running (λ b x u. u) h.running; known = h.known }

  reads_begin : (a : Attempt) (c : PlainCluster) → IsIn a c.running → Reached setup c → Reads c.round a (ended a c)
  reads_begin a c i h = let f = h.running.each a i in record { state = ended_reached a c h; same_round = refl; listed = f.listed; there = ascend_under 0 setup.schedule.nodes a.node c.up h.up (in_among a.node c.up f.on_up); now = f.now; alone = λ b j. ended_alone a b c h.running.once i j }

  finishes : (a : Attempt) (c : PlainCluster) → IsIn a c.running → Reached setup c → Always (Reached setup) (Reached setup) (finish setup a c)
  finishes a c i h =
      let b = reads_begin a c i h in
      always_read (read_inputs a.node (inputs setup.shape a.task) (reading (nothing_read (ended a c)))) (inputs_walk (Reads c.round a) (Reads c.round a) (Unread setup.shape c.round a.task) (reads_strike c.round a) (reads_on c.round a) a.node (inputs setup.shape a.task) (reading (nothing_read (ended a c))) (caches_fit setup.shape c.round a.task b.listed) (record { cluster = b; unread = λ name x. elim x [ ] }))
    where
      always_read : (plan : Plan ReadSoFar) → Always (KRead (Reads c.round a) (Reads c.round a) (Unread setup.shape c.round a.task) (reads_strike c.round a) (reads_on c.round a)) (Reads c.round a) plan → Always (Reached setup) (Reached setup) (plan >>= commit setup a)
      always_read plan k = always_then (Reached setup) (KRead (Reads c.round a) (Reads c.round a) (Unread setup.shape c.round a.task) (reads_strike c.round a) (reads_on c.round a)) (Reached setup) plan (commit setup a) (weaker (KRead (Reads c.round a) (Reads c.round a) (Unread setup.shape c.round a.task) (reads_strike c.round a) (reads_on c.round a)) plan k) (commits c.round a)
        where
          weaker : {A : Type 0} (P : A → Type 0) (plan : Plan A) → Always P (Reads c.round a) plan → Always P (Reached setup) plan
          weaker P (gives x) k = k
          weaker P (refuses d why) k = k.state
          weaker P (does call plan) k = weaker P plan k
          weaker P (asks node name next) k = λ missed. weaker P (next missed) (k missed)

  fails : (a : Attempt) (c : PlainCluster) → IsIn a c.running → Reached setup c → Reached setup (failed a c)
  fails a c i h = let e = ended_reached a c h in record { time = e.time; up = e.up; marked = e.marked; copies = e.copies; running = e.running; known = e.known }

  -- ---- nodes

  loses : (n : ℕ) (c : PlainCluster) → Reached setup c → Reached setup (lost n c)
  loses n c h = record {
    time = h.time;
    up = filter_ascend (λ m. not (n == m)) 0 setup.schedule.nodes c.up h.up;
    marked = h.marked;
    copies = h.copies;
    running = runs_those setup c.round c.up (but_one n c.up) (λ (a : Attempt). not (n == a.node)) c.copies c.known c.running (λ a x u. among_left (λ m. not (n == m)) a.node c.up u x) h.running;
    known = h.known;
  }

  returns : (n : ℕ) (c : PlainCluster) → n < setup.schedule.nodes → Reached setup c → Always (Reached setup) (Reached setup) (returned setup n c)
  returns n c l h =
      let d : PlainCluster = record c { up = joined nat_cmp n c.up; journal = c.journal ++ line.Back n ∷ [] } in
      let k : Reached setup d = record {
        time = h.time;
        up = joined_ascend 0 setup.schedule.nodes n c.up (omega arith) l h.up;
        marked = h.marked;
        copies = h.copies;
        running = record {
          each = λ a i. let r = h.running.each a i in record { listed = r.listed; on_up = among_with n a.node c.up r.on_up; opens = r.opens; now = r.now };
          once = h.running.once;
          loads = h.running.loads;
        };
        known = h.known;
      } in
      cleared_reached (n ∷ []) d k

  marks : (n : ℕ) (c : PlainCluster) → n < setup.schedule.nodes → Reached setup c → Reached setup (record c { marked = joined nat_cmp n c.marked })
  marks n c l h = record { time = h.time; up = h.up; marked = joined_ascend 0 setup.schedule.nodes n c.marked (omega arith) l h.marked; copies = h.copies; running = h.running; known = h.known }

  unmarks : (n : ℕ) (c : PlainCluster) → Reached setup c → Reached setup (record c { marked = but_one n c.marked })
  unmarks n c h = record { time = h.time; up = h.up; marked = filter_ascend (λ m. not (n == m)) 0 setup.schedule.nodes c.marked h.marked; copies = h.copies; running = h.running; known = h.known }

  pub reached_steps : Steps setup (λ n. n < setup.schedule.nodes) (λ c. c.round < setup.shape.rounds) (Reached setup) (Reached setup)
  reached_steps = record {
    quiet = record {
      refused = λ c h. h;
      missed_last = struck_reached;
      strikes = λ it c h e. struck_reached it c h;
      remarks = λ it c e h. noted_reached (it ∷ []) c h;
      passes = passed_reached;
      begins = begins;
      starts = λ c h. started_reached c (first_ready setup c) refl h;
      finishes = finishes;
    };
    spends = spends;
    fails = λ a c i h. fails_always setup (Reached setup) a c (fails a c i h);
    loses = loses;
    returns = returns;
    wipes = λ n c h. noted_reached (line.Wipe n ∷ []) (with_copies (but_node n c.copies) c) (thinned (λ x. not (n == x.node)) c h);
    marks = marks;
    unmarks = unmarks;
  }

  -- the node of the next event is there
  pub next_there : (c : PlainCluster) → Reached setup c → NextFits (λ n. n < setup.schedule.nodes) c.events
  next_there c h = go c.events h.time.spent
    where
      number : (e : Event) (events front : List Event) → setup.schedule.events ≡ front ++ e ∷ events → node_in e < setup.schedule.nodes
      number e events front x = fits.events e (subst (IsIn e) (sym x) (in_right e front (e ∷ events) (inl refl)))

      go : (events : List Event) → (front : List Event) × (setup.schedule.events ≡ front ++ events) → NextFits (λ n. n < setup.schedule.nodes) events
      go [] s = tt
      go (Done n ∷ events) s = tt
      go (Fail n ∷ events) s = tt
      go (Lose n ∷ events) s = tt
      go (Back n ∷ events) s = number (Back n) events s.0 s.1
      go (event.Wipe n ∷ events) s = tt
      go (Busy n ∷ events) s = number (Busy n) events s.0 s.1
      go (Idle n ∷ events) s = tt
      go (Round n ∷ events) s = tt

  pub turn_reaches : (decision : Option EndWord) (c : PlainCluster) → EndsInTime setup c decision → Reached setup c → Always (λ turned. Reached setup (state_of turned)) (Reached setup) (turn setup decision c)
  turn_reaches decision c t h = turn_walks setup (λ n. n < setup.schedule.nodes) (λ c. c.round < setup.shape.rounds) (Reached setup) (Reached setup) reached_steps next_there decision c t h

pub reached_after : TurnReaches
reached_after setup decision c fits t h = turn_reaches setup fits decision c t h

-- The rounds, events and misses that are left never rise.
use Rattle.std.proofs.Common.{◌≡◌, ℕ, suc, ◌+◌, ◌-◌, ◌≤◌, ◌<◌, true, false, not, List, [], ◌∷◌, ◌++◌, Option, None, Some, ap, map, arith, length, nat_le}
use Rattle.std.specs.Prelude.{if◌then◌else◌}
use Rattle.std.specs.Ordering.{nat_cmp}
use Rattle.hal_base.specs.Sorted.{joined}
use Rattle.node_names.specs.declared.task.Task.{Task}
use Rattle.replica_table.specs.Copies.{but_those}
use Rattle.schedule_text.specs.declared.schedule.Event.{Event}
use Rattle.schedule_text.specs.declared.schedule.Event.TheVariants as event
use Rattle.schedule_text.specs.declared.schedule.Event.TheVariants.{Back, Busy, Done, Fail, Idle, Lose, Round}
use Rattle.counter_report.specs.declared.journal.Entry.{Entry}
use Rattle.counter_report.specs.declared.journal.Entry.TheVariants as line
use Rattle.run_model.specs.Acts.{ended, finish}
use Rattle.run_model.specs.Advance.{next_round, passed}
use Rattle.run_model.specs.Attempts.{commit, commit_line, committed, writes, written}
use Rattle.run_model.specs.Lists.{number_of}
use Rattle.run_model.specs.Needs.{inputs, view_of}
use Rattle.run_model.specs.PlanLaws.{Always}
use Rattle.run_model.specs.Plans.{gives}
use Rattle.run_model.specs.Reading.{ReadSoFar, Try, is_struck, misses, nothing_read, read_inputs, reading, starved, strike}
use Rattle.run_model.specs.Removals.{clear, removals}
use Rattle.run_model.specs.Sites.{site}
use Rattle.run_model.specs.Start.{first_ready, start_first, started}
use Rattle.run_model.specs.declared.attempt.Attempt.{Attempt}
use Rattle.run_model.specs.State.{PlainCluster, Setup, noted, with_copies}
use Rattle.run_model.specs.Stays.{stays}
use Rattle.run_laws.specs.Measures.{left}
use Rattle.run_laws.proofs.Counting.{number_append}
use Rattle.run_laws.proofs.Plans.{always_do, always_then}
use Rattle.run_laws.proofs.Turning.{AnyName, KRead, Steps, any_caches, fails_always, inputs_walk}

pub passed_shorter : (i : ℕ) (events : List Event) → length (passed i events) ≤ length events
passed_shorter i [] = omega arith
passed_shorter i (Round n ∷ events) = let h = passed_shorter i events in elim (nat_le n i) as (λ v. length (if v then passed i events else Round n ∷ events) ≤ length (Round n ∷ events)) [ true ↦ omega arith | false ↦ omega arith ]
passed_shorter i (Done n ∷ events) = omega arith
passed_shorter i (Fail n ∷ events) = omega arith
passed_shorter i (Lose n ∷ events) = omega arith
passed_shorter i (Back n ∷ events) = omega arith
passed_shorter i (event.Wipe n ∷ events) = omega arith
passed_shorter i (Busy n ∷ events) = omega arith
passed_shorter i (Idle n ∷ events) = omega arith

-- with these rounds, events and lines
abbrev pub left_of : Setup → ℕ → List Event → List Entry → ℕ
left_of setup round events journal = (setup.shape.rounds - round) + length events + (1000 - number_of is_struck journal)

pub fewer_left : (setup : Setup) (round : ℕ) (events : List Event) (journal lines : List Entry) → left_of setup round events (journal ++ lines) ≤ left_of setup round events journal
fewer_left setup round events journal lines = let e = number_append is_struck journal lines in omega arith

module _ (setup : Setup) (k : ℕ) where
  abbrev pub Within : PlainCluster → Type 0
  Within c = left setup c ≤ k

  lined : (c : PlainCluster) (lines : List Entry) → left setup c ≤ k → left_of setup c.round c.events (c.journal ++ lines) ≤ k
  lined c lines h = let m = fewer_left setup c.round c.events c.journal lines in omega arith

  pub within_strike : (it : Try) (c : PlainCluster) → left setup c ≤ k → left setup (strike it c) ≤ k
  within_strike it c h = lined c (line.Struck it.name it.node ∷ []) h

  pub within_on : (it : Try) (c : PlainCluster) → left setup c ≤ k → nat_le 1000 (misses (strike it c)) ≡ false → left setup (strike it c) ≤ k
  within_on it c h e = within_strike it c h

  within_clear : (nodes : List ℕ) (c : PlainCluster) → Within c → Always Within Within (clear setup nodes c)
  within_clear nodes c h = always_do Within Within (removals setup nodes c) (gives (with_copies (but_those (λ name. not (stays setup.shape setup.schedule.keep c.round name)) nodes c.copies) c)) h

  within_round : (c : PlainCluster) → left_of setup (c.round + 1) c.events c.journal ≤ k → Always Within Within (next_round setup c)
  within_round c h =
      let lines = map (λ (a : Attempt). line.Dropped a.task a.node) c.running in
      let d : PlainCluster = record c { round = c.round + 1; running = []; known = []; journal = c.journal ++ lines } in
      let m = fewer_left setup (c.round + 1) c.events c.journal lines in
      always_then Within Within Within (clear setup c.up d) (λ next. gives (noted (line.Round next.round ∷ []) next)) (within_clear c.up d (omega arith)) (λ next g. lined next (line.Round next.round ∷ []) g)

  within_start : (c : PlainCluster) (o : Option Task) → Within c → Within (start_first setup c o)
  within_start c None h = h
  within_start c (Some t) h = go (site (view_of setup c) t)
    where
      go : (o : Option ℕ) → Within (started t o c)
      go None = h
      go (Some n) = lined c (line.Start t n ∷ []) h

  within_commit : (a : Attempt) (s : ReadSoFar) → KRead Within Within AnyName within_strike within_on s → Always Within Within (commit setup a s)
  within_commit a (starved c) h = lined c (line.Starve a.task a.node ∷ []) h
  within_commit a (reading r) h =
      let calls = writes setup a r in
      always_do Within Within calls (gives (committed a r (written calls r.cluster.copies))) (lined r.cluster (commit_line a r ∷ []) h.cluster)

  pub within_finish : (a : Attempt) (c : PlainCluster) → Within c → Always Within Within (finish setup a c)
  within_finish a c h = always_then Within (KRead Within Within AnyName within_strike within_on) Within (read_inputs a.node (inputs setup.shape a.task) (reading (nothing_read (ended a c)))) (commit setup a) (inputs_walk Within Within AnyName within_strike within_on a.node (inputs setup.shape a.task) (reading (nothing_read (ended a c))) (any_caches (inputs setup.shape a.task)) (record { cluster = h; unread = λ name i. tt })) (within_commit a)

  pub within_steps : Steps setup (λ n. Unit {0}) (λ c. c.round < setup.shape.rounds) Within Within
  within_steps = record {
    quiet = record {
      refused = λ c h. h;
      missed_last = within_strike;
      strikes = within_on;
      remarks = λ it c e h. lined c (it ∷ []) h;
      passes = λ c h. let m = passed_shorter c.round c.events in omega arith;
      begins = λ c l h. within_round c (omega arith);
      starts = λ c h. within_start c (first_ready setup c) h;
      finishes = λ a c i h. within_finish a c h;
    };
    spends = λ e events c x h. let m : length c.events ≡ suc (length events) = ap length x in omega arith;
    fails = λ a c i h. fails_always setup Within a c (lined c _ h);
    loses = λ n c h. lined c _ h;
    returns = λ n c l h. within_clear (n ∷ []) (record c { up = joined nat_cmp n c.up; journal = c.journal ++ line.Back n ∷ [] }) (lined c (line.Back n ∷ []) h);
    wipes = λ n c h. lined c (line.Wipe n ∷ []) h;
    marks = λ n c l h. h;
    unmarks = λ n c h. h;
  }

  -- the next round falls
  pub round_within : (c : PlainCluster) → left_of setup (c.round + 1) c.events c.journal ≤ k → Always Within Within (next_round setup c)
  round_within c h = within_round c h

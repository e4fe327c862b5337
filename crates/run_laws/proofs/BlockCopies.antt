-- A copy of a block goes by a miss or a wipe alone, and each of these has its line.
use Rattle.std.proofs.Common.{◌≡◌, ◌⊎◌, inl, inr, ℕ, ◌+◌, Bool, true, false, ◌&&◌, not, List, [], ◌∷◌, ◌++◌, Option, None, Some, refl, sym, ap, ◌∙◌, map, ◌==◌}
use Rattle.std.specs.Ordering.{nat_cmp}
use Rattle.std.proofs.lemmas.Bool.{eqb-true}
use Rattle.hal_base.specs.Sorted.{joined}
use Rattle.node_names.specs.declared.name.Name.{Name}
use Rattle.node_names.specs.declared.name.Name.TheVariants.{Blk}
use Rattle.node_names.specs.declared.task.Task.{Task}
use Rattle.replica_table.specs.Copies.{but_file, but_node, but_those, is_at, is_name, with_copy}
use Rattle.replica_table.specs.Sets.{among}
use Rattle.counter_report.specs.declared.journal.EndWord.{EndWord}
use Rattle.counter_report.specs.declared.journal.Entry.{Entry}
use Rattle.counter_report.specs.declared.journal.Entry.TheVariants as line
use Rattle.run_model.specs.Acts.{ended, failures_of, with_failure}
use Rattle.run_model.specs.Advance.{next_round}
use Rattle.run_model.specs.Attempts.{attempt_done, commit, commit_line, committed, writes, written}
use Rattle.run_model.specs.Lists.{IsIn}
use Rattle.run_model.specs.Needs.{inputs, view_of}
use Rattle.run_model.specs.PlanLaws.{Always}
use Rattle.run_model.specs.Plans.{Call, Read, Remove, Wipe, Write, gives}
use Rattle.run_model.specs.Reading.{ReadSoFar, Try, nothing_read, read_inputs, reading, starved, strike}
use Rattle.run_model.specs.Removals.{clear, removals}
use Rattle.run_model.specs.Runs.{state_of}
use Rattle.run_model.specs.Sites.{site}
use Rattle.run_model.specs.Start.{first_ready, start_first, started}
use Rattle.run_model.specs.declared.attempt.Attempt.{Attempt}
use Rattle.run_model.specs.State.{Copy, PlainCluster, Setup, copy, holds, noted, with_copies}
use Rattle.run_model.specs.Stays.{stays}
use Rattle.run_model.specs.Turns.{turn}
use Rattle.run_laws.specs.Blocks.{BlockCopiesKeep, BlockKept}
use Rattle.run_laws.proofs.Copies.{at_is, holds_with, was_left}
use Rattle.run_laws.proofs.Members.{in_left, in_right}
use Rattle.run_laws.proofs.Plans.{always_do, always_then}
use Rattle.run_laws.proofs.Turning.{AnyName, KRead, Steps, any_caches, any_next, fails_always, inputs_walk, turn_walks}

module _ (t b n : ℕ) where
  abbrev Keeps : PlainCluster → Type 0
  Keeps c = BlockKept t b n c

  -- of the copies and the journal of a cluster
  abbrev Kept : List Copy → List Entry → Type 0
  Kept copies journal = (holds copies n (Blk t b) ≡ true) ⊎ IsIn (line.Struck (Blk t b) n) journal ⊎ IsIn (line.Wipe n) journal

  more_lines : (copies : List Copy) (journal lines : List Entry) → Kept copies journal → Kept copies (journal ++ lines)
  more_lines copies journal lines (inl h) = inl h
  more_lines copies journal lines (inr (inl i)) = inr (inl (in_left _ journal lines i))
  more_lines copies journal lines (inr (inr i)) = inr (inr (in_left _ journal lines i))

  other_copies : (before after : List Copy) (journal : List Entry) → (holds before n (Blk t b) ≡ true → holds after n (Blk t b) ≡ true) → Kept before journal → Kept after journal
  other_copies before after journal f (inl h) = inl (f h)
  other_copies before after journal f (inr m) = inr m

  written_keeps : (calls : List Call) (copies : List Copy) (journal : List Entry) → Kept copies journal → Kept (written calls copies) journal
  written_keeps [] copies journal k = k
  written_keeps (Write node name ∷ calls) copies journal k = written_keeps calls (with_copy (copy name node) copies) journal (other_copies copies (with_copy (copy name node) copies) journal (holds_with (copy name node) n (Blk t b) copies) k)
  written_keeps (Wipe node ∷ calls) copies journal k = written_keeps calls copies journal k
  written_keeps (Read node name ∷ calls) copies journal k = written_keeps calls copies journal k
  written_keeps (Remove node name ∷ calls) copies journal k = written_keeps calls copies journal k

  -- a copy that is struck is this one, with its line, or another
  strike_keeps : (it : Try) (c : PlainCluster) → Keeps c → Keeps (strike it c)
  strike_keeps it c (inr m) = more_lines (but_file it.name it.node c.copies) c.journal (line.Struck it.name it.node ∷ []) (inr m)
  strike_keeps it c (inl h) = elim (is_at it.name it.node (copy (Blk t b) n)) as (λ v. is_at it.name it.node (copy (Blk t b) n) ≡ v → Keeps (strike it c)) [
    | true ↦ λ e. let same = at_is it.name it.node (copy (Blk t b) n) e in inr (inl (in_right _ c.journal (line.Struck it.name it.node ∷ []) (inl (same_line it.name it.node same.0 same.1))))
    | false ↦ λ e. inl (was_left (λ it'. not (is_at it.name it.node it')) n (Blk t b) c.copies (λ x y. let same = at_is (Blk t b) n x y in ap not (ap (λ k. is_name it.name k && (it.node == x.node)) (sym same.0) ∙ ap (λ k. is_name it.name (Blk t b) && (it.node == k)) (sym same.1) ∙ e)) h)
  ] refl
    where
      same_line : (name : Name) (node : ℕ) → name ≡ Blk t b → node ≡ n → line.Struck (Blk t b) n ≡ line.Struck name node
      same_line name node e e' = cc

  -- what does not stay is no block
  cleared : (setup : Setup) (nodes : List ℕ) (c : PlainCluster) → Keeps c → Always Keeps Keeps (clear setup nodes c)
  cleared setup nodes c k = always_do Keeps Keeps (removals setup nodes c) (gives (with_copies left c)) (other_copies c.copies left c.journal (was_left stays_here n (Blk t b) c.copies (λ x y. ap (λ k. not (not (stays setup.shape setup.schedule.keep c.round k) && among x.node nodes)) (sym (at_is (Blk t b) n x y).0))) k)
    where
      stays_here : Copy → Bool
      stays_here x = not (not (stays setup.shape setup.schedule.keep c.round x.name) && among x.node nodes)

      left : List Copy
      left = but_those (λ name. not (stays setup.shape setup.schedule.keep c.round name)) nodes c.copies

  -- ---- attempts

  commit_keeps : (setup : Setup) (a : Attempt) (so_far : ReadSoFar) → KRead Keeps Keeps AnyName (λ it c k. strike_keeps it c k) (λ it c k e. strike_keeps it c k) so_far → Always Keeps Keeps (commit setup a so_far)
  commit_keeps setup a (starved c) k = more_lines c.copies c.journal (line.Starve a.task a.node ∷ []) k
  commit_keeps setup a (reading r) k =
      always_do Keeps Keeps (writes setup a r) (gives (committed a r (written (writes setup a r) r.cluster.copies)))
      (more_lines (written (writes setup a r) r.cluster.copies) r.cluster.journal (commit_line a r ∷ []) (written_keeps (writes setup a r) r.cluster.copies r.cluster.journal k.cluster))

  done_keeps : (setup : Setup) (a : Attempt) (c : PlainCluster) → Keeps c → Always Keeps Keeps (attempt_done setup a c)
  done_keeps setup a c k =
      let Read = KRead Keeps Keeps AnyName (λ it c k. strike_keeps it c k) (λ it c k e. strike_keeps it c k) in
      always_then Keeps Read Keeps (read_inputs a.node (inputs setup.shape a.task) (reading (nothing_read c))) (commit setup a)
      (inputs_walk Keeps Keeps AnyName (λ it c k. strike_keeps it c k) (λ it c k e. strike_keeps it c k) a.node (inputs setup.shape a.task) (reading (nothing_read c)) (any_caches (inputs setup.shape a.task)) (record { cluster = k; unread = λ name i. tt }))
      (commit_keeps setup a)

  -- ---- turns

  next_keeps : (setup : Setup) (c : PlainCluster) → Keeps c → Always Keeps Keeps (next_round setup c)
  next_keeps setup c k =
      let lines = map (λ (a : Attempt). line.Dropped a.task a.node) c.running in
      let d : PlainCluster = record c { round = c.round + 1; running = []; known = []; journal = c.journal ++ lines } in
      always_then Keeps Keeps Keeps (clear setup c.up d) (λ next. gives (noted (line.Round next.round ∷ []) next)) (cleared setup c.up d (more_lines c.copies c.journal lines k)) (λ next h. more_lines next.copies next.journal (line.Round next.round ∷ []) h)

  started_keeps : (task : Task) (node : Option ℕ) (c : PlainCluster) → Keeps c → Keeps (started task node c)
  started_keeps task None c k = k
  started_keeps task (Some node) c k = more_lines c.copies c.journal (line.Start task node ∷ []) k

  first_keeps : (setup : Setup) (c : PlainCluster) (task : Option Task) → Keeps c → Keeps (start_first setup c task)
  first_keeps setup c None k = k
  first_keeps setup c (Some task) k = started_keeps task (site (view_of setup c) task) c k

  -- the files of this node go with a line, and those of another are others
  wipe_keeps : (m : ℕ) (c : PlainCluster) → Keeps c → Keeps (noted (line.Wipe m ∷ []) (with_copies (but_node m c.copies) c))
  wipe_keeps m c (inr h) = more_lines (but_node m c.copies) c.journal (line.Wipe m ∷ []) (inr h)
  wipe_keeps m c (inl h) = elim (m == n) as (λ v. (m == n) ≡ v → Keeps (noted (line.Wipe m ∷ []) (with_copies (but_node m c.copies) c))) [
    | true ↦ λ e. inr (inr (in_right _ c.journal (line.Wipe m ∷ []) (inl (ap line.Wipe (sym (eqb-true m n e))))))
    | false ↦ λ e. inl (was_left (λ x. not (m == x.node)) n (Blk t b) c.copies (λ x y. ap not (ap (λ k. m == k) (sym (at_is (Blk t b) n x y).1) ∙ e)) h)
  ] refl

  steps : (setup : Setup) → Steps setup (λ m. Unit {0}) (λ c. Unit {0}) Keeps Keeps
  steps setup = record {
    quiet = record {
      refused = λ c k. k;
      missed_last = λ it c k. strike_keeps it c k;
      strikes = λ it c k e. strike_keeps it c k;
      remarks = λ it c e k. more_lines c.copies c.journal (it ∷ []) k;
      passes = λ c k. k;
      begins = λ c t k. next_keeps setup c k;
      starts = λ c k. first_keeps setup c (first_ready setup c) k;
      finishes = λ a c i k. done_keeps setup a (ended a c) k;
    };
    spends = λ e events c h k. k;
    fails = λ a c i k. fails_always setup Keeps a c (more_lines c.copies c.journal (line.Fail a.task a.node (failures_of a.task (with_failure a.task c.failures)) ∷ []) k);
    loses = λ m c k. more_lines c.copies c.journal _ k;
    returns = λ m c f k. cleared setup (m ∷ []) (record c { up = joined nat_cmp m c.up; journal = c.journal ++ line.Back m ∷ [] }) (more_lines c.copies c.journal (line.Back m ∷ []) k);
    wipes = wipe_keeps;
    marks = λ m c f k. k;
    unmarks = λ m c k. k;
  }

  pub turn_keeps : (setup : Setup) (decision : Option EndWord) (c : PlainCluster) → Keeps c → Always (λ turned. Keeps (state_of turned)) Keeps (turn setup decision c)
  turn_keeps setup decision c k = turn_walks setup (λ m. Unit {0}) (λ c. Unit {0}) Keeps Keeps (steps setup) (λ c k. any_next c.events) decision c (λ e. tt) k

pub block_copies_keep : BlockCopiesKeep
block_copies_keep setup decision t b n c k = turn_keeps t b n setup decision c k

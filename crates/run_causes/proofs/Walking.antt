-- Each step of a run keeps what a state has of its schedule, and each miss is counted.
use Rattle.std.proofs.Common.{◌≡◌, inl, ℕ, zero, suc, ◌*◌, ◌+◌, ◌≤◌, ◌<◌, Bool, true, false, not, List, [], ◌∷◌, ◌++◌, Option, None, Some, refl, sym, subst, map, arith, ◌==◌, nat_lt, nat_le}
use Rattle.std.specs.Prelude.{if◌then◌else◌}
use Rattle.std.specs.List.{AllByRecursion, filter, flat_map}
use Rattle.std.specs.Ordering.{nat_cmp}
use Rattle.std.proofs.lemmas.Bool.{leb-false}
use Rattle.hal_base.specs.Sorted.{joined}
use Rattle.node_names.specs.declared.name.Name.{Name}
use Rattle.node_names.specs.declared.task.Task.{Task}
use Rattle.replica_table.specs.Copies.{but_those}
use Rattle.replica_table.specs.Sets.{among, but_one}
use Rattle.schedule_text.specs.declared.schedule.Event.{Event}
use Rattle.schedule_text.specs.declared.schedule.Event.TheVariants as event
use Rattle.schedule_text.specs.declared.schedule.Event.TheVariants.{Back, Busy, Done, Fail, Idle, Lose, Round}
use Rattle.counter_report.specs.declared.journal.EndWord.{EndWord}
use Rattle.counter_report.specs.declared.journal.Entry.{Entry}
use Rattle.counter_report.specs.declared.journal.Entry.TheVariants as line
use Rattle.counter_report.specs.declared.journal.EventWord.{EventWord}
use Rattle.counter_report.specs.declared.journal.EventWord.TheVariants as word
use Rattle.run_model.specs.Acts.{act, act_on, done_by, ended, failed, failed_by, failures_of, finish, last_act, lost, oldest, oldest_on, returned, round_act, skipped, spend, stuck, wiped}
use Rattle.run_model.specs.Advance.{Advanced, advance, advance_if, after_part, decide, finished, goes_on, is_decided, next_round, part_tries, pass, read_parts}
use Rattle.run_model.specs.Attempts.{commit, commit_line, committed, further_calls, further_nodes, made_by, own_calls, own_writes, writes, writes_to, written}
use Rattle.run_model.specs.Lists.{IsIn}
use Rattle.run_model.specs.Needs.{Input, inputs, view_of}
use Rattle.run_model.specs.Plans.{Call, Plan, Remove, TaskFailed, Write, gives, refuses}
use Rattle.run_model.specs.Reading.{ReadSoFar, Reading, Tried, Try, after_cache, after_tries, misses, nothing_read, own_try, read_files, read_first, read_input, read_inputs, read_need, reading, starved, strike, tries_for, unless_last, with_unread}
use Rattle.run_model.specs.Removals.{clear, removals}
use Rattle.run_model.specs.Runs.{state_of, turns, unless_ended}
use Rattle.run_model.specs.Sites.{site}
use Rattle.run_model.specs.Start.{first_ready, goal_of, start, start_first, start_one, start_some, started}
use Rattle.run_model.specs.declared.attempt.Attempt.{Attempt}
use Rattle.run_model.specs.State.{Copy, PlainCluster, Setup, noted, with_copies}
use Rattle.run_model.specs.Stays.{stays}
use Rattle.run_model.specs.Tasks.{last_outs}
use Rattle.run_model.specs.Turns.{Turned, acted, ends, go_on, turn}
use Rattle.run_model.specs.Wanted.{first_missing_block}
use Rattle.run_laws.specs.States.{Fits}
use Rattle.run_laws.proofs.Members.{in_right}
use Rattle.run_causes.proofs.Along.{Along, IsNoRead, all_no_reads, along_do, along_then, each_no_reads, no_reads}
use Rattle.run_causes.proofs.Told.{Told, TellNothing, all_lines, back_skipped, back_told, fail_told, kept_told, lines_told, lose_skipped, lose_told, miss_told, other_line, other_lines, passed_told, wipe_skipped, wipe_told}

module _ (setup : Setup) where
  -- ---- states that go on, and those in which a run is refused

  abbrev pub K : ℕ → PlainCluster → Type 0
  K n c = Told setup n c.up c.events c.journal × (n < 1000)

  abbrev pub Q : ℕ → PlainCluster → Type 0
  Q n c = Told setup n c.up c.events c.journal × (n ≤ 1000)

  refused : (n : ℕ) (c : PlainCluster) → K n c → Q n c
  refused n c k = (k.0, let l = k.1 in omega arith)

  noted_more : (n : ℕ) (c : PlainCluster) (lines : List Entry) → TellNothing lines → K n c → K n (noted lines c)
  noted_more n c lines t k = (lines_told setup n c.up c.events c.journal lines t k.0, k.1)

  -- ---- reads

  abbrev KTried : ℕ → Tried → Type 0
  KTried n tried = K n tried.cluster

  abbrev KRead : ℕ → ReadSoFar → Type 0
  KRead n (reading r) = K n r.cluster
  KRead n (starved c) = K n c

  last_along : (more : PlainCluster → Plan Tried) (it : Try) (n : ℕ) (c : PlainCluster) → K n c → ((d : PlainCluster) → K (suc n) d → Along KTried Q (suc n) (more d)) → (v : Bool) → nat_le 1000 (misses (strike it c)) ≡ v → Along KTried Q (suc n) (unless_last more (strike it c) v)
  last_along more it n c k m true e = (miss_told setup n c.up c.events c.journal it.name it.node k.0, let l = k.1 in omega arith)
  last_along more it n c k m false e =
      let t = miss_told setup n c.up c.events c.journal it.name it.node k.0 in
      m (strike it c) (t, let s = t.struck in let l = leb-false 1000 (misses (strike it c)) e in omega arith)

  read_along : (tries : List Try) (n : ℕ) (c : PlainCluster) → K n c → Along KTried Q n (read_first tries c)
  read_along [] n c k = k
  read_along (it ∷ tries) n c k = (last_along (read_first tries) it n c k (λ d. read_along tries (suc n) d) (nat_le 1000 (misses (strike it c))) refl, k)

  tried_along : (own n : ℕ) (r : Reading) (c : PlainCluster) (answered : Option Try) → K n c → KRead n (after_tries own r c answered)
  tried_along own n r c None k = k
  tried_along own n r c (Some it) k = k

  need_along : (own : ℕ) (name : Name) (n : ℕ) (r : Reading) → K n r.cluster → Along KRead Q n (read_need own name r)
  need_along own name n r k = along_then KTried KRead Q n (read_first (tries_for r.cluster own name) r.cluster) (λ tried. gives (after_tries own r tried.cluster tried.answered)) (read_along (tries_for r.cluster own name) n r.cluster k) (λ m tried. tried_along own m r tried.cluster tried.answered)

  files_along : (own : ℕ) (names : List Name) (n : ℕ) (s : ReadSoFar) → KRead n s → Along KRead Q n (read_files own names s)
  files_along own [] n s k = k
  files_along own (name ∷ names) n (starved c) k = k
  files_along own (name ∷ names) n (reading r) k = along_then KRead KRead Q n (read_need own name r) (read_files own names) (need_along own name n r k) (files_along own names)

  cache_along : (own : ℕ) (cache : Name) (files : List Name) (n : ℕ) (r : Reading) (c : PlainCluster) (answered : Option Try) → K n c → Along KRead Q n (after_cache own cache files r c answered)
  cache_along own cache files n r c None k = files_along own files n (reading (with_unread cache c r)) k
  cache_along own cache files n r c (Some it) k = k

  input_along : (own : ℕ) (cache : Option Name) (files : List Name) (n : ℕ) (r : Reading) → K n r.cluster → Along KRead Q n (read_input own cache files r)
  input_along own None files n r k = files_along own files n (reading r) k
  input_along own (Some cache) files n r k = along_then KTried KRead Q n (read_first (own_try r.cluster.copies own cache) r.cluster) (λ tried. after_cache own cache files r tried.cluster tried.answered) (read_along (own_try r.cluster.copies own cache) n r.cluster k) (λ m tried. cache_along own cache files m r tried.cluster tried.answered)

  inputs_along : (own : ℕ) (its : List Input) (n : ℕ) (s : ReadSoFar) → KRead n s → Along KRead Q n (read_inputs own its s)
  inputs_along own [] n s k = k
  inputs_along own (it ∷ its) n (starved c) k = k
  inputs_along own (it ∷ its) n (reading r) k = along_then KRead KRead Q n (read_input own it.cache it.files r) (read_inputs own its) (input_along own it.cache it.files n r k) (inputs_along own its)

  -- ---- attempts

  writes_no_reads : (a : Attempt) (r : Reading) → AllByRecursion IsNoRead (writes setup a r)
  writes_no_reads a r = all_no_reads (own_calls setup a r) (further_calls setup a r) (no_reads (Write a.node) (own_writes setup a.task r) (λ name. refl)) (each_no_reads (writes_to (nodes_for_copies a r)) (made_by a.task) (λ name. no_reads (λ n. Write n name) (nodes_for_copies a r) (λ n. refl)))
    where
      nodes_for_copies : Attempt → Reading → List ℕ
      nodes_for_copies a r = further_nodes setup a.task a.node r.cluster.up (written (own_calls setup a r) r.cluster.copies)

  commit_along : (a : Attempt) (n : ℕ) (s : ReadSoFar) → KRead n s → Along K Q n (commit setup a s)
  commit_along a n (starved c) k = noted_more n c (line.Starve a.task a.node ∷ []) (other_line (line.Starve a.task a.node) refl) k
  commit_along a n (reading r) k = along_do K Q n (writes setup a r) (gives (committed a r (written (writes setup a r) r.cluster.copies))) (writes_no_reads a r) (noted_more n r.cluster (commit_line a r ∷ []) (other_line (commit_line a r) refl) k)

  finish_along : (a : Attempt) (n : ℕ) (c : PlainCluster) → K n c → Along K Q n (finish setup a c)
  finish_along a n c k = along_then KRead K Q n (read_inputs a.node (inputs setup.shape a.task) (reading (nothing_read (ended a c)))) (commit setup a) (inputs_along a.node (inputs setup.shape a.task) n (reading (nothing_read (ended a c))) k) (commit_along a)

  -- ---- advance

  clear_along : (nodes : List ℕ) (n : ℕ) (c : PlainCluster) → K n c → Along K Q n (clear setup nodes c)
  clear_along nodes n c k = along_do K Q n (removals setup nodes c) (gives (with_copies (but_those (λ name. not (stays setup.shape setup.schedule.keep c.round name)) nodes c.copies) c)) (no_reads (λ (it : Copy). Remove it.node it.name) _ (λ it. refl)) k

  next_along : (n : ℕ) (c : PlainCluster) → K n c → Along K Q n (next_round setup c)
  next_along n c k =
      let lines = map (λ (a : Attempt). line.Dropped a.task a.node) c.running in
      let d : PlainCluster = record c { round = c.round + 1; running = []; known = []; journal = c.journal ++ lines } in
      along_then K K Q n (clear setup c.up d) (λ next. gives (noted (line.Round next.round ∷ []) next)) (clear_along c.up n d (lines_told setup n c.up c.events c.journal lines (other_lines (λ (a : Attempt). line.Dropped a.task a.node) c.running (λ a. refl)) k.0, k.1)) (λ m next h. noted_more m next (line.Round next.round ∷ []) (other_line (line.Round next.round) refl) h)

  abbrev KAdvanced : ℕ → Advanced → Type 0
  KAdvanced n (goes_on c) = K n c
  KAdvanced n (finished c end) = K n c

  part_along : (more : PlainCluster → Plan Advanced) (n : ℕ) (c : PlainCluster) (answered : Option Try) → K n c → ((d : PlainCluster) → K n d → Along KAdvanced Q n (more d)) → Along KAdvanced Q n (after_part more c answered)
  part_along more n c None k m = k
  part_along more n c (Some it) k m = m c k

  parts_along : (end : EndWord) (names : List Name) (n : ℕ) (c : PlainCluster) → K n c → Along KAdvanced Q n (read_parts end names c)
  parts_along end [] n c k = noted_more n c (line.End end c.round ∷ []) (other_line (line.End end c.round) refl) k
  parts_along end (name ∷ names) n c k = along_then KTried KAdvanced Q n (read_first (part_tries c name) c) (λ tried. after_part (read_parts end names) tried.cluster tried.answered) (read_along (part_tries c name) n c k) (λ m tried h. part_along (read_parts end names) m tried.cluster tried.answered h (parts_along end names m))

  decide_along : (decision : Option EndWord) (n : ℕ) (c : PlainCluster) → K n c → Along KAdvanced Q n (decide setup decision c)
  decide_along None n c k = along_then K KAdvanced Q n (next_round setup c) (λ next. gives (goes_on next)) (next_along n c k) (λ m next h. h)
  decide_along (Some end) n c k = parts_along end (last_outs setup.shape c.round) n c k

  if_along : (decision : Option EndWord) (n : ℕ) (c : PlainCluster) (v : Bool) → K n c → Along KAdvanced Q n (advance_if setup decision c v)
  if_along decision n c true k = decide_along decision n c k
  if_along decision n c false k = k

  pass_along : (n : ℕ) (advanced : Advanced) → KAdvanced n advanced → KAdvanced n (pass advanced)
  pass_along n (goes_on c) k = (passed_told setup c.round n c.up c.events c.journal k.0, k.1)
  pass_along n (finished c end) k = k

  advance_along : (decision : Option EndWord) (n : ℕ) (c : PlainCluster) → K n c → Along KAdvanced Q n (advance setup decision c)
  advance_along decision n c k = along_then KAdvanced KAdvanced Q n (advance_if setup decision c (is_decided setup c)) (λ advanced. gives (pass advanced)) (if_along decision n c (is_decided setup c) k) pass_along

  -- ---- start

  started_along : (task : Task) (node : Option ℕ) (n : ℕ) (c : PlainCluster) → K n c → K n (started task node c)
  started_along task None n c k = k
  started_along task (Some node) n c k = noted_more n c (line.Start task node ∷ []) (other_line (line.Start task node) refl) k

  first_along : (task : Option Task) (n : ℕ) (c : PlainCluster) → K n c → K n (start_first setup c task)
  first_along None n c k = k
  first_along (Some task) n c k = started_along task (site (view_of setup c) task) n c k

  start_along : (m n : ℕ) (c : PlainCluster) → K n c → K n (start_some setup m c)
  start_along zero n c k = k
  start_along (suc m) n c k = start_along m n (start_one setup c) (first_along (first_ready setup c) n c k)

  -- ---- act

  module _ (fits : Fits setup) where
    skip_along : (word : EventWord) (m n : ℕ) (c : PlainCluster) → K n c → Along K Q n (skipped word m c)
    skip_along word m n c k = noted_more n c (line.Skip word m ∷ []) (other_line (line.Skip word m) refl) k

    done_along : (m n : ℕ) (c : PlainCluster) (a : Option Attempt) → K n c → Along K Q n (done_by setup m c a)
    done_along m n c None k = skip_along word.Done m n c k
    done_along m n c (Some a) k = finish_along a n c k

    -- the node of the next event is there
    there : (e : Event) (events : List Event) (n : ℕ) (nodes : List ℕ) (journal : List Entry) → Told setup n nodes (e ∷ events) journal → IsIn e setup.schedule.events
    there e events n nodes journal k = subst (IsIn e) (sym k.all) (in_right e k.spent (e ∷ events) (inl refl))

    fail_along : (m : ℕ) (events : List Event) (n : ℕ) (c : PlainCluster) (a : Option Attempt) → Told setup n c.up (Fail m ∷ events) c.journal → n < 1000 → Along K Q n (failed_by setup m (record c { events = events }) a)
    fail_along m events n c None k l = skip_along word.Fail m n (record c { events = events }) (kept_told setup (Fail m) n c.up events c.journal k refl, l)
    fail_along m events n c (Some a) k l =
        let d : PlainCluster = record c { events = events } in
        let f : Told setup n c.up events (failed a d).journal = fail_told setup m n c.up events c.journal a.task a.node (failures_of a.task (failed a d).failures) k in
        elim (failures_of a.task (failed a d).failures == setup.schedule.attempts) as (λ v. Along K Q n (if v then refuses (failed a d) (TaskFailed a.task) else gives (failed a d))) [ true ↦ (f, omega arith) | false ↦ (f, l) ]

    lost_lines : (m : ℕ) (running : List Attempt) → TellNothing (line.Lose m ∷ map (λ (a : Attempt). line.Kill a.task m) (filter (λ (a : Attempt). m == a.node) running))
    lost_lines m running =
        let killed = filter (λ (a : Attempt). m == a.node) running in
        all_lines (line.Lose m ∷ []) (map (λ (a : Attempt). line.Kill a.task m) killed) (other_line (line.Lose m) refl) (other_lines (λ (a : Attempt). line.Kill a.task m) killed (λ a. refl))

    spend_along : (e : Event) (events : List Event) (n : ℕ) (c : PlainCluster) → Told setup n c.up (e ∷ events) c.journal → n < 1000 → Along K Q n (spend setup e events c)
    spend_along (Done m) events n c k l = done_along m n (record c { events = events }) (oldest_on (record c { events = events }) m) (kept_told setup (Done m) n c.up events c.journal k refl, l)
    spend_along (Fail m) events n c k l = fail_along m events n c (oldest_on (record c { events = events }) m) k l
    spend_along (Lose m) events n c k l =
        let d : PlainCluster = record c { events = events } in
        let w = fits.events (Lose m) (there (Lose m) events n c.up c.journal k) in
        elim (among m c.up) as (λ v. among m c.up ≡ v → Along K Q n (if v then gives (lost m d) else skipped word.Lose m d)) [
          | true ↦ λ e. (lines_told setup n (but_one m c.up) events c.journal (line.Lose m ∷ map (λ (a : Attempt). line.Kill a.task m) (filter (λ (a : Attempt). m == a.node) c.running)) (lost_lines m c.running) (lose_told setup m n w c.up events c.journal e k), l)
          | false ↦ λ e. skip_along word.Lose m n d (lose_skipped setup m n w c.up events c.journal e k, l)
        ] refl
    spend_along (Back m) events n c k l =
        let d : PlainCluster = record c { events = events } in
        let w = fits.events (Back m) (there (Back m) events n c.up c.journal k) in
        elim (among m c.up) as (λ v. among m c.up ≡ v → Along K Q n (if v then skipped word.Back m d else returned setup m d)) [
          | true ↦ λ e. skip_along word.Back m n d (back_skipped setup m n w c.up events c.journal e k, l)
          | false ↦ λ e. clear_along (m ∷ []) n (record d { up = joined nat_cmp m c.up; journal = c.journal ++ line.Back m ∷ [] }) (lines_told setup n (joined nat_cmp m c.up) events c.journal (line.Back m ∷ []) (other_line (line.Back m) refl) (back_told setup m n w c.up events c.journal e k), l)
        ] refl
    spend_along (event.Wipe m) events n c k l =
        let d : PlainCluster = record c { events = events } in
        let w = fits.events (event.Wipe m) (there (event.Wipe m) events n c.up c.journal k) in
        elim (among m c.up) as (λ v. among m c.up ≡ v → Along K Q n (if v then skipped word.Wipe m d else wiped m d)) [
          | true ↦ λ e. skip_along word.Wipe m n d (wipe_skipped setup m n w c.up events c.journal e k, l)
          | false ↦ λ e. (refl, (wipe_told setup m n w c.up events c.journal e k, l))
        ] refl
    spend_along (Busy m) events n c k l =
        let d : PlainCluster = record c { events = events } in
        let h : K n d = (kept_told setup (Busy m) n c.up events c.journal k refl, l) in
        elim (among m c.marked) as (λ v. Along K Q n (if v then skipped word.Busy m d else gives (noted (line.Busy m ∷ []) (record d { marked = joined nat_cmp m d.marked })))) [
          | true ↦ skip_along word.Busy m n d h
          | false ↦ noted_more n (record d { marked = joined nat_cmp m d.marked }) (line.Busy m ∷ []) (other_line (line.Busy m) refl) h
        ]
    spend_along (Idle m) events n c k l =
        let d : PlainCluster = record c { events = events } in
        let h : K n d = (kept_told setup (Idle m) n c.up events c.journal k refl, l) in
        elim (among m c.marked) as (λ v. Along K Q n (if v then gives (noted (line.Idle m ∷ []) (record d { marked = but_one m d.marked })) else skipped word.Idle m d)) [
          | true ↦ noted_more n (record d { marked = but_one m d.marked }) (line.Idle m ∷ []) (other_line (line.Idle m) refl) h
          | false ↦ skip_along word.Idle m n d h
        ]
    spend_along (Round m) events n c k l = skip_along word.Round m n (record c { events = events }) (kept_told setup (Round m) n c.up events c.journal k refl, l)

    stuck_along : (n : ℕ) (c : PlainCluster) (up : List ℕ) (block : Option Name) → K n c → Along K Q n (stuck c up block)
    stuck_along n c [] block k = refused n c k
    stuck_along n c (m ∷ up) None k = k
    stuck_along n c (m ∷ up) (Some block) k = refused n c k

    last_act_along : (n : ℕ) (c : PlainCluster) (a : Option Attempt) → K n c → Along K Q n (last_act setup c a)
    last_act_along n c None k = stuck_along n c c.up (first_missing_block (view_of setup c) (goal_of c)) k
    last_act_along n c (Some a) k = finish_along a n c k

    next_told : (n : ℕ) (c : PlainCluster) (left : List Event) → c.events ≡ left → K n c → Told setup n c.up left c.journal
    next_told n c left h k = subst (λ events. Told setup n c.up events c.journal) h k.0

    round_act_along : (m : ℕ) (events : List Event) (n : ℕ) (c : PlainCluster) (a : Option Attempt) → c.events ≡ Round m ∷ events → K n c → Along K Q n (round_act setup m events c a)
    round_act_along m events n c None h k = spend_along (Round m) events n c (next_told n c (Round m ∷ events) h k) k.1
    round_act_along m events n c (Some a) h k = elim (nat_lt c.round m) as (λ v. Along K Q n (if v then finish setup a c else spend setup (Round m) events c)) [
      | true ↦ finish_along a n c k
      | false ↦ spend_along (Round m) events n c (next_told n c (Round m ∷ events) h k) k.1
    ]

    act_along : (events : List Event) (n : ℕ) (c : PlainCluster) → c.events ≡ events → K n c → Along K Q n (act_on setup events c)
    act_along [] n c h k = last_act_along n c (oldest c) k
    act_along (Round m ∷ events) n c h k = round_act_along m events n c (oldest c) h k
    act_along (Done m ∷ events) n c h k = spend_along (Done m) events n c (next_told n c (Done m ∷ events) h k) k.1
    act_along (Fail m ∷ events) n c h k = spend_along (Fail m) events n c (next_told n c (Fail m ∷ events) h k) k.1
    act_along (Lose m ∷ events) n c h k = spend_along (Lose m) events n c (next_told n c (Lose m ∷ events) h k) k.1
    act_along (Back m ∷ events) n c h k = spend_along (Back m) events n c (next_told n c (Back m ∷ events) h k) k.1
    act_along (event.Wipe m ∷ events) n c h k = spend_along (event.Wipe m) events n c (next_told n c (event.Wipe m ∷ events) h k) k.1
    act_along (Busy m ∷ events) n c h k = spend_along (Busy m) events n c (next_told n c (Busy m ∷ events) h k) k.1
    act_along (Idle m ∷ events) n c h k = spend_along (Idle m) events n c (next_told n c (Idle m ∷ events) h k) k.1

    -- ---- turns

    abbrev pub KTurned : ℕ → Turned → Type 0
    KTurned n turned = K n (state_of turned)

    go_on_along : (n : ℕ) (advanced : Advanced) → KAdvanced n advanced → Along KTurned Q n (go_on setup advanced)
    go_on_along n (finished c end) k = k
    go_on_along n (goes_on c) k = along_then K KTurned Q n (act setup (start setup c)) (λ next. gives (acted next)) (act_along (start setup c).events n (start setup c) refl (start_along (setup.schedule.nodes * setup.schedule.slots) n c k)) (λ m next h. h)

    turn_along : (decision : Option EndWord) (n : ℕ) (c : PlainCluster) → K n c → Along KTurned Q n (turn setup decision c)
    turn_along decision n c k = along_then KAdvanced KTurned Q n (advance setup decision c) (go_on setup) (advance_along decision n c k) go_on_along

    pub turns_along : (turns_left : ℕ) (decisions : ℕ → Option EndWord) (n : ℕ) (c : PlainCluster) → K n c → Along KTurned Q n (turns turns_left setup decisions c)
    turns_along zero decisions n c k = k
    turns_along (suc more) decisions n c k = along_then KTurned KTurned Q n (turn setup (decisions c.round) c) (unless_ended (turns more setup decisions)) (turn_along (decisions c.round) n c k) (λ m turned h. go (λ d x. turns_along more decisions m d x) turned h)
      where
        go : {m : ℕ} → ((d : PlainCluster) → K m d → Along KTurned Q m (turns more setup decisions d)) → (turned : Turned) → KTurned m turned → Along KTurned Q m (unless_ended (turns more setup decisions) turned)
        go again (acted d) h = again d h
        go again (ends d end) h = h

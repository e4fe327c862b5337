-- Each refusal of a turn has its cause in the state that it leaves.
use Rattle.std.proofs.Common.{◌≡◌, ℕ, ◌+◌, Bool, true, false, not, List, [], ◌∷◌, ◌++◌, Option, None, Some, refl, sym, ◌∙◌, map, ◌==◌, nat_lt, nat_le}
use Rattle.std.specs.Prelude.{if◌then◌else◌}
use Rattle.std.specs.Ordering.{nat_cmp}
use Rattle.std.proofs.lemmas.Bool.{eqb-true, leb-true}
use Rattle.hal_base.specs.Sorted.{joined}
use Rattle.node_names.specs.declared.name.Name.{Name}
use Rattle.replica_table.specs.Copies.{but_those}
use Rattle.replica_table.specs.Sets.{among, but_one}
use Rattle.schedule_text.specs.declared.schedule.Event.{Event}
use Rattle.schedule_text.specs.declared.schedule.Event.TheVariants as event
use Rattle.schedule_text.specs.declared.schedule.Event.TheVariants.{Back, Busy, Done, Fail, Idle, Lose, Round}
use Rattle.counter_report.specs.declared.journal.EndWord.{EndWord}
use Rattle.counter_report.specs.declared.journal.Entry.TheVariants as line
use Rattle.counter_report.specs.declared.journal.EventWord.TheVariants as word
use Rattle.run_model.specs.Acts.{act, act_on, done_by, ended, fail, failed, failed_by, failures_of, finish, happens, last_act, lost, oldest, oldest_on, returned, round_act, skipped, spend, stuck, wiped}
use Rattle.run_model.specs.Advance.{Advanced, advance, advance_if, after_part, decide, finished, goes_on, is_decided, next_round, part_tries, pass, read_parts}
use Rattle.run_model.specs.Attempts.{commit, committed, writes, written}
use Rattle.run_model.specs.Needs.{Input, inputs, view_of}
use Rattle.run_model.specs.Plans.{Call, Plan, TaskFailed, asks, do_all, does, gives, refuses, ◌>>=◌}
use Rattle.run_model.specs.Reading.{ReadSoFar, Reading, Try, after_cache, after_read, after_tries, misses, nothing_read, own_try, read_files, read_first, read_input, read_inputs, read_need, reading, starved, strike, tries_for, unless_last, with_unread}
use Rattle.run_model.specs.Removals.{clear, removals}
use Rattle.run_model.specs.Start.{goal_of, start}
use Rattle.run_model.specs.declared.attempt.Attempt.{Attempt}
use Rattle.run_model.specs.State.{PlainCluster, Setup, noted, with_copies}
use Rattle.run_model.specs.Stays.{stays}
use Rattle.run_model.specs.Tasks.{last_outs}
use Rattle.run_model.specs.Turns.{acted, go_on}
use Rattle.run_model.specs.Wanted.{first_missing_block}
use Rattle.run_laws.specs.Refusals.{Cause, Caused, TurnsHaveCauses}
use Rattle.run_laws.proofs.Falling.{none_run}

module _ (setup : Setup) where
  pub then_caused : {A B : Type 0} (plan : Plan A) (f : A → Plan B) → Caused (Cause setup) plan → ((a : A) → Caused (Cause setup) (f a)) → Caused (Cause setup) (plan >>= f)
  then_caused (gives a) f h k = k a
  then_caused (refuses c why) f h k = h
  then_caused (does call plan) f h k = then_caused plan f h k
  then_caused (asks node name next) f h k = λ missed. then_caused (next missed) f (h missed) k

  all_caused : {A : Type 0} (calls : List Call) (plan : Plan A) → Caused (Cause setup) plan → Caused (Cause setup) (do_all calls plan)
  all_caused [] plan h = h
  all_caused (call ∷ calls) plan h = all_caused calls plan h

  read_caused : (tries : List Try) (c : PlainCluster) → Caused (Cause setup) (read_first tries c)
  read_caused [] c = tt
  read_caused (it ∷ tries) c = λ missed. after (read_caused tries (strike it c)) missed
    where
      last_caused : Caused (Cause setup) (read_first tries (strike it c)) → (v : Bool) → nat_le 1000 (misses (strike it c)) ≡ v → Caused (Cause setup) (unless_last (read_first tries) (strike it c) v)
      last_caused more true e = leb-true 1000 (misses (strike it c)) e
      last_caused more false e = more

      after : Caused (Cause setup) (read_first tries (strike it c)) → (missed : Bool) → Caused (Cause setup) (after_read (read_first tries) it c missed)
      after more true = last_caused more (nat_le 1000 (misses (strike it c))) refl
      after more false = tt

  files_caused : (own : ℕ) (names : List Name) (s : ReadSoFar) → Caused (Cause setup) (read_files own names s)
  files_caused own [] s = tt
  files_caused own (name ∷ names) (starved c) = tt
  files_caused own (name ∷ names) (reading r) = then_caused (read_need own name r) (read_files own names) (then_caused (read_first (tries_for r.cluster own name) r.cluster) (λ tried. gives (after_tries own r tried.cluster tried.answered)) (read_caused (tries_for r.cluster own name) r.cluster) (λ tried. tt)) (files_caused own names)

  cache_caused : (own : ℕ) (cache : Name) (files : List Name) (r : Reading) (c : PlainCluster) (answered : Option Try) → Caused (Cause setup) (after_cache own cache files r c answered)
  cache_caused own cache files r c None = files_caused own files (reading (with_unread cache c r))
  cache_caused own cache files r c (Some it) = tt

  input_caused : (own : ℕ) (cache : Option Name) (files : List Name) (r : Reading) → Caused (Cause setup) (read_input own cache files r)
  input_caused own None files r = files_caused own files (reading r)
  input_caused own (Some cache) files r = then_caused (read_first (own_try r.cluster.copies own cache) r.cluster) (λ tried. after_cache own cache files r tried.cluster tried.answered) (read_caused (own_try r.cluster.copies own cache) r.cluster) (λ tried. cache_caused own cache files r tried.cluster tried.answered)

  inputs_caused : (own : ℕ) (its : List Input) (s : ReadSoFar) → Caused (Cause setup) (read_inputs own its s)
  inputs_caused own [] s = tt
  inputs_caused own (it ∷ its) (starved c) = tt
  inputs_caused own (it ∷ its) (reading r) = then_caused (read_input own it.cache it.files r) (read_inputs own its) (input_caused own it.cache it.files r) (inputs_caused own its)

  commit_caused : (a : Attempt) (s : ReadSoFar) → Caused (Cause setup) (commit setup a s)
  commit_caused a (starved c) = tt
  commit_caused a (reading r) = all_caused (writes setup a r) (gives (committed a r (written (writes setup a r) r.cluster.copies))) tt

  finish_caused : (a : Attempt) (c : PlainCluster) → Caused (Cause setup) (finish setup a c)
  finish_caused a c = then_caused (read_inputs a.node (inputs setup.shape a.task) (reading (nothing_read (ended a c)))) (commit setup a) (inputs_caused a.node (inputs setup.shape a.task) (reading (nothing_read (ended a c)))) (commit_caused a)

  clear_caused : (nodes : List ℕ) (c : PlainCluster) → Caused (Cause setup) (clear setup nodes c)
  clear_caused nodes c = all_caused (removals setup nodes c) (gives (with_copies (but_those (λ name. not (stays setup.shape setup.schedule.keep c.round name)) nodes c.copies) c)) tt

  parts_caused : (end : EndWord) (names : List Name) (c : PlainCluster) → Caused (Cause setup) (read_parts end names c)
  parts_caused end [] c = tt
  parts_caused end (name ∷ names) c = then_caused (read_first (part_tries c name) c) (λ tried. after_part (read_parts end names) tried.cluster tried.answered) (read_caused (part_tries c name) c) (λ tried. go (parts_caused end names) tried.cluster tried.answered)
    where
      go : ((d : PlainCluster) → Caused (Cause setup) (read_parts end names d)) → (d : PlainCluster) (answered : Option Try) → Caused (Cause setup) (after_part (read_parts end names) d answered)
      go more d None = tt
      go more d (Some it) = more d

  decide_caused : (decision : Option EndWord) (c : PlainCluster) → Caused (Cause setup) (decide setup decision c)
  decide_caused None c =
      let d : PlainCluster = record c { round = c.round + 1; running = []; known = []; journal = c.journal ++ map (λ (a : Attempt). line.Dropped a.task a.node) c.running } in
      then_caused (next_round setup c) (λ next. gives (goes_on next)) (then_caused (clear setup c.up d) (λ next. gives (noted (line.Round next.round ∷ []) next)) (clear_caused c.up d) (λ next. tt)) (λ next. tt)
  decide_caused (Some end) c = parts_caused end (last_outs setup.shape c.round) c

  if_caused : (decision : Option EndWord) (c : PlainCluster) (v : Bool) → Caused (Cause setup) (advance_if setup decision c v)
  if_caused decision c true = decide_caused decision c
  if_caused decision c false = tt

  -- ---- act

  fail_caused : (a : Attempt) (c : PlainCluster) → Caused (Cause setup) (fail setup a c)
  fail_caused a c = elim (failures_of a.task (failed a c).failures == setup.schedule.attempts) as (λ v. (failures_of a.task (failed a c).failures == setup.schedule.attempts) ≡ v → Caused (Cause setup) (if v then refuses (failed a c) (TaskFailed a.task) else gives (failed a c))) [
    | true ↦ λ e. eqb-true (failures_of a.task (failed a c).failures) setup.schedule.attempts e
    | false ↦ λ e. tt
  ] refl

  done_caused : (n : ℕ) (c : PlainCluster) (o : Option Attempt) → Caused (Cause setup) (done_by setup n c o)
  done_caused n c None = tt
  done_caused n c (Some a) = finish_caused a c

  failed_caused : (n : ℕ) (c : PlainCluster) (o : Option Attempt) → Caused (Cause setup) (failed_by setup n c o)
  failed_caused n c None = tt
  failed_caused n c (Some a) = fail_caused a c

  choose : (v : Bool) (x y : Plan PlainCluster) → Caused (Cause setup) x → Caused (Cause setup) y → Caused (Cause setup) (if v then x else y)
  choose true x y h k = h
  choose false x y h k = k

  happens_caused : (e : Event) (c : PlainCluster) → Caused (Cause setup) (happens setup e c)
  happens_caused (Done n) c = done_caused n c (oldest_on c n)
  happens_caused (Fail n) c = failed_caused n c (oldest_on c n)
  happens_caused (Lose n) c = choose (among n c.up) (gives (lost n c)) (skipped word.Lose n c) tt tt
  happens_caused (Back n) c = choose (among n c.up) (skipped word.Back n c) (returned setup n c) tt (clear_caused (n ∷ []) (record c { up = joined nat_cmp n c.up; journal = c.journal ++ line.Back n ∷ [] }))
  happens_caused (event.Wipe n) c = choose (among n c.up) (skipped word.Wipe n c) (wiped n c) tt tt
  happens_caused (Busy n) c = choose (among n c.marked) (skipped word.Busy n c) (gives (noted (line.Busy n ∷ []) (record c { marked = joined nat_cmp n c.marked }))) tt tt
  happens_caused (Idle n) c = choose (among n c.marked) (gives (noted (line.Idle n ∷ []) (record c { marked = but_one n c.marked }))) (skipped word.Idle n c) tt tt
  happens_caused (Round n) c = tt

  stuck_caused : (c : PlainCluster) → c.events ≡ [] → c.running ≡ [] → (up : List ℕ) (o : Option Name) → c.up ≡ up → first_missing_block (view_of setup c) (goal_of c) ≡ o → Caused (Cause setup) (stuck c up o)
  stuck_caused c e r [] o u b = (e, r, u)
  stuck_caused c e r (n ∷ up) None u b = tt
  stuck_caused c e r (n ∷ up) (Some block) u b = (e, r, λ x. cons_nil n up (sym u ∙ x), b)
    where
      cons_nil : (n : ℕ) (up : List ℕ) → n ∷ up ≡ [] → ⊥
      cons_nil n up h = cc

  last_caused : (c : PlainCluster) (o : Option Attempt) → c.events ≡ [] → oldest c ≡ o → Caused (Cause setup) (last_act setup c o)
  last_caused c None e x = stuck_caused c e (none_run c x) c.up (first_missing_block (view_of setup c) (goal_of c)) refl refl
  last_caused c (Some a) e x = finish_caused a c

  round_caused : (n : ℕ) (events : List Event) (c : PlainCluster) (o : Option Attempt) → Caused (Cause setup) (round_act setup n events c o)
  round_caused n events c None = tt
  round_caused n events c (Some a) = choose (nat_lt c.round n) (finish setup a c) (spend setup (Round n) events c) (finish_caused a c) tt

  act_caused : (events : List Event) (c : PlainCluster) → c.events ≡ events → Caused (Cause setup) (act_on setup events c)
  act_caused [] c e = last_caused c (oldest c) e refl
  act_caused (Round n ∷ events) c e = round_caused n events c (oldest c)
  act_caused (Done n ∷ events) c e = happens_caused (Done n) (record c { events = events })
  act_caused (Fail n ∷ events) c e = happens_caused (Fail n) (record c { events = events })
  act_caused (Lose n ∷ events) c e = happens_caused (Lose n) (record c { events = events })
  act_caused (Back n ∷ events) c e = happens_caused (Back n) (record c { events = events })
  act_caused (event.Wipe n ∷ events) c e = happens_caused (event.Wipe n) (record c { events = events })
  act_caused (Busy n ∷ events) c e = happens_caused (Busy n) (record c { events = events })
  act_caused (Idle n ∷ events) c e = happens_caused (Idle n) (record c { events = events })

  go_on_caused : (advanced : Advanced) → Caused (Cause setup) (go_on setup advanced)
  go_on_caused (finished c end) = tt
  go_on_caused (goes_on c) = then_caused (act setup (start setup c)) (λ next. gives (acted next)) (act_caused (start setup c).events (start setup c) refl) (λ next. tt)

pub turns_have_causes : TurnsHaveCauses
turns_have_causes setup decision c = then_caused setup (advance setup decision c) (go_on setup) (then_caused setup (advance_if setup decision c (is_decided setup c)) (λ advanced. gives (pass advanced)) (if_caused setup decision c (is_decided setup c)) (λ advanced. tt)) (go_on_caused setup)

-- Turns of a cluster, one after another, as turns of the machine.
use Rattle.std.proofs.Common.{◌≡◌, ◌⊎◌, inl, inr, ◌<◌, ℕ, zero, suc, ◌+◌, true, false, List, [], ◌∷◌, ◌++◌, Option, None, Some, IsSome, Result, Ok, Err, map, refl, sym, ap, ◌∙◌, subst, arith}
use Rattle.std.proofs.lemmas.List.{append_assoc, map-append}
use Rattle.counter_report.specs.declared.journal.EndWord.{EndWord}
use Rattle.hal_outside.specs.DiskCalls as disk
use Rattle.hal_outside.specs.DiskTold.{DiskTold}
use Rattle.hal_outside.specs.declared.disks.Disks.{Ghosts as Disks}
use Rattle.run_laws.proofs.Following.{decides_where_decided, one_turn_more}
use Rattle.run_laws.specs.Measures.{measure}
use Rattle.run_laws.specs.States.{EndsInTime}
use Rattle.run_laws.specs.Turns.{as_turns}
use Rattle.run_model.specs.Advance.{is_decided}
use Rattle.run_model.specs.Plans as why
use Rattle.run_model.specs.Plans.{Leaves, Plan, gives, refuses, ◌>>=◌}
use Rattle.run_model.specs.Runs.{load, loaded, run, turns}
use Rattle.run_model.specs.State.{PlainCluster, Setup}
use Rattle.run_model.specs.Turns.{Turned, acted, ends, turn}
use Rattle.valid_copies.specs.Calls.{Added, Begun, Follows, Leads, MissedIn, made_of}
use Rattle.valid_copies.proofs.Coming.{added_more}
use Rattle.name_values.specs.Values.{World}
use Rattle.valid_copies.proofs.Rightly.{works_more}
use Rattle.valid_copies.proofs.WrittenCalls.{ask_more}
use Rattle.valid_copies.specs.LastWrites.{AsksByDigests, KeepsDigests}
use Rattle.cluster_core.specs.Origins.{AreAnswers, MadeOfReads}
use Rattle.valid_copies.proofs.Following.{answered_both, begun_then, follows_none, follows_then, missed_then}
use Rattle.cluster_core.specs.Clusters.{Acted, ActedOnce, IsBegun, Progress, Ran, RanToEnd, RanToFault, RunsUntil, ComesTo, IsByChain, IsRightAfter, answer_in, finished_in}
use Rattle.cluster_core.specs.declared.cluster.Turned.{Turned as CodeTurned}
use Rattle.cluster_core.specs.declared.cluster.Turned.TheVariants as turned
use Rattle.cluster_core.specs.Disks.{Leaves as LeavesDisks}
use Rattle.cluster_core.specs.Faults.{RefusedIn}
use Rattle.cluster_core.specs.States as states
use Rattle.cluster_core.specs.States.{Seen}
use Rattle.cluster_core.specs.Turns.{DecidesAt, DecidesSo, GoesOnUntil, IsOfChain, IsRight, IsRunning, decision_in, turned_to}
use Rattle.cluster_core.specs.Works.{CallsRight, StandsFor, world_of}
use Rattle.cluster_core.specs.Deciding.{chain_decision}
use Rattle.cluster_core.proofs.Decided.{chain_ends}
use Rattle.hal_base.specs.declared.record.Record.{Record}
use Rattle.task_values.specs.Worlds.{WorldFits}
use Rattle.hal_base.specs.Meaning.{Meaning}
use Rattle.hal_outside.specs.Told.{OnTold}
use Rattle.cluster_core.specs.declared.fault.CoreFault.{CoreFault}
use Rattle.cluster_core.specs.declared.fault.CoreFault.TheVariants as core
use Rattle.cluster_core.specs.declared.finished.Finished.{Finished}
use Rattle.cluster_core.proofs.DisksLeft.{BeyondStay, leaves_more}
use Rattle.cluster_core.proofs.Going.{falls, in_time, runs_on}
use Rattle.cluster_core.proofs.Rounds.{TurnedTo, turned_to_is}

-- ---- one turn

pub time_in : (seen : Seen) → IsRunning seen.setup seen.plain → EndsInTime seen.setup seen.plain (decision_in seen)
time_in seen running = in_time seen.setup seen.plain seen.kept.values running.orderly.0.reached.time.in_time

module _ (m : Meaning) (old new : Seen) (before after : Option DiskTold) (running : IsRunning old.setup old.plain) (once : ActedOnce m old before new after) where
  pub once_running : IsRunning new.setup new.plain
  once_running = subst (λ (s : Setup). IsRunning s new.plain) (sym once.same) (runs_on old.setup (decision_in old) old.plain running (time_in old running) (acted new.plain) before after once.follows)

  pub once_falls : measure old.setup new.plain < measure old.setup old.plain
  once_falls = falls old.setup (decision_in old) old.plain running (time_in old running) new.plain before after once.follows

pub turned_in : (seen : Seen) (it : Turned) (before after : Option DiskTold) → IsRunning seen.setup seen.plain → Follows (turn seen.setup (decision_in seen) seen.plain) before after (gives it) → TurnedTo seen.setup (decision_in seen) seen.plain it
turned_in seen it before after running f = turned_to_is seen.setup (decision_in seen) seen.plain running.fits (time_in seen running) running.orderly.0.reached it before after f

-- ---- many turns

-- the setup is the same, and the run goes on
pub record Kept (old new : Seen) : Type 0 where
  pub same : new.setup ≡ old.setup
  pub running : IsRunning new.setup new.plain

pub many_kept : (m : Meaning) (n : ℕ) (old new : Seen) (before after : Option DiskTold) → IsRunning old.setup old.plain → Acted m n old before new after → Kept old new
many_kept m zero old new before after running a = subst (Kept old) (sym a.0) (record { same = refl; running = running })
many_kept m (suc n) old new before after running a =
    let k = many_kept m n old a.0 before a.1 running a.2 in
    record { same = a.3.same ∙ k.same; running = once_running m a.0 new a.1 after k.running a.3 }

-- ---- as turns of the machine

module _ (n : ℕ) (setup : Setup) (decisions : ℕ → Option EndWord) (c d : PlainCluster) (before between after : Option DiskTold) (a : Follows (turns n setup decisions c) before between (gives (acted d))) where
  leads_on : (more : List disk.Call) (rest : Plan Turned) → Leads (turn setup (decisions d.round) d) more rest → Leads (turns (suc n) setup decisions c) (a.calls ++ more) (as_turns setup decisions rest)
  leads_on more rest b = subst (λ made. Leaves (turns (suc n) setup decisions c) made (as_turns setup decisions rest)) (sym (map-append made_of a.calls more)) (one_turn_more n setup decisions c d (map made_of a.calls) (map made_of more) rest a.leads b)

  follows_on : (rest : Plan Turned) → Follows (turn setup (decisions d.round) d) between after rest → Follows (turns (suc n) setup decisions c) before after (as_turns setup decisions rest)
  follows_on rest b = record {
    calls = a.calls ++ b.calls;
    answered = answered_both a.calls b.calls a.answered b.answered;
    added = added_more before between after a.calls b.calls a.added b.added;
    leads = leads_on b.calls rest b.leads;
  }

  begun_on : Begun (turn setup (decisions d.round) d) between after → Begun (turns (suc n) setup decisions c) before after
  begun_on b = record {
    calls = a.calls ++ b.calls;
    rest = as_turns setup decisions b.rest;
    added = added_more before between after a.calls b.calls a.added b.added;
    leads = leads_on b.calls b.rest b.leads;
  }

  missed_on : MissedIn (turn setup (decisions d.round) d) between after → MissedIn (turns (suc n) setup decisions c) before after
  missed_on b = record {
    done = a.calls ++ b.done;
    last = b.last;
    rest = as_turns setup decisions b.rest;
    answered = answered_both a.calls b.done a.answered b.answered;
    missed = b.missed;
    added = subst (λ calls. Added before calls after) (sym (append_assoc a.calls b.done (b.last ∷ []))) (added_more before between after a.calls (b.done ++ b.last ∷ []) a.added b.added);
    leads = subst (λ calls. Leads (turns (suc n) setup decisions c) calls (as_turns setup decisions b.rest)) (sym (append_assoc a.calls b.done (b.last ∷ []))) (leads_on (b.done ++ b.last ∷ []) b.rest b.leads);
  }

  refused_on : (new : PlainCluster) (fault : CoreFault) → RefusedIn (turn setup (decisions d.round) d) between after new fault → RefusedIn (turns (suc n) setup decisions c) before after new fault
  refused_on new (core.TaskFailed task) r = follows_on (refuses new (why.TaskFailed task)) r
  refused_on new core.NotBuilt r = missed_on r
  refused_on new (core.Device device) r = begun_on r
  refused_on new core.Memory r = begun_on r

-- a turn that acted is one under such decisions
same_turn : (seen : Seen) (new : PlainCluster) (setup : Setup) (decisions : ℕ → Option EndWord) → seen.setup ≡ setup → GoesOnUntil new.round decisions → TurnedTo seen.setup (decision_in seen) seen.plain (acted new) → turn seen.setup (decision_in seen) seen.plain ≡ turn setup (decisions seen.plain.round) seen.plain
same_turn seen new setup decisions same goes (inl x) = decides_where_decided seen.setup (decision_in seen) (decisions seen.plain.round) seen.plain x.0 ∙ ap (λ (s : Setup). turn s (decisions seen.plain.round) seen.plain) same
same_turn seen new setup decisions same goes (inr x) =
    ap (λ (d : Option EndWord). turn seen.setup d seen.plain) (x.0 ∙ sym (goes seen.plain.round (next seen.plain.round new.round x.1)))
    ∙ ap (λ (s : Setup). turn s (decisions seen.plain.round) seen.plain) same
  where
    next : (i j : ℕ) → j ≡ i + 1 → i < j
    next i j e = omega (arith, e)

no_later : (seen : Seen) (new : PlainCluster) (decisions : ℕ → Option EndWord) → GoesOnUntil new.round decisions → TurnedTo seen.setup (decision_in seen) seen.plain (acted new) → GoesOnUntil seen.plain.round decisions
no_later seen new decisions goes came i l = goes i (before seen.plain.round new.round (rounds came) l)
  where
    rounds : TurnedTo seen.setup (decision_in seen) seen.plain (acted new) → (new.round ≡ seen.plain.round) ⊎ (new.round ≡ seen.plain.round + 1)
    rounds (inl x) = inl x.1
    rounds (inr x) = inr x.1

    before : (k m : ℕ) → (m ≡ k) ⊎ (m ≡ k + 1) → i < k → i < m
    before k m (inl e) l = omega (arith, e, l)
    before k m (inr e) l = omega (arith, e, l)

pub many_follow : (m : Meaning) (n : ℕ) (old new : Seen) (before after : Option DiskTold) → IsRunning old.setup old.plain → Acted m n old before new after → (decisions : ℕ → Option EndWord) → GoesOnUntil new.plain.round decisions → Follows (turns n old.setup decisions old.plain) before after (gives (acted new.plain))
many_follow m zero old new before after running a decisions goes =
    subst (λ (s : Seen). Follows (turns 0 old.setup decisions old.plain) before after (gives (acted s.plain))) (sym a.0)
    (subst (λ told. Follows (turns 0 old.setup decisions old.plain) before told (gives (acted old.plain))) (sym a.1) (follows_none (turns 0 old.setup decisions old.plain) before))
many_follow m (suc n) old new before after running a decisions goes =
    let k = many_kept m n old a.0 before a.1 running a.2 in
    let came = turned_in a.0 (acted new.plain) a.1 after k.running a.3.follows in
    let first = many_follow m n old a.0 before a.1 running a.2 decisions (no_later a.0 new.plain decisions goes came) in
    follows_on n old.setup decisions old.plain a.0.plain before a.1 after first (gives (acted new.plain))
    (subst (λ plan. Follows plan a.1 after (gives (acted new.plain))) (same_turn a.0 new.plain old.setup decisions k.same goes came) a.3.follows)

-- ---- until the last turn

module _ (m : Meaning) (old last new : Seen) (before between after : Option DiskTold) (running : IsRunning old.setup old.plain) (ran : Ran m old before last between)
    (made : MadeOfReads m last.setup.shape new.kept.round last.kept.values new.kept.values between after) where
  -- the last turn is one under decisions that decide it so
  last_turn : (decisions : ℕ → Option EndWord) → (is_decided last.setup last.plain ≡ true → decisions last.plain.round ≡ decision_in last) → turn last.setup (decision_in last) last.plain ≡ turn old.setup (decisions last.plain.round) last.plain
  last_turn decisions agree =
      elim (is_decided last.setup last.plain) as (λ b. is_decided last.setup last.plain ≡ b → turn last.setup (decision_in last) last.plain ≡ turn last.setup (decisions last.plain.round) last.plain) [
        | true ↦ λ e. ap (λ (d : Option EndWord). turn last.setup d last.plain) (sym (agree e))
        | false ↦ λ e. decides_where_decided last.setup (decision_in last) (decisions last.plain.round) last.plain e
      ] refl
      ∙ ap (λ (s : Setup). turn s (decisions last.plain.round) last.plain) ran.same

  all_before : (decisions : ℕ → Option EndWord) → GoesOnUntil last.plain.round decisions → Follows (turns ran.count old.setup decisions old.plain) before between (gives (acted last.plain))
  all_before decisions goes = many_follow m ran.count old last before between running ran.acts decisions goes

  pub ran_to_end : (it : Finished) → Follows (turn last.setup (decision_in last) last.plain) between after (gives (ends new.plain it.end)) → it.rounds ≡ new.plain.round → AreAnswers last.setup.shape it.parts between after → RanToEnd m old before new after it
  ran_to_end it f rounds parts =
      let k = many_kept m ran.count old last before between running ran.acts in
      let came = turned_in last (ends new.plain it.end) between after k.running f in
      record {
        last = last;
        between = between;
        ran = ran;
        made = made;
        ended = f;
        decided = came.0;
        same_round = came.1;
        rounds = rounds;
        parts = parts;
        as_turns = λ decisions so. follows_on ran.count old.setup decisions old.plain last.plain before between after (all_before decisions (subst (λ round. GoesOnUntil round decisions) came.1 so.0)) (gives (ends new.plain it.end))
            (subst (λ plan. Follows plan between after (gives (ends new.plain it.end))) (last_turn decisions (λ e. ap decisions (sym came.1) ∙ so.1 ∙ sym came.0)) f);
      }

  -- all turns, of which the last was not brought to its end
  fault_as_turns : (fault : CoreFault) → RefusedIn (turn last.setup (decision_in last) last.plain) between after new.plain fault → (decisions : ℕ → Option EndWord) → DecidesAt last decisions → RefusedIn (turns (suc ran.count) old.setup decisions old.plain) before after new.plain fault
  fault_as_turns fault r decisions so = refused_on ran.count old.setup decisions old.plain last.plain before between after (all_before decisions so.0) new.plain fault (subst (λ plan. RefusedIn plan between after new.plain fault) (last_turn decisions so.1) r)

  pub ran_to_fault : (fault : CoreFault) → RefusedIn (turn last.setup (decision_in last) last.plain) between after new.plain fault → RanToFault m old before new after fault
  ran_to_fault fault r = record {
    last = last;
    between = between;
    ran = ran;
    made = made;
    refused = r;
    as_turns = fault_as_turns fault r;
  }

  -- the same, under the decisions of the chain
  pub fault_by_chain : (shows : Type 0) (fault : CoreFault) → RefusedIn (turn last.setup (decision_in last) last.plain) between after new.plain fault → IsRightAfter m old shows before between last.kept None → IsOfChain last → IsByChain m old shows before after new.plain (Err fault)
  fault_by_chain shows fault r right chain tables fits s t stands =
      let w = world_of m old.setup tables in
      (ran.count, fault_as_turns fault r (chain_decision w) (chain w between (ap (λ (x : Setup). x.shape) (sym ran.same)) fits (right tables fits s t stands)))

-- a run to its end, under the decisions of the chain
pub end_by_chain : (m : Meaning) (old new : Seen) (shows : Type 0) (before after : Option DiskTold) (it : Finished) → RanToEnd m old before new after it → IsRightAfter m old shows before after new.kept (Some it) → IsByChain m old shows before after new.plain (Ok it)
end_by_chain m old new shows before after it ran right tables fits s t stands =
    let w = world_of m old.setup tables in
    (ran.ran.count, ran.as_turns (chain_decision w) (subst (λ i. DecidesSo i (Some it.end) (chain_decision w)) ran.rounds (chain_ends w it.rounds it.end (right tables fits s t stands).1)))

-- ---- after load

module _ (setup : Setup) (old : Progress) (new : Seen) (before between after : Option DiskTold) (load_is : Follows (load setup) before between (gives (loaded setup))) (begun : IsBegun setup old) where
  begun_so : (P : Setup → PlainCluster → Type 0) → P old.state.setup old.state.plain → P setup (loaded setup)
  begun_so P p = subst (P setup) begun.plain_is (subst (λ (x : Setup). P x old.state.plain) begun.setup_is p)

  -- what was refused after load was refused
  loaded_refused : (fault : CoreFault) (more : PlainCluster → Plan Turned) → RefusedIn (more (loaded setup)) between after new.plain fault → RefusedIn (load setup >>= more) before after new.plain fault
  loaded_refused (core.TaskFailed task) more r = follows_then (load setup) (loaded setup) more (refuses new.plain (why.TaskFailed task)) before between after load_is r
  loaded_refused core.NotBuilt more r = missed_then (load setup) (loaded setup) more before between after load_is r
  loaded_refused (core.Device device) more r = begun_then (load setup) (loaded setup) more before between after load_is r
  loaded_refused core.Memory more r = begun_then (load setup) (loaded setup) more before between after load_is r

  -- load, and then a run of the cluster, is a run of the machine
  pub loaded_to_end : (m : Meaning) (it : Finished) (ran : RanToEnd m old.state between new after it) (decisions : ℕ → Option EndWord) → DecidesSo new.plain.round (Some it.end) decisions → Follows (run (suc ran.ran.count) setup decisions) before after (gives (ends new.plain it.end))
  loaded_to_end m it ran decisions so =
      let rest = begun_so (λ x c. Follows (turns (suc ran.ran.count) x decisions c) between after (gives (ends new.plain it.end))) (ran.as_turns decisions so) in
      follows_then (load setup) (loaded setup) (turns (suc ran.ran.count) setup decisions) (gives (ends new.plain it.end)) before between after load_is rest

  pub loaded_to_fault : (m : Meaning) (fault : CoreFault) (ran : RanToFault m old.state between new after fault) (decisions : ℕ → Option EndWord) → DecidesAt ran.last decisions → RefusedIn (run (suc ran.ran.count) setup decisions) before after new.plain fault
  loaded_to_fault m fault ran decisions so =
      let rest = begun_so (λ x c. RefusedIn (turns (suc ran.ran.count) x decisions c) between after new.plain fault) (ran.as_turns decisions so) in
      loaded_refused fault (turns (suc ran.ran.count) setup decisions) rest

  -- and under the decisions of the chain
  pub loaded_by_chain : (m : Meaning) (shows : Type 0) (result : Result Finished CoreFault) → IsByChain m old.state shows between after new.plain result
      → (tables : List (List Record)) → WorldFits (world_of m setup tables) → shows → IsSome between → StandsFor (world_of m setup tables) old.state.kept between
      → (n : ℕ) × ComesTo (run (suc n) setup (chain_decision (world_of m setup tables))) before after new.plain result
  loaded_by_chain m shows result by tables fits s t stands =
      let all = begun_so (λ x c. WorldFits (world_of m x tables) → StandsFor (world_of m x tables) old.state.kept between → (n : ℕ) × ComesTo (turns (suc n) x (chain_decision (world_of m x tables)) c) between after new.plain result) (λ fits stands. by tables fits s t stands) fits stands in
      (all.0, by_result result (turns (suc all.0) setup (chain_decision (world_of m setup tables))) all.1)
    where
      by_result : (result : Result Finished CoreFault) (more : PlainCluster → Plan Turned) → ComesTo (more (loaded setup)) between after new.plain result → ComesTo (load setup >>= more) before after new.plain result
      by_result (Ok it) more f = follows_then (load setup) (loaded setup) more (gives (ends new.plain it.end)) before between after load_is f
      by_result (Err fault) more r = loaded_refused fault more r

-- ---- the loop

-- turns acted so far, and nothing is answered
pub record SoFar {D : Type 0} (g : Disks D) (m : Meaning) (first now : Progress) (old new : D) : Type 0 where
  pub unanswered : now.answered ≡ None
  pub running : IsRunning now.state.setup now.state.plain
  pub ran : Ran m first.state (g.told old) now.state (g.told new)
  pub left : LeavesDisks g first.state.setup.schedule.nodes old new
  pub right : IsRightAfter m first.state (g.shows_damage old) (g.told old) (g.told new) now.state.kept None
  pub calls : CallsRight g m first.state.setup first.state.kept old new (Unit {0})
  pub agree : KeepsDigests first.state.kept.table.copies now.state.kept.table.copies (g.told old) (g.told new)
  pub asks : AsksByDigests first.state.kept.table.copies (g.told old) (g.told new)

pub left_on : {D : Type 0} (g : Disks D) (m : Meaning) (first now : Progress) (old between after : D) → SoFar g m first now old between → LeavesDisks g now.state.setup.schedule.nodes between after → LeavesDisks g first.state.setup.schedule.nodes old after
left_on g m first now old between after s left = leaves_more g first.state.setup.schedule.nodes old between after s.left (subst (λ (x : Setup). LeavesDisks g x.schedule.nodes between after) s.ran.same left)

-- disks that tell go on telling
tells_on : (nodes : ℕ) (before after : Option DiskTold) → OnTold (BeyondStay nodes) before after → IsSome before → IsSome after
tells_on nodes None after o s = cc
tells_on nodes (Some t) None o s = absurd o
tells_on nodes (Some t) (Some u) o s = s

-- what was right at first is so after one turn more
pub right_on : {D : Type 0} (g : Disks D) (m : Meaning) (first now : Progress) (old between after : D) (new : states.Kept) (finished : Option Finished) → SoFar g m first now old between
    → IsRightAfter m now.state (g.shows_damage between) (g.told between) (g.told after) new finished → IsRightAfter m first.state (g.shows_damage old) (g.told old) (g.told after) new finished
right_on g m first now old between after new finished s right tables fits shows told stands =
    subst (λ (x : Setup). WorldFits (world_of m x tables) → g.shows_damage between → IsSome (g.told between) → StandsFor (world_of m x tables) now.state.kept (g.told between) → IsRight (world_of m x tables) (g.told after) new finished) s.ran.same (right tables)
    fits (s.left.damage_shown shows) (tells_on first.state.setup.schedule.nodes (g.told old) (g.told between) s.left.others told) (s.right tables fits shows told stands)

-- the calls of one turn more
pub calls_on : {D : Type 0} (g : Disks D) (m : Meaning) (first now : Progress) (old between after : D) (p : Type 0) → SoFar g m first now old between
    → CallsRight g m now.state.setup now.state.kept between after p → CallsRight g m first.state.setup first.state.kept old after p
calls_on g m first now old between after p s calls shows tables fits told stands =
    let w : World = world_of m first.state.setup tables in
    works_more g w old between after (Unit {0}) p (s.calls shows tables fits told stands)
    (subst (λ (x : Setup). CallsRight g m x now.state.kept between after p) s.ran.same calls (s.left.damage_shown shows) tables fits (tells_on first.state.setup.schedule.nodes (g.told old) (g.told between) s.left.others told) (s.right tables fits shows told stands))

module _ {D : Type 0} (g : Disks D) (m : Meaning) (first now new : Progress) (old between after : D) (s : SoFar g m first now old between) (it : CodeTurned)
    (made : MadeOfReads m now.state.setup.shape new.state.kept.round now.state.kept.values new.state.kept.values (g.told between) (g.told after)) where
  once_of : it ≡ turned.Acted → Follows (turn now.state.setup (decision_in now.state) now.state.plain) (g.told between) (g.told after) (gives (turned_to (finished_in it) new.state.plain)) → new.state.setup ≡ now.state.setup → ActedOnce m now.state (g.told between) new.state (g.told after)
  once_of is f same = record { follows = subst (λ t. Follows (turn now.state.setup (decision_in now.state) now.state.plain) (g.told between) (g.told after) (gives (turned_to (finished_in t) new.state.plain))) is f; same = same; made = made }

  pub less_left : it ≡ turned.Acted → Follows (turn now.state.setup (decision_in now.state) now.state.plain) (g.told between) (g.told after) (gives (turned_to (finished_in it) new.state.plain)) → new.state.setup ≡ now.state.setup → measure first.state.setup new.state.plain < measure first.state.setup now.state.plain
  less_left is f same = subst (λ (x : Setup). measure x new.state.plain < measure x now.state.plain) s.ran.same (once_falls m now.state new.state (g.told between) (g.told after) s.running (once_of is f same))

  pub one_more : it ≡ turned.Acted → Follows (turn now.state.setup (decision_in now.state) now.state.plain) (g.told between) (g.told after) (gives (turned_to (finished_in it) new.state.plain)) → new.state.setup ≡ now.state.setup → new.answered ≡ answer_in (Ok it) → LeavesDisks g now.state.setup.schedule.nodes between after
      → IsRightAfter m now.state (g.shows_damage between) (g.told between) (g.told after) new.state.kept (finished_in it) → CallsRight g m now.state.setup now.state.kept between after (Unit {0})
      → KeepsDigests now.state.kept.table.copies new.state.kept.table.copies (g.told between) (g.told after) → AsksByDigests now.state.kept.table.copies (g.told between) (g.told after) → SoFar g m first new old after
  one_more is f same answered left right calls agree asks =
      let once = once_of is f same in
      record {
        unanswered = answered ∙ ap (λ t. answer_in (Ok t)) is;
        running = once_running m now.state new.state (g.told between) (g.told after) s.running once;
        ran = record { count = suc s.ran.count; acts = (now.state, g.told between, s.ran.acts, once); same = same ∙ s.ran.same };
        left = left_on g m first now old between after s left;
        right = right_on g m first now old between after new.state.kept None s (subst (λ t. IsRightAfter m now.state (g.shows_damage between) (g.told between) (g.told after) new.state.kept (finished_in t)) is right);
        calls = calls_on g m first now old between after (Unit {0}) s calls;
        agree = λ all. agree (s.agree all);
        asks = ask_more first.state.kept.table.copies now.state.kept.table.copies (g.told old) (g.told between) (g.told after) s.asks s.agree asks;
      }

-- the run goes on where nothing is answered
pub open_runs : (cluster : Progress) → cluster.answered ≡ None → RunsUntil cluster.answered cluster.state → IsRunning cluster.state.setup cluster.state.plain
open_runs cluster none runs = subst (λ o. RunsUntil o cluster.state) none runs

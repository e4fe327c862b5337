-- What turns in which no read misses do with the rounds.
use Rattle.std.proofs.Common.{◌≡◌, ◌⊎◌, inl, inr, ℕ, ◌+◌, nat_le, Bool, true, false, not, List, [], ◌∷◌, ◌++◌, Option, None, Some, map, refl, sym, ap, ◌∙◌, subst}
use Rattle.std.proofs.lemmas.Bool.{false≢true}
use Rattle.node_names.specs.declared.name.Name.{Name}
use Rattle.node_names.specs.declared.task.Task.{Task}
use Rattle.counter_report.specs.declared.journal.EndWord.{EndWord}
use Rattle.counter_report.specs.declared.journal.Entry.TheVariants as line
use Rattle.std.specs.Ordering.{nat_cmp}
use Rattle.hal_base.specs.Sorted.{joined}
use Rattle.hal_outside.specs.DiskTold.{DiskTold}
use Rattle.replica_table.specs.Copies.{but_those}
use Rattle.run_model.specs.Acts.{act, ended, fail, finish}
use Rattle.run_model.specs.Advance.{Advanced, advance, advance_if, after_part, finished, goes_on, is_decided, next_round, part_tries, pass, passed, read_parts}
use Rattle.run_model.specs.Attempts.{commit, committed, writes, written}
use Rattle.run_model.specs.Needs.{inputs, view_of}
use Rattle.run_model.specs.PlanLaws.{Always}
use Rattle.run_model.specs.Plans.{Plan, Refusal, asks, does, gives, refuses}
use Rattle.run_model.specs.Reading.{ReadSoFar, Tried, Try, misses, nothing_read, read_first, read_inputs, reading, starved, strike}
use Rattle.run_model.specs.Removals.{clear, removals}
use Rattle.run_model.specs.Runs.{state_of}
use Rattle.run_model.specs.Sites.{site}
use Rattle.run_model.specs.Start.{first_ready, start, start_first, started}
use Rattle.run_model.specs.State.{PlainCluster, Setup, noted, with_copies}
use Rattle.run_model.specs.Stays.{stays}
use Rattle.run_model.specs.Tasks.{last_outs}
use Rattle.run_model.specs.Turns.{Turned, acted, ends, go_on, turn}
use Rattle.run_model.specs.declared.attempt.Attempt.{Attempt}
use Rattle.run_laws.proofs.Plans.{always_any, always_both, always_do, always_map, always_then, unmissed_leaves, unmissed_then, unmissed_with}
use Rattle.run_laws.proofs.Turning.{AnyName, KRead, Steps, any_caches, any_next, fails_always, go_on_walks, inputs_walk}
use Rattle.run_laws.proofs.Undecided.{act_answers}
use Rattle.run_laws.specs.Ending.{Any, AtAct, OnGoesOn}
use Rattle.run_laws.specs.States.{EndsInTime, Fits, Reached}
use Rattle.run_laws.specs.WithoutLoss.{Unmissed}
use Rattle.valid_copies.specs.Calls.{Follows, made_of}
use Rattle.cluster_core.proofs.Going.{none_missed}

-- a refusal of any kind
abbrev pub AnyWhy : PlainCluster → Refusal → Type 0
AnyWhy c why = Unit {0}

unmissed_any : {A : Type 0} (plan : Plan A) → Unmissed (λ a. Unit {0}) AnyWhy plan
unmissed_any (gives a) = tt
unmissed_any (refuses c why) = tt
unmissed_any (does call plan) = unmissed_any plan
unmissed_any (asks node name next) = unmissed_any (next false)

always_all : {A : Type 0} (plan : Plan A) → Always (λ a. Unit {0}) Any plan
always_all (gives a) = tt
always_all (refuses c why) = tt
always_all (does call plan) = always_all plan
always_all (asks node name next) = λ missed. always_all (next missed)

-- ---- acts stay in a round

module _ (setup : Setup) (round : ℕ) where
  abbrev In : PlainCluster → Type 0
  In c = c.round ≡ round

  started_in : (c : PlainCluster) (o : Option Task) → In c → In (start_first setup c o)
  started_in c None h = h
  started_in c (Some task) h = go (site (view_of setup c) task)
    where
      go : (o : Option ℕ) → In (started task o c)
      go None = h
      go (Some n) = h

  struck_in : (it : Try) (c : PlainCluster) → In c → Any (strike it c)
  struck_in it c h = tt

  strikes_in : (it : Try) (c : PlainCluster) → In c → nat_le 1000 (misses (strike it c)) ≡ false → In (strike it c)
  strikes_in it c h e = h

  commits_in : (a : Attempt) (s : ReadSoFar) → KRead In Any AnyName struck_in strikes_in s → Always In Any (commit setup a s)
  commits_in a (starved c) h = h
  commits_in a (reading r) h = always_do In Any (writes setup a r) (gives (committed a r (written (writes setup a r) r.cluster.copies))) h.cluster

  finishes_in : (a : Attempt) (c : PlainCluster) → In c → Always In Any (finish setup a c)
  finishes_in a c h = always_then Any (KRead In Any AnyName struck_in strikes_in) In (read_inputs a.node (inputs setup.shape a.task) (reading (nothing_read (ended a c)))) (commit setup a) (inputs_walk In Any AnyName struck_in strikes_in a.node (inputs setup.shape a.task) (reading (nothing_read (ended a c))) (any_caches (inputs setup.shape a.task)) (record { cluster = h; unread = λ name i. tt })) (commits_in a)

  cleared_in : (nodes : List ℕ) (c : PlainCluster) → In c → Always In Any (clear setup nodes c)
  cleared_in nodes c h = always_do In Any (removals setup nodes c) (gives (with_copies (but_those (λ name. not (stays setup.shape setup.schedule.keep c.round name)) nodes c.copies) c)) h

  steps_in : Steps setup (λ n. Unit {0}) (λ c. ⊥) In Any
  steps_in = record {
    quiet = record {
      refused = λ c h. tt;
      missed_last = struck_in;
      strikes = strikes_in;
      remarks = λ it c e h. h;
      passes = λ c h. h;
      begins = λ c l h. absurd l;
      starts = λ c h. started_in c (first_ready setup c) h;
      finishes = λ a c i h. finishes_in a c h;
    };
    spends = λ e events c x h. h;
    fails = λ a c i h. always_any In In (fail setup a c) (fails_always setup In a c h);
    loses = λ n c h. h;
    returns = λ n c l h. cleared_in (n ∷ []) (record c { up = joined nat_cmp n c.up; journal = c.journal ++ line.Back n ∷ [] }) h;
    wipes = λ n c h. h;
    marks = λ n c l h. h;
    unmarks = λ n c h. h;
  }

  acts_in : (c : PlainCluster) → In c → Always (λ turned. In (state_of turned)) Any (go_on setup (goes_on c))
  acts_in c h = go_on_walks setup (λ n. Unit {0}) (λ c. ⊥) In Any steps_in (λ d x. any_next d.events) (goes_on c) h

-- a turn that acted in this round
abbrev OnActedIn : PlainCluster → Turned → Type 0
OnActedIn c (acted d) = d.round ≡ c.round
OnActedIn c (ends d end) = ⊥

module _ (setup : Setup) (c : PlainCluster) where
  only_acts : Always (OnActedIn c) Any (go_on setup (goes_on c))
  only_acts = always_map (λ t. (state_of t).round ≡ c.round × IsActed t) (OnActedIn c) (λ d. Any d × Any d) Any (go_on setup (goes_on c)) both (λ d q. tt) (always_both (λ t. (state_of t).round ≡ c.round) IsActed Any Any (go_on setup (goes_on c)) (acts_in setup c.round c refl) acted_only)
    where
      IsActed : Turned → Type 0
      IsActed (acted d) = Unit {0}
      IsActed (ends d end) = ⊥

      both : (t : Turned) → ((state_of t).round ≡ c.round) × IsActed t → OnActedIn c t
      both (acted d) h = h.0
      both (ends d end) h = h.1

      acted_only : Always IsActed Any (go_on setup (goes_on c))
      acted_only = always_then Any (λ d. Unit {0}) IsActed (act setup (start setup c)) (λ next. gives (acted next)) (always_all (act setup (start setup c))) (λ next h. tt)

-- ---- advance

-- the parts are read, or else nothing has changed
abbrev PartsCame : PlainCluster → EndWord → Advanced → Type 0
PartsCame c end (goes_on d) = d ≡ c
PartsCame c end (finished d word) = (d.round ≡ c.round) × (word ≡ end)

first_unmissed : (c : PlainCluster) (tries : List Try) → Unmissed (λ (t : Tried). t.cluster ≡ c) AnyWhy (read_first tries c)
first_unmissed c [] = refl
first_unmissed c (it ∷ tries) = refl

parts_came : (end : EndWord) (names : List Name) (c : PlainCluster) → Unmissed (PartsCame c end) AnyWhy (read_parts end names c)
parts_came end [] c = (refl, refl)
parts_came end (name ∷ names) c = unmissed_then (λ (t : Tried). t.cluster ≡ c) (PartsCame c end) AnyWhy (read_first (part_tries c name) c) (λ tried. after_part (read_parts end names) tried.cluster tried.answered) (first_unmissed c (part_tries c name)) (λ tried same. after (parts_came end names) tried.cluster tried.answered same)
  where
    after : ((x : PlainCluster) → Unmissed (PartsCame x end) AnyWhy (read_parts end names x)) → (d : PlainCluster) (answered : Option Try) → d ≡ c → Unmissed (PartsCame c end) AnyWhy (after_part (read_parts end names) d answered)
    after more d None same = same
    after more d (Some it) same = subst (λ x. Unmissed (PartsCame c end) AnyWhy (read_parts end names x)) (sym same) (more c)

-- what advance came to: an undecided round goes on, and of a decided one the decision says what follows
abbrev AdvancedTo : Setup → Option EndWord → PlainCluster → Bool → Advanced → Type 0
AdvancedTo setup decision c false (goes_on d) = d.round ≡ c.round
AdvancedTo setup decision c false (finished d word) = ⊥
AdvancedTo setup None c true (goes_on d) = d.round ≡ c.round + 1
AdvancedTo setup None c true (finished d word) = ⊥
AdvancedTo setup (Some end) c true (goes_on d) = d ≡ record c { events = passed c.round c.events }
AdvancedTo setup (Some end) c true (finished d word) = (d.round ≡ c.round) × (word ≡ end)

next_came : (setup : Setup) (c : PlainCluster) → Always (λ d. d.round ≡ c.round + 1) Any (next_round setup c)
next_came setup c =
    let d : PlainCluster = record c { round = c.round + 1; running = []; known = []; journal = c.journal ++ map (λ (a : Attempt). line.Dropped a.task a.node) c.running } in
    always_then Any (λ d. d.round ≡ c.round + 1) (λ d. d.round ≡ c.round + 1) (clear setup c.up d) (λ next. gives (noted (line.Round next.round ∷ []) next)) (cleared_in setup (c.round + 1) c.up d refl) (λ next h. h)

advance_came : (setup : Setup) (decision : Option EndWord) (c : PlainCluster) (v : Bool) → Unmissed (λ it. AdvancedTo setup decision c v (pass it)) AnyWhy (advance_if setup decision c v)
advance_came setup decision c false = refl
advance_came setup None c true =
    let next = unmissed_with (λ d. Unit {0}) (λ d. d.round ≡ c.round + 1) (λ d. d.round ≡ c.round + 1) Any AnyWhy (next_round setup c) (unmissed_any (next_round setup c)) (next_came setup c) (λ d u h. h) in
    unmissed_then (λ d. d.round ≡ c.round + 1) (λ it. AdvancedTo setup None c true (pass it)) AnyWhy (next_round setup c) (λ next. gives (goes_on next)) next (λ d h. h)
advance_came setup (Some end) c true = unmissed_map (PartsCame c end) (λ it. AdvancedTo setup (Some end) c true (pass it)) (read_parts end (last_outs setup.shape c.round) c) came (parts_came end (last_outs setup.shape c.round) c)
  where
    came : (it : Advanced) → PartsCame c end it → AdvancedTo setup (Some end) c true (pass it)
    came (goes_on d) same = ap (λ (x : PlainCluster). record x { events = passed x.round x.events }) same
    came (finished d word) h = h

    unmissed_map : {A : Type 0} (P P' : A → Type 0) (plan : Plan A) → ((a : A) → P a → P' a) → Unmissed P AnyWhy plan → Unmissed P' AnyWhy plan
    unmissed_map P P' (gives a) f h = f a h
    unmissed_map P P' (refuses c why) f h = tt
    unmissed_map P P' (does call plan) f h = unmissed_map P P' plan f h
    unmissed_map P P' (asks node name next) f h = unmissed_map P P' (next false) f h

-- ---- turns

-- a turn that acted left its round where that was not decided, and else began the next; one that ended was decided so
abbrev pub TurnedTo : Setup → Option EndWord → PlainCluster → Turned → Type 0
TurnedTo setup decision c (acted d) = ((is_decided setup c ≡ false) × (d.round ≡ c.round)) ⊎ ((decision ≡ None) × (d.round ≡ c.round + 1))
TurnedTo setup decision c (ends d end) = (decision ≡ Some end) × (d.round ≡ c.round)

module _ (setup : Setup) (decision : Option EndWord) (c : PlainCluster) (fits : Fits setup) (time : EndsInTime setup c decision) (reached : Reached setup c) where
  -- advance, and that an act has its answer behind it
  record Both (it : Advanced) : Type 0 where
    pub came : AdvancedTo setup decision c (is_decided setup c) it
    pub at_act : OnGoesOn (AtAct setup) it

  advances : Unmissed Both AnyWhy (advance setup decision c)
  advances = unmissed_with (AdvancedTo setup decision c (is_decided setup c)) (OnGoesOn (AtAct setup)) Both Any AnyWhy (advance setup decision c)
      (unmissed_then (λ it. AdvancedTo setup decision c (is_decided setup c) (pass it)) (AdvancedTo setup decision c (is_decided setup c)) AnyWhy (advance_if setup decision c (is_decided setup c)) (λ it. gives (pass it)) (advance_came setup decision c (is_decided setup c)) (λ it h. h))
      (act_answers setup decision c fits time reached) (λ it came at. record { came = came; at_act = at })

  -- where advance goes on, the round is the same, or the next
  went_on : (v : Bool) (d : PlainCluster) → is_decided setup c ≡ v → AdvancedTo setup decision c v (goes_on d) → AtAct setup d → ((is_decided setup c ≡ false) × (d.round ≡ c.round)) ⊎ ((decision ≡ None) × (d.round ≡ c.round + 1))
  went_on false d is came at = inl (is, came)
  went_on true d is came at = go decision came
    where
      go : (o : Option EndWord) → AdvancedTo setup o c true (goes_on d) → ((is_decided setup c ≡ false) × (d.round ≡ c.round)) ⊎ ((o ≡ None) × (d.round ≡ c.round + 1))
      go None came = inr (refl, came)
      go (Some end) came = absurd (false≢true (sym at.undecided ∙ ap (is_decided setup) came ∙ is))

  ended_so : (v : Bool) (d : PlainCluster) (word : EndWord) → AdvancedTo setup decision c v (finished d word) → (decision ≡ Some word) × (d.round ≡ c.round)
  ended_so false d word came = absurd came
  ended_so true d word came = go decision came
    where
      go : (o : Option EndWord) → AdvancedTo setup o c true (finished d word) → (o ≡ Some word) × (d.round ≡ c.round)
      go None came = absurd came
      go (Some end) came = (ap Some (sym came.1), came.0)

  turns_to : Unmissed (TurnedTo setup decision c) AnyWhy (turn setup decision c)
  turns_to = unmissed_then Both (TurnedTo setup decision c) AnyWhy (advance setup decision c) (go_on setup) advances further
    where
      acts : (d : PlainCluster) (it : Turned) → ((is_decided setup c ≡ false) × (d.round ≡ c.round)) ⊎ ((decision ≡ None) × (d.round ≡ c.round + 1)) → OnActedIn d it → TurnedTo setup decision c it
      acts d (acted e) (inl x) h = inl (x.0, h ∙ x.1)
      acts d (acted e) (inr x) h = inr (x.0, h ∙ x.1)
      acts d (ends e word) x h = absurd h

      further : (it : Advanced) → Both it → Unmissed (TurnedTo setup decision c) AnyWhy (go_on setup it)
      further (goes_on d) both = unmissed_with (λ it. Unit {0}) (OnActedIn d) (TurnedTo setup decision c) Any AnyWhy (go_on setup (goes_on d)) (unmissed_any (go_on setup (goes_on d))) (only_acts setup d) (λ it u h. acts d it (went_on (is_decided setup c) d refl both.came both.at_act) h)
      further (finished d word) both = ended_so (is_decided setup c) d word both.came

  -- what a turn gave by the calls that were made
  pub turned_to_is : (it : Turned) (before after : Option DiskTold) → Follows (turn setup decision c) before after (gives it) → TurnedTo setup decision c it
  turned_to_is it before after f = unmissed_leaves (TurnedTo setup decision c) AnyWhy (turn setup decision c) (gives it) (map made_of f.calls) turns_to (none_missed f.calls f.answered) f.leads

-- Where a run goes on, its round is not decided; so an act with nothing left to do is refused, by its cause.
use Rattle.std.proofs.Common.{◌≡◌, ◌⊎◌, inl, inr, ℕ, ◌+◌, ◌*◌, ◌<◌, Bool, true, false, ◌&&◌, not, List, [], ◌∷◌, ◌++◌, Option, None, Some, refl, sym, ap, subst, ◌∙◌, map, arith, nat_le}
use Rattle.std.specs.List.{filter, list_all}
use Rattle.std.proofs.lemmas.Bool.{false_from_ne_true, false≢true}
use Rattle.node_names.specs.declared.name.Name.{Name}
use Rattle.node_names.specs.declared.name.Name.TheVariants.{Out}
use Rattle.node_names.specs.declared.task.Task.TheVariants.{Reduce}
use Rattle.replica_table.specs.Copies.{but_those, is_at, nodes_with, up_holders}
use Rattle.replica_table.specs.Sets.{among}
use Rattle.counter_report.specs.declared.journal.EndWord.{EndWord}
use Rattle.counter_report.specs.declared.journal.Entry.TheVariants as line
use Rattle.run_model.specs.Acts.{act, act_on, last_act, oldest_of, stuck}
use Rattle.run_model.specs.Advance.{Advanced, advance, advance_if, after_part, decide, finished, goes_on, is_decided, next_round, part_tries, pass, read_parts}
use Rattle.run_model.specs.Lists.{IsIn, below}
use Rattle.run_model.specs.Needs.{is_up, view_of}
use Rattle.run_model.specs.PlanLaws.{Always}
use Rattle.run_model.specs.Plans.{BlockLost, NoNode, Plan, gives, refuses}
use Rattle.run_model.specs.Reading.{Tried, Try, after_read, misses, read_first, strike, try_at, unless_last}
use Rattle.run_model.specs.Removals.{clear, removals}
use Rattle.run_model.specs.Start.{goal_of, start}
use Rattle.run_model.specs.declared.attempt.Attempt.{Attempt}
use Rattle.run_model.specs.State.{Copy, PlainCluster, Setup, holds, noted, with_copies}
use Rattle.run_model.specs.Stays.{stays}
use Rattle.run_model.specs.Tasks.{last, last_outs}
use Rattle.run_model.specs.Wanted.{first_missing_block}
use Rattle.run_laws.specs.Ending.{ActAnswers, Answers, Any, AtAct, OnGoesOn}
use Rattle.run_laws.specs.Rounds.{NameFits}
use Rattle.run_laws.specs.States.{CopiesFit, Fits, Reached}
use Rattle.run_laws.proofs.Copies.{at_is, held_node, left_was, node_held}
use Rattle.run_laws.proofs.Listing.{numbers_are}
use Rattle.run_laws.proofs.Members.{any_is, from_filter, from_range, in_filter, in_map, in_range}
use Rattle.run_laws.proofs.Plans.{always_both, always_do, always_map, always_then}
use Rattle.run_laws.proofs.Reaching.{copies_left, reached_steps, struck_reached}
use Rattle.run_laws.proofs.Standstill.{act_refuses}
use Rattle.run_laws.proofs.Starting.{start_less}
use Rattle.run_laws.proofs.Turning.{KAdvanced, advance_walks}

-- ---- one part that is not up

one_not : (test : Name → Bool) (x : Name) (xs : List Name) → IsIn x xs → test x ≡ false → list_all test xs ≡ false
one_not test x [] i e = elim i [ ]
one_not test x (y ∷ xs) (inl is) e = rw (sym (ap test is) ∙ e) refl
one_not test x (y ∷ xs) (inr i) e = elim (test y) as (λ v. (v && list_all test xs) ≡ false) [ true ↦ one_not test x xs i e | false ↦ refl ]

part_missing : (setup : Setup) (c : PlainCluster) (name : Name) → IsIn name (last_outs setup.shape c.round) → is_up c.copies c.up name ≡ false → is_decided setup c ≡ false
part_missing setup c name i e = rw (one_not (is_up c.copies c.up) name (last_outs setup.shape c.round) i e) refl

-- ---- the next round

-- no copy is of a later round
pub no_later : (setup : Setup) (round p n : ℕ) (copies : List Copy) → CopiesFit setup round copies → holds copies n (Out (round + 1) (last setup.shape) p) ≡ true → ⊥
no_later setup round p n copies f h =
    let m = any_is (is_at (Out (round + 1) (last setup.shape) p) n) copies h in
    let fits = subst (NameFits setup.shape round) (sym (at_is (Out (round + 1) (last setup.shape) p) n m.0 m.2).0) (f.each m.0 m.1) in
    let l = numbers_are setup.shape round (Reduce (round + 1) (last setup.shape) p) fits in
    let b = from_range 1 round (round + 1) l.0 in
    above round b.1
  where
    above : (n : ℕ) → n + 1 < 1 + n → ⊥
    above n l = omega arith

pub nowhere_up : (copies : List Copy) (up : List ℕ) (name : Name) → ((n : ℕ) → holds copies n name ≡ true → among n up ≡ true → ⊥) → is_up copies up name ≡ false
nowhere_up copies up name f = false_from_ne_true (is_up copies up name) (λ u. let s = any_is (λ node. among node up) (nodes_with name copies) u in f s.0 (node_held s.0 name copies s.1) s.2)

module _ (setup : Setup) (fits : Fits setup) where
  abbrev Undecided : PlainCluster → Type 0
  Undecided c = is_decided setup c ≡ false

  next_undecided : (c : PlainCluster) → Reached setup c → Always Undecided Any (next_round setup c)
  next_undecided c h =
      let lines = map (λ (a : Attempt). line.Dropped a.task a.node) c.running in
      let d : PlainCluster = record c { round = c.round + 1; running = []; known = []; journal = c.journal ++ lines } in
      let e = with_copies (but_those (λ name. not (stays setup.shape setup.schedule.keep (c.round + 1) name)) c.up c.copies) d in
      let left = copies_left setup c.round (λ x. not (not (stays setup.shape setup.schedule.keep (c.round + 1) x.name) && among x.node c.up)) c.copies h.copies in
      let u : is_up e.copies e.up (Out (c.round + 1) (last setup.shape) 0) ≡ false = nowhere_up e.copies e.up (Out (c.round + 1) (last setup.shape) 0) (λ n x y. no_later setup c.round 0 n e.copies left x) in
      let i = in_map (Out (c.round + 1) (last setup.shape)) 0 (below setup.shape.parts) (in_range 0 setup.shape.parts 0 (omega arith) (let p = fits.shape.parts.0 in omega arith)) in
      always_then Any Undecided Undecided (clear setup c.up d) (λ next. gives (noted (line.Round next.round ∷ []) next))
      (always_do Undecided Any (removals setup c.up d) (gives e) (part_missing setup e (Out (c.round + 1) (last setup.shape) 0) i u))
      (λ next g. g)

  -- ---- a part that has no copy left

  -- each copy of the name on an up node is still to be tried
  record Trying (round : ℕ) (name : Name) (tries : List Try) (d : PlainCluster) : Type 0 where
    pub tried : (n : ℕ) → holds d.copies n name ≡ true → among n d.up ≡ true → IsIn (try_at name n) tries
    pub reached : Reached setup d
    pub same_round : d.round ≡ round

  record PartTried (round : ℕ) (name : Name) (t : Tried) : Type 0 where
    pub gone : t.answered ≡ None → is_up t.cluster.copies t.cluster.up name ≡ false
    pub reached : Reached setup t.cluster
    pub same_round : t.cluster.round ≡ round

  struck_on : (round : ℕ) (name : Name) (it : Try) (tries : List Try) (d : PlainCluster) → Trying round name (it ∷ tries) d → Trying round name tries (strike it d)
  struck_on round name it tries d h = record { tried = λ n x u. go n x (h.tried n (left_was test n name d.copies x) u); reached = struck_reached setup fits it d h.reached; same_round = h.same_round }
    where
      test : Copy → Bool
      test x = not (is_at it.name it.node x)

      go : (n : ℕ) → holds (filter test d.copies) n name ≡ true → IsIn (try_at name n) (it ∷ tries) → IsIn (try_at name n) tries
      go n x (inr i) = i
      go n x (inl e) =
          let m = any_is (is_at name n) (filter test d.copies) x in
          absurd (false≢true (ap not (sym (subst (λ (y : Try). is_at y.name y.node m.0 ≡ true) e m.2)) ∙ (from_filter test m.0 d.copies m.1).1))

  part_read : (round : ℕ) (name : Name) (tries : List Try) (d : PlainCluster) → Trying round name tries d → Always (PartTried round name) Any (read_first tries d)
  part_read round name [] d h = record { gone = λ e. nowhere_up d.copies d.up name (λ n x u. elim (h.tried n x u) [ ]); reached = h.reached; same_round = h.same_round }
  part_read round name (it ∷ tries) d h = λ missed. after (part_read round name tries (strike it d) (struck_on round name it tries d h)) missed
    where
      last_or : Always (PartTried round name) Any (read_first tries (strike it d)) → (v : Bool) → Always (PartTried round name) Any (unless_last (read_first tries) (strike it d) v)
      last_or more true = tt
      last_or more false = more

      after : Always (PartTried round name) Any (read_first tries (strike it d)) → (missed : Bool) → Always (PartTried round name) Any (after_read (read_first tries) it d missed)
      after more true = last_or more (nat_le 1000 (misses (strike it d)))
      after more false = record { gone = λ e. cc; reached = h.reached; same_round = h.same_round }

  trying : (round : ℕ) (name : Name) (d : PlainCluster) → d.round ≡ round → Reached setup d → Trying round name (part_tries d name) d
  trying round name d e h = record { tried = λ n x u. in_map (try_at name) n (up_holders name d.up d.copies) (in_filter (λ node. among node d.up) n (nodes_with name d.copies) (held_node n name d.copies x) u); reached = h; same_round = e }

  parts_undecided : (round : ℕ) (end : EndWord) (names : List Name) (d : PlainCluster) → ((name : Name) → IsIn name names → IsIn name (last_outs setup.shape round)) → d.round ≡ round → Reached setup d → Always (OnGoesOn Undecided) Any (read_parts end names d)
  parts_undecided round end [] d sub e h = tt
  parts_undecided round end (name ∷ names) d sub e h =
      always_then Any (PartTried round name) (OnGoesOn Undecided) (read_first (part_tries d name) d) (λ tried. after_part (read_parts end names) tried.cluster tried.answered)
      (part_read round name (part_tries d name) d (trying round name d e h))
      (λ tried p. go (λ x y z. parts_undecided round end names x (λ n i. sub n (inr i)) y z) tried.cluster tried.answered p.gone p.same_round p.reached)
    where
      go : ((x : PlainCluster) → x.round ≡ round → Reached setup x → Always (OnGoesOn Undecided) Any (read_parts end names x)) → (x : PlainCluster) (answered : Option Try) → (answered ≡ None → is_up x.copies x.up name ≡ false) → x.round ≡ round → Reached setup x → Always (OnGoesOn Undecided) Any (after_part (read_parts end names) x answered)
      go again x None gone s r = part_missing setup x name (subst (λ n. IsIn name (last_outs setup.shape n)) (sym s) (sub name (inl refl))) (gone refl)
      go again x (Some it) gone s r = again x s r

  -- ---- advance

  decide_undecided : (decision : Option EndWord) (c : PlainCluster) → Reached setup c → Always (OnGoesOn Undecided) Any (decide setup decision c)
  decide_undecided None c h = always_then Any Undecided (OnGoesOn Undecided) (next_round setup c) (λ next. gives (goes_on next)) (next_undecided c h) (λ next g. g)
  decide_undecided (Some end) c h = parts_undecided c.round end (last_outs setup.shape c.round) c (λ name i. i) refl h

  if_undecided : (decision : Option EndWord) (c : PlainCluster) (v : Bool) → is_decided setup c ≡ v → Reached setup c → Always (OnGoesOn Undecided) Any (advance_if setup decision c v)
  if_undecided decision c true e h = decide_undecided decision c h
  if_undecided decision c false e h = e

  pass_undecided : (advanced : Advanced) → OnGoesOn Undecided advanced → OnGoesOn Undecided (pass advanced)
  pass_undecided (goes_on c) u = u
  pass_undecided (finished c end) u = tt

  advance_undecided : (decision : Option EndWord) (c : PlainCluster) → Reached setup c → Always (OnGoesOn Undecided) Any (advance setup decision c)
  advance_undecided decision c h = always_then Any (OnGoesOn Undecided) (OnGoesOn Undecided) (advance_if setup decision c (is_decided setup c)) (λ advanced. gives (pass advanced)) (if_undecided decision c (is_decided setup c) refl h) pass_undecided

  -- ---- the answer

  stuck_is : (c : PlainCluster) → c.events ≡ [] → c.running ≡ [] → act setup c ≡ stuck c c.up (first_missing_block (view_of setup c) (goal_of c))
  stuck_is c e r = ap (λ events. act_on setup events c) e ∙ ap (last_act setup c) (ap (oldest_of c) r)

  lost_block : (c : PlainCluster) (n : ℕ) (up : List ℕ) (o : Option Name) → (stuck c (n ∷ up) o ≡ refuses c NoNode) ⊎ ((block : Name) × (stuck c (n ∷ up) o ≡ refuses c (BlockLost block))) → (block : Name) × (o ≡ Some block) × (stuck c (n ∷ up) o ≡ refuses c (BlockLost block))
  lost_block c n up None (inl e) = cc
  lost_block c n up None (inr e) = absurd (never e.0 e.1)
    where
      never : (block : Name) → gives c ≡ refuses c (BlockLost block) → ⊥
      never block e = cc
  lost_block c n up (Some block) x = (block, refl, refl)

  answers : (d : PlainCluster) → Reached setup d → is_decided setup d ≡ false → (start setup d).events ≡ [] → d.events ≡ [] → (start setup d).running ≡ [] → Answers setup (start setup d)
  answers d h u e e' r =
      let c = start setup d in
      let s = stuck_is c e r in
      let a = act_refuses setup d fits.shape fits.slots fits.nodes h.time.begun e' u r in
      record {
        no_node = λ none. s ∙ ap (λ up. stuck c up (first_missing_block (view_of setup c) (goal_of c))) none;
        lost = λ n up x. let t = s ∙ ap (λ up. stuck c up (first_missing_block (view_of setup c) (goal_of c))) x in let b = lost_block c n up (first_missing_block (view_of setup c) (goal_of c)) (back t a) in (b.0, b.1, t ∙ b.2);
      }
    where
      back : {p : Plan PlainCluster} → act setup (start setup d) ≡ p → (act setup (start setup d) ≡ refuses (start setup d) NoNode) ⊎ ((block : Name) × (act setup (start setup d) ≡ refuses (start setup d) (BlockLost block))) → (p ≡ refuses (start setup d) NoNode) ⊎ ((block : Name) × (p ≡ refuses (start setup d) (BlockLost block)))
      back t (inl x) = inl (sym t ∙ x)
      back t (inr x) = inr (x.0, sym t ∙ x.1)

  at_act : (advanced : Advanced) → OnGoesOn (Reached setup) advanced → OnGoesOn Undecided advanced → OnGoesOn (AtAct setup) advanced
  at_act (goes_on d) h u = record { undecided = u; reached = h; answers = λ e r. answers d h u e (sym (start_events d) ∙ e) r }
    where
      start_events : (d : PlainCluster) → (start setup d).events ≡ d.events
      start_events d = (start_less setup (setup.schedule.nodes * setup.schedule.slots) d).events
  at_act (finished d end) h u = tt

pub act_answers : ActAnswers
act_answers setup decision c fits t h =
    let K : Advanced → Type 0 = OnGoesOn (Reached setup) in
    always_map (λ advanced. K advanced × OnGoesOn (λ c. is_decided setup c ≡ false) advanced) (OnGoesOn (AtAct setup)) (λ d. Reached setup d × Unit {0}) Any (advance setup decision c) (λ advanced p. at_act setup fits advanced p.0 p.1) (λ d x. tt)
    (always_both K (OnGoesOn (λ c. is_decided setup c ≡ false)) (Reached setup) (λ d. Unit {0}) (advance setup decision c)
    (always_map _ K (Reached setup) (Reached setup) (advance setup decision c) on (λ d x. x) (advance_walks setup (λ c. c.round < setup.shape.rounds) (Reached setup) (Reached setup) (reached_steps setup fits).quiet decision c t h))
    (advance_undecided setup fits decision c h))
  where
    on : (advanced : Advanced) → KAdvanced setup (λ c. c.round < setup.shape.rounds) (Reached setup) (Reached setup) (reached_steps setup fits).quiet advanced → OnGoesOn (Reached setup) advanced
    on (goes_on d) h = h
    on (finished d end) h = tt

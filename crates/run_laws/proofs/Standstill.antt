-- Where nothing runs and no wanted task is ready, a block is missing.
use Rattle.std.proofs.Common.{◌≡◌, ◌⊎◌, inl, inr, ℕ, zero, suc, ◌-◌, ◌*◌, ◌≤◌, ◌<◌, Bool, true, false, ◌||◌, ◌&&◌, not, cond, List, [], ◌∷◌, ◌++◌, Option, None, Some, refl, sym, ap, subst, ◌∙◌, arith, length, ◌==◌, nat_lt, nat_le}
use Rattle.std.specs.Prelude.{slice_get, ◌%◌, if◌then◌else◌}
use Rattle.std.specs.List.{filter, find, flat_map, list_all, list_any}
use Rattle.std.proofs.Math.Nat.{mod-lt, one-le-mul}
use Rattle.std.proofs.lemmas.Bool.{eqb-false, false≢true, le-leb, lt-ltb, ltb-false}
use Rattle.hal_base.specs.Shapes.{source_at}
use Rattle.hal_base.specs.declared.shape.Origin.{Origin}
use Rattle.hal_base.specs.declared.shape.Origin.TheVariants.{Prev, State, Table}
use Rattle.hal_base.specs.declared.shape.Shape.{Shape}
use Rattle.hal_base.specs.declared.shape.Source.{Source}
use Rattle.node_names.specs.declared.name.Name.{Name}
use Rattle.node_names.specs.declared.name.Name.TheVariants.{Blk, Mic, Out, Ric, Roc, Spill}
use Rattle.node_names.specs.declared.task.Task.{Task}
use Rattle.node_names.specs.declared.task.Task.TheVariants.{Map, Reduce, Test}
use Rattle.replica_table.specs.Sets.{among}
use Rattle.schedule_text.specs.declared.schedule.Event.{Event}
use Rattle.run_model.specs.Acts.{act, act_on, last_act, lost, oldest_of, stuck}
use Rattle.run_model.specs.Advance.{is_decided}
use Rattle.run_model.specs.Lists.{IsIn, below, in_turn, number_of}
use Rattle.run_model.specs.Needs.{Input, View, busy_nodes, idle_nodes, inputs, is_up, missing, reduce_input, test_inputs, view_of}
use Rattle.run_model.specs.Plans.{BlockLost, NoNode, refuses}
use Rattle.run_model.specs.Sites.{favoured, favourite, held_of, holds_one, in_turn_of, kept_split, most, site, site_among}
use Rattle.run_model.specs.Start.{first_ready, goal_of, is_running, start, start_first, start_one, start_some, started}
use Rattle.run_model.specs.declared.attempt.Attempt.{Attempt}
use Rattle.run_model.specs.State.{Copy, PlainCluster, Setup}
use Rattle.run_model.specs.Tasks.{is_cached, is_task, last, last_outs, maker, source_numbers, spills, split, split_in, split_of, splits, tasks_until, test_count}
use Rattle.run_model.specs.Wanted.{Goal, IsWanted, asked_by, block_in, first_missing_block, goals, is_asked, is_empty, is_goal, least_name, lesser, listed, missing_at, missing_blocks, missing_of, missing_parts, ready, ready_at, unknown_tests, wanted}
use Rattle.run_laws.specs.Standing.{ActRefuses, IsRefused, NoStandstill, NoneReady}
use Rattle.run_laws.specs.Wanting.{SiteIsThere}
use Rattle.run_laws.proofs.Members.{all_fails, and_false, find_is, find_none, from_map, in_either, in_filter, in_flat, in_left, in_map, in_right, none_found, or_false}
use Rattle.run_laws.proofs.Orders.{all_earlier, goal_listed, missing_is, the_walk_is_right}
use Rattle.run_laws.proofs.Places.{site_in}
use Rattle.run_laws.proofs.Walks.{AsksEarlier}

-- ---- a node for each task

get_some : (k : ℕ) (ns : List ℕ) → k < length ns → (m : ℕ) × (slice_get ns k ≡ Some m)
get_some k [] l = absurd (omega arith)
get_some zero (n ∷ ns) l = (n, refl)
get_some (suc k) (n ∷ ns) l = get_some k ns (omega arith)

turn_some : (k n : ℕ) (ns : List ℕ) → (m : ℕ) × (in_turn k (n ∷ ns) ≡ Some m)
turn_some k n ns = get_some (k % length (n ∷ ns)) (n ∷ ns) (mod-lt k (omega arith))

turn_of_some : (k : ℕ) (holders : List ℕ) (n : ℕ) (ns : List ℕ) → (m : ℕ) × (in_turn_of k holders (n ∷ ns) ≡ Some m)
turn_of_some k [] n ns = turn_some k n ns
turn_of_some k (h ∷ holders) n ns = turn_some k h holders

most_found : (copies : List Copy) (names : List Name) (k : ℕ) (nodes : List ℕ) → most copies names nodes ≡ suc k → (m : ℕ) × (find (λ node. held_of copies names node == suc k) nodes ≡ Some m)
most_found copies names k [] e = absurd (omega arith)
most_found copies names k (n ∷ nodes) e = elim (held_of copies names n == suc k) as (λ v. (held_of copies names n == suc k) ≡ v → (m : ℕ) × (cond v (Some n) (find (λ node. held_of copies names node == suc k) nodes) ≡ Some m)) [
  | true ↦ λ t. (n, refl)
  | false ↦ λ t. let other = eqb-false (held_of copies names n) (suc k) t in most_found copies names k nodes (omega arith)
] refl

favourite_some : (copies : List Copy) (names : List Name) (p n : ℕ) (ns : List ℕ) (k : ℕ) → most copies names (n ∷ ns) ≡ k → (m : ℕ) × (favourite copies names p (n ∷ ns) k ≡ Some m)
favourite_some copies names p n ns zero e = turn_some p n ns
favourite_some copies names p n ns (suc k) e = most_found copies names k (n ∷ ns) e

site_some : (shape : Shape) (copies : List Copy) (t : Task) (n : ℕ) (ns : List ℕ) → (m : ℕ) × (site_among shape copies t (n ∷ ns) ≡ Some m)
site_some shape copies (Map i j s q) n ns = turn_of_some q (filter (holds_one copies (split shape i j s q ++ kept_split (source_at shape j s) q)) (n ∷ ns)) n ns
site_some shape copies (Reduce i j p) n ns = favourite_some copies (favoured shape (Reduce i j p)) p n ns (most copies (favoured shape (Reduce i j p)) (n ∷ ns)) refl
site_some shape copies (Test i p) n ns = favourite_some copies (favoured shape (Test i p)) p n ns (most copies (favoured shape (Test i p)) (n ∷ ns)) refl

-- where some node is up and idle, each task has a site
pub has_site : (view : View) (t : Task) (n : ℕ) (ns : List ℕ) → view.idle ≡ n ∷ ns → (m : ℕ) × (site view t ≡ Some m)
has_site view t n ns e = let s = site_some view.shape view.copies t n ns in (s.0, ap (site_among view.shape view.copies t) e ∙ s.1)

pub site_is_there : SiteIsThere
site_is_there view t = (λ none. empty view.idle refl none, λ e. none (site view t) refl e)
  where
    empty : (idle : List ℕ) → view.idle ≡ idle → site view t ≡ None → idle ≡ []
    empty [] e none = refl
    empty (n ∷ ns) e none = let m = has_site view t n ns e in absurd (some_none m.0 (sym m.1 ∙ none))
      where
        some_none : (m : ℕ) → Some m ≡ None → ⊥
        some_none m h = cc

    none : (o : Option ℕ) → site view t ≡ o → view.idle ≡ [] → o ≡ None
    none None e idle = refl
    none (Some m) e idle = elim (subst (IsIn m) idle (site_in view t m e)) [ ]

pub none_ready_idle : NoneReady
none_ready_idle setup c e = none_found (λ task. not (is_running c task) && ready (view_of setup c) task) (wanted (view_of setup c) (goal_of c)) (λ t.
    ap (λ o. not (is_running c t) && ready_at (view_of setup c) t o) ((site_is_there (view_of setup c) t).1 e) ∙ never (not (is_running c t)))
  where
    never : (v : Bool) → (v && false) ≡ false
    never true = refl
    never false = refl

-- ---- idle nodes

all_those : (test : ℕ → Bool) (ns : List ℕ) → ((n : ℕ) → test n ≡ true) → filter test ns ≡ ns
all_those test [] h = refl
all_those test (n ∷ ns) h = rw (h n, all_those test ns h) refl

idle_all : (setup : Setup) (c : PlainCluster) → 1 ≤ setup.schedule.slots → c.events ≡ [] → c.running ≡ [] → idle_nodes setup c ≡ c.up
idle_all setup c l e r = all_those (λ n. not (among n (busy_nodes c.events c.marked)) && nat_lt (number_of (λ (a : Attempt). n == a.node) c.running) setup.schedule.slots) c.up
    (λ n. free n c.events c.running e r)
  where
    free : (n : ℕ) (events : List Event) (running : List Attempt) → events ≡ [] → running ≡ [] → (not (among n (busy_nodes events c.marked)) && nat_lt (number_of (λ (a : Attempt). n == a.node) running) setup.schedule.slots) ≡ true
    free n [] [] e r = lt-ltb 0 setup.schedule.slots l
    free n (x ∷ events) running e r = cc
    free n [] (x ∷ running) e r = cc

-- ---- what is missing

some_missing : (names : List Name) → is_empty names ≡ false → (name : Name) × IsIn name names
some_missing [] e = absurd (unlike e)
  where
    unlike : true ≡ false → ⊥
    unlike h = cc
some_missing (name ∷ names) e = (name, inl refl)

not_ready : (view : View) (t : Task) (m : ℕ) → site view t ≡ Some m → ready view t ≡ false → (name : Name) × IsIn name (missing_of view t)
not_ready view t m e r = go (site view t) e r
  where
    go : (o : Option ℕ) → o ≡ Some m → ready_at view t o ≡ false → (name : Name) × IsIn name (missing_at view t o)
    go None e r = absurd (unlike e)
      where
        unlike : None ≡ Some m → ⊥
        unlike h = cc
    go (Some node) e r = some_missing (missing view node t) r

-- ---- what no task makes is a block

-- a file, and no cache
abbrev IsFile : Name → Type 0
IsFile (Blk t b) = Unit {0}
IsFile (Spill i j s q) = Unit {0}
IsFile (Out i j p) = Unit {0}
IsFile (Ric j s p) = ⊥
IsFile (Mic t b) = ⊥
IsFile (Roc i p) = ⊥

split_is_file : (shape : Shape) (i j : ℕ) (origin : Origin) (q : ℕ) → IsFile (split_of shape i j origin q)
split_is_file shape i j State q = elim (i == 1) as (λ v. IsFile (if v then Blk shape.start q else Out (i - 1) (last shape) q)) [ true ↦ tt | false ↦ tt ]
split_is_file shape i j Prev q = tt
split_is_file shape i j (Table t only) q = tt

split_file : (shape : Shape) (i j : ℕ) (o : Option Source) (q : ℕ) (name : Name) → IsIn name (split_in shape i j o q) → IsFile name
split_file shape i j None q name x = elim x [ ]
split_file shape i j (Some from) q name (inl e) = subst IsFile (sym e) (split_is_file shape i j from.from q)
split_file shape i j (Some from) q name (inr x) = elim x [ ]

spill_file : (shape : Shape) (i j s : ℕ) (name : Name) → IsIn name (spills shape i j s) → IsFile name
spill_file shape i j s name x = let m = from_map (Spill i j s) name (splits shape i j s) x in subst IsFile (sym m.2) tt

out_file : (shape : Shape) (i : ℕ) (name : Name) → IsIn name (last_outs shape i) → IsFile name
out_file shape i name x = let m = from_map (Out i (last shape)) name (below shape.parts) x in subst IsFile (sym m.2) tt

reduce_file : (shape : Shape) (i j p s : ℕ) (name : Name) (b : Bool) → IsIn name (reduce_input shape i j p s b).files → IsFile name
reduce_file shape i j p s name false x = spill_file shape i j s name x
reduce_file shape i j p s name true x = spill_file shape 1 j s name x

alone : (name other : Name) → IsFile other → IsIn name (other ∷ []) → IsFile name
alone name other f (inl e) = subst IsFile (sym e) f
alone name other f (inr x) = elim x [ ]

test_file : (shape : Shape) (i p : ℕ) (it : Input) (name : Name) (b : Bool) → IsIn it (test_inputs shape i p b) → IsIn name it.files → IsFile name
test_file shape i p it name true (inl e) x = alone name (Out i (last shape) p) tt (subst (λ (y : Input). IsIn name y.files) e x)
test_file shape i p it name true (inr (inl e)) x = alone name (Out (i - 1) (last shape) p) tt (subst (λ (y : Input). IsIn name y.files) e x)
test_file shape i p it name true (inr (inr y)) x = elim y [ ]
test_file shape i p it name false (inl e) x = elim (in_either name (last_outs shape i) (last_outs shape (i - 1)) (subst (λ (y : Input). IsIn name y.files) e x)) [
  | inl a ↦ out_file shape i name a
  | inr b ↦ out_file shape (i - 1) name b
]
test_file shape i p it name false (inr y) x = elim y [ ]

input_file : (shape : Shape) (t : Task) (it : Input) (name : Name) → IsIn it (inputs shape t) → IsIn name it.files → IsFile name
input_file shape (Map i j s q) it name (inl e) x = split_file shape i j (source_at shape j s) q name (subst (λ (y : Input). IsIn name y.files) e x)
input_file shape (Map i j s q) it name (inr y) x = elim y [ ]
input_file shape (Reduce i j p) it name y x =
    let m = from_map (λ s. reduce_input shape i j p s (is_cached (source_at shape j s))) it (source_numbers shape j) y in
    reduce_file shape i j p m.0 name (is_cached (source_at shape j m.0)) (subst (λ (z : Input). IsIn name z.files) m.2 x)
input_file shape (Test i p) it name y x = test_file shape i p it name shape.reducer_output y x

-- a file that is missing is a block, or asks for its maker
block_or_maker : (name : Name) → IsFile name → IsIn name (block_in name) ⊎ ((a : Task) × (maker name ≡ Some a))
block_or_maker (Blk t b) f = inl (inl refl)
block_or_maker (Spill i j s q) f = inr (Map i j s q, refl)
block_or_maker (Out i j p) f = inr (Reduce i j p, refl)
block_or_maker (Ric j s p) f = absurd f
block_or_maker (Mic t b) f = absurd f
block_or_maker (Roc i p) f = absurd f

in_maker : (a : Task) (o : Option Task) → o ≡ Some a → IsIn a (listed o)
in_maker a None e = absurd (unlike e)
  where
    unlike : None ≡ Some a → ⊥
    unlike h = cc
in_maker a (Some t) e = inl (same_task t a e)
  where
    same_task : (t a : Task) → Some t ≡ Some a → a ≡ t
    same_task t a e = cc

-- ---- from a wanted task to a block

module _ (view : View) (goal : Goal) (not_all_ready : (t : Task) → IsWanted view goal t → (name : Name) × IsIn name (missing_of view t) × IsFile name) (found : (t : Task) → IsWanted view goal t → IsIn t (wanted view goal)) where
  abbrev MissingBlock : Type 0
  MissingBlock = (name : Name) × IsIn name (missing_blocks view goal)

  -- what is missing of this task is a block, or leads to a task before it
  one_step : (Before : Task → Type 0) (t : Task) → ((a : Task) → IsIn a (asked_by view t) → Before a) → ((a : Task) → Before a → IsWanted view goal a → MissingBlock) → IsWanted view goal t → MissingBlock
  one_step Before t earlier so_far w =
      let m = not_all_ready t w in
      elim (block_or_maker m.0 m.2) [
        | inl b ↦ (m.0, in_flat (λ task. flat_map block_in (missing_of view task)) t m.0 (wanted view goal) (found t w) (in_flat block_in m.0 m.0 (missing_of view t) m.1 b))
        | inr a ↦
            let asked = in_flat (λ name. listed (maker name)) m.0 a.0 (missing_of view t) m.1 (in_maker a.0 (maker m.0) a.1) in
            so_far a.0 (earlier a.0 asked) (is_asked a.0 t w asked)
      ]

  from_task : (Before : Task → Type 0) (ts : List Task) → AsksEarlier view Before ts → ((a : Task) → Before a → IsWanted view goal a → MissingBlock) → (t : Task) → IsIn t ts → IsWanted view goal t → MissingBlock
  from_task Before [] earlier so_far t i w = elim i [ ]
  from_task Before (u ∷ ts) earlier so_far t (inl e) w = one_step Before t (subst (λ v. (a : Task) → IsIn a (asked_by view v) → Before a) (sym e) earlier.0) so_far w
  from_task Before (u ∷ ts) earlier so_far t (inr i) w =
      from_task (λ a. Before a ⊎ (a ≡ u)) ts earlier.1
      (λ a b. elim b [
        | inl before ↦ so_far a before
        | inr e ↦ one_step Before a (subst (λ v. (a : Task) → IsIn a (asked_by view v) → Before a) (sym e) earlier.0) so_far
      ])
      t i w

-- ---- a goal, where the round is not decided

a_goal : (setup : Setup) (c : PlainCluster) → is_decided setup c ≡ false → (t : Task) × IsIn t (goals (view_of setup c) (goal_of c))
a_goal setup c e = elim (and_false (list_all (is_up c.copies c.up) (last_outs setup.shape c.round)) (nat_lt c.round 2 || list_all (λ p. among p c.known) (below (test_count setup.shape))) e) [
  | inl a ↦
      let m = all_fails (is_up c.copies c.up) (last_outs setup.shape c.round) a in
      let p = from_map (Out c.round (last setup.shape)) m.0 (below setup.shape.parts) m.1 in
      let missing = in_filter (λ p. not (is_up c.copies c.up (Out c.round (last setup.shape) p))) p.0 (below setup.shape.parts) p.1 (ap not (ap (is_up c.copies c.up) (sym p.2) ∙ m.2)) in
      (Reduce c.round (last setup.shape) p.0, in_left _ (missing_parts (view_of setup c) c.round) (unknown_tests (view_of setup c) (goal_of c)) (in_map (Reduce c.round (last setup.shape)) p.0 _ missing))
  | inr b ↦
      let o = or_false (nat_lt c.round 2) (list_all (λ p. among p c.known) (below (test_count setup.shape))) b in
      let m = all_fails (λ p. among p c.known) (below (test_count setup.shape)) o.1 in
      let missing = in_filter (λ p. not (among p c.known)) m.0 (below (test_count setup.shape)) m.1 (ap not m.2) in
      (Test c.round m.0, in_right _ (missing_parts (view_of setup c) c.round) (unknown_tests (view_of setup c) (goal_of c)) (tests_there m.0 missing (le-leb 2 c.round (ltb-false c.round 2 o.0))))
]
  where
    tests_there : (p : ℕ) → IsIn p (filter (λ p. not (among p c.known)) (below (test_count setup.shape))) → nat_le 2 c.round ≡ true → IsIn (Test c.round p) (unknown_tests (view_of setup c) (goal_of c))
    tests_there p i e = rw e (in_map (Test c.round) p (filter (λ p. not (among p c.known)) (below (test_count setup.shape))) i)

-- ---- the law

a_least : (names : List Name) (name : Name) → IsIn name names → (b : Name) × (least_name names ≡ Some b)
a_least [] name i = elim i [ ]
a_least (a ∷ names) name i = (lesser a (least_name names), refl)

missing_file : (view : View) (t : Task) (name : Name) → IsIn name (missing_of view t) → IsFile name
missing_file view t name i = let k = missing_is view t name i in input_file view.shape t k.0 name k.1 k.2

not_running : (t : Task) (running : List Attempt) (b : Bool) → running ≡ [] → (not (list_any (λ (a : Attempt). is_task t a.task) running) && b) ≡ false → b ≡ false
not_running t [] b r e = e
not_running t (a ∷ running) b r e = cc

pub no_standstill : NoStandstill
no_standstill setup c fit slots l e r undecided none = go c.up refl
  where
    go : (up : List ℕ) → c.up ≡ up → (c.up ≡ []) ⊎ ((block : Name) × (first_missing_block (view_of setup c) (goal_of c) ≡ Some block))
    go [] is = inl is
    go (n ∷ up) is =
        let idle = idle_all setup c slots e r ∙ is in
        let right = the_walk_is_right (view_of setup c) (goal_of c) fit l in
        let g = a_goal setup c undecided in
        let w : IsWanted (view_of setup c) (goal_of c) g.0 = is_goal g.0 g.1 in
        let block = from_task (view_of setup c) (goal_of c)
        (λ t w. let s = has_site (view_of setup c) t n up idle in
        let m = not_ready (view_of setup c) t s.0 s.1 (not_running t c.running (ready (view_of setup c) t) r (find_none (λ task. not (is_running c task) && ready (view_of setup c) task) (wanted (view_of setup c) (goal_of c)) none t ((right t).wanted_is_found w))) in (m.0, m.1, missing_file (view_of setup c) t m.0 m.1))
        (λ t w. (right t).wanted_is_found w)
        (λ a. ⊥) (tasks_until setup.shape c.round) (all_earlier (view_of setup c) fit c.round) (λ a b. absurd b) g.0 (goal_listed (view_of setup c) fit (goal_of c) l g.0 g.1) w in
        let b = a_least (missing_blocks (view_of setup c) (goal_of c)) block.0 block.1 in
        inr (b.0, b.1)

-- ---- act, where start left nothing running

abbrev IsMore : List Attempt → Type 0
IsMore [] = ⊥
IsMore (a ∷ running) = Unit {0}

more_behind : (running : List Attempt) (a : Attempt) → IsMore (running ++ a ∷ [])
more_behind [] a = tt
more_behind (b ∷ running) a = tt

still_more : (running more : List Attempt) → IsMore running → IsMore (running ++ more)
still_more [] more i = absurd i
still_more (b ∷ running) more i = tt

started_more : (t : Task) (o : Option ℕ) (c : PlainCluster) → IsMore c.running → IsMore (started t o c).running
started_more t None c i = i
started_more t (Some node) c i = still_more c.running _ i

one_more : (setup : Setup) (c : PlainCluster) (o : Option Task) → IsMore c.running → IsMore (start_first setup c o).running
one_more setup c None i = i
one_more setup c (Some t) i = started_more t (site (view_of setup c) t) c i

all_more : (setup : Setup) (n : ℕ) (c : PlainCluster) → IsMore c.running → IsMore (start_some setup n c).running
all_more setup zero c i = i
all_more setup (suc n) c i = all_more setup n (start_one setup c) (one_more setup c (first_ready setup c) i)

-- where no task is ready, start changes nothing
nothing_starts : (setup : Setup) (n : ℕ) (c : PlainCluster) → first_ready setup c ≡ None → start_some setup n c ≡ c
nothing_starts setup zero c e = refl
nothing_starts setup (suc n) c e = ap (start_some setup n) (ap (start_first setup c) e) ∙ nothing_starts setup n c e

ready_starts : (view : View) (t : Task) (o : Option ℕ) (c : PlainCluster) → ready_at view t o ≡ true → IsMore (started t o c).running
ready_starts view t None c e = absurd (false≢true e)
ready_starts view t (Some node) c e = more_behind c.running _

-- where start leaves nothing running, no task was ready
none_ready : (setup : Setup) (n : ℕ) (c : PlainCluster) → (start_some setup (suc n) c).running ≡ [] → first_ready setup c ≡ None
none_ready setup n c e = go (first_ready setup c) refl
  where
    no_more : (running : List Attempt) → running ≡ [] → IsMore running → ⊥
    no_more [] r i = i
    no_more (a ∷ running) r i = cc

    and_right : (a b : Bool) → (a && b) ≡ true → b ≡ true
    and_right true b h = h
    and_right false b h = cc

    go : (o : Option Task) → first_ready setup c ≡ o → first_ready setup c ≡ None
    go None f = f
    go (Some t) f =
        let passes = (find_is (λ task. not (is_running c task) && ready (view_of setup c) task) (wanted (view_of setup c) (goal_of c)) t f).1 in
        let find = ready_starts (view_of setup c) t (site (view_of setup c) t) c (and_right (not (is_running c t)) (ready (view_of setup c) t) passes) in
        let more : IsMore (start_one setup c).running = subst (λ o. IsMore (start_first setup c o).running) (sym f) find in
        absurd (no_more (start_some setup (suc n) c).running e (all_more setup n (start_one setup c) more))

pub act_refuses : ActRefuses
act_refuses setup c fit slots nodes l e undecided r =
    let none = none_ready setup (setup.schedule.nodes * setup.schedule.slots - 1) c (subst (λ m. (start_some setup m c).running ≡ []) (count setup.schedule.nodes setup.schedule.slots nodes slots) r) in
    let same : start setup c ≡ c = nothing_starts setup (setup.schedule.nodes * setup.schedule.slots) c none in
    let running : c.running ≡ [] = subst (λ (d : PlainCluster). d.running ≡ []) same r in
    subst (λ d. IsRefused setup d) (sym same)
    (go running (no_standstill setup c fit slots l e running undecided none))
  where
    count : (a b : ℕ) → 1 ≤ a → 1 ≤ b → a * b ≡ suc (a * b - 1)
    count a b x y = let more : 1 ≤ a * b = one-le-mul x y in omega arith

    acts : c.running ≡ [] → act setup c ≡ stuck c c.up (first_missing_block (view_of setup c) (goal_of c))
    acts running = ap (λ events. act_on setup events c) e ∙ ap (last_act setup c) (ap (oldest_of c) running)

    found : (up : List ℕ) (o : Option Name) (block : Name) → o ≡ Some block → (stuck c up o ≡ refuses c NoNode) ⊎ ((block : Name) × (stuck c up o ≡ refuses c (BlockLost block)))
    found [] o block h = inl refl
    found (n ∷ up) o block h = inr (block, ap (stuck c (n ∷ up)) h)

    go : c.running ≡ [] → (c.up ≡ []) ⊎ ((block : Name) × (first_missing_block (view_of setup c) (goal_of c) ≡ Some block)) → (act setup c ≡ refuses c NoNode) ⊎ ((block : Name) × (act setup c ≡ refuses c (BlockLost block)))
    go running (inl none_up) = inl (acts running ∙ ap (λ up. stuck c up (first_missing_block (view_of setup c) (goal_of c))) none_up)
    go running (inr (block, h)) = elim (found c.up (first_missing_block (view_of setup c) (goal_of c)) block h) [
      | inl no_node ↦ inl (acts running ∙ no_node)
      | inr lost ↦ inr (lost.0, acts running ∙ lost.1)
    ]

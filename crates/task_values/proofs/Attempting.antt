-- Attempts that are done, and so far as they came.
use Rattle.std.proofs.Common.{◌≡◌, ◌⊎◌, inl, inr, ℕ, Bool, true, false, List, [], ◌∷◌, ◌++◌, refl, sym, ap, ◌∙◌, subst, map, Option, None, Some}
use Rattle.std.specs.Prelude.{nat_le}
use Rattle.std.specs.List.{AllByRecursion, flat_map}
use Rattle.std.proofs.lemmas.List.{append-nil, map-append}
use Rattle.plain_job.proofs.Lists.{all_both}
use Rattle.node_names.specs.declared.name.Name.{Name}
use Rattle.node_names.specs.declared.task.Task.{Task}
use Rattle.node_names.specs.declared.task.Task.TheVariants.{Map, Reduce, Test}
use Rattle.counter_report.specs.declared.journal.Entry.TheVariants.{Starve}
use Rattle.name_values.specs.Values.{World, value_of}
use Rattle.run_model.specs.Attempts.{block_kept, commit, committed, further_calls, further_nodes, made_by, output_kept, own_calls, own_writes, rebuilt, writes, writes_to, written}
use Rattle.run_model.specs.Lists.{IsIn}
use Rattle.run_model.specs.Needs.{Input, inputs}
use Rattle.run_model.specs.Plans.{Call, Leaves, Made, Plan, Read, Remove, Wipe, Write, asks, do_all, does, gives, refuses, ◌>>=◌}
use Rattle.run_model.specs.Reading.{ReadSoFar, Reading, Try, after_cache, after_read, after_tries, misses, nothing_read, own_try, read_files, read_first, read_input, read_inputs, read_need, reading, starved, strike, tries_for, unless_last, with_unread}
use Rattle.run_model.specs.declared.attempt.Attempt.{Attempt}
use Rattle.run_model.specs.State.{PlainCluster, Setup, noted}
use Rattle.run_model.specs.Tasks.{IsTask}
use Rattle.run_model.proofs.PlanSteps.{leaves_split}
use Rattle.task_values.specs.Attempts.{AttemptsAreRight, DoneIsRight, ReadingsAreRight, WritesAreRight, answered, answered_by, calls_of, names_of, setup_of}
use Rattle.task_values.specs.Reads.{Answer, AreOfValues, computed, part_in, tested}
use Rattle.task_values.specs.Sections.{IsPart}
use Rattle.task_values.specs.Tests.{test_of}
use Rattle.task_values.specs.Worlds.{WorldFits}
use Rattle.task_values.proofs.Mapping.{map_right}
use Rattle.task_values.proofs.Reading.{InputsRead, answered_both, gave_it, in_either, inputs_read}
use Rattle.task_values.proofs.Reducing.{reduce_right}
use Rattle.task_values.proofs.TestReads.{test_right}

-- ---- readings

writes_by : (w : World) → WorldFits w → (task : Task) → IsTask w.shape task → (answers : List Answer) (names unread : List Name) → AreOfValues w (part_in task) answers → names_of answers ≡ names → InputsRead (inputs w.shape task) names unread → (remote now : ℕ) (name : Name) → IsIn name (made_by task ++ rebuilt task unread ++ block_kept w.shape task remote ++ output_kept w.shape now task) → computed w.means w.shape task answers name ≡ value_of w name
writes_by w f (Map i j s q) t answers names unread v e h remote now name k =
    elim (in_either name (made_by (Map i j s q) ++ [] ++ block_kept w.shape (Map i j s q) remote) [] k) [
      | inl l ↦ map_right w i j s q t.5 answers names unread remote name v e h (in_either name (made_by (Map i j s q)) (block_kept w.shape (Map i j s q) remote) l)
      | inr l ↦ absurd l
    ]
writes_by w f (Reduce i j p) t answers names unread v e h remote now name k =
    let part : IsPart w i j p = record { round = t.0; first = t.1; last_step = t.2; part = t.3 } in
    let right = reduce_right w f i j p answers names unread v e h part now name in
    elim (in_either name (made_by (Reduce i j p) ++ unread ++ []) (output_kept w.shape now (Reduce i j p)) k) [
      | inl l ↦ elim (in_either name (made_by (Reduce i j p) ++ unread) [] l) [
        | inl n ↦ elim (in_either name (made_by (Reduce i j p)) unread n) [ inl o ↦ right (inl o) | inr o ↦ right (inr (inl o)) ]
        | inr n ↦ absurd n
      ]
      | inr l ↦ right (inr (inr l))
    ]
writes_by w f (Test i p) t answers names unread v e h remote now name k = absurd k

test_by : (w : World) (task : Task) (i p : ℕ) → task ≡ Test i p → IsTask w.shape task → (answers : List Answer) (names unread : List Name) → AreOfValues w (part_in task) answers → names_of answers ≡ names → InputsRead (inputs w.shape task) names unread → tested w.means i answers ≡ test_of w i p
test_by w task i p same t answers names unread v e h =
    let is : IsTask w.shape (Test i p) = subst (IsTask w.shape) same t in
    test_right w i p is.0 answers (subst (λ k. AreOfValues w (part_in k) answers) same v) names unread e (subst (λ k. InputsRead (inputs w.shape k) names unread) same h)

pub readings_right : ReadingsAreRight
readings_right w f schedule a t c r made h answers from =
    let e = from.names in
    let v = from.values in
    let all = inputs_read a.node (inputs w.shape a.task) (nothing_read c) r made h in
    let read : InputsRead (inputs w.shape a.task) (answered made) r.unread = subst (InputsRead (inputs w.shape a.task) (answered made)) (sym all.1) all.2 in
    record {
      writes = λ name k. writes_by w f a.task t answers (answered made) r.unread v e read r.remote r.cluster.round name k;
      test = λ i p same. test_by w a.task i p same t answers (answered made) r.unread v e read;
    }

-- ---- plans that only read

abbrev OnlyAsks : {A : Type 0} → Plan A → Type 0
OnlyAsks (gives a) = Unit {0}
OnlyAsks (refuses c why) = Unit {0}
OnlyAsks (does call plan) = ⊥
OnlyAsks (asks node name next) = (missed : Bool) → OnlyAsks (next missed)

asks_then : {A B : Type 0} (p : Plan A) (f : A → Plan B) → OnlyAsks p → ((a : A) → OnlyAsks (f a)) → OnlyAsks (p >>= f)
asks_then (gives a) f h k = k a
asks_then (refuses c why) f h k = tt
asks_then (does call plan) f h k = absurd h
asks_then (asks node name next) f h k = λ missed. asks_then (next missed) f (h missed) k

first_asks : (tries : List Try) (c : PlainCluster) → OnlyAsks (read_first tries c)
first_asks [] c = tt
first_asks (it ∷ tries) c = λ missed.
    elim missed as (λ b. OnlyAsks (after_read (read_first tries) it c b)) [
      | true ↦ elim (nat_le 1000 (misses (strike it c))) as (λ b. OnlyAsks (unless_last (read_first tries) (strike it c) b)) [ true ↦ tt | false ↦ first_asks tries (strike it c) ]
      | false ↦ tt
    ]

files_ask : (own : ℕ) (files : List Name) (so_far : ReadSoFar) → OnlyAsks (read_files own files so_far)
files_ask own [] so_far = tt
files_ask own (file ∷ files) (starved c) = tt
files_ask own (file ∷ files) (reading r) =
    asks_then (read_need own file r) (read_files own files)
    (asks_then (read_first (tries_for r.cluster own file) r.cluster) (λ tried. gives (after_tries own r tried.cluster tried.answered)) (first_asks (tries_for r.cluster own file) r.cluster) (λ t. tt))
    (files_ask own files)

input_asks : (own : ℕ) (cache : Option Name) (files : List Name) (r : Reading) → OnlyAsks (read_input own cache files r)
input_asks own None files r = files_ask own files (reading r)
input_asks own (Some cache) files r =
    asks_then (read_first (own_try r.cluster.copies own cache) r.cluster) (λ tried. after_cache own cache files r tried.cluster tried.answered) (first_asks (own_try r.cluster.copies own cache) r.cluster)
    (λ t. elim t.answered as (λ o. OnlyAsks (after_cache own cache files r t.cluster o)) [ None ↦ files_ask own files (reading (with_unread cache t.cluster r)) | Some it ↦ tt ])

inputs_ask : (own : ℕ) (its : List Input) (so_far : ReadSoFar) → OnlyAsks (read_inputs own its so_far)
inputs_ask own [] so_far = tt
inputs_ask own (it ∷ its) (starved c) = tt
inputs_ask own (it ∷ its) (reading r) = asks_then (read_input own it.cache it.files r) (read_inputs own its) (input_asks own it.cache it.files r) (inputs_ask own its)

no_writes : {A : Type 0} (plan : Plan A) (made : List Made) (b : A) (node : ℕ) (name : Name) → OnlyAsks plan → Leaves plan made (gives b) → IsIn (Write node name) (calls_of made) → ⊥
no_writes plan [] b node name o h k = k
no_writes (gives a) (m ∷ made) b node name o h k = h
no_writes (refuses c why) (m ∷ made) b node name o h k = h
no_writes (does call plan) (m ∷ made) b node name o h k = o
no_writes (asks on file next) (m ∷ made) b node name o h k =
    elim k [
      | inl e ↦ (let clash : Write node name ≡ Read on file = e ∙ h.0 in let never : ⊥ = cc in never)
      | inr l ↦ no_writes (next m.missed) made b node name (o m.missed) h.1 l
    ]

-- ---- writes

-- a call writes one of these names
abbrev WritesOf : List Name → Call → Type 0
WritesOf names (Wipe node) = ⊥
WritesOf names (Write node name) = IsIn name names
WritesOf names (Read node name) = ⊥
WritesOf names (Remove node name) = ⊥

all_made : {A : Type 0} (calls : List Call) (a b : A) (made : List Made) → Leaves (do_all calls (gives a)) made (gives b) → calls_of made ≡ calls
all_made [] a b made h = let g = gave_it a b made h in ap calls_of g.1
all_made {A = A} (call ∷ calls) a b [] h = let e : ◌≡◌ {A = Plan A} (does call (do_all calls (gives a))) (gives b) = h in let never : ⊥ = cc in absurd never
all_made (call ∷ calls) a b (m ∷ made) h = ap (λ x. x ∷ calls_of made) h.0 ∙ ap (λ xs. call ∷ xs) (all_made calls a b made h.1)

nothing_answered : (names : List Name) (made : List Made) → AllByRecursion (WritesOf names) (calls_of made) → answered made ≡ []
nothing_answered names [] a = refl
nothing_answered names (m ∷ made) a =
    let one : answered_by m.call m.missed ≡ [] = elim m.call as (λ call. WritesOf names call → answered_by call m.missed ≡ []) [ Wipe node ↦ λ k. absurd k | Write node name ↦ λ k. refl | Read node name ↦ λ k. absurd k | Remove node name ↦ λ k. absurd k ] a.0 in
    ap (λ xs. xs ++ answered made) one ∙ nothing_answered names made a.1

all_at : {A : Type 0} (P : A → Type 0) (x : A) (xs : List A) → AllByRecursion P xs → IsIn x xs → P x
all_at P x [] a k = absurd k
all_at P x (y ∷ xs) a k = elim k [ inl e ↦ subst P (sym e) a.0 | inr l ↦ all_at P x xs a.1 l ]

in_first : {A : Type 0} (x : A) (xs ys : List A) → IsIn x xs → IsIn x (xs ++ ys)
in_first x [] ys h = absurd h
in_first x (y ∷ xs) ys h = elim h [ inl e ↦ inl e | inr k ↦ inr (in_first x xs ys k) ]

own_are : (names : List Name) (node : ℕ) (some : List Name) → ((name : Name) → IsIn name some → IsIn name names) → AllByRecursion (WritesOf names) (map (Write node) some)
own_are names node [] h = tt
own_are names node (name ∷ some) h = (h name (inl refl), own_are names node some (λ n k. h n (inr k)))

one_further : (names : List Name) (name : Name) (nodes : List ℕ) → IsIn name names → AllByRecursion (WritesOf names) (map (λ n. Write n name) nodes)
one_further names name [] h = tt
one_further names name (n ∷ nodes) h = (h, one_further names name nodes h)

further_are : (names : List Name) (nodes : List ℕ) (some : List Name) → ((name : Name) → IsIn name some → IsIn name names) → AllByRecursion (WritesOf names) (flat_map (writes_to nodes) some)
further_are names nodes [] h = tt
further_are names nodes (name ∷ some) h = all_both (WritesOf names) (writes_to nodes name) (flat_map (writes_to nodes) some) (one_further names name nodes (h name (inl refl))) (further_are names nodes some (λ n k. h n (inr k)))

calls_are : (setup : Setup) (a : Attempt) (r : Reading) → AllByRecursion (WritesOf (own_writes setup a.task r)) (writes setup a r)
calls_are setup a r =
    let names : List Name = own_writes setup a.task r in
    let made : (name : Name) → IsIn name (made_by a.task) → IsIn name names =
    λ name k. in_first name (made_by a.task ++ rebuilt a.task r.unread ++ block_kept setup.shape a.task r.remote) (output_kept setup.shape r.cluster.round a.task)
    (in_first name (made_by a.task ++ rebuilt a.task r.unread) (block_kept setup.shape a.task r.remote) (in_first name (made_by a.task) (rebuilt a.task r.unread) k))
    in
    all_both (WritesOf names) (own_calls setup a r) (further_calls setup a r) (own_are names a.node names (λ name k. k))
    (further_are names (further_nodes setup a.task a.node r.cluster.up (written (own_calls setup a r) r.cluster.copies)) (made_by a.task) made)

-- the calls that were made so far are among those that were to be made
some_made : {A : Type 0} (P : Call → Type 0) (calls : List Call) (a : A) (made : List Made) (rest : Plan A) → AllByRecursion P calls → Leaves (do_all calls (gives a)) made rest → AllByRecursion P (calls_of made)
some_made P calls a [] rest all h = tt
some_made P [] a (m ∷ made) rest all h = absurd h
some_made P (call ∷ calls) a (m ∷ made) rest all h = (subst P (sym h.0) all.0, some_made P calls a made rest all.1 h.1)

-- a plan that only reads, and then another: nothing is written yet, or the first is done
abbrev NoWrites : List Made → Type 0
NoWrites made = (node : ℕ) (name : Name) → IsIn (Write node name) (calls_of made) → ⊥

record Begun {A B : Type 0} (p : Plan A) (f : A → Plan B) (made : List Made) (left : Plan B) : Type 0 where
  first : List Made
  given : A
  second : List Made
  both : made ≡ first ++ second
  begins : Leaves p first (gives given)
  goes_on : Leaves (f given) second left

not_first : (on : ℕ) (file : Name) (m : Made) (made : List Made) → m.call ≡ Read on file → NoWrites made → NoWrites (m ∷ made)
not_first on file m made e none node name k =
    elim k [
      | inl g ↦ (let clash : Write node name ≡ Read on file = g ∙ e in let never : ⊥ = cc in never)
      | inr l ↦ none node name l
    ]

read_or_begun : {A B : Type 0} (p : Plan A) (f : A → Plan B) (made : List Made) (left : Plan B) → OnlyAsks p → Leaves (p >>= f) made left → NoWrites made ⊎ Begun p f made left
read_or_begun (gives a) f made left o h = inr (record { first = []; given = a; second = made; both = refl; begins = refl; goes_on = h })
read_or_begun (refuses c why) f [] left o h = inl (λ node name k. k)
read_or_begun (refuses c why) f (m ∷ made) left o h = absurd h
read_or_begun (does call plan) f made left o h = absurd o
read_or_begun (asks on file next) f [] left o h = inl (λ node name k. k)
read_or_begun (asks on file next) f (m ∷ made) left o h =
    elim (read_or_begun (next m.missed) f made left (o m.missed) h.1) [
      | inl none ↦ inl (not_first on file m made h.0 none)
      | inr r ↦ inr (record { first = m ∷ r.first; given = r.given; second = r.second; both = ap (λ ms. m ∷ ms) r.both; begins = (h.0, r.begins); goes_on = r.goes_on })
    ]

-- what was written so far, once all reads are answered
written_so_far : (setup : Setup) (a : Attempt) (v : ReadSoFar) (later : List Made) (rest : Plan PlainCluster) → Leaves (commit setup a v) later rest → (NoWrites later) ⊎ ((r : Reading) × (v ≡ reading r) × AllByRecursion (WritesOf (own_writes setup a.task r)) (calls_of later))
written_so_far setup a (starved c) [] rest h = inl (λ node name k. k)
written_so_far setup a (starved c) (m ∷ later) rest h = absurd h
written_so_far setup a (reading r) later rest h =
    inr (r, refl, some_made (WritesOf (own_writes setup a.task r)) (writes setup a r) (committed a r (written (writes setup a r) r.cluster.copies)) later rest (calls_are setup a r) h)

pub writes_right : WritesAreRight
writes_right w f schedule a t c rest made h answers from node name g =
    let setup : Setup = setup_of w schedule in
    let reads : Plan ReadSoFar = read_inputs a.node (inputs w.shape a.task) (reading (nothing_read c)) in
    let asks : OnlyAsks reads = inputs_ask a.node (inputs w.shape a.task) (reading (nothing_read c)) in
    elim (read_or_begun reads (commit setup a) made rest asks h) [
      | inl none ↦ absurd (none node name g)
      | inr s ↦
          let calls : calls_of made ≡ calls_of s.first ++ calls_of s.second = ap calls_of s.both ∙ map-append (λ (m : Made). m.call) s.first s.second in
          let names : answered made ≡ answered s.first ++ answered s.second = ap answered s.both ∙ answered_both s.first s.second in
          elim (in_either (Write node name) (calls_of s.first) (calls_of s.second) (subst (IsIn (Write node name)) calls g)) [
            | inl x ↦ absurd (no_writes reads s.first s.given node name asks s.begins x)
            | inr x ↦ elim (written_so_far setup a s.given s.second rest s.goes_on) [
              | inl none ↦ absurd (none node name x)
              | inr k ↦
                  let read : answered made ≡ answered s.first = names ∙ ap (λ xs. answered s.first ++ xs) (nothing_answered (own_writes setup a.task k.0) s.second k.2) ∙ append-nil (answered s.first) in
                  let gave : Leaves reads s.first (gives (reading k.0)) = subst (λ x. Leaves reads s.first (gives x)) k.1 s.begins in
                  (readings_right w f schedule a t c k.0 s.first gave answers (record { names = from.names ∙ read; values = from.values })).writes name (all_at (WritesOf (own_writes setup a.task k.0)) (Write node name) (calls_of s.second) k.2 x)
            ]
          ]
    ]

-- ---- attempts

pub attempts_right : AttemptsAreRight
attempts_right w f schedule a t c after made h answers from =
    let setup : Setup = setup_of w schedule in
    let start : ReadSoFar = reading (nothing_read c) in
    let s = leaves_split (read_inputs a.node (inputs w.shape a.task) start) (commit setup a) made after h in
    let calls : calls_of made ≡ calls_of s.first ++ calls_of s.second = ap calls_of s.both ∙ map-append (λ (m : Made). m.call) s.first s.second in
    let names : answered made ≡ answered s.first ++ answered s.second = ap answered s.both ∙ answered_both s.first s.second in
    let none : (node : ℕ) (name : Name) → IsIn (Write node name) (calls_of s.first) → ⊥ =
    λ node name k. no_writes (read_inputs a.node (inputs w.shape a.task) start) s.first s.given node name (inputs_ask a.node (inputs w.shape a.task) start) s.begins k
    in
    elim s.given as (λ value. Leaves (read_inputs a.node (inputs w.shape a.task) start) s.first (gives value) → Leaves (commit setup a value) s.second (gives after) → DoneIsRight w a after made answers) [
      | reading r ↦ λ k l.
          let done : PlainCluster = committed a r (written (writes setup a r) r.cluster.copies) in
          let later : calls_of s.second ≡ writes setup a r = all_made (writes setup a r) done after s.second l in
          let all : AllByRecursion (WritesOf (own_writes setup a.task r)) (calls_of s.second) = subst (AllByRecursion (WritesOf (own_writes setup a.task r))) (sym later) (calls_are setup a r) in
          let read : answered made ≡ answered s.first = names ∙ ap (λ xs. answered s.first ++ xs) (nothing_answered (own_writes setup a.task r) s.second all) ∙ append-nil (answered s.first) in
          let right = readings_right w f schedule a t c r s.first k answers (record { names = from.names ∙ read; values = from.values }) in
          record {
            writes = λ node name g. elim (in_either (Write node name) (calls_of s.first) (calls_of s.second) (subst (IsIn (Write node name)) calls g)) [
              | inl x ↦ absurd (none node name x)
              | inr x ↦ right.writes name (all_at (WritesOf (own_writes setup a.task r)) (Write node name) (calls_of s.second) all x)
            ];
            test = λ i p same. inr (right.test i p same);
          }
      | starved d ↦ λ k l.
          let g = gave_it (noted (Starve a.task a.node ∷ []) d) after s.second l in
          record {
            writes = λ node name x. elim (in_either (Write node name) (calls_of s.first) (calls_of s.second) (subst (IsIn (Write node name)) calls x)) [
              | inl y ↦ absurd (none node name y)
              | inr y ↦ absurd (subst (λ ms. IsIn (Write node name) (calls_of ms)) g.1 y)
            ];
            test = λ i p same. inl (record { lines = d.journal; last = sym (ap (λ (x : PlainCluster). x.journal) g.0) });
          }
    ] s.begins s.goes_on

-- What was read, once all reads of an attempt are answered.
use Rattle.std.proofs.Common.{◌≡◌, ◌⊎◌, inl, inr, ℕ, Bool, true, false, cond, not, List, [], ◌∷◌, ◌++◌, refl, sym, ap, ◌∙◌, subst, map, Option, None, Some, ◌==◌}
use Rattle.std.specs.Prelude.{nat_le}
use Rattle.std.proofs.lemmas.List.{append-nil, append_assoc}
use Rattle.std.specs.List.{filter, flat_map}
use Rattle.node_names.specs.declared.name.Name.{Name}
use Rattle.replica_table.specs.Copies.{up_holders}
use Rattle.run_model.specs.Lists.{IsIn}
use Rattle.run_model.specs.Needs.{Input}
use Rattle.run_model.specs.Plans.{Leaves, Made, Plan, Read, Refusal, asks, gives, refuses}
use Rattle.run_model.specs.Reading.{Reading, Try, Tried, after_cache, after_read, after_tries, cache_of_block, counted, misses, other_tries, own_tries, own_try, read_files, read_first, read_input, read_inputs, read_need, reading, starved, strike, tries_for, try_at, unless_last, with_unread}
use Rattle.run_model.specs.State.{Copy, PlainCluster, holds}
use Rattle.run_model.proofs.PlanSteps.{leaves_split}
use Rattle.task_values.specs.Attempts.{answered, answered_by}

-- ---- plans that are done

module _ {A : Type 0} where
  pub gave_it : (a b : A) (made : List Made) → Leaves (gives a) made (gives b) → (a ≡ b) × (made ≡ [])
  gave_it a b [] h = let e : gives a ≡ gives b = h in let same : a ≡ b = cc in (same, refl)
  gave_it a b (m ∷ made) h = absurd h

  not_refused : (c : PlainCluster) (why : Refusal) (b : A) (made : List Made) → Leaves (refuses c why) made (gives b) → ⊥
  not_refused c why b [] h = let e : ◌≡◌ {A = Plan A} (refuses c why) (gives b) = h in let no : ⊥ = cc in no
  not_refused c why b (m ∷ made) h = h

pub answered_both : (first later : List Made) → answered (first ++ later) ≡ answered first ++ answered later
answered_both [] later = refl
answered_both (m ∷ first) later = ap (λ names. answered_by m.call m.missed ++ names) (answered_both first later) ∙ sym (append_assoc (answered_by m.call m.missed) (answered first) (answered later))

-- ---- one file after another is tried

abbrev pub ReadOf : List Try → Option Try → List Name → Type 0
ReadOf tries None names = names ≡ []
ReadOf tries (Some it) names = (names ≡ it.name ∷ []) × IsIn it tries

wider : (it : Try) (tries : List Try) (o : Option Try) (names : List Name) → ReadOf tries o names → ReadOf (it ∷ tries) o names
wider it tries None names h = h
wider it tries (Some other) names h = (h.0, inr h.1)

first_read : (tries : List Try) (c : PlainCluster) (made : List Made) (t : Tried) → Leaves (read_first tries c) made (gives t) → ReadOf tries t.answered (answered made)
first_read [] c made t h =
    let g = gave_it (record { cluster = c; answered = None }) t made h in
    let e : t.answered ≡ None = sym (ap (λ (u : Tried). u.answered) g.0) in
    rw (e, g.1) refl
first_read (it ∷ tries) c [] t h = let e : asks it.node it.name (after_read (read_first tries) it c) ≡ gives t = h in let no : ⊥ = cc in absurd no
first_read (it ∷ tries) c (m ∷ made) t h =
    let from : (b : Bool) → m.missed ≡ b → answered (m ∷ made) ≡ answered_by (Read it.node it.name) b ++ answered made =
    λ b e. ap (λ call. answered_by call m.missed ++ answered made) h.0 ∙ ap (λ b. answered_by (Read it.node it.name) b ++ answered made) e
    in
    elim m.missed as (λ b. m.missed ≡ b → Leaves (after_read (read_first tries) it c b) made (gives t) → ReadOf (it ∷ tries) t.answered (answered (m ∷ made))) [
      | true ↦ λ e k.
          elim (nat_le 1000 (misses (strike it c))) as (λ b. Leaves (unless_last (read_first tries) (strike it c) b) made (gives t) → ReadOf (it ∷ tries) t.answered (answered (m ∷ made))) [
            | true ↦ λ l. absurd (not_refused _ _ t made l)
            | false ↦ λ l. subst (λ names. ReadOf (it ∷ tries) t.answered names) (sym (from true e)) (wider it tries t.answered (answered made) (first_read tries (strike it c) made t l))
          ] k
      | false ↦ λ e k.
          let g = gave_it (record { cluster = c; answered = Some it }) t made k in
          let f : t.answered ≡ Some it = sym (ap (λ (u : Tried). u.answered) g.0) in
          subst (λ o. ReadOf (it ∷ tries) o (answered (m ∷ made))) (sym f) (from false e ∙ ap (λ ms. it.name ∷ answered ms) g.1, inl refl)
    ] refl h.1

-- ---- what is tried for a need

pub in_either : {A : Type 0} (x : A) (xs ys : List A) → IsIn x (xs ++ ys) → IsIn x xs ⊎ IsIn x ys
in_either x [] ys h = inr h
in_either x (y ∷ xs) ys h = elim h [ inl e ↦ inl (inl e) | inr k ↦ elim (in_either x xs ys k) [ inl l ↦ inl (inr l) | inr l ↦ inr l ] ]

own_try_is : (copies : List Copy) (own : ℕ) (name : Name) (it : Try) → IsIn it (own_try copies own name) → it.name ≡ name
own_try_is copies own name it h =
    elim (holds copies own name) as (λ b. IsIn it (cond b (try_at name own ∷ []) []) → it.name ≡ name) [
      | true ↦ λ k. elim k [ inl e ↦ ap (λ (t : Try). t.name) e | inr l ↦ absurd l ]
      | false ↦ λ k. absurd k
    ] h

own_tries_are : (copies : List Copy) (own : ℕ) (names : List Name) (it : Try) → IsIn it (flat_map (own_try copies own) names) → IsIn it.name names
own_tries_are copies own [] it h = h
own_tries_are copies own (name ∷ names) it h =
    elim (in_either it (own_try copies own name) (flat_map (own_try copies own) names) h) [ inl k ↦ inl (own_try_is copies own name it k) | inr k ↦ inr (own_tries_are copies own names it k) ]

others_are : (name : Name) (ns : List ℕ) (it : Try) → IsIn it (map (try_at name) ns) → it.name ≡ name
others_are name [] it h = absurd h
others_are name (n ∷ ns) it h = elim h [ inl e ↦ ap (λ (t : Try). t.name) e | inr k ↦ others_are name ns it k ]

-- the file, or of a block its cache
abbrev pub IsFor : Name → Name → Type 0
IsFor need got = IsIn got (need ∷ cache_of_block need)

tries_are : (c : PlainCluster) (own : ℕ) (name : Name) (it : Try) → IsIn it (tries_for c own name) → IsFor name it.name
tries_are c own name it h =
    elim (in_either it (own_tries c.copies own name) (other_tries c own name) h) [
      | inl k ↦ own_tries_are c.copies own (name ∷ cache_of_block name) it k
      | inr k ↦ inl (others_are name (filter (λ n. not (n == own)) (up_holders name c.up c.copies)) it k)
    ]

-- ---- files

-- these names were read for these files
abbrev pub FilesRead : List Name → List Name → Type 0
FilesRead [] [] = Unit {0}
FilesRead [] (name ∷ names) = ⊥
FilesRead (file ∷ files) [] = ⊥
FilesRead (file ∷ files) (name ∷ names) = IsFor file name × FilesRead files names

not_starved : (own : ℕ) (files : List Name) (c : PlainCluster) (r : Reading) (made : List Made) → Leaves (read_files own files (starved c)) made (gives (reading r)) → ⊥
not_starved own [] c r made h = let g = gave_it (starved c) (reading r) made h in let e : starved c ≡ reading r = g.0 in let no : ⊥ = cc in no
not_starved own (file ∷ files) c r made h = let g = gave_it (starved c) (reading r) made h in let e : starved c ≡ reading r = g.0 in let no : ⊥ = cc in no

-- a need was read
abbrev NeedRead : Name → Reading → Reading → List Name → Type 0
NeedRead file r r' names = (name : Name) × (names ≡ name ∷ []) × IsFor file name × (r'.unread ≡ r.unread)

need_read : (own : ℕ) (file : Name) (r r' : Reading) (made : List Made) → Leaves (read_need own file r) made (gives (reading r')) → NeedRead file r r' (answered made)
need_read own file r r' made h =
    let s = leaves_split (read_first (tries_for r.cluster own file) r.cluster) (λ tried. gives (after_tries own r tried.cluster tried.answered)) made (reading r') h in
    let g = gave_it (after_tries own r s.given.cluster s.given.answered) (reading r') s.second s.goes_on in
    let names : answered made ≡ answered s.first = ap answered s.both ∙ answered_both s.first s.second ∙ ap (λ ms. answered s.first ++ answered ms) g.1 ∙ append-nil (answered s.first) in
    elim s.given.answered as (λ o. ReadOf (tries_for r.cluster own file) o (answered s.first) → after_tries own r s.given.cluster o ≡ reading r' → NeedRead file r r' (answered made)) [
      | None ↦ λ k e. let no : ⊥ = cc in absurd no
      | Some it ↦ λ k e. (it.name, names ∙ k.0, tries_are r.cluster own file it k.1, (let same : counted own it s.given.cluster r ≡ r' = cc in sym (ap (λ (x : Reading). x.unread) same)))
    ] (first_read (tries_for r.cluster own file) r.cluster s.first s.given s.begins) g.0

files_read : (own : ℕ) (files : List Name) (r r' : Reading) (made : List Made) → Leaves (read_files own files (reading r)) made (gives (reading r')) → FilesRead files (answered made) × (r'.unread ≡ r.unread)
files_read own [] r r' made h =
    let g = gave_it (reading r) (reading r') made h in
    let same : r ≡ r' = (let e : reading r ≡ reading r' = g.0 in cc) in
    (subst (λ ms. FilesRead [] (answered ms)) (sym g.1) tt, sym (ap (λ (x : Reading). x.unread) same))
files_read own (file ∷ files) r r' made h =
    let s = leaves_split (read_need own file r) (read_files own files) made (reading r') h in
    let names : answered made ≡ answered s.first ++ answered s.second = ap answered s.both ∙ answered_both s.first s.second in
    elim s.given as (λ v. Leaves (read_need own file r) s.first (gives v) → Leaves (read_files own files v) s.second (gives (reading r')) → FilesRead (file ∷ files) (answered made) × (r'.unread ≡ r.unread)) [
      | reading r1 ↦ λ k l.
          let one = need_read own file r r1 s.first k in
          let more = files_read own files r1 r' s.second l in
          let all : one.0 ∷ answered s.second ≡ answered made = sym (names ∙ ap (λ xs. xs ++ answered s.second) one.1) in
          (subst (FilesRead (file ∷ files)) all (one.2, more.0), more.1 ∙ one.3)
      | starved c ↦ λ k l. absurd (not_starved own files c r' s.second l)
    ] s.begins s.goes_on

-- ---- inputs

abbrev pub ByCache : Option Name → List Name → List Name → Type 0
ByCache None names unread = ⊥
ByCache (Some cache) names unread = (names ≡ cache ∷ []) × (unread ≡ [])

abbrev pub in_list : Option Name → List Name
in_list None = []
in_list (Some cache) = cache ∷ []

-- these names were read for an input, and these caches were not
abbrev pub InputRead : Input → List Name → List Name → Type 0
InputRead it names unread = ByCache it.cache names unread ⊎ (FilesRead it.files names × (unread ≡ in_list it.cache))

pub record BothRead (it : Input) (More : List Name → List Name → Type 0) (names unread : List Name) : Type 0 where
  pub now : List Name
  pub later : List Name
  pub unread_now : List Name
  pub unread_later : List Name
  pub names_are : names ≡ now ++ later
  pub unread_are : unread ≡ unread_now ++ unread_later
  pub this : InputRead it now unread_now
  pub more : More later unread_later

-- these names were read for inputs, and these caches were not
abbrev pub InputsRead : List Input → List Name → List Name → Type 0
InputsRead [] names unread = (names ≡ []) × (unread ≡ [])
InputsRead (it ∷ its) names unread = BothRead it (InputsRead its) names unread

abbrev OneRead : Input → Reading → Reading → List Name → Type 0
OneRead it r r' names = (unread : List Name) × (r'.unread ≡ r.unread ++ unread) × InputRead it names unread

input_read : (own : ℕ) (cache : Option Name) (files : List Name) (r r' : Reading) (made : List Made) → Leaves (read_input own cache files r) made (gives (reading r')) → OneRead (record { cache = cache; files = files }) r r' (answered made)
input_read own None files r r' made h = let f = files_read own files r r' made h in ([], f.1 ∙ sym (append-nil r.unread), inr (f.0, refl))
input_read own (Some cache) files r r' made h =
    let s = leaves_split (read_first (own_try r.cluster.copies own cache) r.cluster) (λ tried. after_cache own cache files r tried.cluster tried.answered) made (reading r') h in
    let names : answered made ≡ answered s.first ++ answered s.second = ap answered s.both ∙ answered_both s.first s.second in
    elim s.given.answered as (λ o. ReadOf (own_try r.cluster.copies own cache) o (answered s.first) → Leaves (after_cache own cache files r s.given.cluster o) s.second (gives (reading r')) → OneRead (record { cache = Some cache; files = files }) r r' (answered made)) [
      | None ↦ λ k l.
          let f = files_read own files (with_unread cache s.given.cluster r) r' s.second l in
          let all : answered s.second ≡ answered made = sym (names ∙ ap (λ xs. xs ++ answered s.second) k) in
          (cache ∷ [], f.1, inr (subst (FilesRead files) all f.0, refl))
      | Some it ↦ λ k l.
          let g = gave_it (reading (counted own it s.given.cluster r)) (reading r') s.second l in
          let same : counted own it s.given.cluster r ≡ r' = (let e : reading (counted own it s.given.cluster r) ≡ reading r' = g.0 in cc) in
          let all : answered made ≡ cache ∷ [] =
          names ∙ ap (λ ms. answered s.first ++ answered ms) g.1 ∙ append-nil (answered s.first) ∙ k.0 ∙ ap (λ n. n ∷ []) (own_try_is r.cluster.copies own cache it k.1)
          in
          ([], sym (ap (λ (x : Reading). x.unread) same) ∙ sym (append-nil r.unread), inl (all, refl))
    ] (first_read (own_try r.cluster.copies own cache) r.cluster s.first s.given s.begins) s.goes_on

none_starved : (own : ℕ) (its : List Input) (c : PlainCluster) (r : Reading) (made : List Made) → Leaves (read_inputs own its (starved c)) made (gives (reading r)) → ⊥
none_starved own [] c r made h = let g = gave_it (starved c) (reading r) made h in let e : starved c ≡ reading r = g.0 in let no : ⊥ = cc in no
none_starved own (it ∷ its) c r made h = let g = gave_it (starved c) (reading r) made h in let e : starved c ≡ reading r = g.0 in let no : ⊥ = cc in no

abbrev pub AllRead : List Input → Reading → Reading → List Name → Type 0
AllRead its r r' names = (unread : List Name) × (r'.unread ≡ r.unread ++ unread) × InputsRead its names unread

pub inputs_read : (own : ℕ) (its : List Input) (r r' : Reading) (made : List Made) → Leaves (read_inputs own its (reading r)) made (gives (reading r')) → AllRead its r r' (answered made)
inputs_read own [] r r' made h =
    let g = gave_it (reading r) (reading r') made h in
    let same : r ≡ r' = (let e : reading r ≡ reading r' = g.0 in cc) in
    ([], sym (ap (λ (x : Reading). x.unread) same) ∙ sym (append-nil r.unread), (ap answered g.1, refl))
inputs_read own (it ∷ its) r r' made h =
    let s = leaves_split (read_input own it.cache it.files r) (read_inputs own its) made (reading r') h in
    elim s.given as (λ v. Leaves (read_input own it.cache it.files r) s.first (gives v) → Leaves (read_inputs own its v) s.second (gives (reading r')) → AllRead (it ∷ its) r r' (answered made)) [
      | reading r1 ↦ λ k l.
          let one = input_read own it.cache it.files r r1 s.first k in
          let more = inputs_read own its r1 r' s.second l in (
            one.0 ++ more.0,
            more.1 ∙ ap (λ xs. xs ++ more.0) one.1 ∙ append_assoc r.unread one.0 more.0,
            record {
              now = answered s.first;
              later = answered s.second;
              unread_now = one.0;
              unread_later = more.0;
              names_are = ap answered s.both ∙ answered_both s.first s.second;
              unread_are = refl;
              this = one.2;
              more = more.2;
            },
          )
      | starved c ↦ λ k l. absurd (none_starved own its c r' s.second l)
    ] s.begins s.goes_on

-- The entries of a table, and the copies that they are.
use Rattle.std.proofs.Common.{◌≡◌, ℕ, zero, suc, ◌<◌, ◌≤◌, ◌+◌, Bool, true, false, not, nat_lt, cond, ◌&&◌, ◌||◌, ◌==◌, List, [], ◌∷◌, ◌++◌, Some, map, length, slice_get, All, refl, sym, ap, ◌∙◌, subst, arith}
use Rattle.std.specs.List.{filter, list_any, AllByRecursion, IsDistinct}
use Rattle.std.specs.Map.{keys_of, lookup}
use Rattle.std.specs.Map.Calls.{RetainsPairs}
use Rattle.std.specs.Option.{option_map}
use Rattle.std.specs.declared.alloc.Global.{Global}
use Rattle.std.specs.declared.vec.Vec.{Vec}
use Rattle.std.proofs.lemmas.Bool.{eqb-true, eqb-false, ltb-true, ltb-false}
use Rattle.std.proofs.lemmas.List.{map-append}
use Rattle.std.proofs.lemmas.List.Elements.{All-nil, All-cons}
use Rattle.indexmap.specs.IndexMap.{insert_entry}
use Rattle.node_names.specs.declared.name.Name.{Name}
use Rattle.replica_table.specs.declared.copied.Copied.{Copied}
use Rattle.replica_table.specs.declared.file_on.FileOn.{FileOn}
use Rattle.replica_table.specs.Copies.{Copy, among_its_own, held, is_name, names_of, nodes_with, of_name, with_copy}
use Rattle.replica_table.specs.Listing.{file_on, files_of, those}
use Rattle.replica_table.specs.Sets.{Ascend, among}
use Rattle.replica_table.specs.steps.Entries.{Entries, IsListed, behind, copies_in, copy_of, files_in, files_on, found, items_of, listed, nodes_in, placed}
use Rattle.replica_table.proofs.Members.{ascend_from}
use Rattle.replica_table.proofs.Names.{itself, same_by}

-- ---- lists that are filtered

filter_append : {A : Type 0} (p : A → Bool) (xs ys : List A) → filter p (xs ++ ys) ≡ filter p xs ++ filter p ys
filter_append p [] ys = refl
filter_append p (x ∷ xs) ys = elim (p x) as (λ t. cond t (x ∷ filter p (xs ++ ys)) (filter p (xs ++ ys)) ≡ cond t (x ∷ filter p xs) (filter p xs) ++ filter p ys) [
  | true ↦ ap (λ zs. x ∷ zs) (filter_append p xs ys)
  | false ↦ filter_append p xs ys
]

filter_map_is : (p : Copy → Bool) (keep : Copied → Bool) (name : Name) → ((c : Copied) → p (copy_of name c) ≡ keep c) → (xs : List Copied) → filter p (map (copy_of name) xs) ≡ map (copy_of name) (filter keep xs)
filter_map_is p keep name h [] = refl
filter_map_is p keep name h (x ∷ xs) = rw (h x) (elim (keep x) as (λ t. cond t (copy_of name x ∷ filter p (map (copy_of name) xs)) (filter p (map (copy_of name) xs)) ≡ map (copy_of name) (cond t (x ∷ filter keep xs) (filter keep xs))) [
  | true ↦ ap (λ zs. copy_of name x ∷ zs) (filter_map_is p keep name h xs)
  | false ↦ filter_map_is p keep name h xs
])

no_items : {A : Type 0} (xs : List A) → nat_lt 0 (length xs) ≡ false → xs ≡ []
no_items [] e = refl
no_items (x ∷ xs) e = absurd (omega (arith, ltb-false 0 (length (x ∷ xs)) e))

-- ---- copies that are taken out

kept_ascend : (keep : Copied → Bool) (first end : ℕ) (cs : List Copied) → Ascend first end (nodes_in cs) → Ascend first end (nodes_in (filter keep cs))
kept_ascend keep first end [] a = tt
kept_ascend keep first end (c ∷ cs) a = elim (keep c) as (λ t. Ascend first end (nodes_in (cond t (c ∷ filter keep cs) (filter keep cs)))) [
  | true ↦ (a.0, a.1, kept_ascend keep (c.node + 1) end cs a.2)
  | false ↦ ascend_from (c.node + 1) first end (nodes_in (filter keep cs)) (omega (arith, a.0)) (kept_ascend keep (c.node + 1) end cs a.2)
]

-- what a pass over the entries leaves that takes some copies out
pub retained : {F : Type 0} (T : F → Name → Vec Copied Global → Bool → Vec Copied Global → F → Type 0) (nodes : ℕ) (p : Copy → Bool) (keep : Name → Copied → Bool) → ((name : Name) (c : Copied) → p (copy_of name c) ≡ keep name c)
    → (f : F) → ((name : Name) (v : Vec Copied Global) (b : Bool) (w : Vec Copied Global) (g : F) → T f name v b w g → (w.items ≡ filter (keep name) v.items) × (b ≡ nat_lt 0 (length w.items)) × (g ≡ f))
    → (es kept : Entries) → AllByRecursion (IsListed nodes) es → RetainsPairs T f es kept → (copies_in kept ≡ filter p (copies_in es)) × AllByRecursion (IsListed nodes) kept
retained T nodes p keep same f says [] kept a h = (ap copies_in h, subst (λ es. AllByRecursion (IsListed nodes) es) (sym h) tt)
retained T nodes p keep same f says (e ∷ es) kept a h =
    let s = says e.0 e.1 h.0 h.1 h.2 h.4 in
    let rest = retained T nodes p keep same f says es h.3 a.1 (subst (λ g. RetainsPairs T g es h.3) s.2 h.5) in
    let list : filter p (copies_in (e ∷ es)) ≡ map (copy_of e.0) h.1.items ++ copies_in h.3 =
    filter_append p (map (copy_of e.0) e.1.items) (copies_in es) ∙ ap (λ xs. xs ++ filter p (copies_in es)) (filter_map_is p (keep e.0) e.0 (same e.0) e.1.items ∙ ap (map (copy_of e.0)) (sym s.0)) ∙ ap (λ ys. map (copy_of e.0) h.1.items ++ ys) (sym rest.0) in
    elim (h.0) as (λ t. h.0 ≡ t → (copies_in kept ≡ filter p (copies_in (e ∷ es))) × AllByRecursion (IsListed nodes) kept) [
      | true ↦ λ t.
          let is : kept ≡ (e.0, h.1) ∷ h.3 = h.6 ∙ ap (λ b. cond b ((e.0, h.1) ∷ h.3) h.3) t in
          let left : IsListed nodes (e.0, h.1) = record {
            held = ltb-true 0 (length h.1.items) (sym s.1 ∙ t);
            ascending = subst (λ items. Ascend 0 nodes (nodes_in items)) (sym s.0) (kept_ascend (keep e.0) 0 nodes e.1.items a.0.ascending);
          } in
          (ap copies_in is ∙ sym list, subst (λ es. AllByRecursion (IsListed nodes) es) (sym is) (left, rest.1))
      | false ↦ λ t.
          let is : kept ≡ h.3 = h.6 ∙ ap (λ b. cond b ((e.0, h.1) ∷ h.3) h.3) t in
          let none : h.1.items ≡ [] = no_items h.1.items (sym s.1 ∙ t) in
          (ap copies_in is ∙ sym (list ∙ ap (λ xs. map (copy_of e.0) xs ++ copies_in h.3) none), subst (λ es. AllByRecursion (IsListed nodes) es) (sym is) rest.1)
    ] refl

-- ---- the copies of a name

-- an entry of another name has none
apart_is : (name : Name) (e : Name × Vec Copied Global) (es : Entries) → is_name name e.0 ≡ false → of_name name (copies_in (e ∷ es)) ≡ of_name name (copies_in es)
apart_is name e es t =
    filter_append (λ copy. is_name name copy.name) (map (copy_of e.0) e.1.items) (copies_in es)
    ∙ ap (λ xs. xs ++ of_name name (copies_in es)) (filter_map_is (λ copy. is_name name copy.name) (λ c. false) e.0 (λ c. t) e.1.items ∙ ap (map (copy_of e.0)) (none e.1.items))
  where
    none : (cs : List Copied) → filter (λ c. false) cs ≡ []
    none [] = refl
    none (c ∷ cs) = none cs

none_of_name : (name : Name) (es : Entries) → AllByRecursion (λ y. is_name name y ≡ false) (keys_of es) → of_name name (copies_in es) ≡ []
none_of_name name [] a = refl
none_of_name name (e ∷ es) a = apart_is name e es a.0 ∙ none_of_name name es a.1

-- an entry of the name has them all
own_are : (name : Name) (cs : List Copied) (rest : List Copy) → of_name name rest ≡ [] → of_name name (map (copy_of name) cs ++ rest) ≡ map (copy_of name) cs
own_are name [] rest h = h
own_are name (c ∷ cs) rest h = ap (λ t. cond t (copy_of name c ∷ of_name name (map (copy_of name) cs ++ rest)) (of_name name (map (copy_of name) cs ++ rest))) (itself name) ∙ ap (λ zs. copy_of name c ∷ zs) (own_are name cs rest h)

pub of_name_in : (name : Name) (es : Entries) → IsDistinct is_name (keys_of es) → of_name name (copies_in es) ≡ map (copy_of name) (listed name es)
unfolding IsDistinct
of_name_in name [] d = refl
of_name_in name (e ∷ es) d = elim (is_name name e.0) as (λ t. is_name name e.0 ≡ t → of_name name (copies_in (e ∷ es)) ≡ map (copy_of name) (items_of (cond t (Some e.1) (lookup (is_name name) es)))) [
  | true ↦ λ t.
      let same : name ≡ e.0 = same_by name e.0 t in
      let others : AllByRecursion (λ y. is_name name y ≡ false) (keys_of es) = subst (λ k. AllByRecursion (λ y. is_name k y ≡ false) (keys_of es)) (sym same) d.0 in
      subst (λ k. of_name name (map (copy_of k) e.1.items ++ copies_in es) ≡ map (copy_of name) e.1.items) same (own_are name e.1.items (copies_in es) (none_of_name name es others))
  | false ↦ λ t. apart_is name e es t ∙ of_name_in name es d.1
] refl

held_of_name : (name : Name) (node : ℕ) (cs : List Copy) → held name node cs ≡ held name node (of_name name cs)
held_of_name name node [] = refl
held_of_name name node (c ∷ cs) = elim (is_name name c.name) as (λ t. is_name name c.name ≡ t → cond (t && (node == c.node)) (Some c.kept) (held name node cs) ≡ held name node (cond t (c ∷ of_name name cs) (of_name name cs))) [
  | true ↦ λ e. ap (λ h. cond (node == c.node) (Some c.kept) h) (held_of_name name node cs) ∙ ap (λ b. cond (b && (node == c.node)) (Some c.kept) (held name node (of_name name cs))) (sym e)
  | false ↦ λ e. held_of_name name node cs
] refl

held_same : (name : Name) (node : ℕ) (cs : List Copied) → held name node (map (copy_of name) cs) ≡ found node cs
held_same name node [] = refl
held_same name node (c ∷ cs) = ap (λ b. cond (b && (node == c.node)) (Some c.digest) (held name node (map (copy_of name) cs))) (itself name) ∙ ap (λ h. cond (node == c.node) (Some c.digest) h) (held_same name node cs)

pub held_in : (name : Name) (node : ℕ) (es : Entries) → IsDistinct is_name (keys_of es) → held name node (copies_in es) ≡ found node (listed name es)
held_in name node es d = held_of_name name node (copies_in es) ∙ ap (held name node) (of_name_in name es d) ∙ held_same name node (listed name es)

nodes_same : (name : Name) (cs : List Copied) → map (λ (copy : Copy). copy.node) (map (copy_of name) cs) ≡ nodes_in cs
nodes_same name [] = refl
nodes_same name (c ∷ cs) = ap (λ ns. c.node ∷ ns) (nodes_same name cs)

pub nodes_with_in : (name : Name) (es : Entries) → IsDistinct is_name (keys_of es) → nodes_with name (copies_in es) ≡ nodes_in (listed name es)
nodes_with_in name es d = ap (map (λ (copy : Copy). copy.node)) (of_name_in name es d) ∙ nodes_same name (listed name es)

pub listed_ascend : (nodes : ℕ) (name : Name) (es : Entries) → AllByRecursion (IsListed nodes) es → Ascend 0 nodes (nodes_in (listed name es))
listed_ascend nodes name [] a = tt
listed_ascend nodes name (e ∷ es) a = elim (is_name name e.0) as (λ t. Ascend 0 nodes (nodes_in (items_of (cond t (Some e.1) (lookup (is_name name) es))))) [
  | true ↦ a.0.ascending
  | false ↦ listed_ascend nodes name es a.1
]

pub all_below : (first end : ℕ) (cs : List Copied) → Ascend first end (nodes_in cs) → All (λ (c : Copied). c.node < end) cs
all_below first end [] a = All-nil (λ (copied : Copied). copied.node < end)
all_below first end (c ∷ cs) a = All-cons (λ (copied : Copied). copied.node < end) c cs a.1 (all_below (c.node + 1) end cs a.2)

pub any_node : (q : ℕ) (cs : List Copied) → among q (nodes_in cs) ≡ list_any (λ (c : Copied). q == c.node) cs
any_node q [] = refl
any_node q (c ∷ cs) = ap (λ b. (q == c.node) || b) (any_node q cs)

-- ---- the names

pub other_names : (k : Name) (ns : List Name) → AllByRecursion (λ y. is_name k y ≡ false) ns → filter (λ name. not (is_name k name)) ns ≡ ns
other_names k [] a = refl
other_names k (n ∷ ns) a = ap (λ t. cond (not t) (n ∷ filter (λ name. not (is_name k name)) ns) (filter (λ name. not (is_name k name)) ns)) a.0 ∙ ap (λ names. n ∷ names) (other_names k ns a.1)

front_name : (k : Name) (cs : List Copied) (rest : List Copy) → AllByRecursion (λ y. is_name k y ≡ false) (names_of rest) → filter (λ name. not (is_name k name)) (names_of (map (copy_of k) cs ++ rest)) ≡ names_of rest
front_name k [] rest a = other_names k (names_of rest) a
front_name k (c ∷ cs) rest a =
    let others : List Name = filter (λ name. not (is_name k name)) (names_of (map (copy_of k) cs ++ rest)) in
    ap (λ t. cond (not t) (k ∷ filter (λ name. not (is_name k name)) others) (filter (λ name. not (is_name k name)) others)) (itself k)
    ∙ ap (filter (λ name. not (is_name k name))) (front_name k cs rest a)
    ∙ other_names k (names_of rest) a

first_name : (k : Name) (cs : List Copied) (rest : List Copy) → 0 < length cs → AllByRecursion (λ y. is_name k y ≡ false) (names_of rest) → names_of (map (copy_of k) cs ++ rest) ≡ k ∷ names_of rest
first_name k [] rest l a = absurd (omega (arith, l))
first_name k (c ∷ cs) rest l a = ap (λ ns. k ∷ ns) (front_name k cs rest a)

pub names_in : (nodes : ℕ) (es : Entries) → AllByRecursion (IsListed nodes) es → IsDistinct is_name (keys_of es) → names_of (copies_in es) ≡ keys_of es
unfolding IsDistinct
names_in nodes [] a d = refl
names_in nodes (e ∷ es) a d =
    let rest : names_of (copies_in es) ≡ keys_of es = names_in nodes es a.1 d.1 in
    first_name e.0 e.1.items (copies_in es) a.0.held (subst (λ ns. AllByRecursion (λ y. is_name e.0 y ≡ false) ns) (sym rest) d.0) ∙ ap (λ ns. e.0 ∷ ns) rest

pub key_at : (es : Entries) (i : ℕ) → slice_get (keys_of es) i ≡ option_map (λ (e : Name × Vec Copied Global). e.0) (slice_get es i)
key_at [] i = refl
key_at (e ∷ es) zero = refl
key_at (e ∷ es) (suc i) = key_at es i

pub keys_length : (es : Entries) → length (keys_of es) ≡ length es
keys_length [] = refl
keys_length (e ∷ es) = ap suc (keys_length es)

-- ---- one more copy

among_own : (name : Name) (new : Copied) (cs : List Copied) (rest : List Copy) → among_its_own (copy_of name new) rest ≡ copy_of name new ∷ rest → among_its_own (copy_of name new) (map (copy_of name) cs ++ rest) ≡ map (copy_of name) (placed new cs) ++ rest
among_own name new [] rest h = h
among_own name new (c ∷ cs) rest h =
    let front = copy_of name new in
    let others : List Copy = map (copy_of name) cs ++ rest in
    ap (λ b. cond (b && nat_lt c.node new.node) (copy_of name c ∷ among_its_own front others) (cond (b && (new.node == c.node)) (front ∷ others) (front ∷ copy_of name c ∷ others))) (itself name)
    ∙ (elim (nat_lt c.node new.node) as (λ t. cond t (copy_of name c ∷ among_its_own front others) (cond (new.node == c.node) (front ∷ others) (front ∷ copy_of name c ∷ others)) ≡ map (copy_of name) (cond t (c ∷ placed new cs) (new ∷ cond (new.node == c.node) cs (c ∷ cs))) ++ rest) [
      | true ↦ ap (λ l. copy_of name c ∷ l) (among_own name new cs rest h)
      | false ↦ elim (new.node == c.node) as (λ t. cond t (front ∷ others) (front ∷ copy_of name c ∷ others) ≡ map (copy_of name) (new ∷ cond t cs (c ∷ cs)) ++ rest) [
        | true ↦ refl
        | false ↦ refl
      ]
    ])

-- before copies of another name
before_apart : (name : Name) (new : Copied) (k : Name) (cs : List Copied) (rest : List Copy) → 0 < length cs → is_name name k ≡ false → among_its_own (copy_of name new) (map (copy_of k) cs ++ rest) ≡ copy_of name new ∷ (map (copy_of k) cs ++ rest)
before_apart name new k [] rest l e = absurd (omega (arith, l))
before_apart name new k (c ∷ cs) rest l e =
    let front = copy_of name new in
    let others : List Copy = map (copy_of k) cs ++ rest in
    ap (λ b. cond (b && nat_lt c.node new.node) (copy_of k c ∷ among_its_own front others) (cond (b && (new.node == c.node)) (front ∷ others) (front ∷ copy_of k c ∷ others))) e

before_others : (nodes : ℕ) (name : Name) (new : Copied) (es : Entries) → AllByRecursion (IsListed nodes) es → AllByRecursion (λ y. is_name name y ≡ false) (keys_of es) → among_its_own (copy_of name new) (copies_in es) ≡ copy_of name new ∷ copies_in es
before_others nodes name new [] a d = refl
before_others nodes name new (e ∷ es) a d = before_apart name new e.0 e.1.items (copies_in es) a.0.held d.0

own_with : (name : Name) (new : Copied) (cs : List Copied) (rest : List Copy) → 0 < length cs → with_copy (copy_of name new) (map (copy_of name) cs ++ rest) ≡ among_its_own (copy_of name new) (map (copy_of name) cs ++ rest)
own_with name new [] rest l = absurd (omega (arith, l))
own_with name new (c ∷ cs) rest l =
    let front = copy_of name new in
    let others : List Copy = map (copy_of name) cs ++ rest in
    ap (λ b. cond b (among_its_own front (copy_of name c ∷ others)) (copy_of name c ∷ with_copy front others)) (itself name)

apart_with : (name : Name) (new : Copied) (k : Name) (cs : List Copied) (rest : List Copy) → is_name name k ≡ false → with_copy (copy_of name new) (map (copy_of k) cs ++ rest) ≡ map (copy_of k) cs ++ with_copy (copy_of name new) rest
apart_with name new k [] rest e = refl
apart_with name new k (c ∷ cs) rest e =
    let front = copy_of name new in
    let others : List Copy = map (copy_of k) cs ++ rest in
    ap (λ b. cond b (among_its_own front (copy_of k c ∷ others)) (copy_of k c ∷ with_copy front others)) e ∙ ap (λ l. copy_of k c ∷ l) (apart_with name new k cs rest e)

-- a list in the place of that of its name, or last
pub with_copy_in : (nodes : ℕ) (name : Name) (new : Copied) (v : Vec Copied Global) (es : Entries) → AllByRecursion (IsListed nodes) es → IsDistinct is_name (keys_of es) → v.items ≡ placed new (listed name es) → copies_in (insert_entry is_name es name v) ≡ with_copy (copy_of name new) (copies_in es)
unfolding IsDistinct
with_copy_in nodes name new v [] a d h = ap (λ items. map (copy_of name) items ++ []) h
with_copy_in nodes name new v (e ∷ es) a d h = elim (is_name name e.0) as (λ t. is_name name e.0 ≡ t → v.items ≡ placed new (items_of (cond t (Some e.1) (lookup (is_name name) es))) → copies_in (cond t ((e.0, v) ∷ es) (e ∷ insert_entry is_name es name v)) ≡ with_copy (copy_of name new) (copies_in (e ∷ es))) [
  | true ↦ λ t h.
      let same : name ≡ e.0 = same_by name e.0 t in
      let others : AllByRecursion (λ y. is_name name y ≡ false) (keys_of es) = subst (λ k. AllByRecursion (λ y. is_name k y ≡ false) (keys_of es)) (sym same) d.0 in
      let here : map (copy_of name) v.items ++ copies_in es ≡ with_copy (copy_of name new) (map (copy_of name) e.1.items ++ copies_in es) =
      ap (λ items. map (copy_of name) items ++ copies_in es) h
      ∙ sym (among_own name new e.1.items (copies_in es) (before_others nodes name new es a.1 others))
      ∙ sym (own_with name new e.1.items (copies_in es) a.0.held) in
      subst (λ k. map (copy_of k) v.items ++ copies_in es ≡ with_copy (copy_of name new) (map (copy_of k) e.1.items ++ copies_in es)) same here
  | false ↦ λ t h. ap (λ l. map (copy_of e.0) e.1.items ++ l) (with_copy_in nodes name new v es a.1 d.1 h) ∙ sym (apart_with name new e.0 e.1.items (copies_in es) t)
] refl h

placed_ascend : (first end : ℕ) (new : Copied) (cs : List Copied) → first ≤ new.node → new.node < end → Ascend first end (nodes_in cs) → Ascend first end (nodes_in (placed new cs))
placed_ascend first end new [] l u a = (l, u, tt)
placed_ascend first end new (c ∷ cs) l u a = elim (nat_lt c.node new.node) as (λ t. nat_lt c.node new.node ≡ t → Ascend first end (nodes_in (cond t (c ∷ placed new cs) (new ∷ cond (new.node == c.node) cs (c ∷ cs))))) [
  | true ↦ λ e. (a.0, a.1, placed_ascend (c.node + 1) end new cs (omega (arith, ltb-true c.node new.node e)) u a.2)
  | false ↦ λ e. (
    l,
    u,
    elim (new.node == c.node) as (λ s. (new.node == c.node) ≡ s → Ascend (new.node + 1) end (nodes_in (cond s cs (c ∷ cs)))) [
      | true ↦ λ s. ascend_from (c.node + 1) (new.node + 1) end (nodes_in cs) (omega (arith, eqb-true new.node c.node s)) a.2
      | false ↦ λ s. (omega (arith, ltb-false c.node new.node e, eqb-false new.node c.node s), a.1, a.2)
    ] refl,
  )
] refl

placed_some : (new : Copied) (cs : List Copied) → 0 < length (placed new cs)
placed_some new [] = omega arith
placed_some new (c ∷ cs) = elim (nat_lt c.node new.node) as (λ t. 0 < length (cond t (c ∷ placed new cs) (new ∷ behind new.node (c ∷ cs)))) [
  | true ↦ omega arith
  | false ↦ omega arith
]

inserted : (nodes : ℕ) (name : Name) (v : Vec Copied Global) (es : Entries) → ((k : Name) → IsListed nodes (k, v)) → AllByRecursion (IsListed nodes) es → AllByRecursion (IsListed nodes) (insert_entry is_name es name v)
inserted nodes name v [] h a = (h name, tt)
inserted nodes name v (e ∷ es) h a = elim (is_name name e.0) as (λ t. AllByRecursion (IsListed nodes) (cond t ((e.0, v) ∷ es) (e ∷ insert_entry is_name es name v))) [
  | true ↦ (h e.0, a.1)
  | false ↦ (a.0, inserted nodes name v es h a.1)
]

pub with_list : (nodes : ℕ) (name : Name) (new : Copied) (v : Vec Copied Global) (es : Entries) → new.node < nodes → v.items ≡ placed new (listed name es) → AllByRecursion (IsListed nodes) es → AllByRecursion (IsListed nodes) (insert_entry is_name es name v)
with_list nodes name new v es l h a = inserted nodes name v es (λ k. record {
  held = subst (λ items. 0 < length items) (sym h) (placed_some new (listed name es));
  ascending = subst (λ items. Ascend 0 nodes (nodes_in items)) (sym h) (placed_ascend 0 nodes new (listed name es) (omega arith) l (listed_ascend nodes name es a));
}) a

-- ---- the files of copies

files_of_name : (name : Name) (test : Name → Bool) (nodes : List ℕ) (cs : List Copied) → files_of (those test nodes (map (copy_of name) cs)) ≡ cond (test name) (files_on name nodes cs) []
files_of_name name test nodes cs = ap files_of (filter_map_is (λ copy. test copy.name && among copy.node nodes) (λ c. test name && among c.node nodes) name (λ c. refl) cs) ∙ by_test (test name)
  where
    mapped : (xs : List Copied) → files_of (map (copy_of name) xs) ≡ map (λ (c : Copied). file_on name c.node) xs
    mapped [] = refl
    mapped (x ∷ xs) = ap (λ fs. file_on name x.node ∷ fs) (mapped xs)

    none : (xs : List Copied) → filter (λ c. false && among c.node nodes) xs ≡ []
    none [] = refl
    none (x ∷ xs) = none xs

    by_test : (b : Bool) → files_of (map (copy_of name) (filter (λ c. b && among c.node nodes) cs)) ≡ cond b (files_on name nodes cs) []
    by_test true = mapped (filter (λ c. among c.node nodes) cs)
    by_test false = ap (λ xs. files_of (map (copy_of name) xs)) (none cs)

pub files_in_are : (test : Name → Bool) (nodes : List ℕ) (es : Entries) → files_in test nodes es ≡ files_of (those test nodes (copies_in es))
files_in_are test nodes [] = refl
files_in_are test nodes (e ∷ es) =
    let more : List FileOn = files_in test nodes es in
    sym (
    ap files_of (filter_append (λ copy. test copy.name && among copy.node nodes) (map (copy_of e.0) e.1.items) (copies_in es))
    ∙ map-append (λ (copy : Copy). file_on copy.name copy.node) (those test nodes (map (copy_of e.0) e.1.items)) (those test nodes (copies_in es))
    ∙ ap (λ fs. fs ++ files_of (those test nodes (copies_in es))) (files_of_name e.0 test nodes e.1.items)
    ∙ ap (λ fs. cond (test e.0) (files_on e.0 nodes e.1.items) [] ++ fs) (sym (files_in_are test nodes es))
    ∙ by_test (test e.0) (files_on e.0 nodes e.1.items) more)
  where
    by_test : (b : Bool) (own more : List FileOn) → cond b own [] ++ more ≡ cond b (own ++ more) more
    by_test true own more = refl
    by_test false own more = refl

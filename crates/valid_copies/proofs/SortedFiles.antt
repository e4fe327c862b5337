-- Files of copies in order, sorted by name and then by node, are the copies by name.
use Rattle.std.proofs.Common.{◌≡◌, ℕ, ◌<◌, Bool, true, false, not, cond, nat_lt, ◌&&◌, ◌||◌, ◌==◌, List, [], ◌∷◌, ◌++◌, length, MatchBool, refl, sym, ap, ◌∙◌, subst, arith}
use Rattle.std.specs.List.{AllByRecursion, filter}
use Rattle.std.specs.Ordering.{is_gt, nat_cmp, ordering_then}
use Rattle.std.specs.declared.cmp.Ordering.{Ordering}
use Rattle.std.specs.declared.cmp.Ordering.TheVariants.{Less, Equal, Greater}
use Rattle.std.specs.Cmp.Lexicographic.{slice_cmp}
use Rattle.std.proofs.lemmas.Bool.{eqb-true, false≢true, lt-ltb}
use Rattle.hal_base.specs.Sorted.{placed, sorted}
use Rattle.hal_base.proofs.Sorts.{all_sorted}
use Rattle.hal_base.specs.declared.shape.Shape.{Shape}
use Rattle.node_names.specs.declared.name.Name.{Name}
use Rattle.node_names.specs.declared.name.Name.TheVariants.{Blk, Spill, Out, Ric, Mic, Roc}
use Rattle.replica_table.specs.Copies.{Copy, is_name}
use Rattle.replica_table.specs.FileLaws.{file_cmp_total}
use Rattle.replica_table.specs.FileOrder.{file_cmp, place_of}
use Rattle.replica_table.specs.Listing.{file_on, files_of, those}
use Rattle.replica_table.specs.Order.{AreInOrder, NoneOf}
use Rattle.replica_table.specs.Sets.{among}
use Rattle.replica_table.specs.declared.file_on.FileOn.{FileOn}
use Rattle.replica_table.proofs.Names.{itself, same_by}
use Rattle.run_model.specs.Removals.{comes_before, in_order, name_key, ordered}
use Rattle.run_model.specs.State.{bare, copy}
use Rattle.run_model.specs.State.{Copy as Bare}
use Rattle.valid_copies.specs.Removing.{as_copies, goes, left_over}

-- ---- two files

-- a file before another of its name, on a lower node
abbrev pub IsBefore : FileOn → FileOn → Type 0
IsBefore a b = is_name a.name b.name ≡ true → a.node < b.node

decided : (l e : Bool) (o : Ordering) (b : Bool) → (e ≡ true → is_gt o ≡ not b) → is_gt (ordering_then (cond l Less (cond e Equal Greater)) o) ≡ not (l || (e && b))
decided true e o b h = refl
decided false true o b h = h refl
decided false false o b h = refl

lower : (m n : ℕ) (o : Ordering) → m < n → is_gt (ordering_then (nat_cmp m n) o) ≡ false
lower m n o l = ap (λ t. is_gt (ordering_then (cond t Less (cond (m == n) Equal Greater)) o)) (lt-ltb m n l)

-- keys of one length, and more numbers behind them
keys_compared : (xs ys more others : List ℕ) → length xs ≡ length ys → (xs ≡ ys → is_gt (slice_cmp nat_cmp more others) ≡ false) → is_gt (slice_cmp nat_cmp (xs ++ more) (ys ++ others)) ≡ not (comes_before xs ys)
keys_compared [] [] more others e h = h refl
keys_compared [] (y ∷ ys) more others e h = cc
keys_compared (x ∷ xs) [] more others e h = cc
keys_compared (x ∷ xs) (y ∷ ys) more others e h =
    let long : length xs ≡ length ys = omega (arith, e) in
    decided (nat_lt x y) (x == y) (slice_cmp nat_cmp (xs ++ more) (ys ++ others)) (comes_before xs ys)
    (λ t. keys_compared xs ys more others long (λ s. h (ap (λ z. z ∷ xs) (eqb-true x y t) ∙ ap (λ zs. y ∷ zs) s)))

same_key : (a b : Name) → name_key a ≡ name_key b → a ≡ b
same_key (Blk _ _) (Blk _ _) e = cc
same_key (Spill _ _ _ _) (Spill _ _ _ _) e = cc
same_key (Out _ _ _) (Out _ _ _) e = cc
same_key (Ric _ _ _) (Ric _ _ _) e = cc
same_key (Mic _ _) (Mic _ _) e = cc
same_key (Roc _ _) (Roc _ _) e = cc
same_key a b e = cc

same_name : (a b : Name) → name_key a ≡ name_key b → is_name a b ≡ true
same_name a b e = subst (λ k. is_name a k ≡ true) (same_key a b e) (itself a)

-- of two files the first comes no later exactly where its name does
compared : (a b : Name) (m n : ℕ) → (is_name a b ≡ true → m < n) → is_gt (slice_cmp nat_cmp (place_of a m) (place_of b n)) ≡ not (comes_before (name_key a) (name_key b))
compared (Blk a b) (Blk p q) m n h = keys_compared (name_key (Blk a b)) (name_key (Blk p q)) (m ∷ 0 ∷ 0 ∷ []) (n ∷ 0 ∷ 0 ∷ []) refl (λ s. lower m n (slice_cmp nat_cmp (0 ∷ 0 ∷ []) (0 ∷ 0 ∷ [])) (h (same_name (Blk a b) (Blk p q) s)))
compared (Mic a b) (Mic p q) m n h = keys_compared (name_key (Mic a b)) (name_key (Mic p q)) (m ∷ 0 ∷ 0 ∷ []) (n ∷ 0 ∷ 0 ∷ []) refl (λ s. lower m n (slice_cmp nat_cmp (0 ∷ 0 ∷ []) (0 ∷ 0 ∷ [])) (h (same_name (Mic a b) (Mic p q) s)))
compared (Roc a b) (Roc p q) m n h = keys_compared (name_key (Roc a b)) (name_key (Roc p q)) (m ∷ 0 ∷ 0 ∷ []) (n ∷ 0 ∷ 0 ∷ []) refl (λ s. lower m n (slice_cmp nat_cmp (0 ∷ 0 ∷ []) (0 ∷ 0 ∷ [])) (h (same_name (Roc a b) (Roc p q) s)))
compared (Out a b c) (Out p q r) m n h = keys_compared (name_key (Out a b c)) (name_key (Out p q r)) (m ∷ 0 ∷ []) (n ∷ 0 ∷ []) refl (λ s. lower m n (slice_cmp nat_cmp (0 ∷ []) (0 ∷ [])) (h (same_name (Out a b c) (Out p q r) s)))
compared (Ric a b c) (Ric p q r) m n h = keys_compared (name_key (Ric a b c)) (name_key (Ric p q r)) (m ∷ 0 ∷ []) (n ∷ 0 ∷ []) refl (λ s. lower m n (slice_cmp nat_cmp (0 ∷ []) (0 ∷ [])) (h (same_name (Ric a b c) (Ric p q r) s)))
compared (Spill a b c d) (Spill p q r s) m n h = keys_compared (name_key (Spill a b c d)) (name_key (Spill p q r s)) (m ∷ []) (n ∷ []) refl (λ e. lower m n (slice_cmp nat_cmp [] []) (h (same_name (Spill a b c d) (Spill p q r s) e)))
compared a b m n h = refl

-- ---- files in order

before_placed : (x : FileOn) (ys : List FileOn) → AllByRecursion (IsBefore x) ys → as_copies (placed file_cmp x ys) ≡ in_order (copy x.name x.node) (as_copies ys)
before_placed x [] a = refl
before_placed x (y ∷ ys) a =
    ap (λ t. as_copies (cond t (y ∷ placed file_cmp x ys) (x ∷ y ∷ ys))) (compared x.name y.name x.node y.node a.0)
    ∙ elim (comes_before (name_key x.name) (name_key y.name)) as (λ t. as_copies (cond (not t) (y ∷ placed file_cmp x ys) (x ∷ y ∷ ys)) ≡ cond t (copy x.name x.node ∷ copy y.name y.node ∷ as_copies ys) (copy y.name y.node ∷ in_order (copy x.name x.node) (as_copies ys))) [
      | true ↦ refl
      | false ↦ ap (λ its. copy y.name y.node ∷ its) (before_placed x ys a.1)
    ]

-- of two files of one name the later one is on a higher node
abbrev pub Rise : List FileOn → Type 0
Rise [] = Unit {0}
Rise (x ∷ xs) = AllByRecursion (IsBefore x) xs × Rise xs

pub sorted_are : (xs : List FileOn) → Rise xs → as_copies (sorted file_cmp xs) ≡ ordered (as_copies xs)
sorted_are [] r = refl
sorted_are (x ∷ xs) r = before_placed x (sorted file_cmp xs) (all_sorted file_cmp_total (IsBefore x) xs r.0) ∙ ap (in_order (copy x.name x.node)) (sorted_are xs r.1)

-- ---- files of copies in order

abbrev file_of : Copy → FileOn
file_of c = file_on c.name c.node

below_both : (c d : Copy) (ds : List Copy) → c.name ≡ d.name → c.node < d.node → AllByRecursion (λ (e : Copy). IsBefore (file_of d) (file_of e)) ds → AllByRecursion (λ (e : Copy). IsBefore (file_of c) (file_of e)) ds
below_both c d [] same l a = tt
below_both c d (e ∷ ds) same l a = (λ t. let m : d.node < e.node = a.0 (subst (λ k. is_name k e.name ≡ true) same t) in omega arith, below_both c d ds same l a.1)

none_before : (c : Copy) (ds : List Copy) → NoneOf c.name ds → AllByRecursion (λ (e : Copy). IsBefore (file_of c) (file_of e)) ds
none_before c [] n = tt
none_before c (e ∷ ds) n = (λ t. absurd (false≢true (sym n.0 ∙ t)), none_before c ds n.1)

all_before : (nodes : ℕ) (c : Copy) (ds : List Copy) → AreInOrder nodes (c ∷ ds) → AllByRecursion (λ (e : Copy). IsBefore (file_of c) (file_of e)) ds
all_before nodes c [] o = tt
all_before nodes c (d ∷ ds) o = elim (is_name c.name d.name) as (λ t. is_name c.name d.name ≡ t → MatchBool t (c.node < d.node) (NoneOf c.name ds) → AllByRecursion (λ (e : Copy). IsBefore (file_of c) (file_of e)) (d ∷ ds)) [
  | true ↦ λ t l. (λ same. l, below_both c d ds (same_by c.name d.name t) l (all_before nodes d ds o.2))
  | false ↦ λ t none. (λ same. absurd (false≢true (sym t ∙ same)), none_before c ds none)
] refl o.1

rise_filtered : (p : Copy → Bool) (c : Copy) (ds : List Copy) → AllByRecursion (λ (e : Copy). IsBefore (file_of c) (file_of e)) ds → AllByRecursion (IsBefore (file_of c)) (files_of (filter p ds))
rise_filtered p c [] a = tt
rise_filtered p c (d ∷ ds) a = elim (p d) as (λ t. AllByRecursion (IsBefore (file_of c)) (files_of (cond t (d ∷ filter p ds) (filter p ds)))) [
  | true ↦ (a.0, rise_filtered p c ds a.1)
  | false ↦ rise_filtered p c ds a.1
]

rise : (nodes : ℕ) (p : Copy → Bool) (copies : List Copy) → AreInOrder nodes copies → Rise (files_of (filter p copies))
rise nodes p [] o = tt
rise nodes p (c ∷ copies) o = elim (p c) as (λ t. Rise (files_of (cond t (c ∷ filter p copies) (filter p copies)))) [
  | true ↦ (rise_filtered p c copies (all_before nodes c copies o), rise nodes p copies o.2)
  | false ↦ rise nodes p copies o.2
]

those_are : (test : Name → Bool) (on : List ℕ) (copies : List Copy) → as_copies (files_of (those test on copies)) ≡ filter (λ (it : Bare). test it.name && among it.node on) (bare copies)
those_are test on [] = refl
those_are test on (c ∷ copies) = elim (test c.name && among c.node on) as (λ t. as_copies (files_of (cond t (c ∷ those test on copies) (those test on copies))) ≡ cond t (copy c.name c.node ∷ filter (λ (it : Bare). test it.name && among it.node on) (bare copies)) (filter (λ (it : Bare). test it.name && among it.node on) (bare copies))) [
  | true ↦ ap (λ its. copy c.name c.node ∷ its) (those_are test on copies)
  | false ↦ those_are test on copies
]

-- the files on some nodes of the names that do not stay, sorted, are what is cleared
pub cleared_are : (shape : Shape) (keep round : ℕ) (on : List ℕ) (nodes : ℕ) (copies : List Copy) → AreInOrder nodes copies → as_copies (sorted file_cmp (files_of (those (goes shape keep round) on copies))) ≡ ordered (left_over shape keep round on copies)
cleared_are shape keep round on nodes copies o =
    sorted_are (files_of (those (goes shape keep round) on copies)) (rise nodes (λ c. goes shape keep round c.name && among c.node on) copies o)
    ∙ ap ordered (those_are (goes shape keep round) on copies)

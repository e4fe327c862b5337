-- What calls leave of the files of other nodes.
use Rattle.std.proofs.Common.{◌≡◌, ℕ, Bool, true, false, ◌||◌, ◌==◌, cond, List, [], ◌∷◌, Option, None, Some, IsSome, Result, Ok, Err, OnOk, OnErr, refl, sym, ap, ◌∙◌}
use Rattle.std.specs.Ordering.{nat_cmp, is_eq}
use Rattle.std.specs.declared.cmp.Ordering.{Ordering}
use Rattle.std.specs.declared.cmp.Ordering.TheVariants.{Less, Equal, Greater}
use Rattle.std.specs.Cmp.Lexicographic.{slice_cmp}
use Rattle.std.proofs.lemmas.Bool.{eq-eqb, false≢true}
use Rattle.std.proofs.lemmas.Map.Lookups.{exact_bytes}
use Rattle.node_names.specs.declared.name.Name.{Name}
use Rattle.hal_outside.proofs.DiskMaps.{get_after, is_file}
use Rattle.hal_outside.specs.DiskCalls.{Remove, Write}
use Rattle.hal_outside.specs.DiskFiles.{DiskMap, file_at, file_key, with_file, without_file}
use Rattle.hal_outside.specs.DiskTold.{DiskTold, Done, NotDone}
use Rattle.hal_outside.specs.Told.{OnTold}
use Rattle.replica_table.specs.Sets.{among}
use Rattle.valid_copies.specs.Stands.{OthersStay}

-- ---- nodes

or_false : (a b : Bool) → (a || b) ≡ false → (a ≡ false) × (b ≡ false)
or_false true b e = cc
or_false false b e = (refl, e)

-- a node that is none of these is not the first, and none of the others
pub none_of : (n m : ℕ) (nodes : List ℕ) → among n (m ∷ nodes) ≡ false → ((n == m) ≡ false) × (among n nodes ≡ false)
none_of n m nodes e = or_false (n == m) (among n nodes) e

-- ---- one call

equal_is : (o : Ordering) → is_eq o ≡ true → o ≡ Equal
equal_is Less e = cc
equal_is Equal e = refl
equal_is Greater e = cc

same_node : (m n : ℕ) (a b : Name) → file_key m a ≡ file_key n b → m ≡ n
same_node m n a b e = cc

-- files of two nodes are two
two_files : (m n : ℕ) (a b : Name) → (m == n) ≡ false → is_file n b (file_key m a) ≡ false
two_files m n a b e = elim (is_file n b (file_key m a)) as (λ t. is_file n b (file_key m a) ≡ t → t ≡ false) [
  | true ↦ λ t.
      let key : file_key m a ≡ file_key n b = exact_bytes (file_key m a) (file_key n b) (equal_is (slice_cmp nat_cmp (file_key m a) (file_key n b)) t) in
      absurd (false≢true (sym e ∙ eq-eqb m n (same_node m n a b key)))
  | false ↦ λ t. refl
] refl

other_written : (files : DiskMap) (m n : ℕ) (a b : Name) (bytes : List ℕ) → (m == n) ≡ false → file_at (with_file files n b bytes) m a ≡ file_at files m a
other_written files m n a b bytes e = get_after (Write n b bytes) files (file_key m a) ∙ ap (λ t. cond t (Some bytes) (file_at files m a)) (two_files m n a b e)

other_removed : (files : DiskMap) (m n : ℕ) (a b : Name) → (m == n) ≡ false → file_at (without_file files n b) m a ≡ file_at files m a
other_removed files m n a b e = get_after (Remove n b) files (file_key m a) ∙ ap (λ t. cond t None (file_at files m a)) (two_files m n a b e)

-- where it is told
pub on_told : {A : Type 0} (R S : A → A → Type 0) (old new : Option A) → ((t u : A) → R t u → S t u) → OnTold R old new → OnTold S old new
on_told R S None new f o = o
on_told R S (Some t) None f o = o
on_told R S (Some t) (Some u) f o = f t u o

-- after a write or a removal, done or not
pub others_by_write : {A B : Type 0} (result : Result A B) (old new : Option DiskTold) (node : ℕ) (name : Name) (bytes : List ℕ)
    → OnOk result (OnTold (Done (Write node name bytes)) old new) → OnErr result (OnTold (NotDone (Write node name bytes)) old new) → OnTold (OthersStay (node ∷ [])) old new
others_by_write (Ok a) old new node name bytes o f = on_told (Done (Write node name bytes)) (OthersStay (node ∷ [])) old new
    (λ t u r n b e. ap (λ files. file_at files n b) r.put ∙ other_written t.put n node b name bytes (none_of n node [] e).0) o
others_by_write (Err b) old new node name bytes o f = on_told (NotDone (Write node name bytes)) (OthersStay (node ∷ [])) old new
    (λ t u r n b e. sym (other_removed u.put n node b name (none_of n node [] e).0) ∙ ap (λ files. file_at files n b) r.others ∙ other_removed t.put n node b name (none_of n node [] e).0) f

pub others_by_removal : {A B : Type 0} (result : Result A B) (old new : Option DiskTold) (node : ℕ) (name : Name)
    → OnOk result (OnTold (Done (Remove node name)) old new) → OnErr result (OnTold (NotDone (Remove node name)) old new) → OnTold (OthersStay (node ∷ [])) old new
others_by_removal (Ok a) old new node name o f = on_told (Done (Remove node name)) (OthersStay (node ∷ [])) old new
    (λ t u r n b e. ap (λ files. file_at files n b) r.put ∙ other_removed t.put n node b name (none_of n node [] e).0) o
others_by_removal (Err b) old new node name o f = on_told (NotDone (Remove node name)) (OthersStay (node ∷ [])) old new
    (λ t u r n b e. sym (other_removed u.put n node b name (none_of n node [] e).0) ∙ ap (λ files. file_at files n b) r.others ∙ other_removed t.put n node b name (none_of n node [] e).0) f

-- ---- calls one after another

pub others_none : (nodes : List ℕ) (told : Option DiskTold) → OnTold (OthersStay nodes) told told
others_none nodes None = refl
others_none nodes (Some t) = λ n b e. refl

-- what some calls and then more leave of the files of all nodes but these
pub others_more : (some more nodes : List ℕ) (before between after : Option DiskTold) → ((n : ℕ) → among n nodes ≡ false → (among n some ≡ false) × (among n more ≡ false))
    → OnTold (OthersStay some) before between → OnTold (OthersStay more) between after → OnTold (OthersStay nodes) before after
others_more some more nodes None None after apart a b = b
others_more some more nodes None (Some m) after apart a b = cc
others_more some more nodes (Some t) None after apart a b = absurd a
others_more some more nodes (Some t) (Some m) None apart a b = absurd b
others_more some more nodes (Some t) (Some m) (Some u) apart a b = λ n name e. b n name (apart n e).1 ∙ a n name (apart n e).0

-- disks that tell go on telling
pub tells_on : {A : Type 0} (R : A → A → Type 0) (old new : Option A) → OnTold R old new → IsSome old → IsSome new
tells_on R None new o s = cc
tells_on R (Some t) None o s = absurd o
tells_on R (Some t) (Some u) o s = s

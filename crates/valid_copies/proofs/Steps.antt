-- The steps that keep copies valid.
use Rattle.std.proofs.Common.{◌≡◌, ℕ, Bool, true, false, not, cond, nat_eq, inl, inr, List, Option, None, Some, IfSome, IsSome, Result, Ok, Err, IfOk, OnOk, OnErr, option_map, unwrap_or, refl, sym, ap, ◌∙◌, subst}
use Rattle.std.specs.List.{AllByRecursion}
use Rattle.std.specs.Ordering.{nat_cmp, eq_by_cmp, is_eq}
use Rattle.std.specs.declared.cmp.Ordering.{Ordering}
use Rattle.std.specs.declared.cmp.Ordering.TheVariants.{Less, Equal, Greater}
use Rattle.std.specs.Cmp.{eq_by_cmp_equiv}
use Rattle.std.specs.Cmp.Lexicographic.{slice_cmp}
use Rattle.std.specs.FinMap as fmap
use Rattle.std.proofs.lemmas.Cmp.{nat_list_cmp_total}
use Rattle.std.proofs.lemmas.Map.Lookups.{exact_bytes}
use Rattle.node_names.specs.declared.name.Name.{Name}
use Rattle.node_names.specs.declared.name.Name.TheVariants.{Blk, Spill, Out, Ric, Mic, Roc}
use Rattle.node_names.specs.declared.digest.Digest.{Digest}
use Rattle.node_names.specs.declared.name.NameKind.{NameKind}
use Rattle.node_names.specs.declared.name.NameKind.TheVariants as kind
use Rattle.node_names.specs.Names.{kind_of}
use Rattle.hal_base.specs.declared.fields.Schema.{Schema}
use Rattle.hal_base.specs.declared.record.Record.{Record}
use Rattle.plain_job.proofs.Lists.{all_weaker}
use Rattle.hal_outside.specs.Damage.{ShowsAt, ShowsDamage}
use Rattle.hal_outside.specs.DiskCalls.{Wipe, Write}
use Rattle.hal_outside.specs.DiskFiles.{DiskMap, file_at, file_key, is_on, with_file, without_node}
use Rattle.hal_outside.specs.DiskTold.{DiskTold, Done, NotRead}
use Rattle.hal_outside.specs.Told.{OnTold}
use Rattle.node_files.specs.declared.fault.Fault.{Fault}
use Rattle.node_files.specs.declared.files.FileRef.{FileRef}
use Rattle.node_files.specs.declared.files.Fetched.{Fetched}
use Rattle.node_files.specs.declared.files.Fetched.TheVariants.{Bytes, Missed}
use Rattle.node_files.specs.KeptFiles.{HasDigest, IsFetched, IsFound}
use Rattle.replica_table.specs.Copies.{Copy, but_file, but_node, held, is_at, with_copy}
use Rattle.valid_copies.specs.Stands.{IsText, IsValid, Stands, WasPut, copy_of_bytes}
use Rattle.valid_copies.specs.Readings.{HasText, IsTextOf, IsTextOfHeld, IsTextOfRows, OfSchema}
use Rattle.valid_copies.specs.Texts.{held_text, rows_text, schema_of, text_of}
use Rattle.name_values.specs.Values.{Held, Parts, Rows, World, value_of}
use Rattle.valid_copies.proofs.Copies.{all_kept, all_with_copy, held_has}
use Rattle.sha2.specs.Sha256.{sha256}

-- ---- where it is told

pub carried : (R : DiskTold → DiskTold → Type 0) (P Q : DiskTold → Type 0) (old new : Option DiskTold) → OnTold R old new → ((t u : DiskTold) → R t u → P t → Q u) → IfSome old P → IfSome new Q
carried R P Q None new o f p = subst (λ told. IfSome told Q) (sym o) tt
carried R P Q (Some t) None o f p = absurd o
carried R P Q (Some t) (Some u) o f p = f t u o p

in_told : (P Q : DiskTold → Type 0) (told : Option DiskTold) → ((t : DiskTold) → P t → Q t) → IfSome told P → IfSome told Q
in_told P Q None f p = tt
in_told P Q (Some t) f p = f t p

-- ---- files

-- no two files have one key
same_file : (m n : ℕ) (a b : Name) → file_key m a ≡ file_key n b → a ≡ b
same_file m n (Blk _ _) (Blk _ _) e = cc
same_file m n (Spill _ _ _ _) (Spill _ _ _ _) e = cc
same_file m n (Out _ _ _) (Out _ _ _) e = cc
same_file m n (Ric _ _ _) (Ric _ _ _) e = cc
same_file m n (Mic _ _) (Mic _ _) e = cc
same_file m n (Roc _ _) (Roc _ _) e = cc
same_file m n a b e = cc

equal_is : (o : Ordering) → is_eq o ≡ true → o ≡ Equal
equal_is Less e = cc
equal_is Equal e = refl
equal_is Greater e = cc

-- whether two files are one
abbrev same_key : ℕ → Name → ℕ → Name → Bool
same_key m a n b = eq_by_cmp (slice_cmp nat_cmp) (file_key m a) (file_key n b)

-- a file after a write
at_written : (files : DiskMap) (m n : ℕ) (a b : Name) (bytes : List ℕ) (t : Bool) → same_key m a n b ≡ t → file_at (with_file files n b bytes) m a ≡ cond t (Some bytes) (file_at files m a)
at_written files m n a b bytes t e = fmap.get-insert nat_list_cmp_total files (file_key n b) bytes (file_key m a) ∙ rw e refl

written_put : (w : World) (files : DiskMap) (n : ℕ) (b : Name) (bytes : List ℕ) (copy : Copy) → text_of w b ≡ Some bytes → file_at files copy.node copy.name ≡ text_of w copy.name → file_at (with_file files n b bytes) copy.node copy.name ≡ text_of w copy.name
written_put w files n b bytes copy is p = elim (same_key copy.node copy.name n b) as (λ t. same_key copy.node copy.name n b ≡ t → file_at (with_file files n b bytes) copy.node copy.name ≡ text_of w copy.name) [
  | true ↦ λ e.
      let key : file_key copy.node copy.name ≡ file_key n b = exact_bytes (file_key copy.node copy.name) (file_key n b) (equal_is (slice_cmp nat_cmp (file_key copy.node copy.name) (file_key n b)) e) in
      let one : copy.name ≡ b = same_file copy.node n copy.name b key in
      at_written files copy.node n copy.name b bytes true e ∙ sym is ∙ ap (text_of w) (sym one)
  | false ↦ λ e. at_written files copy.node n copy.name b bytes false e ∙ p
] refl

written_new : (w : World) (files : DiskMap) (n : ℕ) (b : Name) (bytes : List ℕ) → text_of w b ≡ Some bytes → file_at (with_file files n b bytes) n b ≡ text_of w b
written_new w files n b bytes is = at_written files n n b b bytes true ((eq_by_cmp_equiv nat_list_cmp_total).refl (file_key n b)) ∙ sym is

-- a file after its node, or another, was wiped
after_wipe : (files : DiskMap) (node m : ℕ) (b : Name) → file_at (without_node files node) m b ≡ cond (not (nat_eq node m)) (file_at files m b) None
after_wipe files node m b = fmap.get-retain_keys files (λ k. not (is_on node k)) (file_key m b) (λ x e. ap (λ k. not (is_on node k)) (sym (exact_bytes (file_key m b) x e)))

-- ---- texts

rows_are : (k : NameKind) (schema : Schema) (bytes : List ℕ) (rows : List Record) → IsTextOfRows k schema bytes rows → rows_text k schema rows ≡ bytes
rows_are kind.Blk schema bytes rows is = sym is.text
rows_are kind.Spill schema bytes rows is = absurd is
rows_are kind.Out schema bytes rows is = sym is.text
rows_are kind.Ric schema bytes rows is = sym is.text
rows_are kind.Mic schema bytes rows is = sym is.text
rows_are kind.Roc schema bytes rows is = sym is.text

held_is : (k : NameKind) (bytes : List ℕ) (held : Held) (schema : Option Schema) → OfSchema (IsTextOfHeld k bytes held) schema → option_map (held_text k held) schema ≡ Some bytes
held_is k bytes held None is = absurd is
held_is k bytes (Rows rows) (Some schema) is = ap (λ b. Some b) (rows_are k schema bytes rows is)
held_is k bytes (Parts parts) (Some schema) is = ap (λ b. Some b) (sym is.text)

-- the text of a name is the one that its value has
pub text_is : (w : World) (name : Name) (bytes : List ℕ) → IsTextOf w.shape name bytes (value_of w name) → text_of w name ≡ Some bytes
text_is w name bytes is = held_is (kind_of name) bytes (value_of w name) (schema_of w.shape name) is

-- ---- the steps

put_stands : (w : World) (copies : List Copy) (old new : Option DiskTold) (node : ℕ) (name : Name) (bytes : List ℕ) → OnTold (Done (Write node name bytes)) old new → IsTextOf w.shape name bytes (value_of w name) → Stands w copies old → Stands w (with_copy (copy_of_bytes name node bytes) copies) new
put_stands w copies old new node name bytes o text s = let is : text_of w name ≡ Some bytes = text_is w name bytes text in record {
  spelled = all_with_copy (λ (copy : Copy). HasText w copy.name) (copy_of_bytes name node bytes) copies (record { bytes = bytes; is = text }) s.spelled;
  valid = all_with_copy (IsValid w) (copy_of_bytes name node bytes) copies (ap (option_map sha256) is) s.valid;
  put = carried (Done (Write node name bytes)) (λ t. AllByRecursion (WasPut w t) copies) (λ u. AllByRecursion (WasPut w u) (with_copy (copy_of_bytes name node bytes) copies)) old new o
      (λ t u r p. all_with_copy (WasPut w u) (copy_of_bytes name node bytes) copies
      (ap (λ files. file_at files node name) r.put ∙ written_new w t.put node name bytes is)
      (all_weaker (WasPut w t) (WasPut w u) copies (λ c q. ap (λ files. file_at files c.node c.name) r.put ∙ written_put w t.put node name bytes c is q) p)) s.put;
}

pub any_put : (result : Result FileRef Fault) (old new : Option DiskTold) (node : ℕ) (name : Name) (bytes : List ℕ) → OnOk result (OnTold (Done (Write node name bytes)) old new) → OnOk result ((w : World) (copies : List Copy) → IsTextOf w.shape name bytes (value_of w name) → Stands w copies old → Stands w (with_copy (copy_of_bytes name node bytes) copies) new)
any_put (Ok file) old new node name bytes o = λ w copies is s. put_stands w copies old new node name bytes o is s
any_put (Err fault) old new node name bytes o = tt

pub strike_stands : (w : World) (copies : List Copy) (told : Option DiskTold) (name : Name) (node : ℕ) → Stands w copies told → Stands w (but_file name node copies) told
strike_stands w copies told name node s = record {
  spelled = all_kept (λ (c : Copy). HasText w c.name) (λ (c : Copy). HasText w c.name) (λ c. not (is_at name node c)) copies (λ c e q. q) s.spelled;
  valid = all_kept (IsValid w) (IsValid w) (λ c. not (is_at name node c)) copies (λ c e q. q) s.valid;
  put = in_told (λ t. AllByRecursion (WasPut w t) copies) (λ t. AllByRecursion (WasPut w t) (but_file name node copies)) told (λ t p. all_kept (WasPut w t) (WasPut w t) (λ c. not (is_at name node c)) copies (λ c e q. q) p) s.put;
}

pub wipe_stands : (w : World) (copies : List Copy) (old new : Option DiskTold) (node : ℕ) → OnTold (Done (Wipe node)) old new → Stands w copies old → Stands w (but_node node copies) new
wipe_stands w copies old new node o s = record {
  spelled = all_kept (λ (c : Copy). HasText w c.name) (λ (c : Copy). HasText w c.name) (λ c. not (nat_eq node c.node)) copies (λ c e q. q) s.spelled;
  valid = all_kept (IsValid w) (IsValid w) (λ c. not (nat_eq node c.node)) copies (λ c e q. q) s.valid;
  put = carried (Done (Wipe node)) (λ t. AllByRecursion (WasPut w t) copies) (λ u. AllByRecursion (WasPut w u) (but_node node copies)) old new o
      (λ t u r p. all_kept (WasPut w t) (WasPut w u) (λ c. not (nat_eq node c.node)) copies
      (λ c e q. ap (λ files. file_at files c.node c.name) r.put ∙ after_wipe t.put node c.node c.name ∙ ap (λ b. cond b (file_at t.put c.node c.name) None) e ∙ q) p) s.put;
}

-- what puts nothing keeps the copies valid
read_stands : (w : World) (copies : List Copy) (R : DiskTold → DiskTold → Type 0) (old new : Option DiskTold) → ((t u : DiskTold) → R t u → u.put ≡ t.put) → OnTold R old new → Stands w copies old → Stands w copies new
read_stands w copies R old new same o s = record {
  spelled = s.spelled;
  valid = s.valid;
  put = carried R (λ t. AllByRecursion (WasPut w t) copies) (λ u. AllByRecursion (WasPut w u) copies) old new o (λ t u r p. all_weaker (WasPut w t) (WasPut w u) copies (λ c q. ap (λ files. file_at files c.node c.name) (same t u r) ∙ q) p) s.put;
}

fetched_put : (file : FileRef) (found : Fetched) (t u : DiskTold) → IsFetched file found t u → u.put ≡ t.put
fetched_put file (Bytes b) t u r = r.put
fetched_put file Missed t u r = elim r [ inl a ↦ a.put | inr a ↦ a.put ]

-- after a read that was answered or failed
pub any_read : (w : World) (copies : List Copy) (file : FileRef) (result : Result Fetched Fault) (old new : Option DiskTold) (missed : Type 0) → IfOk result (λ found. OnTold (IsFetched file found) old new) → OnErr result (OnTold (NotRead file.node file.name file.digest.0 missed) old new) → Stands w copies old → Stands w copies new
any_read w copies file (Ok found) old new missed a b s = read_stands w copies (IsFetched file found) old new (fetched_put file found) a s
any_read w copies file (Err fault) old new missed a b s = read_stands w copies (NotRead file.node file.name file.digest.0 missed) old new (λ t u r. r.put) b s

-- ---- the text that comes

-- bytes with the digest of what was put are what was put, where damage shows
shown : (put bytes : List ℕ) → ShowsAt put (Some bytes) → sha256 bytes ≡ sha256 put → bytes ≡ put
shown put bytes s d = elim s [ inl same ↦ same | inr other ↦ absurd (other d) ]

found_text : (text : Option (List ℕ)) (digest bytes : List ℕ) (put now : Option (List ℕ)) → option_map sha256 text ≡ Some digest → put ≡ text → ((b : List ℕ) → put ≡ Some b → ShowsAt b now) → now ≡ Some bytes → sha256 bytes ≡ digest → text ≡ Some bytes
found_text None digest bytes put now v p s e k = cc
found_text (Some text) digest bytes put now v p s e k =
    let same : sha256 text ≡ digest = ap (λ o. unwrap_or o digest) v in
    ap (λ b. Some b) (sym (shown text bytes (subst (ShowsAt text) e (s text p)) (k ∙ sym same)))

-- what comes of a valid copy from disks that show their damage is its text
fetched_text : (w : World) (copies : List Copy) (file : FileRef) (found : Fetched) (old new : Option DiskTold) → IfSome new ShowsDamage → OnTold (IsFetched file found) old new → IfSome new (λ u. IsFound (file_at u.now file.node file.name) file.digest.0 found) → HasDigest file.digest.0 found → Stands w copies old → IsSome old → held file.name file.node copies ≡ Some file.digest → IsText (text_of w file.name) found
fetched_text w copies file Missed old new shows o a k s told h = tt
fetched_text w copies file (Bytes b) None new shows o a k s told h = cc
fetched_text w copies file (Bytes b) (Some t) None shows o a k s told h = absurd o
fetched_text w copies file (Bytes b) (Some t) (Some u) shows o a k s told h =
    let valid : option_map sha256 (text_of w file.name) ≡ Some file.digest.0 = held_has (λ name node (digest : Digest). option_map sha256 (text_of w name) ≡ Some digest.0) copies file.name file.node file.digest s.valid h in
    let put : file_at t.put file.node file.name ≡ text_of w file.name = held_has (λ name node digest. file_at t.put node name ≡ text_of w name) copies file.name file.node file.digest s.put h in
    let there : file_at u.put file.node file.name ≡ text_of w file.name = ap (λ files. file_at files file.node file.name) o.put ∙ put in
    found_text (text_of w file.name) file.digest.0 b.items (file_at u.put file.node file.name) (file_at u.now file.node file.name) valid there (λ bytes e. shows.each file.node file.name bytes e) a k

pub any_text : (file : FileRef) (result : Result Fetched Fault) (old new : Option DiskTold) → IfSome new ShowsDamage → IfOk result (λ found. OnTold (IsFetched file found) old new) → IfOk result (λ found. IfSome new (λ u. IsFound (file_at u.now file.node file.name) file.digest.0 found)) → IfOk result (HasDigest file.digest.0)
    → IfOk result (λ found. (w : World) (copies : List Copy) → Stands w copies old → IsSome old → held file.name file.node copies ≡ Some file.digest → IsText (text_of w file.name) found)
any_text file (Ok found) old new shows o a k = λ w copies s told h. fetched_text w copies file found old new shows o a k s told h
any_text file (Err fault) old new shows o a k = tt

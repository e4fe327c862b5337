-- The decoders read exactly the texts.
use Rattle.std.proofs.Common.{◌≡◌, ℕ, zero, suc, ◌<◌, ◌≤◌, ◌^◌, Bool, ◌&&◌, true, false, nat_eq, nat_lt, nat_le, eq-eqb, if◌then◌else◌, get_or, List, [], ◌∷◌, ◌++◌, Option, None, Some, IfSome, refl, sym, ap, ◌∙◌, subst, map, length, take, drop, arith}
use Rattle.std.specs.Int.{w16, w64, to_be_bytes, from_be_bytes, cast_signed, cast_unsigned}
use Rattle.std.specs.List.{AllByRecursion, flat_map, list_all}
use Rattle.std.proofs.lemmas.List.{append_assoc, append-nil, take-append-drop, length-take-le, length-append, take_at, drop_at}
use Rattle.std.proofs.lemmas.Bool.{ltb-false, le-ltb, leb-true, le-leb, eqb-true}
use Rattle.std.proofs.lemmas.Nat.{be_bytes_2, be_bytes_8, from_be_bytes-to_be_bytes_2, from_be_bytes-to_be_bytes_8}
use Rattle.std.proofs.lemmas.Int.{of_z-to_z, to_z-of_z}
use Rattle.std.proofs.Math.Facts.{Fits-of_z, Fits-of_lt, sfits_to_z}
use Rattle.hal_base.specs.declared.value.Kind.{Kind}
use Rattle.hal_base.specs.declared.value.Kind.TheVariants as kind
use Rattle.hal_base.specs.declared.value.Value.{Value}
use Rattle.hal_base.specs.declared.value.Value.TheVariants.{Int, Text}
use Rattle.hal_base.specs.declared.fields.Schema.{Schema}
use Rattle.hal_base.specs.Values.{kind_of, IsValue, IsRecordOf}
use Rattle.record_blocks.specs.Blocks.{value_bytes, record_bytes, number_bytes, block_head, block_text, FitBlock}
use Rattle.record_blocks.specs.steps.Exact.{AreBytes, ArePrintable, IsExact}
use Rattle.record_blocks.specs.steps.Decoders.{Decoder, and_then, pure, ◌>>=◌, made, byte, number, short, some_bytes, text, after, value, values, row, many, counted, block, printable}

-- the part of a list of bytes
pub bytes_behind : (xs ys : List ℕ) → AreBytes (xs ++ ys) → AreBytes ys
bytes_behind [] ys b = b
bytes_behind (x ∷ xs) ys b = bytes_behind xs ys b.1

-- one decoder and then another: what they read is made into one
pub two : {A B C : Type 0} (t : A → List ℕ) (P : A → Type 0) (p : Decoder A) (u : B → List ℕ) (Q : A → B → Type 0) (q : A → Decoder B) (f : A → B → C) (v : C → List ℕ) (R : C → Type 0) → IsExact t P p → ((x : A) → IsExact u (Q x) (q x)) → ((x : A) (y : B) → P x → Q x y → R (f x y) × (v (f x y) ≡ t x ++ u y)) → ((z : C) → R z → (x : A) × (y : B) × P x × Q x y × (f x y ≡ z)) → IsExact v R (p >>= (λ x. q x >>= (λ y. pure (f x y))))
two t P p u Q q f v R r s make take_apart =
    let second : (x : _) (bs : List ℕ) → P x → AreBytes bs → IfSome (and_then (q x bs) (λ y. pure (f x y))) (λ z. (R z.0) × (t x ++ bs ≡ v z.0 ++ z.1)) =
    λ x bs px b. elim (q x bs) as (λ read. q x bs ≡ read → IfSome (and_then read (λ y. pure (f x y))) (λ z. (R z.0) × (t x ++ bs ≡ v z.0 ++ z.1))) [
      | None ↦ λ e. tt
      | Some y ↦ λ e.
          let k : IfSome (q x bs) (λ y. Q x y.0 × (bs ≡ u y.0 ++ y.1)) = (s x).takes bs b in
          let h : Q x y.0 × (bs ≡ u y.0 ++ y.1) = rw e at k in
          let m = make x y.0 px h.0 in
          (m.0, ap (λ bytes. t x ++ bytes) h.1 ∙ sym (append_assoc (t x) (u y.0) y.1) ∙ ap (λ bytes. bytes ++ y.1) (sym m.1))
    ] refl in
    record {
      takes = λ bs b. elim (p bs) as (λ read. p bs ≡ read → IfSome (and_then read (λ x. q x >>= (λ y. pure (f x y)))) (λ z. R z.0 × (bs ≡ v z.0 ++ z.1))) [
        | None ↦ λ e. tt
        | Some x ↦ λ e.
            let k : IfSome (p bs) (λ x. P x.0 × (bs ≡ t x.0 ++ x.1)) = r.takes bs b in
            let h : P x.0 × (bs ≡ t x.0 ++ x.1) = rw e at k in
            subst (λ bytes. IfSome (and_then (q x.0 x.1) (λ y. pure (f x.0 y))) (λ z. R z.0 × (bytes ≡ v z.0 ++ z.1))) (sym h.1) (second x.0 x.1 h.0 (bytes_behind (t x.0) x.1 (subst AreBytes h.1 b)))
      ] refl;
      again = λ z rest g.
          let a = take_apart z g in
          let m = make a.0 a.1 a.2 a.3 in
          let bytes : v z ++ rest ≡ t a.0 ++ (u a.1 ++ rest) = ap (λ w. v w ++ rest) (sym a.4) ∙ ap (λ bs. bs ++ rest) m.1 ∙ append_assoc (t a.0) (u a.1) rest in
          rw (bytes, r.again a.0 (u a.1 ++ rest) a.2, (s a.0).again a.1 rest a.3, a.4) refl;
    }

pub one : {A C : Type 0} (t : A → List ℕ) (P : A → Type 0) (p : Decoder A) (f : A → C) (v : C → List ℕ) (R : C → Type 0) → IsExact t P p → ((x : A) → P x → R (f x) × (v (f x) ≡ t x)) → ((z : C) → R z → (x : A) × P x × (f x ≡ z)) → IsExact v R (p >>= (λ x. pure (f x)))
one t P p f v R r make take_apart = record {
  takes = λ bs b. elim (p bs) as (λ read. p bs ≡ read → IfSome (and_then read (λ x. pure (f x))) (λ z. R z.0 × (bs ≡ v z.0 ++ z.1))) [
    | None ↦ λ e. tt
    | Some x ↦ λ e.
        let k : IfSome (p bs) (λ x. P x.0 × (bs ≡ t x.0 ++ x.1)) = r.takes bs b in
        let h : P x.0 × (bs ≡ t x.0 ++ x.1) = rw e at k in
        let m = make x.0 h.0 in
        (m.0, h.1 ∙ ap (λ bytes. bytes ++ x.1) (sym m.1))
  ] refl;
  again = λ z rest g.
      let a = take_apart z g in
      let m = make a.0 a.1 in
      let bytes : v z ++ rest ≡ t a.0 ++ rest = ap (λ w. v w ++ rest) (sym a.2) ∙ ap (λ bs. bs ++ rest) m.1 in
      rw (bytes, r.again a.0 rest a.1, a.2) refl;
}

byte_again : (b : ℕ) (rest : List ℕ) → byte (b ∷ rest) ≡ Some (b, rest)
unfolding byte
byte_again b rest = refl

byte_takes : (bs : List ℕ) → AreBytes bs → IfSome (byte bs) (λ x. (x.0 < 256) × (bs ≡ (x.0 ∷ []) ++ x.1))
unfolding byte
byte_takes [] b = tt
byte_takes (x ∷ bs) b = (b.0, refl)

pub byte_exact : IsExact (λ b. b ∷ []) (λ b. b < 256) byte
byte_exact = record { takes = byte_takes; again = λ b rest p. byte_again b rest }

byte_at : (bs : List ℕ) (i : ℕ) → AreBytes bs → get_or bs i 0 < 256
byte_at [] i b = omega arith
byte_at (x ∷ bs) zero b = b.0
byte_at (x ∷ bs) (suc i) b = byte_at bs i b.1

bytes_front : (n : ℕ) (bs : List ℕ) → AreBytes bs → AreBytes (take n bs)
bytes_front zero bs b = tt
bytes_front (suc n) [] b = tt
bytes_front (suc n) (x ∷ bs) b = (b.0, bytes_front n bs b.1)

number_bound : (bs : List ℕ) → AreBytes bs → from_be_bytes w64 bs < 2 ^ 64
number_bound bs b = omega (arith, byte_at bs 0 b, byte_at bs 1 b, byte_at bs 2 b, byte_at bs 3 b, byte_at bs 4 b, byte_at bs 5 b, byte_at bs 6 b, byte_at bs 7 b)

number_takes : (bs : List ℕ) → AreBytes bs → IfSome (number bs) (λ x. (x.0 < 2 ^ 64) × (bs ≡ number_bytes x.0 ++ x.1))
unfolding number
number_takes bs b = elim (nat_lt (length bs) 8) as (λ t. nat_lt (length bs) 8 ≡ t → IfSome {T = ℕ × List ℕ} (if t then None else Some (from_be_bytes w64 (take 8 bs), drop 8 bs)) (λ x. (x.0 < 2 ^ 64) × (bs ≡ number_bytes x.0 ++ x.1))) [
  | true ↦ λ e. tt
  | false ↦ λ e.
      let l : 8 ≤ length bs = ltb-false (length bs) 8 e in
      let eight : length (take 8 bs) ≡ 8 = length-take-le 8 bs l in
      let front = bytes_front 8 bs b in
      let again = be_bytes_8 (take 8 bs) (from_be_bytes w64 (take 8 bs)) eight (λ i. byte_at (take 8 bs) i front) refl in
      (number_bound (take 8 bs) front, sym (take-append-drop 8 bs) ∙ ap (λ bytes. bytes ++ drop 8 bs) (sym again))
] refl

number_again : (n : ℕ) (rest : List ℕ) → n < 2 ^ 64 → number (number_bytes n ++ rest) ≡ Some (n, rest)
unfolding number
number_again n rest l =
    let long : nat_lt (length (number_bytes n ++ rest)) 8 ≡ false = le-ltb _ _ (omega (arith, length-append (number_bytes n) rest)) in
    rw (long, from_be_bytes-to_be_bytes_8 n l) refl

pub number_exact : IsExact number_bytes (λ n. n < 2 ^ 64) number
number_exact = record { takes = number_takes; again = number_again }

short_bound : (bs : List ℕ) → AreBytes bs → from_be_bytes w16 bs < 2 ^ 16
short_bound bs b = omega (arith, byte_at bs 0 b, byte_at bs 1 b)

short_takes : (bs : List ℕ) → AreBytes bs → IfSome (short bs) (λ x. (x.0 < 2 ^ 16) × (bs ≡ to_be_bytes w16 x.0 ++ x.1))
unfolding short
short_takes bs b = elim (nat_lt (length bs) 2) as (λ t. nat_lt (length bs) 2 ≡ t → IfSome {T = ℕ × List ℕ} (if t then None else Some (from_be_bytes w16 (take 2 bs), drop 2 bs)) (λ x. (x.0 < 2 ^ 16) × (bs ≡ to_be_bytes w16 x.0 ++ x.1))) [
  | true ↦ λ e. tt
  | false ↦ λ e.
      let l : 2 ≤ length bs = ltb-false (length bs) 2 e in
      let two : length (take 2 bs) ≡ 2 = length-take-le 2 bs l in
      let front = bytes_front 2 bs b in
      let again = be_bytes_2 (take 2 bs) (from_be_bytes w16 (take 2 bs)) two (λ i. byte_at (take 2 bs) i front) refl in
      (short_bound (take 2 bs) front, sym (take-append-drop 2 bs) ∙ ap (λ bytes. bytes ++ drop 2 bs) (sym again))
] refl

short_again : (n : ℕ) (rest : List ℕ) → n < 2 ^ 16 → short (to_be_bytes w16 n ++ rest) ≡ Some (n, rest)
unfolding short
short_again n rest l =
    let long : nat_lt (length (to_be_bytes w16 n ++ rest)) 2 ≡ false = le-ltb _ _ (omega (arith, length-append (to_be_bytes w16 n) rest)) in
    rw (long, from_be_bytes-to_be_bytes_2 n l) refl

pub short_exact : IsExact (λ n. to_be_bytes w16 n) (λ n. n < 2 ^ 16) short
short_exact = record { takes = short_takes; again = short_again }

abbrev IsOfLength : ℕ → List ℕ → Type 0
IsOfLength n bs = length bs ≡ n

some_takes : (n : ℕ) (bs : List ℕ) → IfSome (some_bytes n bs) (λ x. IsOfLength n x.0 × (bs ≡ x.0 ++ x.1))
unfolding some_bytes
some_takes n bs = elim (nat_lt (length bs) n) as (λ t. nat_lt (length bs) n ≡ t → IfSome {T = List ℕ × List ℕ} (if t then None else Some (take n bs, drop n bs)) (λ x. IsOfLength n x.0 × (bs ≡ x.0 ++ x.1))) [
  | true ↦ λ e. tt
  | false ↦ λ e. (length-take-le n bs (ltb-false (length bs) n e), sym (take-append-drop n bs))
] refl

some_again : (n : ℕ) (x rest : List ℕ) → IsOfLength n x → some_bytes n (x ++ rest) ≡ Some (x, rest)
unfolding some_bytes
some_again n x rest g =
    let long : nat_lt (length (x ++ rest)) n ≡ false = le-ltb _ _ (omega (arith, g, length-append x rest)) in
    rw (long, take_at x rest n g, drop_at x rest n g) refl

pub some_exact : (n : ℕ) → IsExact (λ bs. bs) (λ bs. length bs ≡ n) (some_bytes n)
some_exact n = record { takes = λ bs b. some_takes n bs; again = some_again n }

and_true : (a b : Bool) → (a && b) ≡ true → (a ≡ true) × (b ≡ true)
and_true true b e = (refl, e)
and_true false b e = cc

pub printable_from : (bs : List ℕ) → list_all printable bs ≡ true → ArePrintable bs
printable_from [] e = tt
printable_from (b ∷ bs) e =
    let one = and_true (printable b) (list_all printable bs) e in
    let two = and_true (nat_le 32 b) (nat_le b 126) one.0 in
    ((leb-true 32 b two.0, leb-true b 126 two.1), printable_from bs one.1)

pub printable_to : (bs : List ℕ) → ArePrintable bs → list_all printable bs ≡ true
printable_to [] p = refl
printable_to (b ∷ bs) p = rw (le-leb 32 b p.0.0, le-leb b 126 p.0.1, printable_to bs p.1) refl

abbrev IsTextOf : ℕ → List ℕ → Type 0
IsTextOf n bs = (length bs ≡ n) × ArePrintable bs

text_takes : (n : ℕ) (bs : List ℕ) → AreBytes bs → IfSome (text n bs) (λ x. IsTextOf n x.0 × (bs ≡ x.0 ++ x.1))
unfolding text
text_takes n bs b = elim (nat_lt (length bs) n) as (λ t. nat_lt (length bs) n ≡ t → IfSome {T = List ℕ × List ℕ} (if t then None else if list_all printable (take n bs) then Some (take n bs, drop n bs) else None) (λ x. IsTextOf n x.0 × (bs ≡ x.0 ++ x.1))) [
  | true ↦ λ e. tt
  | false ↦ λ e. elim (list_all printable (take n bs)) as (λ u. list_all printable (take n bs) ≡ u → IfSome {T = List ℕ × List ℕ} (if u then Some (take n bs, drop n bs) else None) (λ x. IsTextOf n x.0 × (bs ≡ x.0 ++ x.1))) [
    | true ↦ λ a. ((length-take-le n bs (ltb-false (length bs) n e), printable_from (take n bs) a), sym (take-append-drop n bs))
    | false ↦ λ a. tt
  ] refl
] refl

text_again : (n : ℕ) (x rest : List ℕ) → IsTextOf n x → text n (x ++ rest) ≡ Some (x, rest)
unfolding text
text_again n x rest g =
    let long : nat_lt (length (x ++ rest)) n ≡ false = le-ltb _ _ (omega (arith, g.0, length-append x rest)) in
    rw (long, take_at x rest n g.0, drop_at x rest n g.0, printable_to x g.1) refl

pub text_exact : (n : ℕ) → IsExact (λ bs. bs) (IsTextOf n) (text n)
text_exact n = record { takes = text_takes n; again = text_again n }

one_more : (b w : ℕ) (ws bs : List ℕ) (read : Option (Unit {0} × List ℕ)) → b ≡ w → IfSome read (λ x. Unit {0} × (bs ≡ ws ++ x.1)) → IfSome read (λ x. Unit {0} × (b ∷ bs ≡ (w ∷ ws) ++ x.1))
one_more b w ws bs None e h = tt
one_more b w ws bs (Some x) e h = (tt, cc)

after_takes : (ws bs : List ℕ) → IfSome (after ws bs) (λ x. Unit {0} × (bs ≡ ws ++ x.1))
unfolding after
after_takes [] bs = (tt, refl)
after_takes (w ∷ ws) [] = tt
after_takes (w ∷ ws) (b ∷ bs) = elim (nat_eq b w) as (λ t. nat_eq b w ≡ t → IfSome (if t then after ws bs else None) (λ x. Unit {0} × (b ∷ bs ≡ (w ∷ ws) ++ x.1))) [
  | true ↦ λ e. one_more b w ws bs (after ws bs) (eqb-true b w e) (after_takes ws bs)
  | false ↦ λ e. tt
] refl

after_again : (ws rest : List ℕ) → after ws (ws ++ rest) ≡ Some (tt, rest)
unfolding after
after_again [] rest = refl
after_again (w ∷ ws) rest = rw (eq-eqb w w refl, after_again ws rest) refl

pub after_exact : (ws : List ℕ) → IsExact (λ (u : Unit {0}). ws) (λ u. Unit {0}) (after ws)
after_exact ws = record { takes = λ bs b. after_takes ws bs; again = λ u rest p. after_again ws rest }

-- ---- values and records

abbrev IsValueOf : Kind → Value → Type 0
IsValueOf k v = IsValue v × (kind_of v ≡ k)

int_apart : (v : Value) → IsValueOf kind.Int v → (n : ℕ) × (n < 2 ^ 64) × (Int (cast_signed w64 n) ≡ v)
int_apart (Int z) g = (cast_unsigned w64 z, (let f = Fits-of_z {w = w64} g.0 in omega (arith, f.fits)), ap Int (to_z-of_z w64 z g.0))
int_apart (Text bytes) g = cc

text_apart : (v : Value) → IsValueOf kind.Text v → (n : ℕ) × (bytes : List ℕ) × (n < 256) × IsTextOf n bytes × (Text bytes ≡ v)
text_apart (Int z) g = cc
text_apart (Text bytes) g = (length bytes, bytes, omega (arith, g.0.0), (refl, g.0.1), refl)

pub value_exact : (k : Kind) → IsExact value_bytes (IsValueOf k) (value k)
unfolding value
value_exact kind.Int = one number_bytes (λ n. n < 2 ^ 64) number (λ n. Int (cast_signed w64 n)) value_bytes (IsValueOf kind.Int) number_exact (λ n l. ((sfits_to_z {w = w64} (Fits-of_lt {w = w64} l), refl), ap number_bytes (of_z-to_z w64 n l))) int_apart
value_exact kind.Text = two (λ b. b ∷ []) (λ b. b < 256) byte (λ bs. bs) IsTextOf text (λ n bytes. Text bytes) value_bytes (IsValueOf kind.Text) byte_exact text_exact
    (λ n bytes l g. (((omega (arith, l, g.0), g.1), refl), ap (λ m. m ∷ bytes) g.0))
    text_apart

abbrev AreValuesOf : List Kind → List Value → Type 0
AreValuesOf ks vs = AllByRecursion IsValue vs × (map kind_of vs ≡ ks)

values_apart : (k : Kind) (ks : List Kind) (vs : List Value) → AreValuesOf (k ∷ ks) vs → (v : Value) × (ws : List Value) × IsValueOf k v × AreValuesOf ks ws × (v ∷ ws ≡ vs)
values_apart k ks [] g = cc
values_apart k ks (v ∷ vs) g = (v, vs, (g.0.0, cc), (g.0.1, cc), refl)

none_again : (vs : List Value) (rest : List ℕ) → AreValuesOf [] vs → pure {A = List Value} [] (flat_map value_bytes vs ++ rest) ≡ Some (vs, rest)
none_again [] rest g = refl
none_again (v ∷ vs) rest g = cc

pub values_exact : (ks : List Kind) → IsExact (λ vs. flat_map value_bytes vs) (AreValuesOf ks) (values ks)
unfolding values
values_exact [] = record { takes = λ bs b. ((tt, refl), refl); again = none_again }
values_exact (k ∷ ks) = two value_bytes (IsValueOf k) (value k) (λ vs. flat_map value_bytes vs) (λ v. AreValuesOf ks) (λ v. values ks) (λ v vs. v ∷ vs) (λ vs. flat_map value_bytes vs) (AreValuesOf (k ∷ ks)) (value_exact k) (λ v. values_exact ks)
    (λ v vs g h. (((g.0, h.0), cc), refl))
    (values_apart k ks)

pub row_exact : (schema : Schema) → IsExact record_bytes (IsRecordOf schema) (row schema)
unfolding row
row_exact schema = two value_bytes (IsValueOf schema.key) (value schema.key) (λ vs. flat_map value_bytes vs) (λ v. AreValuesOf schema.fields) (λ v. values schema.fields) made record_bytes (IsRecordOf schema) (value_exact schema.key) (λ v. values_exact schema.fields)
    (λ v vs g h. (record { key = g.0; fields = h.0; fits = record { key = g.1; fields = h.1 } }, refl))
    (λ r g. (r.key, r.fields, (g.key, g.fits.key), (g.fields, g.fits.fields), refl))

-- ---- many

abbrev pub ManyOf : {A : Type 0} → (A → Type 0) → ℕ → List A → Type 0
ManyOf P n xs = AllByRecursion P xs × (length xs ≡ n)

many_apart : {A : Type 0} (P : A → Type 0) (n : ℕ) (xs : List A) → ManyOf P (suc n) xs → (x : A) × (ys : List A) × P x × ManyOf P n ys × (x ∷ ys ≡ xs)
many_apart P n [] g = absurd (omega (arith, g.1))
many_apart P n (x ∷ xs) g = (x, xs, g.0.0, (g.0.1, omega (arith, g.1)), refl)

no_more : {A : Type 0} (t : A → List ℕ) (P : A → Type 0) (xs : List A) (rest : List ℕ) → ManyOf P 0 xs → pure {A = List A} [] (flat_map t xs ++ rest) ≡ Some (xs, rest)
no_more t P [] rest g = refl
no_more t P (x ∷ xs) rest g = absurd (omega (arith, g.1))

pub many_exact : {A : Type 0} (t : A → List ℕ) (P : A → Type 0) (p : Decoder A) (n : ℕ) → IsExact t P p → IsExact (λ xs. flat_map t xs) (ManyOf P n) (many p n)
unfolding many
many_exact t P p zero r = record { takes = λ bs b. ((tt, refl), refl); again = no_more t P }
many_exact t P p (suc n) r = two t P p (λ xs. flat_map t xs) (λ x. ManyOf P n) (λ x. many p n) (λ x xs. x ∷ xs) (λ xs. flat_map t xs) (ManyOf P (suc n)) r (λ x. many_exact t P p n r)
    (λ x xs g h. (((g, h.0), omega (arith, h.1)), refl))
    (many_apart P n)

pub counted_exact : (schema : Schema) → IsExact (λ rows. number_bytes (length rows) ++ flat_map record_bytes rows) (FitBlock schema) (counted schema)
unfolding counted
counted_exact schema = two number_bytes (λ n. n < 2 ^ 64) number (λ rows. flat_map record_bytes rows) (ManyOf (IsRecordOf schema)) (λ n. many (row schema) n) (λ n rows. rows) (λ rows. number_bytes (length rows) ++ flat_map record_bytes rows) (FitBlock schema) number_exact (λ n. many_exact record_bytes (IsRecordOf schema) (row schema) n (row_exact schema))
    (λ n rows l g. (record { each = g.0; few = omega (arith, g.1, l) }, ap (λ m. number_bytes m ++ flat_map record_bytes rows) g.1))
    (λ rows g. (length rows, rows, g.few, (g.each, refl), refl))

pub block_exact : (schema : Schema) → IsExact (block_text schema) (FitBlock schema) (block schema)
unfolding block
block_exact schema = two (λ (u : Unit {0}). block_head schema) (λ u. Unit {0}) (after (block_head schema)) (λ rows. number_bytes (length rows) ++ flat_map record_bytes rows) (λ u. FitBlock schema) (λ u. counted schema) (λ u rows. rows) (block_text schema) (FitBlock schema) (after_exact (block_head schema)) (λ u. counted_exact schema)
    (λ u rows p g. (g, refl))
    (λ rows g. (tt, rows, tt, g, refl))

-- ---- whole texts

-- what a whole reading found
pub whole_found : {A : Type 0} (t : A → List ℕ) (P : A → Type 0) (p : Decoder A) (bs : List ℕ) (x : A) → IsExact t P p → AreBytes bs → p bs ≡ Some (x, []) → P x × (bs ≡ t x)
whole_found t P p bs x r b e =
    let k : IfSome (p bs) (λ x. P x.0 × (bs ≡ t x.0 ++ x.1)) = r.takes bs b in
    let h : P x × (bs ≡ t x ++ []) = rw e at k in
    (h.0, h.1 ∙ append-nil (t x))

-- what has P is found in its text
pub whole_again : {A : Type 0} (t : A → List ℕ) (P : A → Type 0) (p : Decoder A) (bs : List ℕ) (x : A) → IsExact t P p → P x → bs ≡ t x → p bs ≡ Some (x, [])
whole_again t P p bs x r g e = ap p (e ∙ sym (append-nil (t x))) ∙ r.again x [] g

pub are_bytes : (bs : List ℕ) → ((i : ℕ) → get_or bs i 0 < 256) → AreBytes bs
are_bytes [] h = tt
are_bytes (b ∷ bs) h = (h 0, are_bytes bs (λ i. h (suc i)))

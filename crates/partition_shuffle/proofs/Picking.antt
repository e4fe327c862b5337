-- One part among those that are read.
use Rattle.std.proofs.Common.{◌≡◌, ℕ, zero, suc, ◌+◌, ◌-◌, ◌<◌, List, [], ◌∷◌, ◌++◌, Option, None, Some, refl, sym, ap, ◌∙◌, length, arith}
use Rattle.std.specs.Prelude.{slice_get}
use Rattle.hal_base.specs.declared.record.Record.{Record}
use Rattle.record_blocks.specs.steps.Decoders.{Decoder, and_then, pure, many, with_front}
use Rattle.record_blocks.proofs.OneList.{same_what, same_left}
use Rattle.partition_shuffle.specs.steps.Sections.{behind, IsPart}

front_nothing : {A : Type 0} (read : Option (List A × List ℕ)) → with_front [] read ≡ read
front_nothing None = refl
front_nothing (Some read) = refl

front_more : {A : Type 0} (x : A) (xs : List A) (read : Option (List A × List ℕ)) → and_then (with_front xs read) (λ ys. pure (x ∷ ys)) ≡ with_front (x ∷ xs) read
front_more x xs None = refl
front_more x xs (Some read) = refl

-- what is behind something that was read
behind_found : {A : Type 0} (read : Option (A × List ℕ)) (rest : List ℕ) → behind read ≡ Some rest → (a : A) × (read ≡ Some (a, rest))
behind_found None rest e = cc
behind_found (Some read) rest e = (read.0, ap (λ bs. Some (read.0, bs)) (same read.1 rest e))
  where
    same : (a b : List ℕ) → Some a ≡ Some b → a ≡ b
    same a b e = cc

behind_missing : {A : Type 0} (read : Option (A × List ℕ)) → behind read ≡ None → read ≡ None
behind_missing None e = refl
behind_missing (Some read) e = cc

-- where one was read, then some and then the others
abbrev Splits : {A : Type 0} → Decoder A → ℕ → ℕ → ℕ → List ℕ → Type 0
Splits {A} p a b c bs = (front : List A) (rest : List ℕ) → many p a bs ≡ Some (front, rest) → (many p c bs ≡ with_front front (many p b rest)) × (length front ≡ a)

one_splits : {A : Type 0} (p : Decoder A) (a b c : ℕ) (x : A) (others : List ℕ) → Splits p a b c others → (read : Option (List A × List ℕ)) → many p a others ≡ read → (front : List A) (rest : List ℕ) → and_then read (λ xs. pure (x ∷ xs)) ≡ Some (front, rest) → (and_then (many p c others) (λ xs. pure (x ∷ xs)) ≡ with_front front (many p b rest)) × (length front ≡ suc a)
one_splits p a b c x others so_far None m front rest e = cc
one_splits p a b c x others so_far (Some read) m front rest e =
    let items : x ∷ read.0 ≡ front = same_what (x ∷ read.0) front read.1 rest e in
    let left : read.1 ≡ rest = same_left (x ∷ read.0) front read.1 rest e in
    let more = so_far read.0 read.1 m in
    let long : length (x ∷ read.0) ≡ suc a = omega (arith, more.1) in
    (rw more.0 (front_more x read.0 (many p b read.1)) ∙ ap (λ xs. with_front xs (many p b read.1)) items ∙ ap (λ bs. with_front front (many p b bs)) left, sym (ap length items) ∙ long)

first_splits : {A : Type 0} (p : Decoder A) (a b c : ℕ) → ((others : List ℕ) → Splits p a b c others) → (read : Option (A × List ℕ)) (front : List A) (rest : List ℕ) → and_then read (λ x others. and_then (many p a others) (λ xs. pure (x ∷ xs))) ≡ Some (front, rest) → (and_then read (λ x others. and_then (many p c others) (λ xs. pure (x ∷ xs))) ≡ with_front front (many p b rest)) × (length front ≡ suc a)
first_splits p a b c so_far None front rest e = cc
first_splits p a b c so_far (Some read) front rest e = one_splits p a b c read.0 read.1 (so_far read.1) (many p a read.1) refl front rest e

none_splits : {A : Type 0} (p : Decoder A) (b c : ℕ) (bs : List ℕ) → c ≡ b → (front : List A) (rest : List ℕ) → front ≡ [] → rest ≡ bs → (many p c bs ≡ with_front front (many p b rest)) × (length front ≡ 0)
none_splits p b c bs count front rest none same = (rw (none, same, count) (sym (front_nothing (many p b bs))), ap length none)

one_misses : {A : Type 0} (p : Decoder A) (a c : ℕ) (x : A) (others : List ℕ) → (many p a others ≡ None → many p c others ≡ None) → (read : Option (List A × List ℕ)) → many p a others ≡ read → and_then read (λ xs. pure (x ∷ xs)) ≡ None → and_then (many p c others) (λ xs. pure (x ∷ xs)) ≡ None
one_misses p a c x others so_far None m e = rw (so_far m) refl
one_misses p a c x others so_far (Some read) m e = cc

first_misses : {A : Type 0} (p : Decoder A) (a c : ℕ) → ((others : List ℕ) → many p a others ≡ None → many p c others ≡ None) → (read : Option (A × List ℕ)) → and_then read (λ x others. and_then (many p a others) (λ xs. pure (x ∷ xs))) ≡ None → and_then read (λ x others. and_then (many p c others) (λ xs. pure (x ∷ xs))) ≡ None
first_misses p a c so_far None e = refl
first_misses p a c so_far (Some read) e = one_misses p a c read.0 read.1 (so_far read.1) (many p a read.1) refl e

module _ {A : Type 0} (p : Decoder A) where
  -- some of them, and then the others
  many_more : (a b c : ℕ) (bs : List ℕ) → c ≡ a + b → Splits p a b c bs
  unfolding many
  many_more zero b c bs s front rest e = none_splits p b c bs (omega arith) front rest (sym (same_what [] front bs rest e)) (sym (same_left [] front bs rest e))
  many_more (suc a) b zero bs s front rest e = absurd (omega arith)
  many_more (suc a) b (suc c) bs s front rest e = first_splits p a b c (λ others. many_more a b c others (omega arith)) (p bs) front rest e

  -- where some are not there, not all are
  many_missing : (a b c : ℕ) (bs : List ℕ) → c ≡ a + b → many p a bs ≡ None → many p c bs ≡ None
  unfolding many
  many_missing zero b c bs s e = cc
  many_missing (suc a) b zero bs s e = absurd (omega arith)
  many_missing (suc a) b (suc c) bs s e = first_misses p a c (λ others. many_missing a b c others (omega arith)) (p bs) e

  then_others : (n : ℕ) (x : A) (bs rest : List ℕ) → 0 < n → p bs ≡ Some (x, rest) → many p n bs ≡ and_then (many p (n - 1) rest) (λ xs. pure (x ∷ xs))
  unfolding many
  then_others zero x bs rest l e = absurd (omega arith)
  then_others (suc n) x bs rest l e =
      let less : suc n - 1 ≡ n = omega arith in
      rw (less, e) refl

  no_others : (n : ℕ) (bs : List ℕ) → 0 < n → p bs ≡ None → many p n bs ≡ None
  unfolding many
  no_others zero bs l e = absurd (omega arith)
  no_others (suc n) bs l e = rw e refl

at_front : {A : Type 0} (front : List A) (x : A) (others : List A) (n : ℕ) → length front ≡ n → slice_get (front ++ x ∷ others) n ≡ Some x
at_front [] x others zero e = refl
at_front [] x others (suc n) e = absurd (omega (arith, e))
at_front (y ∷ front) x others zero e = absurd (omega (arith, e))
at_front (y ∷ front) x others (suc n) e = at_front front x others n (omega (arith, e))

empty : (bs : List ℕ) → length bs ≡ 0 → bs ≡ []
empty [] e = refl
empty (b ∷ bs) e = absurd (omega (arith, e))

-- as many are read as were to be
pub many_length : {A : Type 0} (p : Decoder A) (n : ℕ) (bs rest : List ℕ) (xs : List A) → many p n bs ≡ Some (xs, rest) → length xs ≡ n
many_length p n bs rest xs e = (many_more p n 0 n bs (omega arith) xs rest e).1

module _ (p : Decoder (List Record)) (part count : ℕ) (bs : List ℕ) (within : part < count) where
  -- those before the part are not there
  pub none_before : behind (many p part bs) ≡ None → many p count bs ≡ None
  none_before e = many_missing p part (count - part) count bs (omega arith) (behind_missing (many p part bs) e)

  module _ (here : List ℕ) (passed : behind (many p part bs) ≡ Some here) where
    before : (front : List (List Record)) × (many p count bs ≡ with_front front (many p (count - part) here)) × (length front ≡ part)
    before =
        let found = behind_found (many p part bs) here passed in
        let more = many_more p part (count - part) count bs (omega arith) found.0 here found.1 in
        (found.0, more.0, more.1)

    -- the part is not there
    pub none_here : p here ≡ None → many p count bs ≡ None
    none_here e = before.1 ∙ ap (with_front before.0) (no_others p (count - part) here (omega arith) e)

    module _ (rows : List Record) (later : List ℕ) (read : p here ≡ Some (rows, later)) where
      from_here : many p count bs ≡ with_front before.0 (and_then (many p (count - part - 1) later) (λ others. pure (rows ∷ others)))
      from_here = before.1 ∙ ap (with_front before.0) (then_others p (count - part) rows here later (omega arith) read)

      -- those behind the part are not there
      pub none_behind : behind (many p (count - part - 1) later) ≡ None → many p count bs ≡ None
      none_behind e = from_here ∙ ap (λ others. with_front before.0 (and_then others (λ xs. pure (rows ∷ xs)))) (behind_missing (many p (count - part - 1) later) e)

      module _ (left : List ℕ) (done : behind (many p (count - part - 1) later) ≡ Some left) where
        all : (others : List (List Record)) × (many p count bs ≡ Some (before.0 ++ rows ∷ others, left))
        all =
            let found = behind_found (many p (count - part - 1) later) left done in
            (found.0, from_here ∙ ap (λ others. with_front before.0 (and_then others (λ xs. pure (rows ∷ xs)))) found.1)

        -- the part is read, with nothing behind the last
        pub is_part : length left ≡ 0 → IsPart (many p count bs) part rows
        is_part e = record {
          parts = before.0 ++ rows ∷ all.0;
          whole = all.1 ∙ ap (λ bytes. Some (before.0 ++ rows ∷ all.0, bytes)) (empty left e);
          here = at_front before.0 rows all.0 part before.2;
        }

        -- something is behind the last
        pub not_all : 0 < length left → (parts : List (List Record)) → many p count bs ≡ Some (parts, []) → ⊥
        not_all l parts e =
            let none : left ≡ [] = same_left (before.0 ++ rows ∷ all.0) parts left [] (sym all.1 ∙ e) in
            absurd (omega (arith, ap length none))

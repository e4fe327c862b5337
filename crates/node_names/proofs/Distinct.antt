-- A word and numbers are told apart by their text.
use Rattle.std.proofs.Common.{◌≡◌, ℕ, ◌<◌, nat_eq, List, [], ◌∷◌, refl, sym, ap, ◌∙◌, map, arith}
use Rattle.std.specs.Fmt.{decimal}
use Rattle.std.specs.List.{AllByRecursion, join_with_byte, slice_split}
use Rattle.std.specs.Str.Parse.{AllDigits}
use Rattle.std.proofs.lemmas.Bool.{eq-eqb}
use Rattle.std.proofs.lemmas.Fmt.{decimal_is_IsNumeral, decimal_injective}
use Rattle.std.proofs.lemmas.Str.Parse.{digit_from_value}
use Rattle.hal_base.proofs.Spellings.{above}
use Rattle.hal_base.proofs.Cuts.{Without, split_at_byte, split_without}
use Rattle.node_names.specs.Worded.{AreSmall, worded}

-- the byte between is below the digits
module _ (between : ℕ) (low : between < 48) where
  digits_without : (ds : List ℕ) → AllDigits 10 ds → Without between ds
  digits_without [] a = tt
  digits_without (c ∷ cs) a = let r = digit_from_value c a.0 in (above c between (omega (arith, low)), digits_without cs a.1)

  decimals_without : (ns : List ℕ) → AreSmall ns → AllByRecursion (Without between) (map decimal ns)
  decimals_without [] a = tt
  decimals_without (n ∷ ns) a = (digits_without (decimal n) (decimal_is_IsNumeral n (omega (arith, a.0))).0.1, decimals_without ns a.1)

  split_joined : (x : List ℕ) (xs : List (List ℕ)) → Without between x → AllByRecursion (Without between) xs → slice_split (λ b. nat_eq b between) (join_with_byte between (x ∷ xs)) ≡ x ∷ xs
  split_joined x [] p q = split_without between x p
  split_joined x (y ∷ ys) p q = split_at_byte between x (join_with_byte between (y ∷ ys)) (eq-eqb between between refl) p ∙ ap (λ parts. x ∷ parts) (split_joined y ys q.0 q.1)

  same_numbers : (xs ys : List ℕ) → AreSmall xs → AreSmall ys → map decimal xs ≡ map decimal ys → xs ≡ ys
  same_numbers [] [] g h e = refl
  same_numbers [] (y ∷ ys) g h e = cc
  same_numbers (x ∷ xs) [] g h e = cc
  same_numbers (x ∷ xs) (y ∷ ys) g h e =
      let one : x ≡ y = decimal_injective x y (omega (arith, g.0)) (omega (arith, h.0)) cc in
      let rest : xs ≡ ys = same_numbers xs ys g.1 h.1 cc in cc

  -- two of one text have one word and the same numbers
  pub same_worded : (word other : List ℕ) (xs ys : List ℕ) → Without between word → Without between other → AreSmall xs → AreSmall ys → worded between word xs ≡ worded between other ys → (word ≡ other) × (xs ≡ ys)
  same_worded word other xs ys w o g h e =
      let s : word ∷ map decimal xs ≡ other ∷ map decimal ys =
      sym (split_joined word (map decimal xs) w (decimals_without xs g))
      ∙ ap (λ bytes. slice_split (λ b. nat_eq b between) bytes) e
      ∙ split_joined other (map decimal ys) o (decimals_without ys h) in
      (cc, same_numbers xs ys g h cc)

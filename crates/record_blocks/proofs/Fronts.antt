-- One step of a loop that reads.
use Rattle.std.proofs.Common.{◌≡◌, ℕ, zero, suc, ◌<◌, ◌-◌, true, false, nat_eq, if◌then◌else◌, take, List, [], ◌∷◌, ◌++◌, Option, None, Some, Result, Ok, Err, refl, sym, ap, ◌∙◌, length, drop, arith}
use Rattle.std.proofs.lemmas.List.{append_assoc}
use Rattle.hal_base.specs.declared.value.Kind.{Kind}
use Rattle.hal_base.specs.declared.value.Value.{Value}
use Rattle.std.specs.List.{AllByRecursion}
use Rattle.std.specs.Cmp.Lexicographic.{pointwise}
use Rattle.hal_base.specs.declared.record.Record.{Record}
use Rattle.hal_base.specs.declared.fields.Schema.{Schema}
use Rattle.hal_base.specs.Values.{FitsSchema, IsRecordOf}
use Rattle.record_blocks.specs.steps.Values.{AreValues}
use Rattle.record_blocks.proofs.OneList.{read_as, same_what, same_left}
use Rattle.record_blocks.specs.declared.fault.TextFault.{TextFault}
use Rattle.record_blocks.specs.declared.fault.TextFault.TheVariants as fault
use Rattle.record_blocks.specs.steps.Decoders.{Decoder, and_then, pure, with_front, one_behind, DecodesInto, made, value, values, row, many, after}

one_more : {A : Type 0} (xs : List A) (x : A) (read : Option (List A × List ℕ)) → with_front xs (and_then read (λ ys. pure (x ∷ ys))) ≡ with_front (xs ++ x ∷ []) read
one_more xs x None = refl
one_more xs x (Some y) = ap (λ zs. Some (zs, y.1)) (sym (append_assoc xs (x ∷ []) y.0))

many_step : {A : Type 0} (p : Decoder A) (n : ℕ) (xs : List A) (x : A) (bs rest : List ℕ) → 0 < n → p bs ≡ Some (x, rest) → with_front xs (many p n bs) ≡ with_front (xs ++ x ∷ []) (many p (n - 1) rest)
unfolding many
many_step p zero xs x bs rest l e = absurd (omega arith)
many_step p (suc n) xs x bs rest l e =
    let less : suc n - 1 ≡ n = omega arith in
    rw (e, less) (one_more xs x (many p n rest))

-- the same where what was read went behind the others
pub many_behind : {A : Type 0} (p : Decoder A) (n : ℕ) (xs ys : List A) (bs rest : List ℕ) → 0 < n → one_behind xs (p bs) ≡ read_as ys rest → with_front xs (many p n bs) ≡ with_front ys (many p (n - 1) rest)
many_behind p n xs ys bs rest l e = elim (p bs) as (λ read. p bs ≡ read → one_behind xs read ≡ read_as ys rest → with_front xs (many p n bs) ≡ with_front ys (many p (n - 1) rest)) [
  | None ↦ λ is f. cc
  | Some x ↦ λ is f.
      many_step p n xs x.0 bs x.1 l is
      ∙ ap (λ zs. with_front zs (many p (n - 1) x.1)) (same_what (xs ++ x.0 ∷ []) ys x.1 rest f)
      ∙ ap (λ left. with_front ys (many p (n - 1) left)) (same_left (xs ++ x.0 ∷ []) ys x.1 rest f)
] refl e

-- a key that was read, and then its fields where they stay
pub row_behind : {B : Type 0} (schema : Schema) (rows : List Record) (bs behind rest : List ℕ) (key : Value) (fields : List Value) (result : Result B TextFault) → value schema.key bs ≡ Some (key, behind) → DecodesInto (values schema.fields behind) result fields rest → DecodesInto (one_behind rows (row schema bs)) result (rows ++ made key fields ∷ []) rest
unfolding row
row_behind schema rows bs behind rest key fields (Ok b) e d = rw (e, d) refl
row_behind schema rows bs behind rest key fields (Err fault.Malformed) e d = rw (e, d) refl
row_behind schema rows bs behind rest key fields (Err fault.Memory) e d = tt

pub values_step : (k : Kind) (ks : List Kind) (vs : List Value) (v : Value) (bs rest : List ℕ) → value k bs ≡ Some (v, rest) → with_front vs (values (k ∷ ks) bs) ≡ with_front (vs ++ v ∷ []) (values ks rest)
unfolding values
values_step k ks vs v bs rest e = rw e (one_more vs v (values ks rest))

pub values_stop : (k : Kind) (ks : List Kind) (vs : List Value) (bs : List ℕ) → value k bs ≡ None → with_front vs (values (k ∷ ks) bs) ≡ None
unfolding values
values_stop k ks vs bs e = rw e refl

pub after_is : (ws bs : List ℕ) → after ws bs ≡ (if pointwise nat_eq (take (length ws) bs) ws then Some (tt, drop (length ws) bs) else None)
unfolding after
after_is [] bs = refl
after_is (w ∷ ws) [] = refl
after_is (w ∷ ws) (b ∷ bs) = elim (nat_eq b w) as (λ t. nat_eq b w ≡ t → after (w ∷ ws) (b ∷ bs) ≡ (if pointwise nat_eq (take (length (w ∷ ws)) (b ∷ bs)) (w ∷ ws) then Some (tt, drop (length (w ∷ ws)) (b ∷ bs)) else None)) [
  | true ↦ λ e. rw e (after_is ws bs)
  | false ↦ λ e. rw e refl
] refl

pub rows_of : (schema : Schema) (rows : List Record) → AllByRecursion (FitsSchema schema) rows → AllByRecursion AreValues rows → AllByRecursion (IsRecordOf schema) rows
rows_of schema [] f v = tt
rows_of schema (row ∷ rows) f v = (record { key = v.0.0; fields = v.0.1; fits = f.0 }, rows_of schema rows f.1 v.1)

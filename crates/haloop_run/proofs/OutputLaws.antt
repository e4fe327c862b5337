-- Part files, written one after another.
use Rattle.std.proofs.Common.{◌≡◌, ℕ, zero, suc, ◌+◌, ◌<◌, ◌≤◌, List, [], ◌∷◌, ◌++◌, Option, None, Some, refl, sym, ap, subst, ◌∙◌, inl, inr, length, take, get_or, map as each, arith}
use Rattle.std.specs.FinMap as map
use Rattle.std.proofs.lemmas.List.{take_more}
use Rattle.hal_base.specs.declared.record.Record.{Record}
use Rattle.hal_base.specs.Lines.{table_text}
use Rattle.hal_outside.specs.Told.{FileMap, AfterFailedWrite}
use Rattle.hal_outside.specs.Calls.{OnTold}
use Rattle.haloop_run.specs.Outputs.{AreFirstOf, part_name, with_parts}
use Rattle.haloop_run.specs.steps.Outputs.{PartWritten, Written, WrittenPart}

with_one_more : (out : List ℕ) (p : ℕ) (texts : List (List ℕ)) (text : List ℕ) (files : FileMap) → with_parts out p (texts ++ text ∷ []) files ≡ map.insert (with_parts out p texts files) (part_name out (p + length texts)) text
with_one_more out p [] text files = ap (λ n. map.insert files (part_name out n) text) (omega arith)
with_one_more out p (t ∷ texts) text files =
    with_one_more out (p + 1) texts text (map.insert files (part_name out p) t)
    ∙ ap (λ n. map.insert (with_parts out (p + 1) texts (map.insert files (part_name out p) t)) (part_name out n) text) (omega arith)

each_at : (rows : List Record) (parts : List (List Record)) (i : ℕ) → rows ≡ get_or parts i rows → i < length parts → get_or (each table_text parts) i (table_text rows) ≡ table_text rows
each_at rows [] i e l = absurd (omega arith)
each_at rows (part ∷ parts) zero e l = ap table_text (sym e)
each_at rows (part ∷ parts) (suc i) e l = each_at rows parts i e (omega arith)

each_length : (parts : List (List Record)) → length (each table_text parts) ≡ length parts
each_length [] = refl
each_length (part ∷ parts) = ap suc (each_length parts)

length_take : (texts : List (List ℕ)) (i : ℕ) → i ≤ length texts → length (take i texts) ≡ i
length_take texts zero l = refl
length_take [] (suc i) l = absurd (omega arith)
length_take (t ∷ texts) (suc i) l = ap suc (length_take texts i (omega arith))

take_all : (texts : List (List ℕ)) (n : ℕ) → n ≡ length texts → take n texts ≡ texts
take_all [] zero e = refl
take_all [] (suc n) e = absurd (omega arith)
take_all (t ∷ texts) zero e = absurd (omega arith)
take_all (t ∷ texts) (suc n) e = ap (λ l. t ∷ l) (take_all texts n (omega arith))

first_ones : (texts : List (List ℕ)) (i : ℕ) → AreFirstOf texts (take i texts)
first_ones texts zero = tt
first_ones [] (suc i) = tt
first_ones (t ∷ texts) (suc i) = inl (refl, first_ones texts i)

first_and_part : (texts : List (List ℕ)) (i n : ℕ) (text : List ℕ) → i < length texts → get_or texts i text ≡ text → AreFirstOf texts (take i texts ++ take n text ∷ [])
first_and_part [] i n text l e = absurd (omega arith)
first_and_part (t ∷ texts) zero n text l e = inr (refl, n, ap (take n) (sym e))
first_and_part (t ∷ texts) (suc i) n text l e = inl (refl, first_and_part texts i n text (omega arith) e)

-- so many of the parts are written
abbrev pub WrittenSoFar : List ℕ → List (List Record) → ℕ → FileMap → FileMap → Type 0
WrittenSoFar out parts i before after = after ≡ with_parts out 0 (take i (each table_text parts)) before

pub written_none : (out : List ℕ) (parts : List (List Record)) (told : Option FileMap) → OnTold (WrittenSoFar out parts 0) told told
written_none out parts None = refl
written_none out parts (Some files) = refl

module _ (out : List ℕ) (parts : List (List Record)) (i : ℕ) (rows : List Record) (l : i < length parts) (e : rows ≡ get_or parts i rows) where
  texts_length : i < length (each table_text parts)
  texts_length = subst (λ (n : ℕ). i < n) (sym (each_length parts)) l

  named : part_name out (0 + length (take i (each table_text parts))) ≡ part_name out i
  named = let n = length_take (each table_text parts) i (omega (arith, texts_length)) in ap (λ n. part_name out n) (omega arith)

  further : (before mid after : FileMap) → WrittenSoFar out parts i before mid → PartWritten out i rows mid after → WrittenSoFar out parts (i + 1) before after
  further before mid after w p =
      p
      ∙ ap (λ f. map.insert f (part_name out i) (table_text rows)) w
      ∙ ap (λ name. map.insert (with_parts out 0 (take i (each table_text parts)) before) name (table_text rows)) (sym named)
      ∙ sym (with_one_more out 0 (take i (each table_text parts)) (table_text rows) before)
      ∙ ap (λ ts. with_parts out 0 ts before) (sym (take_more (each table_text parts) i (table_text rows) texts_length ∙ ap (λ t. take i (each table_text parts) ++ t ∷ []) (each_at rows parts i e l)))

  pub written_more : (before mid after : Option FileMap) → OnTold (WrittenSoFar out parts i) before mid → OnTold (PartWritten out i rows) mid after → OnTold (WrittenSoFar out parts (i + 1)) before after
  written_more None mid after w p = subst (λ (m : Option FileMap). OnTold (PartWritten out i rows) m after) w p
  written_more (Some before) None after w p = absurd w
  written_more (Some before) (Some mid) None w p = absurd p
  written_more (Some before) (Some mid) (Some after) w p = further before mid after w p

  some_of : (a b : FileMap) → Some a ≡ Some b → a ≡ b
  some_of a b s = cc

  failed : (before mid after : FileMap) → WrittenSoFar out parts i before mid → (Some after ≡ Some mid) → WrittenPart out parts before after
  failed before mid after w s = (take i (each table_text parts), first_ones (each table_text parts) i, some_of after mid s ∙ w)

  failed_part : (before mid after : FileMap) (n : ℕ) → WrittenSoFar out parts i before mid → (Some after ≡ Some (map.insert mid (part_name out i) (take n (table_text rows)))) → WrittenPart out parts before after
  failed_part before mid after n w s = (
    take i (each table_text parts) ++ take n (table_text rows) ∷ [],
    first_and_part (each table_text parts) i n (table_text rows) texts_length (each_at rows parts i e l),
    some_of after _ s
        ∙ ap (λ f. map.insert f (part_name out i) (take n (table_text rows))) w
        ∙ ap (λ name. map.insert (with_parts out 0 (take i (each table_text parts)) before) name (take n (table_text rows))) (sym named)
        ∙ sym (with_one_more out 0 (take i (each table_text parts)) (take n (table_text rows)) before),
  )

  none_some : (after : FileMap) (o : Option FileMap) → Some after ≡ o → o ≡ None → ⊥
  none_some after o s e = cc

  pub written_part : (before mid after : Option FileMap) → OnTold (WrittenSoFar out parts i) before mid → AfterFailedWrite mid (part_name out i) (table_text rows) after → OnTold (WrittenPart out parts) before after
  written_part None mid after w a = subst (λ (m : Option FileMap). AfterFailedWrite m (part_name out i) (table_text rows) after) w a
  written_part (Some before) None after w a = absurd w
  written_part (Some before) (Some mid) None (w) (inl s) = absurd (none_some mid None (sym s) refl)
  written_part (Some before) (Some mid) None w (inr s) = absurd (none_some _ None (sym s.1) refl)
  written_part (Some before) (Some mid) (Some after) w (inl s) = failed before mid after w s
  written_part (Some before) (Some mid) (Some after) w (inr s) = failed_part before mid after s.0 w s.1

pub written_all : (out : List ℕ) (parts : List (List Record)) (n : ℕ) (before after : Option FileMap) → n ≡ length parts → OnTold (WrittenSoFar out parts n) before after → OnTold (Written out parts) before after
written_all out parts n None after l w = w
written_all out parts n (Some before) None l w = w
written_all out parts n (Some before) (Some after) l w = w ∙ ap (λ ts. with_parts out 0 ts before) (take_all (each table_text parts) n (l ∙ sym (each_length parts)))

-- What is passed over is read, and only its end is kept.
use Rattle.std.proofs.Common.{◌≡◌, ℕ, zero, suc, ◌-◌, ◌<◌, Bool, true, false, if◌then◌else◌, List, [], ◌∷◌, Option, None, Some, Result, Ok, Err, refl, sym, ap, ◌∙◌, length, arith}
use Rattle.hal_base.specs.declared.record.Record.{Record}
use Rattle.hal_base.specs.declared.fields.Schema.{Schema}
use Rattle.record_blocks.specs.declared.fault.TextFault.{TextFault}
use Rattle.record_blocks.specs.declared.fault.TextFault.TheVariants as fault
use Rattle.record_blocks.specs.Blocks.{block_head}
use Rattle.record_blocks.specs.steps.Decoders.{Decoder, Decodes, and_then, pure, number, some_bytes, after, row, many, counted, block}
use Rattle.partition_shuffle.specs.steps.Sections.{keeps_order, in_order, if_in_order, if_kept, next_row, onward, passed, at_the_end, ended, sorted_block, lifted, sized_block, section, behind, Finds, Approves, Passes}

-- ---- many of something

behind_more : {A : Type 0} (x : A) (read : Option (List A × List ℕ)) → behind (and_then read (λ xs. pure (x ∷ xs))) ≡ behind read
behind_more x None = refl
behind_more x (Some read) = refl

behind_next : {A : Type 0} (p : Decoder A) (n : ℕ) (read : Option (A × List ℕ)) (rest : List ℕ) → behind read ≡ Some rest → behind (and_then read (λ x bs. and_then (many p n bs) (λ xs. pure (x ∷ xs)))) ≡ behind (many p n rest)
behind_next p n None rest e = cc
behind_next p n (Some read) rest e =
    let same : read.1 ≡ rest = some_same read.1 rest e in
    behind_more read.0 (many p n read.1) ∙ ap (λ bs. behind (many p n bs)) same
  where
    some_same : (a b : List ℕ) → Some a ≡ Some b → a ≡ b
    some_same a b e = cc

-- behind one, the others are to be passed over
pub one_passed : {A : Type 0} (p : Decoder A) (n : ℕ) (bs rest : List ℕ) → 0 < n → behind (p bs) ≡ Some rest → behind (many p n bs) ≡ behind (many p (n - 1) rest)
unfolding many
one_passed p zero bs rest l e = absurd (omega arith)
one_passed p (suc n) bs rest l e =
    let less : suc n - 1 ≡ n = omega arith in
    rw less (behind_next p n (p bs) rest e)

none_next : {A : Type 0} (p : Decoder A) (n : ℕ) (read : Option (A × List ℕ)) → behind read ≡ None → behind (and_then read (λ x bs. and_then (many p n bs) (λ xs. pure (x ∷ xs)))) ≡ None
none_next p n None e = refl
none_next p n (Some read) e = cc

-- where one is not there, not all are
pub none_passed : {A : Type 0} (p : Decoder A) (n : ℕ) (bs : List ℕ) → 0 < n → behind (p bs) ≡ None → behind (many p n bs) ≡ None
unfolding many
none_passed p zero bs l e = absurd (omega arith)
none_passed p (suc n) bs l e = none_next p n (p bs) e

-- none are passed over
pub all_passed : {A : Type 0} (p : Decoder A) (n : ℕ) (bs : List ℕ) → n ≡ 0 → behind (many p n bs) ≡ Some bs
unfolding many
all_passed p zero bs e = refl
all_passed p (suc n) bs e = absurd (omega arith)

-- ---- records in order

-- behind the next record, the others are to be passed over
pub row_passed : (schema : Schema) (before : Option Record) (n : ℕ) (bs rest : List ℕ) (read : Record) → 0 < n → next_row schema before bs ≡ Some (read, rest) → passed schema before n bs ≡ passed schema (Some read) (n - 1) rest
unfolding passed
row_passed schema before zero bs rest read l e = absurd (omega arith)
row_passed schema before (suc n) bs rest read l e =
    let less : suc n - 1 ≡ n = omega arith in
    rw (less, e) refl

-- where the next record is not there, or not in order, not all are
pub no_row_passed : (schema : Schema) (before : Option Record) (n : ℕ) (bs : List ℕ) → 0 < n → next_row schema before bs ≡ None → passed schema before n bs ≡ None
unfolding passed
no_row_passed schema before zero bs l e = absurd (omega arith)
no_row_passed schema before (suc n) bs l e = rw e refl

-- no records are passed over
pub all_rows_passed : (schema : Schema) (before : Option Record) (n : ℕ) (bs : List ℕ) → n ≡ 0 → passed schema before n bs ≡ Some bs
unfolding passed
all_rows_passed schema before zero bs e = refl
all_rows_passed schema before (suc n) bs e = absurd (omega arith)

same_end : (c : Bool) (xs ys : List Record) (bs : List ℕ) → behind (if c then Some (xs, bs) else None) ≡ behind (if c then Some (ys, bs) else None)
same_end true xs ys bs = refl
same_end false xs ys bs = refl

one_in_order : (before : Option Record) (x : Record) (k : Bool) (read : Option (List Record × List ℕ)) → keeps_order before x ≡ k → (if k then behind (if_in_order (Some x) read) else None) ≡ behind (if_in_order before (and_then read (λ xs. pure (x ∷ xs))))
one_in_order before x true None e = refl
one_in_order before x false None e = refl
one_in_order before x true (Some read) e = rw e (same_end (in_order (Some x) read.0) read.0 (x ∷ read.0) read.1)
one_in_order before x false (Some read) e = rw e refl

row_then : (schema : Schema) (n : ℕ) (before : Option Record) (read : Record × List ℕ) (k : Bool) → passed schema (Some read.0) n read.1 ≡ behind (if_in_order (Some read.0) (many (row schema) n read.1)) → keeps_order before read.0 ≡ k → onward (if k then Some read else None) (λ x. passed schema (Some x) n) ≡ behind (if_in_order before (and_then (many (row schema) n read.1) (λ xs. pure (read.0 ∷ xs))))
row_then schema n before read true so_far e = so_far ∙ one_in_order before read.0 true (many (row schema) n read.1) e
row_then schema n before read false so_far e = one_in_order before read.0 false (many (row schema) n read.1) e

-- what is passed over is records in order
pub passed_is : (schema : Schema) (n : ℕ) (before : Option Record) (bs : List ℕ) → passed schema before n bs ≡ behind (if_in_order before (many (row schema) n bs))
unfolding many passed
passed_is schema zero before bs = refl
passed_is schema (suc n) before bs = elim (row schema bs) as (λ read. onward (if_kept before read) (λ x. passed schema (Some x) n) ≡ behind (if_in_order before (and_then read (λ x rest. and_then (many (row schema) n rest) (λ xs. pure (x ∷ xs)))))) [
  | None ↦ refl
  | Some read ↦ row_then schema n before read (keeps_order before read.0) (passed_is schema n (Some read.0) read.1) refl
]

-- ---- blocks

-- what was read, with nothing done to it
pub and_pure : {A : Type 0} (read : Option (A × List ℕ)) → and_then read (λ a. pure a) ≡ read
and_pure None = refl
and_pure (Some read) = refl

-- a block by its head, its count and its records
pub block_by_parts : (schema : Schema) (n : ℕ) (bs body rest : List ℕ) → after (block_head schema) bs ≡ Some (tt, body) → number body ≡ Some (n, rest) → block schema bs ≡ many (row schema) n rest
unfolding block counted
block_by_parts schema n bs body rest h c = rw (h, c) (and_pure (and_then (many (row schema) n rest) (λ rows. pure rows)) ∙ and_pure (many (row schema) n rest))

-- no block without a head
pub no_head : (schema : Schema) (bs : List ℕ) → after (block_head schema) bs ≡ None → sorted_block schema bs ≡ None
unfolding block sorted_block
no_head schema bs h = rw h refl

-- no block at all
pub no_block : (schema : Schema) (bs : List ℕ) → block schema bs ≡ None → sorted_block schema bs ≡ None
unfolding sorted_block
no_block schema bs e = rw e refl

-- something behind the block
pub block_too_long : (schema : Schema) (bs : List ℕ) (rows : List Record) (rest : List ℕ) → block schema bs ≡ Some (rows, rest) → 0 < length rest → sorted_block schema bs ≡ None
unfolding sorted_block
block_too_long schema bs rows rest e l = rw e (judged (in_order None rows))
  where
    late : (bytes : List ℕ) → rest ≡ bytes → at_the_end rows bytes ≡ None
    late [] e = absurd (omega (arith, ap length e))
    late (b ∷ bytes) e = refl

    judged : (o : Bool) → ended (if o then Some (rows, rest) else None) ≡ None
    judged true = late rest refl
    judged false = refl

-- records that are not in order
pub block_unsorted : (schema : Schema) (bs : List ℕ) (rows : List Record) (rest : List ℕ) → block schema bs ≡ Some (rows, rest) → in_order None rows ≡ false → sorted_block schema bs ≡ None
unfolding sorted_block
block_unsorted schema bs rows rest e o = rw (e, o) refl

-- records in order with nothing behind them
pub block_sorted : (schema : Schema) (bs : List ℕ) (rows : List Record) (rest : List ℕ) → block schema bs ≡ Some (rows, rest) → length rest ≡ 0 → in_order None rows ≡ true → sorted_block schema bs ≡ Some rows
unfolding sorted_block
block_sorted schema bs rows rest e l o = rw (e, o) (here rest refl)
  where
    here : (bytes : List ℕ) → rest ≡ bytes → at_the_end rows bytes ≡ Some rows
    here [] e = refl
    here (b ∷ bytes) e = absurd (omega (arith, ap length e))

-- no block without a count
pub no_count : (schema : Schema) (bs body : List ℕ) → after (block_head schema) bs ≡ Some (tt, body) → number body ≡ None → sorted_block schema bs ≡ None
unfolding block counted sorted_block
no_count schema bs body h c = rw (h, c) refl

ended_none : {A : Type 0} (read : Option (A × List ℕ)) → behind read ≡ None → ended read ≡ None
ended_none None e = refl
ended_none (Some read) e = cc

ended_late : {A : Type 0} (read : Option (A × List ℕ)) (rest : List ℕ) → behind read ≡ Some rest → 0 < length rest → ended read ≡ None
ended_late None rest e l = refl
ended_late {A = A} (Some read) rest e l = late read.0 read.1 (same read.1 rest e)
  where
    same : (a b : List ℕ) → Some a ≡ Some b → b ≡ a
    same a b e = cc

    late : (a : A) (bs : List ℕ) → rest ≡ bs → at_the_end a bs ≡ None
    late a [] e = absurd (omega (arith, ap length e))
    late a (b ∷ bs) e = refl

ended_here : {A : Type 0} (read : Option (A × List ℕ)) (rest : List ℕ) → behind read ≡ Some rest → length rest ≡ 0 → (a : A) × (ended read ≡ Some a)
ended_here None rest e l = cc
ended_here {A = A} (Some read) rest e l = (read.0, here read.0 read.1 (same read.1 rest e))
  where
    same : (a b : List ℕ) → Some a ≡ Some b → b ≡ a
    same a b e = cc

    here : (a : A) (bs : List ℕ) → rest ≡ bs → at_the_end a bs ≡ Some a
    here a [] e = refl
    here a (b ∷ bs) e = absurd (omega (arith, ap length e))

module _ (schema : Schema) (n : ℕ) (bs body rest : List ℕ) (h : after (block_head schema) bs ≡ Some (tt, body)) (c : number body ≡ Some (n, rest)) where
  rows_behind : passed schema None n rest ≡ behind (if_in_order None (block schema bs))
  rows_behind = passed_is schema n None rest ∙ ap (λ read. behind (if_in_order None read)) (sym (block_by_parts schema n bs body rest h c))

  -- records that are not there, or not in order
  pub no_rows : passed schema None n rest ≡ None → sorted_block schema bs ≡ None
  unfolding sorted_block
  no_rows e = ended_none (if_in_order None (block schema bs)) (sym rows_behind ∙ e)

  -- something behind the records
  pub too_long : (left : List ℕ) → passed schema None n rest ≡ Some left → 0 < length left → sorted_block schema bs ≡ None
  unfolding sorted_block
  too_long left e l = ended_late (if_in_order None (block schema bs)) left (sym rows_behind ∙ e) l

  -- records in order with nothing behind them
  pub approved : (left : List ℕ) → passed schema None n rest ≡ Some left → length left ≡ 0 → (rows : List Record) × (sorted_block schema bs ≡ Some rows)
  unfolding sorted_block
  approved left e l = ended_here (if_in_order None (block schema bs)) left (sym rows_behind ∙ e) l

-- ---- sections

lifted_pure : {A : Type 0} (known : Option A) (bs : List ℕ) → and_then (lifted known bs) (λ a. pure a) ≡ lifted known bs
lifted_pure None bs = refl
lifted_pure (Some a) bs = refl

-- a section by its length and its block
pub section_by_parts : (schema : Schema) (n : ℕ) (bs body bytes rest : List ℕ) → number bs ≡ Some (n, body) → some_bytes n body ≡ Some (bytes, rest) → section schema bs ≡ lifted (sorted_block schema bytes) rest
unfolding section sized_block
section_by_parts schema n bs body bytes rest c s = rw (c, s) (lifted_pure (sorted_block schema bytes) rest)

-- no section without a length
pub no_length : (schema : Schema) (bs : List ℕ) → number bs ≡ None → section schema bs ≡ None
unfolding section
no_length schema bs c = rw c refl

-- no section that is too short
pub too_short : (schema : Schema) (n : ℕ) (bs body : List ℕ) → number bs ≡ Some (n, body) → some_bytes n body ≡ None → section schema bs ≡ None
unfolding section sized_block
too_short schema n bs body c s = rw (c, s) refl

module _ (schema : Schema) (n : ℕ) (bs body bytes rest : List ℕ) (c : number bs ≡ Some (n, body)) (s : some_bytes n body ≡ Some (bytes, rest)) where
  -- a section is what its block is
  pub found_section : (result : Result (List Record) TextFault) → Finds (sorted_block schema bytes) result → Decodes (section schema bs) result rest
  found_section (Ok rows) f = section_by_parts schema n bs body bytes rest c s ∙ ap (λ known. lifted known rest) f
  found_section (Err fault.Memory) f = tt
  found_section (Err fault.Malformed) f = section_by_parts schema n bs body bytes rest c s ∙ ap (λ known. lifted known rest) f

  -- and is passed over where its block is approved
  pub approved_section : (result : Result (Unit {0}) TextFault) → Approves (sorted_block schema bytes) result → Passes (behind (section schema bs)) result rest
  approved_section (Ok u) f = ap behind (section_by_parts schema n bs body bytes rest c s ∙ ap (λ known. lifted known rest) f.1)
  approved_section (Err fault.Memory) f = tt
  approved_section (Err fault.Malformed) f = ap behind (section_by_parts schema n bs body bytes rest c s ∙ ap (λ known. lifted known rest) f)

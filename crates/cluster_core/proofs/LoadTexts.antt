-- The files of a load have the texts of their names.
use Rattle.std.proofs.Common.{◌≡◌, ℕ, zero, suc, ◌+◌, ◌*◌, ◌<◌, ◌≤◌, ◌^◌, List, [], ◌∷◌, Option, None, Some, length, map, take, drop, slice_get, slice_index, refl, sym, subst, arith}
use Rattle.std.specs.List.{AllByRecursion, flat_map, range_with_len}
use Rattle.std.proofs.lemmas.List.{length-take}
use Rattle.hal_base.specs.declared.record.Record.{Record}
use Rattle.hal_base.specs.declared.shape.Shape.{Shape}
use Rattle.hal_base.specs.Values.{IsRecordOf}
use Rattle.hal_outside.specs.DiskTold.{DiskTold}
use Rattle.name_values.specs.Values.{World}
use Rattle.plain_job.proofs.Lists.{all_both}
use Rattle.plain_job.specs.Chain.{table_at}
use Rattle.record_blocks.specs.Blocks.{IsBlock}
use Rattle.run_model.specs.Lists.{below}
use Rattle.schedule_text.specs.declared.schedule.Schedule.{Schedule}
use Rattle.valid_copies.specs.Readings.{OfSchema}
use Rattle.valid_copies.specs.Stands.{Stands}
use Rattle.cluster_core.specs.Filling.{CanLoad, HasItsText, block_bytes, block_files, block_rows, copy_of, load_files, table_files, text_in}
use Rattle.cluster_core.specs.Loading.{IsOver, setup_of}
use Rattle.cluster_core.proofs.Fitting.{all_between, table_fits}

-- ---- of each number

all_range : {A : Type 0} (P : A → Type 0) (f : ℕ → List A) (a n : ℕ) → ((k : ℕ) → k < a + n → AllByRecursion P (f k)) → AllByRecursion P (flat_map f (range_with_len a n))
all_range P f a zero h = tt
all_range P f a (suc n) h = all_both P (f a) (flat_map f (range_with_len (a + 1) n)) (h a (omega arith)) (all_range P f (a + 1) n (λ k l. h k (omega arith)))

each_range : {A : Type 0} (P : A → Type 0) (f : ℕ → A) (ks : List ℕ) → ((k : ℕ) → P (f k)) → AllByRecursion P (map f ks)
each_range P f [] h = tt
each_range P f (k ∷ ks) h = (h k, each_range P f ks h)

got : {A : Type 0} (xs : List A) (n : ℕ) → n < length xs → (x : A) × (slice_get xs n ≡ Some x)
got [] n l = absurd (omega arith)
got (x ∷ xs) zero l = (x, refl)
got (x ∷ xs) (suc n) l = got xs n (omega arith)

-- ---- a block

-- the bytes are the text of block b of table t
abbrev IsBlockOf : Shape → List (List Record) → ℕ → ℕ → ℕ → List ℕ → Type 0
IsBlockOf shape tables size t b bytes = OfSchema (λ schema. IsBlock schema bytes (block_rows size tables t b)) (slice_get shape.tables t)

few_rows : (size : ℕ) (rows : List Record) → size ≤ 1000000 → length (take size rows) < 2 ^ 64
few_rows size rows l =
    let few : length (take size rows) ≤ 1000000 = omega (arith, length-take size rows, l) in
    omega (arith, few)

block_text_is : (shape : Shape) (schedule : Schedule) (tables : List (List Record)) (t b : ℕ) → CanLoad shape schedule tables → t < length shape.tables → IsBlockOf shape tables schedule.block t b (block_bytes (setup_of shape schedule) tables t b)
block_text_is shape schedule tables t b can l =
    let there = got shape.tables t l in
    subst (λ o. OfSchema (λ schema. IsBlock schema (text_in o (block_rows schedule.block tables t b)) (block_rows schedule.block tables t b)) o) (sym there.1) (record {
      records = record {
        each = all_between (IsRecordOf there.0) schedule.block (b * schedule.block) (table_at tables t) (table_fits shape.tables tables t there.0 can.fit there.1);
        few = few_rows schedule.block (drop (b * schedule.block) (table_at tables t)) can.limits.block.1;
      };
      text = refl;
    })

in_world : (w : World) (shape : Shape) (tables : List (List Record)) (size t b : ℕ) (bytes : List ℕ) → IsOver shape tables size w → IsBlockOf shape tables size t b bytes → IsBlockOf w.shape w.tables w.block t b bytes
in_world w shape tables size t b bytes over is =
    subst (λ s. IsBlockOf s w.tables w.block t b bytes) (sym over.same_shape)
    (subst (λ ts. IsBlockOf shape ts w.block t b bytes) (sym over.same_tables)
    (subst (λ n. IsBlockOf shape tables n t b bytes) (sym over.same_block) is))

-- ---- all files

pub have_texts : (w : World) (shape : Shape) (schedule : Schedule) (tables : List (List Record)) → CanLoad shape schedule tables → IsOver shape tables schedule.block w → AllByRecursion (HasItsText w) (load_files (setup_of shape schedule) tables)
have_texts w shape schedule tables can over =
    all_range (HasItsText w) (table_files (setup_of shape schedule) tables) 0 (length shape.blocks) (λ t l.
    each_flat (HasItsText w) (block_files (setup_of shape schedule) tables t) (below (slice_index shape.blocks t)) (λ b.
    each_range (HasItsText w) (copy_of schedule.nodes t b (block_bytes (setup_of shape schedule) tables t b)) (below schedule.copies) (λ k.
    in_world w shape tables schedule.block t b (block_bytes (setup_of shape schedule) tables t b) over (block_text_is shape schedule tables t b can (within t l)))))
  where
    each_flat : {A : Type 0} (P : A → Type 0) (f : ℕ → List A) (ks : List ℕ) → ((k : ℕ) → AllByRecursion P (f k)) → AllByRecursion P (flat_map f ks)
    each_flat P f [] h = tt
    each_flat P f (k ∷ ks) h = all_both P (f k) (flat_map f ks) (h k) (each_flat P f ks h)

    within : (t : ℕ) → t < 0 + length shape.blocks → t < length shape.tables
    within t l = omega (arith, l, can.counted.blocks)

-- ---- no copy

pub none_stand : (w : World) (told : Option DiskTold) → Stands w [] told
none_stand w None = record { valid = tt; spelled = tt; put = tt }
none_stand w (Some told) = record { valid = tt; spelled = tt; put = tt }

-- Records and their block text are told by each other.
use Rattle.std.proofs.Common.{◌≡◌, ℕ, List, [], Option, None, Some, sym, ap, ◌∙◌}
use Rattle.hal_base.specs.declared.record.Record.{Record}
use Rattle.hal_base.specs.declared.fields.Schema.{Schema}
use Rattle.record_blocks.specs.Blocks.{block_text, FitBlock, IsBlock}
use Rattle.record_blocks.specs.BlockLaws.{BlockIsOfOneList, ListHasOneBlock, BlockIsDecoded}
use Rattle.record_blocks.specs.steps.Decoders.{block}
use Rattle.record_blocks.proofs.ExactDecoders.{block_exact, whole_again}

read_again : (schema : Schema) (bytes : List ℕ) (rows : List Record) → IsBlock schema bytes rows → block schema bytes ≡ Some (rows, [])
read_again schema bytes rows is = whole_again (block_text schema) (FitBlock schema) (block schema) bytes rows (block_exact schema) is.records is.text

-- what was read, and the bytes behind it
abbrev pub read_as : {A : Type 0} → A → List ℕ → Option (A × List ℕ)
read_as a rest = Some (a, rest)

abbrev what : {A : Type 0} → A → Option (A × List ℕ) → A
what d None = d
what d (Some read) = read.0

abbrev left : {A : Type 0} → List ℕ → Option (A × List ℕ) → List ℕ
left d None = d
left d (Some read) = read.1

-- the same was read
pub same_what : {A : Type 0} (a b : A) (rest others : List ℕ) → read_as a rest ≡ read_as b others → a ≡ b
same_what a b rest others e = ap (what a) e

-- and the same is behind it
pub same_left : {A : Type 0} (a b : A) (rest others : List ℕ) → read_as a rest ≡ read_as b others → rest ≡ others
same_left a b rest others e = ap (left rest) e

pub one_list : BlockIsOfOneList
one_list schema bytes rows others is other = same_what others rows [] [] (sym (read_again schema bytes others other) ∙ read_again schema bytes rows is)

pub one_block : ListHasOneBlock
one_block schema bytes others rows is other = other.text ∙ sym is.text

pub found_again : BlockIsDecoded
found_again schema bytes rows None is d = absurd (d rows is)
found_again schema bytes rows (Some decoded) is d = ap Some (one_list schema bytes rows decoded is d)

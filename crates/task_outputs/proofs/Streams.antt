-- Sections that are made streams, and parts that are made one list.
use Rattle.std.proofs.Common.{◌≡◌, ℕ, true, List, [], ◌∷◌, Some, refl, ap, ◌∙◌, map, length}
use Rattle.hal_base.specs.declared.fields.Schema.{Schema}
use Rattle.hal_base.specs.declared.record.Record.{Record}
use Rattle.hal_base.specs.declared.value.Value.{Value}
use Rattle.hal_base.specs.Meaning.{Meaning}
use Rattle.hal_base.specs.Order.{record_cmp}
use Rattle.hal_base.specs.Sorted.{sorted}
use Rattle.plain_job.specs.Chain.{together}
use Rattle.plain_job.specs.Distances.{distance_by}
use Rattle.plain_job.specs.Job.{job}
use Rattle.plain_job.specs.Sections.{source_section}
use Rattle.plain_job.proofs.Distances.{distance_sorted}
use Rattle.plain_job.proofs.Keeps.{keeps}
use Rattle.plain_job.proofs.Numbers.{length_numbers}
use Rattle.sorted_parts.specs.Spills.{spilled}

pub some_same : (a b : Schema) → Some a ≡ Some b → a ≡ b
some_same a b e = cc

-- a spill has its number of parts
pub as_many : (m : Meaning) (i j s : ℕ) (rows : List Record) (n : ℕ) (parts : List (List Record)) → parts ≡ spilled m i j s rows n → length parts ≡ n
as_many m i j s rows n parts e = ap length e ∙ length_numbers (λ p. source_section m i j s p rows) 0 n

map_self : (xss : List (List Record)) → map (λ rows. rows) xss ≡ xss
map_self [] = refl
map_self (xs ∷ xss) = ap (λ yss. xs ∷ yss) (map_self xss)

-- a job over merged sections is the job over the sections, one after another
pub merged_job : (reduce : Value → List (List (List Value)) → List Record) (streams : List (List Record)) (inputs : List (List (List Record))) → streams ≡ map (sorted record_cmp) (map together inputs) → job reduce (λ _. true) (map (λ rows. rows) streams) ≡ job reduce (λ _. true) (map together inputs)
merged_job reduce streams inputs e = ap (job reduce (λ _. true)) (map_self streams ∙ e) ∙ keeps reduce (λ _. true) (map together inputs)

-- how far sorted lists are from each other, which are those of the parts, one after another
pub sorted_far : (far : Value → List (List Value) → List (List Value) → ℕ) (old new sorted_old sorted_new : List Record) → sorted_old ≡ sorted record_cmp old → sorted_new ≡ sorted record_cmp new → distance_by far sorted_old sorted_new ≡ distance_by far old new
sorted_far far old new sorted_old sorted_new e f = ap (λ rows. distance_by far rows sorted_new) e ∙ ap (distance_by far (sorted record_cmp old)) f ∙ distance_sorted far old new

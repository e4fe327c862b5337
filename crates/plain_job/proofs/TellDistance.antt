-- The distance that functions tell is that of the chain, where they fit.
use Rattle.std.proofs.Common.{◌≡◌, ℕ, true, false, List, [], ◌∷◌, refl, ap, ◌∙◌, map, min, sum}
use Rattle.std.specs.List.{AllByRecursion}
use Rattle.hal_base.specs.declared.fields.Schema.{Schema}
use Rattle.hal_base.specs.declared.record.Record.{Record}
use Rattle.hal_base.specs.Laws.{value_cmp_total}
use Rattle.hal_base.specs.Values.{IsRecordOf}
use Rattle.hal_base.proofs.Strict.{all_distinct}
use Rattle.plain_job.specs.ChainLaws.{FunctionsTellTheDistance}
use Rattle.plain_job.specs.Distances.{differ, distance_by, key_distance}
use Rattle.plain_job.specs.Fit.{AreRecordsOf, IsKeyOf}
use Rattle.plain_job.specs.Job.{group, key_of, keys}
use Rattle.plain_job.proofs.Lists.{all_both, all_mapped}
use Rattle.plain_job.proofs.Schemas.{group_fits}

map_alike : {A : Type 0} (P : A → Type 0) (f g : A → ℕ) → ((x : A) → P x → f x ≡ g x) → (xs : List A) → AllByRecursion P xs → map f xs ≡ map g xs
map_alike P f g e [] a = refl
map_alike P f g e (x ∷ xs) a = ap (λ y. y ∷ map f xs) (e x a.0) ∙ ap (λ ys. g x ∷ ys) (map_alike P f g e xs a.1)

keys_of_rows : (schema : Schema) (rows : List Record) → AreRecordsOf schema rows → AllByRecursion (IsKeyOf schema.key) (map key_of rows)
keys_of_rows schema rows a = all_mapped (IsRecordOf schema) (IsKeyOf schema.key) key_of rows (λ row r. record { good = r.key; same_kind = r.fits.key }) a

keys_of_two : (schema : Schema) (old new : List Record) → AreRecordsOf schema old → AreRecordsOf schema new → AllByRecursion (IsKeyOf schema.key) (keys (old ∷ new ∷ []))
keys_of_two schema old new a b =
    all_distinct value_cmp_total (IsKeyOf schema.key) _ (all_both (IsKeyOf schema.key) (map key_of old) _ (keys_of_rows schema old a) (all_both (IsKeyOf schema.key) (map key_of new) [] (keys_of_rows schema new b) tt))

pub tell_the_distance : FunctionsTellTheDistance
tell_the_distance m shape schema f e old new a b =
    elim shape.exact as (λ exact. shape.exact ≡ exact → distance_by m.distance old new ≡ distance_by (key_distance m exact) old new) [
      | true ↦ λ exact. ap (λ distances. min (sum distances) 9223372036854775807)
          (map_alike (IsKeyOf schema.key) (λ key. m.distance key (group old key) (group new key)) (λ key. differ (group old key) (group new key))
          (λ key k. let told = f.exact exact in told.1 schema key (group old key) (group new key) e k (group_fits schema old key a) (group_fits schema new key b)) (keys (old ∷ new ∷ [])) (keys_of_two schema old new a b))
      | false ↦ λ exact. refl
    ] refl

-- The function of a number, with slots and with names.
use Rattle.std.proofs.Common.{◌≡◌, ℕ, List, Option, None, Some, option_map, ap, ◌∙◌, slice_get}
use Rattle.hal_base.specs.declared.record.Record.{Record}
use Rattle.hal_base.specs.declared.value.Value.{Value}
use Rattle.function_language.specs.declared.tree.Function.{Function as Written}
use Rattle.type_checker.specs.declared.uses.Use.TheVariants.{Function}
use Rattle.function_eval.specs.declared.resolved.ResolvedFunction.{ResolvedFunction}
use Rattle.function_meaning.specs.Meanings.{distance_used, map_used, partition_used, reduce_used}
use Rattle.function_meaning.specs.Optional.{◌>>=◌}
use Rattle.function_eval.specs.steps.Resolved.{function_resolved}
use Rattle.function_eval.specs.steps.Slots.{slot_distance, slot_map, slot_partition, slot_reduce}
use Rattle.function_eval.proofs.SlotFunctions.{distance_means, map_means, partition_means, reduce_means}

-- what a function with slots gives is what the function of its number gives
by_number : {A : Type 0} (functions : List Written) (n : ℕ) (f : ResolvedFunction) (slot : ResolvedFunction → Option A) (named : Written → Option A) → ((w : Written) → slot (function_resolved w) ≡ named w) →
    Some f ≡ option_map function_resolved (slice_get functions n) → slot f ≡ (slice_get functions n >>= named)
by_number functions n f slot named h e = go (slice_get functions n) e
  where
    go : (o : Option Written) → Some f ≡ option_map function_resolved o → slot f ≡ (o >>= named)
    go None e = absurd (no e)
      where
        no : Some f ≡ None → ⊥
        no e = cc
    go (Some w) e = ap slot (one e) ∙ h w
      where
        one : Some f ≡ Some (function_resolved w) → f ≡ function_resolved w
        one e = cc

pub map_by_number : (functions : List Written) (n i : ℕ) (row : Record) (f : ResolvedFunction) → Some f ≡ option_map function_resolved (slice_get functions n) → slot_map i f row ≡ map_used functions i row (Function n)
map_by_number functions n i row f e = by_number functions n f (λ f. slot_map i f row) _ (λ w. map_means i w row) e

pub reduce_by_number : (functions : List Written) (n i : ℕ) (key : Value) (groups : List (List (List Value))) (f : ResolvedFunction) → Some f ≡ option_map function_resolved (slice_get functions n) →
    slot_reduce i f key groups ≡ reduce_used functions i key groups (Function n)
reduce_by_number functions n i key groups f e = by_number functions n f (λ f. slot_reduce i f key groups) _ (λ w. reduce_means i w key groups) e

pub partition_by_number : (functions : List Written) (n parts i : ℕ) (key : Value) (f : ResolvedFunction) → Some f ≡ option_map function_resolved (slice_get functions n) → slot_partition parts i f key ≡ partition_used functions parts i key (Function n)
partition_by_number functions n parts i key f e = by_number functions n f (λ f. slot_partition parts i f key) _ (λ w. partition_means parts i w key) e

pub distance_by_number : (functions : List Written) (n : ℕ) (key : Value) (old new : List (List Value)) (f : ResolvedFunction) → Some f ≡ option_map function_resolved (slice_get functions n) →
    slot_distance f key old new ≡ distance_used functions key old new (Function n)
distance_by_number functions n key old new f e = by_number functions n f (λ f. slot_distance f key old new) _ (λ w. distance_means w key old new) e

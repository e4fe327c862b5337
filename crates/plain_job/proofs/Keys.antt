-- The keys of streams, and jobs that are alike at each key.
use Rattle.std.proofs.Common.{◌≡◌, true, List, [], ◌∷◌, refl, ap, map}
use Rattle.std.specs.List.{AllByRecursion, filter, flat_map}
use Rattle.hal_base.specs.declared.value.Value.{Value}
use Rattle.hal_base.specs.declared.record.Record.{Record}
use Rattle.plain_job.specs.Job.{key_of}

abbrev pub all_keys : List (List Record) → List Value
all_keys streams = flat_map (map key_of) streams

pub flat_alike : (P : Value → Type 0) (g h : Value → List Record) → ((q : Value) → P q → g q ≡ h q) → (qs : List Value) → AllByRecursion P qs → flat_map g qs ≡ flat_map h qs
flat_alike P g h same [] a = refl
flat_alike P g h same (q ∷ qs) a = let e = same q a.0 in let t = flat_alike P g h same qs a.1 in cc

pub all_kept : (qs : List Value) → filter (λ _. true) qs ≡ qs
all_kept [] = refl
all_kept (q ∷ qs) = ap (λ ys. q ∷ ys) (all_kept qs)

-- The laws of the programs with functions of their own.
use Rattle.std.specs.Prelude.{ℕ, List, refl}
use Rattle.std.proofs.Common.{ap}
use Rattle.hal_base.specs.declared.value.Value.{Value}
use Rattle.hal_base.specs.declared.record.Record.{Record}
use Rattle.hal_base.specs.Meaning.{RoundLaw, KeyLaw, ValueLaw}
use Rattle.hal_base.specs.Laws.{value_cmp_exact, record_cmp_exact}
use Rattle.hal_base.specs.Parts.{default_part}
use Rattle.plain_job.specs.Predefined.{same}
use Rattle.row_tests.specs.Programs.{program}

pub program_round_law : (reduce : ℕ → Value → List (List (List Value)) → List Record) (parts : ℕ) (distance : Value → List (List Value) → List (List Value) → ℕ) → RoundLaw (program reduce parts distance)
program_round_law reduce parts distance = record { maps = λ i i' j s row e. refl; partitions = λ i i' j key e. refl }

pub program_key_law : (reduce : ℕ → Value → List (List (List Value)) → List Record) (parts : ℕ) (distance : Value → List (List Value) → List (List Value) → ℕ) → KeyLaw (program reduce parts distance)
program_key_law reduce parts distance = λ i j key groups e. cc

pub program_value_law : (reduce : ℕ → Value → List (List (List Value)) → List Record) (parts : ℕ) (distance : Value → List (List Value) → List (List Value) → ℕ) → ValueLaw (program reduce parts distance)
program_value_law reduce parts distance = record {
  maps = λ i j s a b e. ap same (record_cmp_exact a b e);
  reduces = λ i j a b groups e. ap (λ key. reduce j key groups) (value_cmp_exact a b e);
  partitions = λ i j a b e. ap (λ key. default_part key parts) (value_cmp_exact a b e);
  distances = λ a b old new e. ap (λ key. distance key old new) (value_cmp_exact a b e);
}

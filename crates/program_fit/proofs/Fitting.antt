-- The functions of an accepted program fit its shape.
use Rattle.std.proofs.Common.{◌≡◌, ℕ, zero, suc, ◌≤◌, List, Option, Some, sym, subst, arith}
use Rattle.std.specs.List.{AllByRecursion}
use Rattle.std.proofs.lemmas.Option.{none-some, option_and_then_some}
use Rattle.hal_base.specs.declared.fields.Schema.{Schema}
use Rattle.hal_base.specs.declared.record.Record.{Record}
use Rattle.hal_base.specs.declared.shape.Origin.{Origin}
use Rattle.hal_base.specs.declared.shape.Origin.TheVariants.{State}
use Rattle.hal_base.specs.declared.shape.Shape.{Shape}
use Rattle.hal_base.specs.declared.shape.Source.{Source}
use Rattle.hal_base.specs.declared.shape.Step.{Step}
use Rattle.hal_base.specs.declared.value.Value.{Value}
use Rattle.hal_base.specs.Shapes.{IsWellFormed, ReadFrom, key_kind, source_at, step_at, taken}
use Rattle.hal_base.specs.Values.{IsRecordOf}
use Rattle.plain_job.specs.Fit.{AreRecordsOf, HaveGroups, IsKeyOf}
use Rattle.plain_job.proofs.Schemas.{first_of, read_at}
use Rattle.function_language.specs.declared.tree.Function.{Function as Written}
use Rattle.type_checker.specs.declared.uses.Use.{Use}
use Rattle.type_checker.specs.declared.uses.Uses.{Uses}
use Rattle.type_checker.specs.Uses.{map_at, partition_at, reduce_at}
use Rattle.function_meaning.specs.Meanings.{map_used, meaning_of, reduce_used}
use Rattle.function_meaning.specs.Optional.{◌>>=◌, or_none}
use Rattle.function_meaning.specs.NeverStops.{NeverStops}
use Rattle.function_meaning.proofs.NeverStopping.{typed_functions_never_stop}
use Rattle.loop_program.specs.Limits.{function_line, function_within}
use Rattle.loop_program.specs.Rules.{UsesFit}
use Rattle.loop_program.specs.Schemas.{map_makes, reduce_makes}
use Rattle.loop_program.proofs.Chains.{few_within}
use Rattle.program_fit.specs.Fit.{ProgramsFit}
use Rattle.program_fit.proofs.FitMaps.{map_fits}
use Rattle.program_fit.proofs.FitParts.{default_distance, used_within}
use Rattle.program_fit.proofs.FitReduces.{reduce_fits}
use Rattle.type_checker.specs.Checked.{fine}

module _ (functions : List Written) (uses : Uses) (shape : Shape) (never : AllByRecursion NeverStops functions) (within : AllByRecursion (λ (f : Written). function_within f ≡ fine) functions) (well : IsWellFormed shape) (fits : UsesFit functions uses shape) where
  early : (i : ℕ) → i ≤ shape.rounds → i ≤ 10000
  early i l = let most = well.rounds.1 in omega arith

  maps : (i j s : ℕ) (source : Source) (schema : Schema) (row : Record) → i ≤ shape.rounds → source_at shape j s ≡ Some source → taken shape j source.from ≡ Some schema → IsRecordOf schema row → AreRecordsOf source.stream ((meaning_of functions uses shape.parts).map i j s row)
  maps i j s source schema row l there reads record_of =
      option_and_then_some (λ (map : Use). map_makes functions map schema) (map_at uses j s) source.stream (fits.maps j s source schema there reads) (λ used at makes.
      subst (λ (o : Option Use). AreRecordsOf source.stream (or_none (o >>= map_used functions i row))) (sym at)
      (map_fits functions used schema source.stream i row (early i l) never within makes record_of))

  -- a step reads from somewhere
  reads_from : (j : ℕ) (step : Step) → step_at shape j ≡ Some step → (from : Origin) × ReadFrom shape.tables from step.sources
  reads_from zero step e = absurd (none-some step e)
  reads_from (suc n) step e = (first_of State n, read_at shape.tables State shape.steps n step well.steps e)

  reduces : (i j : ℕ) (step : Step) (key : Value) (groups : List (List (List Value))) → i ≤ shape.rounds → step_at shape j ≡ Some step → IsKeyOf (key_kind step.sources) key → HaveGroups step.sources groups → AreRecordsOf step.out ((meaning_of functions uses shape.parts).reduce i j key groups)
  reduces i j step key groups l there is_key have =
      let read = reads_from j step there in
      option_and_then_some (λ (reduce : Use). reduce_makes functions reduce step.sources) (reduce_at uses j) step.out (fits.reduces j step there) (λ used at makes.
      subst (λ (o : Option Use). AreRecordsOf step.out (or_none (o >>= reduce_used functions i key groups))) (sym at)
      (reduce_fits functions used shape.tables read.0 step.sources step.out i key groups (early i l) never within read.1 makes is_key have))

-- the functions of a program that keeps the rules fit its shape
pub programs_fit : ProgramsFit
programs_fit program kept =
    let functions = program.functions in
    let uses = program.uses in
    let shape = program.shape in
    let never = typed_functions_never_stop functions kept.typed kept.spelled in
    let within = few_within function_line function_within 64 functions tt kept.within in
    record {
      maps = maps functions uses shape never within kept.shape kept.fits;
      keys = kept.fits.keys;
      reduces = reduces functions uses shape never within kept.shape kept.fits;
      partitions = λ i j step key l there is_key. used_within functions shape.parts i key kept.shape.parts.0 (partition_at uses j);
      last = kept.fits.last;
      reducer_input = kept.fits.reducer_input;
      reducer_output = kept.fits.reducer_output;
      exact = λ exact. ((kept.fits.exact exact).0, λ schema key old new there is_key before after. default_distance functions uses shape.parts (kept.fits.exact exact).1 key old new);
    }

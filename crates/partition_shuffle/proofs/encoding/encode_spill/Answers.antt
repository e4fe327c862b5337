use Rattle.std.proofs.Common.{List, [], ◌∷◌, arith, rules}
use Rattle.std.specs.List.{AllByRecursion}
use Rattle.std.proofs.lemmas.List.{append_assoc}
use Rattle.hal_base.specs.declared.record.Record.{Record}
use Rattle.hal_base.specs.declared.fields.Schema.{Schema}
use Rattle.hal_base.specs.Order.{record_cmp}
use Rattle.hal_base.specs.Sorted.{Ascending}
use Rattle.partition_shuffle.specs.SpillTexts.{FitSection}
use Rattle.partition_shuffle.specs.steps.Lengths.{IsShort}
use Rattle.partition_shuffle.proofs.encoding.encode_spill.Goals as goal

fit_sections : (schema : Schema) (parts : List (List Record)) → AllByRecursion (Ascending record_cmp) parts → AllByRecursion (IsShort schema) parts → AllByRecursion (FitSection schema) parts
fit_sections schema [] a s = tt
fit_sections schema (rows ∷ parts) a s = (record { fits = s.0.fits; in_order = a.0; short = s.0.short }, fit_sections schema parts a.1 s.1)

pub returns : goal.returns
returns c = record {
  each = fit_sections c.args.schema.now c.args.spill.now c.requires.in_order c.in_ok-push_sections.ensures.short;
  few = omega (arith, c.requires.few);
  text = search (rules, append_assoc);
}
